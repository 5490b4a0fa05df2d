use Rattle.std.proofs.Common.{◌≡◌, ◌⊎◌, sym, ◌∙◌, subst}
use Rattle.std.specs.Prelude.{IfOk}
use Rattle.br_run.specs.Answer.{IsCommandAnswer, feed_failed}
use Rattle.br_run.proofs.commands.answer_command.Goals as goal

pub returns-then-is_run-clause-told : goal.returns-then-is_run-clause-told
returns-then-is_run-clause-told g c = λ list left.
    subst (λ run. IfOk c.answer_list.result (λ answer. IsCommandAnswer run c.args.command.now list answer ⊎ (answer ≡ feed_failed))) (sym (sym c.is_run.ensures ∙ c.if-is_run.true))
    (c.answer_list.ensures.told list left)
