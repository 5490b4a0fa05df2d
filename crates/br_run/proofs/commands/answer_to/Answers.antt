use Rattle.std.proofs.Common.{◌≡◌, ap, ◌∙◌, subst}
use Rattle.std.specs.Prelude.{IfOk}
use Rattle.br_words.proofs.OneAnswer.{has_one_answer}
use Rattle.br_run.specs.Answer.{bad_words, is_build}
use Rattle.br_run.proofs.Answers.{IsAnswer-command}
use Rattle.br_run.proofs.commands.answer_to.Goals as goal

pub returns-in-Ok-clause-told : goal.returns-in-Ok-clause-told
returns-in-Ok-clause-told g c = λ list left. IsAnswer-command _ list _ _ c.in-Ok.ensures (c.answer_command.ensures.told list left)

pub returns-in-At-clause-misfit : goal.returns-in-At-clause-misfit
returns-in-At-clause-misfit g c = λ place misfit.
    let found = rw c.in-At.is at c.in-Err.ensures in
    subst (λ p. IfOk c.answer_bad_words.result (λ answer. answer ≡ bad_words p)) ((has_one_answer _).place _ _ found misfit) c.answer_bad_words.ensures

pub returns-in-Ok-clause-report : goal.returns-in-Ok-clause-report
returns-in-Ok-clause-report g c = λ command is other.
    c.answer_command.ensures.report (ap is_build ((has_one_answer _).command _ _ c.in-Ok.ensures is) ∙ other)
