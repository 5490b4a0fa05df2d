use Rattle.std.proofs.Common.{sym, ap, ◌∙◌}
use Rattle.sh_text.specs.Scripts.{ends_with, before_dollar}
use Rattle.sh_text.proofs.Scripts.{ends_with-push, dollar-first, dollar-none}
use Rattle.sh_text.proofs.script.before_dollar.Goals as goal

pub returns-then-is_plain-clause-dollar : goal.returns-then-is_plain-clause-dollar
returns-then-is_plain-clause-dollar c =
    sym (ap (ends_with 36) c.in-Some.ensures.cases.0 ∙ (ends_with-push 36 c.in-Some.rest.now c.in-Some.last.now ∙ sym c.if-is_plain.ensures))

pub returns-then-is_plain-clause-before : goal.returns-then-is_plain-clause-before
returns-then-is_plain-clause-before c =
    sym (ap before_dollar c.in-Some.ensures.cases.0 ∙ dollar-first c.in-Some.rest.now c.in-Some.last.now (sym c.if-is_plain.ensures))

pub returns-else-is_plain-clause-dollar : goal.returns-else-is_plain-clause-dollar
returns-else-is_plain-clause-dollar c =
    sym (ap (ends_with 36) c.in-Some.ensures.cases.0 ∙ (ends_with-push 36 c.in-Some.rest.now c.in-Some.last.now ∙ sym c.if-is_plain.ensures))

pub returns-else-is_plain-clause-before : goal.returns-else-is_plain-clause-before
returns-else-is_plain-clause-before c =
    sym (dollar-none c.args.field.now (ap (ends_with 36) c.in-Some.ensures.cases.0 ∙ (ends_with-push 36 c.in-Some.rest.now c.in-Some.last.now ∙ sym c.if-is_plain.ensures)))
