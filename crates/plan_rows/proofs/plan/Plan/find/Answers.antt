use Rattle.std.proofs.Common.{◌≡◌, Some, None, refl, sym, ap, ◌∙◌}
use Rattle.std.specs.Prelude.{position}
use Rattle.plan_rows.specs.Plan.{IsPrepOf}
use Rattle.plan_rows.specs.Rows.{is_of}
use Rattle.plan_rows.proofs.Finding.{first_is_prep, no_package}
use Rattle.plan_rows.proofs.plan.Plan.find.Goals as goal

pub returns-in-None-clause-none : goal.returns-in-None-clause-none
returns-in-None-clause-none c =
    let first = position (is_of c.args.name.now) in
    let at : first c.args.self.now.rows ≡ None = ap first (sym c.rows.ensures.rows) ∙ sym c.first_of.ensures ∙ c.in-None.is in
    (λ is. no_package c.args.self.now c.args.name.now at, λ none. refl)

pub returns-in-Some-clause-prep : goal.returns-in-Some-clause-prep
returns-in-Some-clause-prep c =
    let first = position (is_of c.args.name.now) in
    let at : first c.args.self.now.rows ≡ Some c.in-Some.task = ap first (sym c.rows.ensures.rows) ∙ sym c.first_of.ensures ∙ c.in-Some.is in
    first_is_prep c.args.self.now c.args.name.now c.in-Some.task c.rows.ensures.plan at

pub returns-in-Some-clause-none : goal.returns-in-Some-clause-none
returns-in-Some-clause-none c =
    let prep : IsPrepOf c.args.self.now c.args.name.now c.in-Some.task = returns-in-Some-clause-prep c in
    (λ is. absurd (cc), λ none. absurd (none (c.in-Some.task, prep.0, prep.1, prep.3)))
