use Rattle.std.proofs.Common.{◌≡◌, ◌≢◌, ◌≤◌, [], length, ap, sym, ◌∙◌, subst, rules}
use Rattle.mk_expand.specs.declared.fault.ExpandFault.TheVariants.{Memory}
use Rattle.mk_expand.specs.Vars.{found}
use Rattle.mk_expand.specs.Answer.{IsValue, IsFault, outside}
use Rattle.mk_expand.specs.Draft.{cost_limit}
use Rattle.mk_expand.specs.Pass.{text_run}
use Rattle.mk_expand.proofs.Exactness.{value_of_run, fault_of_run, length_of_run}
use Rattle.mk_expand.proofs.expander.expand_within.Goals as goal

pub returns-in_err-text-clause-fault : goal.returns-in_err-text-clause-fault
returns-in_err-text-clause-fault c =
    let vars = found c.args.vars.now in
    let f = c.in_err-text.field-0.0 in
    let fails : f ≢ Memory → IsFault vars c.args.depth (outside c.args.locals.now) c.args.text.now f =
    λ real. fault_of_run vars c.args.depth (outside c.args.locals.now) c.args.text.now f
    (ap (λ scope. text_run vars c.args.depth scope c.args.text.now ([], 0)) (sym c.in_ok-scope.ensures)
    ∙ (ap (λ out. text_run vars c.args.depth c.in_ok-scope.scope c.args.text.now out) (sym c.new-out.ensures) ∙ c.in_err-text.ensures.run real)) in
    search rules

pub returns-clause-value : goal.returns-clause-value
returns-clause-value c =
    let vars = found c.args.vars.now in
    let here : c.text.new.out.0 ≡ c.into_bytes.result = cc in
    subst (IsValue vars c.args.depth (outside c.args.locals.now) c.args.text.now) here
    (value_of_run vars c.args.depth (outside c.args.locals.now) c.args.text.now c.text.new.out
    (ap (λ scope. text_run vars c.args.depth scope c.args.text.now ([], 0)) (sym c.in_ok-scope.ensures)
    ∙ (ap (λ out. text_run vars c.args.depth c.in_ok-scope.scope c.args.text.now out) (sym c.new-out.ensures) ∙ c.in_ok-text.ensures.run)))

pub returns-clause-length : goal.returns-clause-length
returns-clause-length c =
    let vars = found c.args.vars.now in
    let here : c.text.new.out.0 ≡ c.into_bytes.result = cc in
    subst (λ bytes. length bytes ≤ cost_limit) here
    (length_of_run vars c.args.depth (outside c.args.locals.now) c.args.text.now c.text.new.out
    (ap (λ scope. text_run vars c.args.depth scope c.args.text.now ([], 0)) (sym c.in_ok-scope.ensures)
    ∙ (ap (λ out. text_run vars c.args.depth c.in_ok-scope.scope c.args.text.now out) (sym c.new-out.ensures) ∙ c.in_ok-text.ensures.run)))
