use Rattle.std.proofs.Common.{◌≡◌, ◌-◌, true, nat_eq, length, refl, sym, ap, ◌∙◌, Some, subst, arith}
use Rattle.std.specs.List.{ends_with}
use Rattle.sh_text.specs.Finding.{IsFound}
use Rattle.sh_text.proofs.Finding.{back_nowhere, back_found}
use Rattle.sh_text.proofs.script.Pattern.find_back.Goals as goal

pub returns-then-not-ends_with : goal.returns-then-not-ends_with
returns-then-not-ends_with c = λ beginning.
    back_nowhere c.args.self.now c.requires.begins c.requires.ends beginning c.args.rest.now
    (ap (ends_with nat_eq c.args.rest.now) (sym c.as_slice-bytes.ensures) ∙ sym c.if-not-ends_with.ensures.value)

pub returns : goal.returns
returns c = λ beginning.
    let is : ends_with nat_eq c.args.rest.now c.args.self.now.bytes ≡ true = ap (ends_with nat_eq c.args.rest.now) (sym c.as_slice-bytes.ensures) ∙ sym c.if-not-ends_with.ensures.value in
    let low = ap length c.as_slice-bytes.ensures in
    let bound = c.if-not-ends_with.ensures.bound refl in
    subst (λ n. IsFound c.args.self.now beginning c.args.rest.now (Some (length c.args.rest.now - n))) (sym low)
    (back_found c.args.self.now c.requires.begins c.requires.ends beginning c.args.rest.now (omega arith) is)
