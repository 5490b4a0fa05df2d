use Rattle.std.proofs.Common.{◌≡◌, false, get_or, sym, ◌∙◌, ap}
use Rattle.mk_expand.specs.declared.function.Function.TheVariants.{Subst}
use Rattle.br_path.specs.Text.{is_text}
use Rattle.mk_expand.specs.Table.{entry, functions}
use Rattle.mk_expand.proofs.Finding.{find_past}
use Rattle.mk_expand.proofs.function.Function.of_name.Goals as goal

pub loop-function-preserved : goal.loop-function-preserved
loop-function-preserved c =
    let differs : is_text (entry (get_or functions c.loop-function.function-index Subst)).0 c.args.name.now ≡ false = ap (λ text. is_text text c.args.name.now) (sym c.entry.ensures.name) ∙ sym c.if-eq.ensures in
    c.loop-function.invariant ∙ find_past (λ function. is_text (entry function).0 c.args.name.now) functions c.loop-function.function-index Subst c.loop-function-test.true differs
