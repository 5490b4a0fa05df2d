use Rattle.std.proofs.Common.{◌≡◌, drop}
use Rattle.std.specs.Prelude.{find}
use Rattle.br_path.specs.Text.{is_text}
use Rattle.mk_expand.specs.Table.{entry, function_of}
use Rattle.mk_expand.proofs.function.Function.of_name.Given as goal

abbrev pub invariant-loop-function : goal.invariant-loop-function
invariant-loop-function l = function_of l.name ≡ find (λ function. is_text (entry function).0 l.name) (drop l.function-index l.function-items)
