use Rattle.std.proofs.Common.{◌≡◌, false, drop}
use Rattle.std.specs.FinMap as fin
use Rattle.std.specs.List.{list_any}
use Rattle.br_path.specs.Path.{Names}
use Rattle.tree_ops.specs.Change.{is_path}
use Rattle.tree_map.specs.Moving.{with_copies}
use Rattle.tree_map.proofs.names.NameTable.put_copies.Given as goal

abbrev pub invariant-loop-one : goal.invariant-loop-one
invariant-loop-one l = record {
  copied : with_copies (drop l.one-index l.moves) l.self ≡ with_copies l.moves l.fn.self;
  others : (q : Names) → list_any (λ one. is_path one.to q) l.moves ≡ false → (list_any (λ one. is_path one.to q) (drop l.one-index l.moves) ≡ false) × (fin.get l.self q ≡ fin.get l.fn.self q);
}
