use Rattle.std.proofs.Common.{◌≡◌, false, drop}
use Rattle.std.specs.FinMap as fin
use Rattle.std.specs.List.{list_any}
use Rattle.std.specs.Ordering.{eq_by_cmp}
use Rattle.br_path.specs.Path.{Names, path_cmp}
use Rattle.tree_map.specs.Lacking.{paths_of, with_keys}
use Rattle.tree_map.proofs.names.NameTable.put_all_from.Given as goal

abbrev pub invariant-loop-at : goal.invariant-loop-at
invariant-loop-at l = record {
  put : with_keys (paths_of (drop l.at-index l.paths)) l.high l.self ≡ with_keys (paths_of l.paths) l.high l.fn.self;
  others : (q : Names) → list_any (eq_by_cmp path_cmp q) (paths_of l.paths) ≡ false → (list_any (eq_by_cmp path_cmp q) (paths_of (drop l.at-index l.paths)) ≡ false) × (fin.get l.self q ≡ fin.get l.fn.self q);
}
