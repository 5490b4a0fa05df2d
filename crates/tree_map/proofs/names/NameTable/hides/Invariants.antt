use Rattle.std.proofs.Common.{◌≡◌, ◌-◌, length, take, map}
use Rattle.std.specs.FinMap as fin
use Rattle.std.specs.List.{list_any, range_with_len}
use Rattle.tree_ops.specs.Tree.{is_leaf}
use Rattle.tree_map.specs.NameTable.{hides}
use Rattle.tree_map.proofs.names.NameTable.hides.Given as goal

-- the folders that are left decide
abbrev pub invariant-loop-depth : goal.invariant-loop-depth
invariant-loop-depth l = list_any (λ folder. is_leaf (fin.get l.self folder)) (map (λ depth. take depth l.at) (range_with_len l.depth (length l.at - l.depth))) ≡ hides l.self l.at
