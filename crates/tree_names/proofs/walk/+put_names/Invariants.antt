use Rattle.std.proofs.Common.{◌≡◌, ◌&&◌, ◌||◌, ◌-◌, ◌∷◌, ◌++◌, [], All, is_some, take, length}
use Rattle.std.specs.BTreeSet.{contains}
use Rattle.br_path.specs.Path.{Names, IsPath, path_cmp}
use Rattle.tree_ops.specs.Tree.{node_at, names_below}
use Rattle.tree_names.proofs.Below.{is_below_one}
use Rattle.tree_names.proofs.walk.+put_names.Given as goal

abbrev pub decreases-put_names : goal.decreases-put_names
decreases-put_names g l = 1025 - length l.at

-- so far the names that stand at or below one of the first names are among the paths, beside those that were there
abbrev pub invariant-loop-name : goal.invariant-loop-name
invariant-loop-name g l = record {
  put : (path : Names) → contains path_cmp l.paths path ≡ (is_below_one l.fn.at (take l.name-index l.name-items) path && is_some (node_at (g.T.TreeOps.tree l.tree) path) || contains path_cmp l.fn.paths path);
  paths : All (λ name. IsPath (l.fn.at ++ name ∷ [])) l.name-items;
  items : l.name-items ≡ names_below (g.T.TreeOps.tree l.tree) l.fn.at;
}
