use Rattle.std.proofs.Common.{◌≡◌, ◌++◌, map}
use Rattle.std.specs.Vec.Iter.{into_iter_items}
use Rattle.tree_names.specs.Changes.{changed_names}
use Rattle.pkg_steps.proofs.shelving.put_changed.Given as goal

-- the paths so far and those to come
abbrev pub invariant-loop-path : goal.invariant-loop-path
invariant-loop-path g l =
    l.items.items ++ map (λ path. (l.area, path)) (into_iter_items l.path-iterator) ≡ l.fn.items.items ++ map (λ path. (l.area, path)) (changed_names (g.T.TreeOps.tree l.before) (g.T.TreeOps.tree l.after))
