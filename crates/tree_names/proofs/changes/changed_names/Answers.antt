use Rattle.std.proofs.Common.{rules, List, ◌++◌, ap, ◌∙◌}
use Rattle.std.specs.Prelude.{not, filter}
use Rattle.std.specs.BTreeSet.{contains}
use Rattle.std.specs.BTreeMap.{is_at}
use Rattle.std.specs.List.{list_any}
use Rattle.br_path.specs.Path.{Names, path_cmp}
use Rattle.br_path.proofs.PathOrder.{path_total, path_same}
use Rattle.tree_ops.specs.Tree.{node_at, laid}
use Rattle.tree_names.specs.Changes.{is_node}
use Rattle.tree_names.proofs.Alike.{keys-alike}
use Rattle.tree_names.proofs.Below.{both_there}
use Rattle.tree_names.proofs.changes.changed_names.Goals as goal

pub loop-at-init : goal.loop-at-init
loop-at-init g c =
    let before = g.T.TreeOps.tree c.args.before.now in
    let after = g.T.TreeOps.tree c.args.after.now in
    let none = contains path_cmp c.new-paths.result in
    let first = contains path_cmp c.put_names.new.paths in
    let set = c.put_names-2.new.paths in
    let gives = c.into_iter-at-iterator.ensures.into_iter_gives in
    let differs = λ (path : Names). not (is_node (node_at before path) (node_at after path)) in
    ap (λ (items : List Names). items ++ filter differs c.into_iter-at-iterator.result) c.new-changed.ensures.items
    ∙ ap (filter differs) (gives.0 ∙ keys-alike path_total path_same set.keys (laid before.names after.names) gives.4 (λ path. both_there before after none first (contains path_cmp set) path (ap (list_any (is_at (path_cmp path))) c.new-paths.ensures.empty) (search rules) (search rules)))
