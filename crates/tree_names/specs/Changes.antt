-- What was changed between two trees.
use Rattle.std.specs.Prelude.{Bool, true, false, not, ◌&&◌, nat_eq, List, filter, Option, Some, None}
use Rattle.std.specs.Cmp.Lexicographic.{pointwise}
use Rattle.std.specs.FinMap as fin
use Rattle.br_path.specs.Path.{Names}
use Rattle.tree_ops.specs.declared.entry.Node.{Node}
use Rattle.tree_ops.specs.declared.entry.Node.TheVariants.{Dir, Link, File}
use Rattle.tree_ops.specs.Tree.{Tree, node_at, laid}

-- two trees have the same at a path: nothing, folders of one mode, links of one text, or files of one label
abbrev pub is_node : Option Node → Option Node → Bool
is_node None None = true
is_node (Some (Dir mode)) (Some (Dir other)) = nat_eq mode other
is_node (Some (Link text)) (Some (Link other)) = pointwise nat_eq text other
is_node (Some (File label)) (Some (File other)) = nat_eq label.task other.task && nat_eq label.number other.number
is_node one other = false

-- the paths at which something else stands than before, in their order; that nothing stands there is something too
abbrev pub changed_names : Tree → Tree → List Names
changed_names before after = filter (λ path. not (is_node (node_at before path) (node_at after path))) (fin.keys (laid before.names after.names))
