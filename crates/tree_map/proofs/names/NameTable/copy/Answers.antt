use Rattle.std.proofs.Common.{◌≡◌, ◌++◌, List, subst, ap, ◌∙◌}
use Rattle.std.specs.Prelude.{IfOk}
use Rattle.std.specs.FinMap as fin
use Rattle.br_path.specs.Path.{Names, path_cmp}
use Rattle.br_path.proofs.PathOrder.{path_total, path_same}
use Rattle.tree_ops.specs.declared.entry.Node.{Node}
use Rattle.tree_map.specs.NameTable.{NameMap}
use Rattle.tree_map.proofs.Listed.{whole}
use Rattle.tree_map.proofs.names.NameTable.copy.Goals as goal

pub returns : goal.returns
returns c =
    let items = c.in_ok-copy_into.ensures ∙ ap (λ (l : List (Names × Node)). l ++ fin.entries c.args.self.now) c.new-pairs.ensures.items in
    subst (λ (m : NameMap). IfOk c.table_of.result (λ t. t ≡ m)) (ap (fin.from_entries {R = path_cmp}) items ∙ whole path_total path_same c.args.self.now) c.table_of.ensures
