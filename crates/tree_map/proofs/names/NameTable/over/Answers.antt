use Rattle.std.proofs.Common.{◌≡◌, ◌++◌, Bool, not, List, subst, ap, ◌∙◌}
use Rattle.std.specs.Prelude.{IfOk}
use Rattle.std.specs.FinMap as fin
use Rattle.std.specs.FinMap.Entries.{where_key}
use Rattle.br_path.specs.Path.{Names, path_cmp}
use Rattle.br_path.proofs.PathOrder.{path_total, path_same}
use Rattle.tree_ops.specs.declared.entry.Node.{Node}
use Rattle.tree_map.specs.NameTable.{NameMap, hides}
use Rattle.tree_map.proofs.Listed.{laid-entries}
use Rattle.tree_map.proofs.names.NameTable.over.Goals as goal

pub returns : goal.returns
returns c =
    let shows : Names → Bool = λ at. not (hides c.args.high.now at) in
    let items = c.in_ok-copy_shown_into.ensures ∙ ap (λ (l : List (Names × Node)). l ++ where_key path_cmp shows (fin.entries c.args.low.now))
    (c.in_ok-copy_into.ensures ∙ ap (λ (l : List (Names × Node)). l ++ fin.entries c.args.high.now) c.new-pairs.ensures.items) in
    subst (λ (m : NameMap). IfOk c.table_of.result (λ t. t ≡ m)) (ap (fin.from_entries {R = path_cmp}) items ∙ laid-entries path_total path_same c.args.low.now c.args.high.now shows) c.table_of.ensures
