use Rattle.std.proofs.Common.{◌≡◌, ◌++◌, sym, ap, ◌∙◌}
use Rattle.std.specs.FinMap as fin
use Rattle.std.specs.FinMap.Entries.{where_key}
use Rattle.tree_ops.specs.Tree.{Tree, over, is_used, label_cmp}
use Rattle.tree_ops.proofs.Orders.{label_total, label_same}
use Rattle.tree_map.specs.NameTable.{NameMap}
use Rattle.tree_map.specs.Parts.{shown, labels_of}
use Rattle.tree_map.proofs.Made.{populated-ok, populated-full}
use Rattle.tree_map.proofs.Listed.{kept-listed}
use Rattle.tree_map.proofs.trees.MapTree.populate_anew.Goals as goal

pub returns-in-None : goal.returns-in-None
returns-in-None c =
    let all : Tree = over (shown c.args.self.now) (shown c.args.from.now) in
    let names : c.in_ok-names.names ≡ all.names = c.in_ok-names.ensures in
    populated-full (shown c.args.self.now, c.args.pen.now) (shown c.args.from.now) (sym (c.counted.ensures all (sym names)) ∙ c.in-None.is)

pub returns : goal.returns
returns c =
    let all : Tree = over (shown c.args.self.now) (shown c.args.from.now) in
    let names : c.in_ok-names.names ≡ all.names = c.in_ok-names.ensures in
    let labels : labels_of c.in_ok-labels.labels ≡ all.labels = c.in_ok-labels.ensures
    ∙ ap (λ (names : NameMap). fin.from_entries {R = label_cmp} (where_key label_cmp (is_used names) c.args.from.now.labels.entries ++ where_key label_cmp (is_used names) c.args.self.now.labels.entries)) names
    ∙ kept-listed label_total label_same c.args.from.now.labels.entries c.args.self.now.labels.entries (is_used all.names) in
    populated-ok (shown c.args.self.now, c.args.pen.now) (shown c.args.from.now) (record { names = c.in_ok-names.names; labels = labels_of c.in_ok-labels.labels }) c.in-Some.after
    (sym (c.counted.ensures all (sym names)) ∙ c.in-Some.is) (λ i. record { names = names i; labels = labels i })
