use Rattle.std.proofs.Common.{◌≡◌, ◌++◌, List, ap, subst, ◌∙◌}
use Rattle.std.specs.Prelude.{IfOk}
use Rattle.std.specs.FinMap as fin
use Rattle.std.specs.FinMap.Entries.{where_key}
use Rattle.tree_ops.specs.declared.entry.Label.{Label}
use Rattle.tree_ops.specs.declared.entry.Contents.{Contents}
use Rattle.tree_ops.specs.Tree.{label_cmp, is_used}
use Rattle.tree_map.specs.Parts.{labels_of}
use Rattle.tree_map.proofs.labels.labels_over.Goals as goal

pub returns : goal.returns
returns c =
    let kept : List (Label × Contents) → List (Label × Contents) = where_key label_cmp (is_used c.args.names.now) in
    let items : c.copy_used-2.new.pairs.items ≡ kept c.args.high.now.entries ++ kept c.args.low.now.entries =
    c.in_ok-copy_used-2.ensures ∙ ap (λ (l : List (Label × Contents)). l ++ kept c.args.low.now.entries) (c.in_ok-copy_used.ensures ∙ ap (λ (l : List (Label × Contents)). l ++ kept c.args.high.now.entries) c.new-pairs.ensures.items) in
    subst (λ (es : List (Label × Contents)). IfOk c.labels_from.result (λ m. labels_of m ≡ fin.from_entries {R = label_cmp} es)) items c.labels_from.ensures
