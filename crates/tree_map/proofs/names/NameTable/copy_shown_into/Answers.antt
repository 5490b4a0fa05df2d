use Rattle.std.proofs.Common.{◌++◌, not, List, sym, ap, ◌∙◌}
use Rattle.std.specs.FinMap as fin
use Rattle.std.specs.FinMap.Entries.{where_key}
use Rattle.br_path.specs.Path.{Names, path_cmp}
use Rattle.br_path.proofs.Maps.{entries-of}
use Rattle.br_path.proofs.PathOrder.{path_total}
use Rattle.tree_ops.specs.declared.entry.Node.{Node}
use Rattle.tree_map.specs.NameTable.{NameMap, hides}
use Rattle.tree_map.proofs.names.NameTable.copy_shown_into.Goals as goal

pub loop-at-init : goal.loop-at-init
loop-at-init c =
    let gives = c.into_iter-at-iterator.ensures.into_iter_gives in
    ap (λ (es : List (Names × Node)). c.args.pairs.now.items ++ where_key path_cmp (λ at. not (hides c.args.high.now at)) es)
    (gives.0 ∙ sym (entries-of path_total c.self.inside.names gives.5) ∙ ap (λ (m : NameMap). fin.entries m) c.self.view_is)
