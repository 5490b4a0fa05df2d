use Rattle.std.proofs.Common.{◌++◌, sym, ap, ◌∙◌}
use Rattle.std.specs.FinMap as fin
use Rattle.br_path.proofs.Maps.{entries-of}
use Rattle.br_path.proofs.PathOrder.{path_total}
use Rattle.tree_map.specs.Lacking.{clash, is_node, lacking, paths_of}
use Rattle.tree_map.specs.NameTable.{NameMap}
use Rattle.tree_map.proofs.names.NameTable.lacked.Goals as goal

pub loop-at-init : goal.loop-at-init
loop-at-init c =
    let gives = c.into_iter-at-iterator.ensures.into_iter_gives in
    let all = gives.0 ∙ sym (entries-of path_total c.high.inside.names gives.5) ∙ ap (λ (m : NameMap). fin.entries m) c.high.view_is in
    record {
      paths = λ i. paths_of (c.new-paths.ensures.items i) ++ lacking c.args.self.now (all i);
      same = ap (clash is_node c.args.self.now) all;
    }
