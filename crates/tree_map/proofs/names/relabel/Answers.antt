use Rattle.std.proofs.Common.{rules, sym, ap, ◌∙◌, map}
use Rattle.std.specs.FinMap.{from_entries}
use Rattle.std.proofs.lemmas.Map.Made.{map_same_pairs}
use Rattle.br_path.specs.Path.{path_cmp}
use Rattle.br_path.proofs.Maps.{entries-of}
use Rattle.br_path.proofs.PathOrder.{path_total}
use Rattle.tree_ops.specs.Change.{relabelled_node}
use Rattle.tree_map.proofs.names.relabel.Goals as goal

pub returns : goal.returns
returns c =
    let written = map_same_pairs _ (relabelled_node c.args.from c.args.to) _ (λ k v b w f t. search rules) _ _ c.retain.ensures.filtered in
    ap (from_entries {R = path_cmp}) (written ∙ ap (map (λ e. (e.0, relabelled_node c.args.from c.args.to e.1))) (sym (entries-of path_total c.args.names.now c.retain.ensures.was_ordered)))
