use Rattle.std.proofs.Common.{sym, ◌∙◌}
use Rattle.tree_map.proofs.Moves.{fits-depth, fits-short}
use Rattle.tree_map.proofs.paths.moved_path.Goals as goal

pub with_head-requires-clause-depth : goal.with_head-requires-clause-depth
with_head-requires-clause-depth c =
    rw c.names.ensures.names (fits-depth c.args.old.now c.args.path.now (sym c.is_at_or_below.ensures ∙ c.if-is_at_or_below.true))

pub with_head-requires-clause-short : goal.with_head-requires-clause-short
with_head-requires-clause-short c =
    rw c.names.ensures.names (fits-short c.args.old.now c.args.at.now c.args.path.now (sym c.is_at_or_below.ensures ∙ c.if-is_at_or_below.true) c.requires)
