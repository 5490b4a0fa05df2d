use Rattle.std.proofs.Common.{sym, ◌∙◌}
use Rattle.tree_worlds.proofs.Naming.{below-longer, not_below}
use Rattle.tree_worlds.proofs.input.is_below.Goals as goal

pub returns-then-is_at_or_below : goal.returns-then-is_at_or_below
returns-then-is_at_or_below c = below-longer c.args.head.now c.args.names.now (sym c.is_at_or_below.ensures ∙ c.if-is_at_or_below.true)

pub returns-else-is_at_or_below : goal.returns-else-is_at_or_below
returns-else-is_at_or_below c = c.if-is_at_or_below.false ∙ sym (not_below c.args.head.now c.args.names.now (sym c.is_at_or_below.ensures ∙ c.if-is_at_or_below.false))
