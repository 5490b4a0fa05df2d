use Rattle.std.proofs.Common.{sym, ◌∙◌}
use Rattle.tree_worlds.specs.Operand.{board}
use Rattle.tree_worlds.proofs.Naming.{below-longer, not_below}
use Rattle.tree_worlds.proofs.input.is_below_board.Goals as goal

pub returns-then-is_board : goal.returns-then-is_board
returns-then-is_board c = below-longer board c.args.names.now (sym c.is_board.ensures ∙ c.if-is_board.true)

pub returns-else-is_board : goal.returns-else-is_board
returns-else-is_board c = c.if-is_board.false ∙ sym (not_below board c.args.names.now (sym c.is_board.ensures ∙ c.if-is_board.false))
