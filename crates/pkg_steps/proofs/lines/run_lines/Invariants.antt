use Rattle.std.proofs.Common.{◌≡◌, ◌+◌, drop}
use Rattle.tree_worlds.specs.World.{world_data}
use Rattle.tree_worlds.specs.HeldWorld.{IsHeldWorld}
use Rattle.pkg_steps.specs.Lines.{lines_run}
use Rattle.pkg_steps.proofs.lines.run_lines.Given as goal

-- what is left to run from here is what was to be run at first
abbrev pub invariant-loop-line : goal.invariant-loop-line
invariant-loop-line g l =
    (lines_run (g.C.Commands.shell l.commands) l.number (drop l.line-index l.lines) (world_data g.T.TreeOps.tree l.world) ≡ lines_run (g.C.Commands.shell l.commands) l.first l.lines (world_data g.T.TreeOps.tree l.fn.world))
    × (l.number ≡ l.first + l.line-index)
    × IsHeldWorld g.T.TreeOps.tree g.T.TreeOps.sealed l.world
