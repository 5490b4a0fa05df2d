use Rattle.std.proofs.Common.{◌≡◌, drop}
use Rattle.tree_worlds.specs.World.{world_data}
use Rattle.tree_worlds.specs.HeldWorld.{IsHeldWorld}
use Rattle.pkg_steps.specs.Lines.{steps_run, Runs}
use Rattle.pkg_steps.proofs.steps.run_steps.Given as goal

-- what is left to run from here is what was to be run at first
abbrev pub invariant-loop-row : goal.invariant-loop-row
invariant-loop-row g l =
    (steps_run (g.C.Commands.shell l.commands) (drop l.row-index l.rows) (Runs (world_data g.T.TreeOps.tree l.world) l.stamps) ≡ steps_run (g.C.Commands.shell l.commands) l.rows (Runs (world_data g.T.TreeOps.tree l.fn.world) l.fn.stamps))
    × IsHeldWorld g.T.TreeOps.tree g.T.TreeOps.sealed l.world
