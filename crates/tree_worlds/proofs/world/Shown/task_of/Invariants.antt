use Rattle.std.proofs.Common.{◌≡◌, drop}
use Rattle.tree_worlds.specs.Naming.{shown_task}
use Rattle.tree_worlds.proofs.world.Shown.task_of.Given as goal

-- the task is among those that are left
abbrev pub invariant-loop-shown : goal.invariant-loop-shown
invariant-loop-shown g l = shown_task (drop l.shown-index l.shown-items) l.name ≡ shown_task l.shown-items l.name
