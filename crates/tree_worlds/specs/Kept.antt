-- What a program keeps of a world.
use Rattle.std.specs.Prelude.{◌≡◌, ◌≤◌, ◌⊎◌, true, false, None, Result, Ok, Err}
use Rattle.std.specs.FinMap as fin
use Rattle.tree_ops.specs.declared.entry.Label.{Label}
use Rattle.tree_ops.specs.Tree.{Tree}
use Rattle.tree_ops.specs.Pen.{is_within_limits}
use Rattle.br_path.specs.declared.area.Area.{Area}
use Rattle.tree_ops.specs.Change.{Change, is_own}
use Rattle.tree_worlds.specs.World.{WorldData, acted, may_change, tree_in}
use Rattle.tree_worlds.specs.Program.{Run}
use Rattle.tree_worlds.specs.declared.reason.CommandError.{CommandError}
use Rattle.tree_worlds.specs.declared.reason.CommandError.TheVariants.{Failed, Memory}

-- the world in which a program ends, at its end or at its fault
abbrev pub left_by : {A : Type 0} → Run A → WorldData
left_by (Ok (value, world)) = world
left_by (Err (reason, world)) = world

-- a relation between worlds that holds of each with itself, of steps in a row, and of each change that is made
pub record IsKept (kept : WorldData → WorldData → Type 0) : Type 0 where
  pub same : (world : WorldData) → kept world world
  pub chain : (first next last : WorldData) → kept first next → kept next last → kept first last
  pub act : (area : Area) (change : Change) (old new : WorldData) → acted area change old ≡ Ok new → kept old new

-- the contents of a label are as they were, or it has none any more
abbrev pub StaysOrGoes : Tree → Tree → Label → Type 0
StaysOrGoes old new label = (fin.get new.labels label ≡ fin.get old.labels label) ⊎ (fin.get new.labels label ≡ None)

-- what every program keeps: the rights; the trees that the task may not change; its number, and that labels drawn and bytes
-- written don't fall; the contents of other tasks' files; and the limits
pub record Keeps (old new : WorldData) : Type 0 where
  pub rights : (area : Area) → may_change new area ≡ may_change old area
  pub shown : new.shown ≡ old.shown
  pub areas : (area : Area) → may_change old area ≡ false → tree_in new.trees area ≡ tree_in old.trees area
  pub task : new.pen.task ≡ old.pen.task
  pub next : old.pen.next ≤ new.pen.next
  pub bytes : old.pen.bytes ≤ new.pen.bytes
  pub contents : (area : Area) (label : Label) → is_own old.pen label ≡ false → StaysOrGoes (tree_in old.trees area) (tree_in new.trees area) label
  pub limits : is_within_limits old.pen ≡ true → is_within_limits new.pen ≡ true

-- what a command keeps, at its end and at its fault; if it is out of memory, nothing is said
abbrev pub KeepsUnlessMemory : {A : Type 0} → WorldData → Result A CommandError → WorldData → Type 0
KeepsUnlessMemory old (Ok value) new = Keeps old new
KeepsUnlessMemory old (Err Memory) new = Unit {0}
KeepsUnlessMemory old (Err (Failed reason)) new = Keeps old new
