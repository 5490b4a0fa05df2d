-- The change that a step of the code asks for.
use Rattle.std.specs.Prelude.{◌≤◌}
use Rattle.tree_ops.specs.Tree.{IsLinkText}
use Rattle.tree_ops.specs.Change as of
use Rattle.tree_ops.specs.Change.{Change}
use Rattle.tree_worlds.specs.declared.step.Step.{Step}
use Rattle.tree_worlds.specs.declared.step.Step.TheVariants.{MakeFile, Write, Append, SetMode, AddName, MakeLink, MakeDir, Remove, Rename}

abbrev pub change_of : Step → Change
change_of (MakeFile at mode bytes) = of.MakeFile at.now mode bytes.now
change_of (Write at bytes) = of.Write at.now bytes.now
change_of (Append at bytes) = of.Append at.now bytes.now
change_of (SetMode at mode) = of.SetMode at.now mode
change_of (AddName old at) = of.AddName old.now at.now
change_of (MakeLink at text) = of.MakeLink at.now text.now
change_of (MakeDir at mode) = of.MakeDir at.now mode
change_of (Remove at) = of.Remove at.now
change_of (Rename old at) = of.Rename old.now at.now

-- its modes and link texts are within their limits
abbrev pub IsModest : Step → Type 0
IsModest (MakeFile at mode bytes) = mode ≤ 4095
IsModest (Write at bytes) = Unit {0}
IsModest (Append at bytes) = Unit {0}
IsModest (SetMode at mode) = mode ≤ 4095
IsModest (AddName old at) = Unit {0}
IsModest (MakeLink at text) = IsLinkText text.now
IsModest (MakeDir at mode) = mode ≤ 4095
IsModest (Remove at) = Unit {0}
IsModest (Rename old at) = Unit {0}
