-- What a call answers that leaves a value in a place.
use Rattle.std.specs.Prelude.{◌≡◌, Result, Ok, Err}
use Rattle.tree_worlds.specs.World.{WorldData}
use Rattle.tree_worlds.specs.Program.{Run}
use Rattle.tree_worlds.specs.declared.reason.CommandError.{CommandError}
use Rattle.tree_worlds.specs.declared.reason.CommandError.TheVariants.{Failed, Memory}

-- what a call answers and leaves, where the program's value is left in a place
abbrev pub RanTo : {A : Type 0} → Run A → Result (Unit {0}) CommandError → A → WorldData → Type 0
RanTo outcome (Ok done) value new = outcome ≡ Ok (value, new)
RanTo outcome (Err Memory) value new = Unit {0}
RanTo outcome (Err (Failed reason)) value new = outcome ≡ Err (reason, new)
