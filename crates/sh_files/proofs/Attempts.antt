-- An attempt, and then what comes of it.
use Rattle.std.proofs.Common.{Result, Ok}
use Rattle.br_path.specs.Gives.{Gives}
use Rattle.tree_worlds.specs.World.{WorldData}
use Rattle.tree_worlds.specs.Program.{Program, Ran, run, ◌>>=◌}
use Rattle.tree_worlds.specs.declared.reason.Reason.{Reason}
use Rattle.tree_worlds.specs.declared.reason.CommandError.{CommandError}
use Rattle.tree_worlds.specs.declared.reason.CommandError.TheVariants.{Memory}
use Rattle.sh_places.specs.Parts.{told, attempt}
use Rattle.sh_places.proofs.Ran.{ran_on, ran_gives}

-- a value is given, and then the rest decides
pub gives_on : {A B : Type 0} (outcome : Result B Reason) (next : B → Program A) (value : B) (world new : WorldData) (result : Result A CommandError)
    → Gives Memory (told outcome) (Ok value) → Ran (run (next value) world) result new → Ran (run (attempt outcome >>= next) world) result new
gives_on outcome next value world new result is then = ran_on (run (attempt outcome) world) (λ v. run (next v)) value world new result (ran_gives outcome (Ok value) world is) then
