-- A command whose options were read.
use Rattle.std.proofs.Common.{◌≡◌, Result, Ok, Err}
use Rattle.std.specs.Prelude.{◌≢◌}
use Rattle.opt_table.specs.Given.{Read}
use Rattle.tree_worlds.specs.World.{WorldData}
use Rattle.tree_worlds.specs.Program.{Program, run, Ran, ◌>>=◌}
use Rattle.tree_worlds.specs.declared.reason.Reason.{Reason}
use Rattle.tree_worlds.specs.declared.reason.CommandError.{CommandError}
use Rattle.tree_worlds.specs.declared.reason.CommandError.TheVariants.{Memory}
use Rattle.sh_places.specs.Parts.{told, attempt}
use Rattle.sh_places.proofs.Ran.{ran_on, ran_err, ran_gives}

-- the options are what the words say, and then the command decides
pub read_on : (outcome : Result Read Reason) (next : Read → Program (Unit {0})) (options : Read) (world new : WorldData) (result : Result (Unit {0}) CommandError)
    → told outcome ≡ Ok options → Ran (run (next options) world) result new → Ran (run (attempt outcome >>= next) world) result new
read_on outcome next options world new result is then = ran_on (run (attempt outcome) world) (λ read. run (next read)) options world new result (ran_gives outcome (Ok options) world is) then

-- the words are refused
pub read_err : (outcome : Result Read Reason) (next : Read → Program (Unit {0})) (error : CommandError) (world : WorldData)
    → (error ≢ Memory → told outcome ≡ Err error) → Ran (run (attempt outcome >>= next) world) (Err error) world
read_err outcome next error world is = ran_err (run (attempt outcome) world) (λ read. run (next read)) error world (ran_gives outcome (Err error) world is)
