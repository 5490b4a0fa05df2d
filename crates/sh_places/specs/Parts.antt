-- What the programs of commands are put together from.
use Rattle.std.specs.Prelude.{ℕ, Bool, true, false, List, [], ◌∷◌, Result, Ok, Err}
use Rattle.br_path.specs.Files.{FileMap}
use Rattle.tree_ops.specs.Change.{Change}
use Rattle.tree_ops.specs.declared.change.ChangeFault.TheVariants.{ReadOnly}
use Rattle.tree_worlds.specs.Program.{Program, Done, Refuse, Look, Act, ◌>>=◌}
use Rattle.tree_worlds.specs.declared.operand.Operand.{Operand}
use Rattle.tree_worlds.specs.Operand.{operand_of}
use Rattle.tree_worlds.specs.declared.reason.CommandError.{CommandError}
use Rattle.tree_worlds.specs.declared.reason.CommandError.TheVariants.{Failed}
use Rattle.tree_worlds.specs.declared.reason.Reason.{Reason}
use Rattle.tree_worlds.specs.declared.reason.Reason.TheVariants.{Change as for_change}
use Rattle.sh_places.specs.Finding.{found, spot_of, walked}
use Rattle.sh_places.specs.declared.spot.Site.{Site}
use Rattle.sh_places.specs.declared.spot.Site.TheVariants.{Tree, Readable, Input}
use Rattle.sh_places.specs.declared.spot.Spot.{Spot}

-- a value or a reason as a call answers it
abbrev pub told : {A : Type 0} → Result A Reason → Result A CommandError
told (Ok value) = Ok value
told (Err reason) = Err (Failed reason)

-- a value, or the reason why there is none
abbrev pub attempt : {A : Type 0} → Result A Reason → Program A
attempt (Ok value) = Done value
attempt (Err reason) = Refuse reason

-- the first of two programs if a test passes, else the second
abbrev pub choose : {A : Type 0} → Bool → Program A → Program A → Program A
choose true one other = one
choose false one other = other

-- one program after another, for each of a list
abbrev pub each : {A : Type 0} → (A → Program (Unit {0})) → List A → Program (Unit {0})
each program [] = Done tt
each program (item ∷ items) = program item >>= λ _. each program items

-- what a word is an operand of
abbrev pub read : FileMap → List ℕ → Program Operand
read files word = Look >>= λ world. attempt (operand_of world files word)

-- the place of an operand
abbrev pub resolve : Operand → Bool → Program Spot
resolve operand follow = Look >>= λ world. attempt (spot_of world follow operand)

-- the place to which a walk leads
abbrev pub walk : Site → List ℕ → Bool → Program Spot
walk site steps follow = Look >>= λ world. attempt (walked world site steps follow)

-- the place that a word names
abbrev pub find : FileMap → List ℕ → Bool → Program Spot
find files word follow = Look >>= λ world. attempt (found world files word follow)

-- a change in one of the task's trees; what is elsewhere can't be changed
abbrev pub act_in : Site → Change → Program (Unit {0})
act_in (Tree area) change = Act area change
act_in (Readable task) change = Refuse (for_change ReadOnly)
act_in Input change = Refuse (for_change ReadOnly)
