-- What a command does, as data: looks at the world, and changes of it.
use Rattle.std.specs.Prelude.{◌≡◌, Result, Ok, Err}
use Rattle.br_path.specs.declared.area.Area.{Area}
use Rattle.tree_ops.specs.Change.{Change}
use Rattle.tree_worlds.specs.declared.reason.Reason.{Reason}
use Rattle.tree_worlds.specs.declared.reason.CommandError.{CommandError}
use Rattle.tree_worlds.specs.declared.reason.CommandError.TheVariants.{Failed, Memory}
use Rattle.tree_worlds.specs.World.{WorldData, acted}

infixl 20 ◌>>=◌
-- a program that ends with a value, or with a reason
pub data Program : Type 0 → Type 1 where
  Done : {A : Type 0} → A → Program A
  Refuse : {A : Type 0} → Reason → Program A
  Look : Program WorldData
  Act : Area → Change → Program (Unit {0})
  ◌>>=◌ : {A B : Type 0} → Program B → (B → Program A) → Program A

-- the value and the world afterwards; or the reason and the world as the steps before the fault left it
abbrev pub Run : Type 0 → Type 0
Run A = Result (A × WorldData) (Reason × WorldData)

abbrev pub run_act : WorldData → Result WorldData Reason → Run (Unit {0})
run_act old (Ok new) = Ok (tt, new)
run_act old (Err reason) = Err (reason, old)

abbrev pub go_on : {A B : Type 0} → Run B → (B → WorldData → Run A) → Run A
go_on (Ok (value, world)) next = next value world
go_on (Err fault) next = Err fault

abbrev pub run : {A : Type 0} → Program A → WorldData → Run A
run (Done value) world = Ok (value, world)
run (Refuse reason) world = Err (reason, world)
run Look world = Ok (world, world)
run (Act area change) world = run_act world (acted area change world)
run (program >>= next) world = go_on (run program world) (λ value. run (next value))

-- what a call answers and leaves: the program's run; if it is out of memory, nothing is said
abbrev pub Ran : {A : Type 0} → Run A → Result A CommandError → WorldData → Type 0
Ran outcome (Ok value) new = outcome ≡ Ok (value, new)
Ran outcome (Err Memory) new = Unit {0}
Ran outcome (Err (Failed reason)) new = outcome ≡ Err (reason, new)
