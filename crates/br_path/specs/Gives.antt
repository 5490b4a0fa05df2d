-- The one shape of a call that can be refused: it answers what is meant, or that it is out of memory.
use Rattle.std.specs.Prelude.{◌≡◌, ◌≢◌, Result, Ok, Err}

-- what comes next, unless there is a fault
infixl 10 ◌>>=◌
abbrev pub ◌>>=◌ : {A B F : Type 0} → Result A F → (A → Result B F) → Result B F
Ok value >>= next = next value
Err fault >>= next = Err fault

-- the answer is the one that is meant; out of memory may be answered whatever is meant
abbrev pub Gives : {A F : Type 0} → F → Result A F → Result A F → Type 0
Gives memory meant (Ok value) = meant ≡ Ok value
Gives memory meant (Err fault) = fault ≢ memory → meant ≡ Err fault

-- likewise of a call that leaves its value in a place
abbrev pub Leaves : {A B F : Type 0} → F → Result A F → Result B F → A → Type 0
Leaves memory meant (Ok done) left = meant ≡ Ok left
Leaves memory meant (Err fault) left = fault ≢ memory → meant ≡ Err fault
