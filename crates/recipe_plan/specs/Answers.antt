-- Answers in whose place a fault may stand.
use Rattle.std.specs.Prelude.{◌≡◌, ◌≢◌, List, [], ◌∷◌, Result, Ok, Err}
use Rattle.recipe_set.specs.declared.fault.PlanFault.{PlanFault}
use Rattle.recipe_set.specs.declared.fault.PlanFault.TheVariants.{Memory}

-- what comes next, unless there is a fault
infixl 10 ◌>>=◌
abbrev pub ◌>>=◌ : {A B : Type 0} → Result A PlanFault → (A → Result B PlanFault) → Result B PlanFault
Ok value >>= next = next value
Err fault >>= next = Err fault

-- things one after another, each put to what was made of those before it; the first fault ends it
abbrev pub in_turn : {S X : Type 0} → (S → X → Result S PlanFault) → S → List X → Result S PlanFault
in_turn put made [] = Ok made
in_turn put made (x ∷ xs) = put made x >>= λ more. in_turn put more xs

-- an answer of the code is that of a definition, but that out of memory may be answered whatever there is
abbrev pub Gives : {A : Type 0} → Result A PlanFault → Result A PlanFault → Type 0
Gives meant (Ok value) = meant ≡ Ok value
Gives meant (Err fault) = fault ≢ Memory → meant ≡ Err fault

-- the same of what the code leaves in a place
abbrev pub Leaves : {A B : Type 0} → Result A PlanFault → Result B PlanFault → A → Type 0
Leaves meant (Ok done) new = meant ≡ Ok new
Leaves meant (Err fault) new = fault ≢ Memory → meant ≡ Err fault
