-- How statements are read one by one, with the conditions that stand open.
use Rattle.std.specs.Prelude.{◌≡◌, ◌≢◌, ℕ, Bool, true, false, List, [], ◌∷◌, Result, Ok, Err}
use Rattle.mk_syntax.specs.declared.recipe.What.{What}
use Rattle.mk_syntax.specs.declared.recipe.What.TheVariants.{Set, Define, If, ElseIf, Else, EndIf, Make}
use Rattle.mk_syntax.specs.declared.recipe.Test.{Test}
use Rattle.mk_expand.specs.declared.fault.ExpandFault.{ExpandFault}
use Rattle.mk_expand.specs.Vars.{Table, found}
use Rattle.mk_expand.specs.Value.{depth_limit}
use Rattle.mk_expand.specs.Answer.{IsFault, outside}
use Rattle.recipe_set.specs.declared.draft.Draft.{Draft}
use Rattle.recipe_set.specs.declared.branch.Branch.{Branch}
use Rattle.recipe_set.specs.declared.branch.Branch.TheVariants.{Taken, Sought, Passed}
use Rattle.recipe_set.specs.declared.reader.Reader.{Reader}
use Rattle.recipe_set.specs.declared.fault.PlanFault.{PlanFault}
use Rattle.recipe_set.specs.declared.fault.PlanFault.TheVariants.{Expand, Memory}
use Rattle.recipe_set.specs.Fault.{HoldsNoMemory}
use Rattle.recipe_set.specs.Effect.{Outcome, Is, Does, Asks}

-- a fault is one that may be answered; out of memory may be answered at all times
abbrev pub IsRefusal : {A : Type 0} → (Result A PlanFault → Type 0) → PlanFault → Type 0
IsRefusal May fault = HoldsNoMemory fault × (fault ≢ Memory → May (Err fault))

-- an answer is one that may be given
abbrev pub IsAnswer : {A : Type 0} → (Result A PlanFault → Type 0) → Result A PlanFault → Type 0
IsAnswer May (Ok value) = May (Ok value)
IsAnswer May (Err fault) = IsRefusal May fault

-- what a step leaves, or its fault, is one that may come
abbrev pub IsStep : {A : Type 0} → (Result A PlanFault → Type 0) → Result Unit PlanFault → A → Type 0
IsStep May (Ok finished) new = May (Ok new)
IsStep May (Err fault) new = IsRefusal May fault

-- the fault of a package at a variable, for a text that has no value
abbrev pub HasNoValue : List ℕ → List ℕ → Table → List ℕ → PlanFault → Type 0
HasNoValue folder variable vars text refused = (fault : ExpandFault) × IsFault (found vars) depth_limit (outside []) text fault × (refused ≡ Expand folder variable fault)

-- what stands at a place is read where no branch round it is left out
abbrev pub is_reading : List Branch → Bool
is_reading [] = true
is_reading (Taken ∷ around) = true
is_reading (Sought ∷ around) = false
is_reading (Passed ∷ around) = false

-- the innermost condition has had its branch
abbrev pub passed : List Branch → List Branch
passed [] = []
passed (branch ∷ around) = Passed ∷ around

-- the innermost condition is at its end
abbrev pub closed : List Branch → List Branch
closed [] = []
closed (branch ∷ around) = around

abbrev pub at : Draft → List Branch → Reader
at draft around = record { draft = draft; around = around }

-- after a statement that is no part of a condition
abbrev pub kept : List Branch → Outcome → Result Reader PlanFault
kept around (Ok draft) = Ok (at draft around)
kept around (Err fault) = Err fault

-- after a test that was asked
abbrev pub branched : Draft → List Branch → Result Bool PlanFault → Result Reader PlanFault
branched draft around (Ok true) = Ok (at draft (Taken ∷ around))
branched draft around (Ok false) = Ok (at draft (Sought ∷ around))
branched draft around (Err fault) = Err fault

-- a branch with a test, within these conditions
abbrev pub Begins : List ℕ → Draft → List Branch → Test → Result Reader PlanFault → Type 0
Begins folder draft around test end = (answer : Result Bool PlanFault) × Asks folder draft test answer × (end ≡ branched draft around answer)

-- a statement that is no part of a condition, within these conditions
abbrev pub Alters : List ℕ → Draft → List Branch → What → Result Reader PlanFault → Type 0
Alters folder draft around what end = (next : Outcome) × Does folder draft what next × (end ≡ kept around next)

-- a statement where it is read
abbrev pub Meets : List ℕ → Draft → List Branch → What → Result Reader PlanFault → Type 0
Meets folder draft around (Set name how text) = Alters folder draft around (Set name how text)
Meets folder draft around (Define name text) = Alters folder draft around (Define name text)
Meets folder draft around (Make host) = Alters folder draft around (Make host)
Meets folder draft around (If test) = Begins folder draft around test
Meets folder draft around (ElseIf test) = Is (Ok (at draft (passed around)))
Meets folder draft around Else = Is (Ok (at draft (passed around)))
Meets folder draft around EndIf = Is (Ok (at draft (closed around)))

-- a further branch with a test, where it isn't read: its test is asked where no branch before it is taken
abbrev pub Tries : List ℕ → Draft → List Branch → Test → Result Reader PlanFault → Type 0
Tries folder draft [] test = Is (Ok (at draft []))
Tries folder draft (Sought ∷ around) test = Begins folder draft around test
Tries folder draft (Taken ∷ around) test = Is (Ok (at draft (Passed ∷ around)))
Tries folder draft (Passed ∷ around) test = Is (Ok (at draft (Passed ∷ around)))

-- the last branch, where it isn't read
abbrev pub turned : List Branch → List Branch
turned [] = []
turned (Sought ∷ around) = Taken ∷ around
turned (Taken ∷ around) = Passed ∷ around
turned (Passed ∷ around) = Passed ∷ around

-- a statement where it isn't read
abbrev pub Skips : List ℕ → Draft → List Branch → What → Result Reader PlanFault → Type 0
Skips folder draft around (Set name how text) = Is (Ok (at draft around))
Skips folder draft around (Define name text) = Is (Ok (at draft around))
Skips folder draft around (Make host) = Is (Ok (at draft around))
Skips folder draft around (If test) = Is (Ok (at draft (Passed ∷ around)))
Skips folder draft around (ElseIf test) = Tries folder draft around test
Skips folder draft around Else = Is (Ok (at draft (turned around)))
Skips folder draft around EndIf = Is (Ok (at draft (closed around)))

-- a statement, read or not
abbrev pub Takes : Bool → List ℕ → Draft → List Branch → What → Result Reader PlanFault → Type 0
Takes true = Meets
Takes false = Skips

-- a statement
abbrev pub Steps : List ℕ → Reader → What → Result Reader PlanFault → Type 0
Steps folder reader = Takes (is_reading reader.around) folder reader.draft reader.around

-- statements, one after another, up to a fault
pub data Runs (folder : List ℕ) : Reader → List What → Result Reader PlanFault → Type 0 where
  finished : {reader : Reader} → Runs folder reader [] (Ok reader)
  stopped : {reader : Reader} {what : What} {whats : List What} (fault : PlanFault) → Steps folder reader what (Err fault) → Runs folder reader (what ∷ whats) (Err fault)
  onward : {reader : Reader} {what : What} {whats : List What} {end : Result Reader PlanFault} (next : Reader) →
      Steps folder reader what (Ok next) → Runs folder next whats end → Runs folder reader (what ∷ whats) end
