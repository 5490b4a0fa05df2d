-- A text that grows, with the cost so far.
use Rattle.std.specs.Prelude.{◌≡◌, ◌≢◌, ℕ, ◌+◌, ◌-◌, nat_le, nat_lt, List, ◌++◌, length, Result, Ok, Err, if◌then◌else◌}
use Rattle.mk_expand.specs.declared.fault.ExpandFault.{ExpandFault}
use Rattle.mk_expand.specs.declared.fault.ExpandFault.TheVariants.{TooCostly, Memory}

-- the most that one expansion may cost
abbrev pub cost_limit : ℕ
cost_limit = 1048576

-- a text and what it cost
abbrev pub State : Type 0
State = List ℕ × ℕ

-- a step that may fail, and what comes next
infixl 10 ◌>>=◌
abbrev pub ◌>>=◌ : {S T : Type 0} → Result S ExpandFault → (S → Result T ExpandFault) → Result T ExpandFault
Ok s >>= next = next s
Err fault >>= next = Err fault

-- one more of cost
abbrev pub pay : State → Result State ExpandFault
pay s = if nat_lt s.1 cost_limit then Ok (s.0, s.1 + 1) else Err TooCostly

-- bytes at the end, each of which costs 1
abbrev pub put : List ℕ → State → Result State ExpandFault
put bytes s = if nat_le (length bytes) (cost_limit - s.1) then Ok (s.0 ++ bytes, s.1 + length bytes) else Err TooCostly

-- what was made apart, at the cost so far, put at the end
abbrev pub put_apart : State → State → Result State ExpandFault
put_apart s apart = put apart.0 (s.0, apart.1)

-- an answer of the code is that of a definition, but that out of memory may be answered whatever there is
abbrev pub IsRun : {A : Type 0} → Result State ExpandFault → Result A ExpandFault → State → Type 0
IsRun run (Ok done) new = run ≡ Ok new
IsRun run (Err fault) new = fault ≢ Memory → run ≡ Err fault

-- the same for an answer that holds a value beside the state
abbrev pub IsGiven : {A : Type 0} → Result (A × State) ExpandFault → Result A ExpandFault → State → Type 0
IsGiven run (Ok value) new = run ≡ Ok (value, new)
IsGiven run (Err fault) new = fault ≢ Memory → run ≡ Err fault

-- the same for one that adds to a list of values
abbrev pub IsAdded : {A : Type 0} → Result (List (List ℕ) × State) ExpandFault → Result A ExpandFault → List (List ℕ) → State → Type 0
IsAdded run (Ok done) values new = run ≡ Ok (values, new)
IsAdded run (Err fault) values new = fault ≢ Memory → run ≡ Err fault
