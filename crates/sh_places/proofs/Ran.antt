-- Runs of programs in parts.
use Rattle.std.proofs.Common.{ℕ, suc, ◌+◌, ◌<◌, length, get_or, drop, drop-cons, add-one, ◌≡◌, List, ◌∷◌, Result, Ok, Err, refl, sym, ap, subst, ◌∙◌}
use Rattle.br_path.specs.Gives.{Gives, ◌>>=◌}
use Rattle.tree_worlds.specs.World.{WorldData, both_mapped}
use Rattle.tree_worlds.specs.Program.{Program, Run, run, Ran, go_on}
use Rattle.tree_worlds.specs.declared.reason.Reason.{Reason}
use Rattle.tree_worlds.specs.declared.reason.CommandError.{CommandError}
use Rattle.tree_worlds.specs.declared.reason.CommandError.TheVariants.{Failed, Memory}
use Rattle.sh_places.specs.Parts.{told, attempt, each}

-- 1. Two parts.

-- a fault in the first of two parts is the fault of both
pub ran_err : {A B : Type 0} (first : Run B) (next : B → WorldData → Run A) (error : CommandError) (new : WorldData) → Ran first (Err error) new → Ran (go_on first next) (Err error) new
ran_err first next Memory new is = tt
ran_err first next (Failed reason) new is = ap (λ o. go_on o next) is

-- the first part goes through, and then the second decides
pub ran_on : {A B : Type 0} (first : Run B) (next : B → WorldData → Run A) (value : B) (world new : WorldData) (result : Result A CommandError) → first ≡ Ok (value, world) → Ran (next value world) result new → Ran (go_on first next) result new
ran_on {B = B} first next value world new result is then = subst (λ (o : Run B). Ran (go_on o next) result new) (sym is) then

-- what is left by a run is left by one that is the same
pub ran_same : {A : Type 0} (one other : Run A) (result : Result A CommandError) (new : WorldData) → one ≡ other → Ran one result new → Ran other result new
ran_same {A = A} one other result new same is = subst (λ (o : Run A). Ran o result new) same is

-- a call that gives what is meant runs as the attempt
pub ran_gives : {A : Type 0} (outcome : Result A Reason) (result : Result A CommandError) (world : WorldData) → Gives Memory (told outcome) result → Ran (run (attempt outcome) world) result world
ran_gives (Ok value) (Ok answer) world is = cc
ran_gives (Ok value) (Err Memory) world is = tt
ran_gives {A = A} (Ok value) (Err (Failed reason)) world is =
    let no : ◌≡◌ {A = Result A CommandError} (Ok value) (Err (Failed reason)) = is (λ (same : ◌≡◌ {A = CommandError} (Failed reason) Memory). cc) in cc
ran_gives (Err fault) (Ok answer) world is = cc
ran_gives (Err fault) (Err Memory) world is = tt
ran_gives {A = A} (Err fault) (Err (Failed reason)) world is =
    let yes : ◌≡◌ {A = Result A CommandError} (Err (Failed fault)) (Err (Failed reason)) = is (λ (same : ◌≡◌ {A = CommandError} (Failed reason) Memory). cc) in cc

told_both : {A : Type 0} (outcome : Result A Reason) → both_mapped (λ (value : A). value) Failed outcome ≡ told outcome
told_both (Ok value) = refl
told_both (Err reason) = refl

-- the same of what `told` means for operands
pub ran_both : {A : Type 0} (outcome : Result A Reason) (result : Result A CommandError) (world : WorldData) → Gives Memory (both_mapped (λ (value : A). value) Failed outcome) result → Ran (run (attempt outcome) world) result world
ran_both {A = A} outcome result world is = ran_gives outcome result world (subst (λ (o : Result A CommandError). Gives Memory o result) (told_both outcome) is)

same_value : {B : Type 0} (given value : B) (world : WorldData) → ◌≡◌ {A = Run B} (Ok (given, world)) (Ok (value, world)) → given ≡ value
same_value {B = B} given value world is = let pair : ◌≡◌ {A = B × WorldData} (given, world) (value, world) = cc in ap (λ (p : B × WorldData). p.0) pair

no_value : {B : Type 0} (reason : Reason) (value : B) (world new : WorldData) → ◌≡◌ {A = Run B} (Err (reason, world)) (Ok (value, new)) → ⊥
no_value reason value world new is = cc

no_reason : {B : Type 0} (value : B) (reason : Reason) (world new : WorldData) → ◌≡◌ {A = Run B} (Ok (value, world)) (Err (reason, new)) → ⊥
no_reason value reason world new is = cc

-- a value, and then what comes of it
pub attempt_on : {A B : Type 0} (outcome : Result B Reason) (next : B → Result A Reason) (value : B) (world new : WorldData) (result : Result A CommandError)
    → Ran (run (attempt outcome) world) (Ok value) world → Ran (run (attempt (next value)) world) result new → Ran (run (attempt (outcome >>= next)) world) result new
attempt_on {B = B} (Ok given) next value world new result is then =
    subst (λ (v : B). Ran (run (attempt (next v)) world) result new) (sym (same_value given value world is)) then
attempt_on (Err reason) next value world new result is then = absurd (no_value reason value world world is)

-- no value, and so nothing that comes of it
pub attempt_err : {A B : Type 0} (outcome : Result B Reason) (next : B → Result A Reason) (error : CommandError) (world new : WorldData)
    → Ran (run (attempt outcome) world) (Err error) new → Ran (run (attempt (outcome >>= next)) world) (Err error) new
attempt_err outcome next Memory world new is = tt
attempt_err (Ok given) next (Failed reason) world new is = absurd cc
attempt_err (Err fault) next (Failed reason) world new is = cc

-- what an attempt's run says of its outcome
pub attempt_value : {A : Type 0} (outcome : Result A Reason) (value : A) (world new : WorldData) → ◌≡◌ {A = Run A} (run (attempt outcome) world) (Ok (value, new)) → outcome ≡ Ok value
attempt_value {A = A} (Ok given) value world new is = let pair : ◌≡◌ {A = A × WorldData} (given, world) (value, new) = cc in ap (λ (p : A × WorldData). Ok p.0) pair
attempt_value (Err reason) value world new is = absurd (no_value reason value world new is)

pub attempt_reason : {A : Type 0} (outcome : Result A Reason) (reason : Reason) (world new : WorldData) → ◌≡◌ {A = Run A} (run (attempt outcome) world) (Err (reason, new)) → outcome ≡ Err reason
attempt_reason (Ok given) reason world new is = absurd (no_reason given reason world new is)
attempt_reason (Err fault) reason world new is = let pair : ◌≡◌ {A = Reason × WorldData} (fault, world) (reason, new) = cc in ap (λ (p : Reason × WorldData). Err p.0) pair

-- 2. One program after another, for each of a list.

-- the first goes through, and then the others
pub each_on : {A : Type 0} (program : A → Program (Unit {0})) (item : A) (items all : List A) (world new : WorldData) → all ≡ item ∷ items → run (program item) world ≡ Ok (tt, new) → run (each program all) world ≡ run (each program items) new
each_on {A = A} program item items all world new is done = ap (λ (l : List A). run (each program l) world) is ∙ ap (λ o. go_on o (λ _. run (each program items))) done

-- the first fails
pub each_err : {A : Type 0} (program : A → Program (Unit {0})) (item : A) (items all : List A) (error : CommandError) (world new : WorldData) → all ≡ item ∷ items → Ran (run (program item) world) (Err error) new → Ran (run (each program all) world) (Err error) new
each_err {A = A} program item items all error world new is fails =
    ran_same (run (each program (item ∷ items)) world) (run (each program all) world) (Err error) new (ap (λ (l : List A). run (each program l) world) (sym is))
    (ran_err (run (program item) world) (λ _. run (each program items)) error new fails)

next_item : {A : Type 0} (all : List A) (i : ℕ) (item given : A) → i < length all → item ≡ get_or all i item → given ≡ item → drop i all ≡ given ∷ drop (suc i) all
next_item {A = A} all i item given within is same = drop-cons all i item within ∙ ap (λ (a : A). a ∷ drop (suc i) all) (sym is ∙ sym same)

-- the same in a loop over the list: what is left to do from an item on is the whole
pub each_next : {A : Type 0} (program : A → Program (Unit {0})) (all : List A) (i : ℕ) (item given : A) (world new : WorldData) (whole : Run (Unit {0})) → i < length all → item ≡ get_or all i item → given ≡ item
    → run (each program (drop i all)) world ≡ whole → run (program given) world ≡ Ok (tt, new) → run (each program (drop (i + 1) all)) new ≡ whole
each_next {A = A} program all i item given world new whole within is same left done =
    ap (λ n. run (each program (drop n all)) new) (add-one i) ∙ sym (each_on program given (drop (suc i) all) (drop i all) world new (next_item all i item given within is same) done) ∙ left

pub each_stop : {A : Type 0} (program : A → Program (Unit {0})) (all : List A) (i : ℕ) (item given : A) (error : CommandError) (world new : WorldData) (whole : Run (Unit {0})) → i < length all → item ≡ get_or all i item → given ≡ item
    → run (each program (drop i all)) world ≡ whole → Ran (run (program given) world) (Err error) new → Ran whole (Err error) new
each_stop {A = A} program all i item given error world new whole within is same left fails =
    ran_same (run (each program (drop i all)) world) whole (Err error) new left (each_err program given (drop (suc i) all) (drop i all) error world new (next_item all i item given within is same) fails)
