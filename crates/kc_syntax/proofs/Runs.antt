-- Runs over what is met, piece by piece.
use Rattle.std.proofs.Common.{◌≡◌, ℕ, zero, suc, ◌+◌, Bool, true, false, ◌<◌, List, [], ◌∷◌, ◌++◌, length, get_or, drop, Option, Some, None, Result, Ok, Err, refl, ap, sym, subst, ◌∙◌, arith, add-one, drop-cons}
use Rattle.std.proofs.lemmas.List.Concat.{flat_map-cons}
use Rattle.std.specs.Prelude.{flat_map}
use Rattle.br_path.specs.Path.{Names}
use Rattle.kc_text.specs.Lines.{lines}
use Rattle.kc_text.specs.declared.part.Line.{Line}
use Rattle.kc_text.specs.declared.part.Part.{Part}
use Rattle.kc_rows.specs.Row.{row}
use Rattle.kc_rows.specs.declared.row.Row.{Row}
use Rattle.kc_rows.specs.declared.row.Row.TheVariants.{Source}
use Rattle.kc_syntax.specs.declared.error.KcError.{KcError}
use Rattle.kc_syntax.specs.declared.error.KcError.TheVariants.{Fault, Memory}
use Rattle.kc_syntax.specs.declared.error.KcFault.{KcFault}
use Rattle.kc_syntax.specs.declared.error.KcKind.{KcKind}
use Rattle.kc_syntax.specs.declared.error.KcKind.TheVariants.{BadLine, BadString}
use Rattle.kc_syntax.specs.Fault.{IsFault}
use Rattle.kc_syntax.specs.Events.{Event, Sourced, row_at, source_at, file_begins, file_ends, fault_at, row_events, line_events, file_events}
use Rattle.kc_syntax.specs.State.{State}
use Rattle.kc_syntax.specs.Step.{Outcome, step, row_step, source_step, enter_file, leave_file}
use Rattle.kc_syntax.specs.Reading.{run, ◌>>=◌}
use Rattle.kc_syntax.specs.Shown.{Follows, Fails}

-- where what follows a step is as it should be, so is the whole
then_on : (outcome : Outcome) (f g : State → Outcome) (wanted whole : Outcome) → ((u : State) → f u ≡ wanted → g u ≡ whole) → ((fault : KcFault) → Err fault ≡ wanted → Err fault ≡ whole) → (outcome >>= f) ≡ wanted → (outcome >>= g) ≡ whole
then_on (Ok u) f g wanted whole on off e = on u e
then_on (Err fault) f g wanted whole on off e = off fault e

-- what comes after a front
pub run_behind : (front back : List Event) (s t : State) → run front s ≡ Ok t → run (front ++ back) s ≡ run back t
run_behind [] back s t e = let same : s ≡ t = cc in ap (run back) same
run_behind (event ∷ front) back s t e =
    then_on (step s event) (run front) (run (front ++ back)) (Ok t) (run back t) (λ u. run_behind front back u t) (λ fault no. cc) e

-- a fault of a front is that of the whole
pub run_fault : (front back : List Event) (s : State) (fault : KcFault) → run front s ≡ Err fault → run (front ++ back) s ≡ Err fault
run_fault [] back s fault e = cc
run_fault (event ∷ front) back s fault e =
    then_on (step s event) (run front) (run (front ++ back)) (Err fault) (Err fault) (λ u. run_fault front back u fault) (λ other same. same) e

-- one event alone
pub run_one : (event : Event) (s : State) → run (event ∷ []) s ≡ step s event
run_one event s = alone (step s event)
  where
    alone : (outcome : Outcome) → (outcome >>= run []) ≡ outcome
    alone (Ok u) = refl
    alone (Err fault) = refl

-- a line that is at fault whatever stands before it
pub fails_at : (file : Names) (line : ℕ) (kind : KcKind) (s : State) (error : KcError) → IsFault (record { file = file; line = line; kind = kind }) error → Fails (run (fault_at file line kind ∷ []) s) error
unfolding step
fails_at file line kind s (Fault fault) e = ap (λ f. Err f) (sym e)
fails_at file line kind s Memory e = tt

-- a line that stands for itself
pub follows_row : (file : Names) (line : ℕ) (r : Row) (s new : State) (result : Result Unit KcError) → Follows (row_step s file line r) result new → Follows (run (row_at file line r ∷ []) s) result new
unfolding step
follows_row file line r s new result h = rw (run_one (row_at file line r) s) h

-- rows but the source line stand for themselves
pub row_events_plain : (sourced : Sourced) (file : Names) (line : ℕ) (r : Row) → ((path : List ℕ) → r ≡ Source path → ⊥) → row_events sourced file line r ≡ row_at file line r ∷ []
row_events_plain sourced file line (Source path) other = absurd (other path refl)
row_events_plain sourced file line r other = refl

-- a front at fault
fails_front : (front back : List Event) (s : State) (error : KcError) → Fails (run front s) error → Fails (run (front ++ back) s) error
fails_front front back s (Fault fault) e = run_fault front back s fault e
fails_front front back s Memory e = tt

-- what comes after a front that is fine
follows_back : (front back : List Event) (s t new : State) (result : Result Unit KcError) → run front s ≡ Ok t → Follows (run back t) result new → Follows (run (front ++ back) s) result new
follows_back front back s t new result e h = rw (run_behind front back s t e) h

-- the lines of a file that begins
abbrev inside : Sourced → Names → List Line → State → Outcome
inside sourced file all begun = run (flat_map (line_events sourced file) all) begun

inside_same : (sourced : Sourced) (file : Names) (bytes : List ℕ) (all : List Line) (s begun : State) → all ≡ lines bytes → begun ≡ enter_file s → inside sourced file all begun ≡ inside sourced file (lines bytes) (enter_file s)
inside_same sourced file bytes all s begun cut entered = rw (cut, entered) refl

-- a file whose lines are at fault
pub file_fault : (sourced : Sourced) (file : Names) (bytes : List ℕ) (all : List Line) (s begun : State) (error : KcError) → all ≡ lines bytes → begun ≡ enter_file s → Fails (inside sourced file all begun) error → Fails (run (file_events sourced file bytes) s) error
unfolding step file_events
file_fault sourced file bytes all s begun error cut entered h =
    fails_front (flat_map (line_events sourced file) (lines bytes)) (file_ends file ∷ []) (enter_file s) error
    (rw (inside_same sourced file bytes all s begun cut entered) at h)

-- a file whose lines are fine
pub file_end : (sourced : Sourced) (file : Names) (bytes : List ℕ) (all : List Line) (s begun t new : State) (result : Result Unit KcError) → all ≡ lines bytes → begun ≡ enter_file s → inside sourced file all begun ≡ Ok t → Follows (leave_file t file t.blocks) result new → Follows (run (file_events sourced file bytes) s) result new
unfolding step file_events
file_end sourced file bytes all s begun t new result cut entered e h =
    follows_back (flat_map (line_events sourced file) (lines bytes)) (file_ends file ∷ []) (enter_file s) t new result
    (sym (inside_same sourced file bytes all s begun cut entered) ∙ e)
    (rw (run_one (file_ends file) t) h)

-- a line whose quotes don't close, and one that is of no row
pub line_string : (sourced : Sourced) (file : Names) (line : Line) (s : State) (error : KcError) → line.parts ≡ None → IsFault (record { file = file; line = line.number; kind = BadString }) error → Fails (run (line_events sourced file line) s) error
line_string sourced file line s error none h =
    let same : line_events sourced file line ≡ fault_at file line.number BadString ∷ [] = rw none refl in
    rw same (fails_at file line.number BadString s error h)

pub line_none : (sourced : Sourced) (file : Names) (line : Line) (parts : List Part) (s : State) (error : KcError) → line.parts ≡ Some parts → row parts ≡ None → IsFault (record { file = file; line = line.number; kind = BadLine }) error → Fails (run (line_events sourced file line) s) error
line_none sourced file line parts s error some none h =
    let same : line_events sourced file line ≡ fault_at file line.number BadLine ∷ [] = rw (some, none) refl in
    rw same (fails_at file line.number BadLine s error h)

-- lines in turn: one of them is at fault, or is read
module _ {X : Type 0} (events : X → List Event) where
  lines_cut : (all : List X) (i : ℕ) (x : X) → i < length all → x ≡ get_or all i x → flat_map events (drop i all) ≡ events x ++ flat_map events (drop (i + 1) all)
  lines_cut all i x within is =
      let cut : drop i all ≡ x ∷ drop (i + 1) all = rw (add-one, drop-cons all i x within, ← is) refl in
      ap (flat_map events) cut ∙ flat_map-cons events x (drop (i + 1) all)

  pub lines_fault : (all : List X) (i : ℕ) (x : X) (first s : State) (error : KcError) → i < length all → x ≡ get_or all i x → run (flat_map events (drop i all)) s ≡ run (flat_map events all) first → Fails (run (events x) s) error → Fails (run (flat_map events all) first) error
  lines_fault all i x first s error within is left h =
      let same : run (events x ++ flat_map events (drop (i + 1) all)) s ≡ run (flat_map events all) first =
      ap (λ es. run es s) (sym (lines_cut all i x within is)) ∙ left in
      subst (λ (o : Outcome). Fails o error) same (fails_front (events x) (flat_map events (drop (i + 1) all)) s error h)

  pub lines_next : (all : List X) (i : ℕ) (x : X) (first s t : State) → i < length all → x ≡ get_or all i x → run (flat_map events (drop i all)) s ≡ run (flat_map events all) first → run (events x) s ≡ Ok t → run (flat_map events (drop (i + 1) all)) t ≡ run (flat_map events all) first
  lines_next all i x first s t within is left e =
      sym (run_behind (events x) (flat_map events (drop (i + 1) all)) s t e) ∙ ap (λ es. run es s) (sym (lines_cut all i x within is)) ∙ left
