-- After the files no block is open.
use Rattle.std.proofs.Common.{◌≡◌, ℕ, zero, suc, Bool, true, false, List, [], ◌∷◌, ◌++◌, Option, Some, None, Result, Ok, Err, refl, ap, sym, subst, ◌∙◌}
use Rattle.std.specs.Prelude.{flat_map, codes, nat_lt, ◌+◌, if◌then◌else◌}
use Rattle.std.specs.FinMap as fin
use Rattle.std.specs.Option.{option_map_or}
use Rattle.std.proofs.lemmas.List.Concat.{flat_map-cons}
use Rattle.br_path.specs.Path.{Names, parts as path_parts}
use Rattle.br_path.specs.Files.{FileMap}
use Rattle.kc_text.specs.Lines.{lines}
use Rattle.kc_text.specs.declared.part.Line.{Line}
use Rattle.kc_text.specs.declared.part.Part.{Part}
use Rattle.kc_rows.specs.Row as rows
use Rattle.kc_rows.specs.declared.row.Row.{Row}
use Rattle.kc_rows.specs.declared.row.Row.TheVariants.{Source, Menu, EndMenu, If, EndIf, Choice, EndChoice}
use Rattle.kc_syntax.specs.declared.block.Block.{Block}
use Rattle.kc_syntax.specs.declared.block.Block.TheVariants as kind
use Rattle.kc_syntax.specs.declared.block.Open.{Open}
use Rattle.kc_syntax.specs.declared.block.Owner.TheVariants as owner
use Rattle.kc_syntax.specs.declared.error.KcKind.{KcKind}
use Rattle.kc_syntax.specs.declared.error.KcKind.TheVariants.{NoFile, BadLine, BadString, Loop, TooMany}
use Rattle.kc_syntax.specs.Events.{Event, Sourced, row_at, source_at, file_begins, file_ends, fault_at, row_events, parts_events, line_events, file_events, file_at, is_reading, source_events, all_events, config_in}
use Rattle.kc_syntax.specs.State.{State, start}
use Rattle.kc_syntax.specs.Step.{Outcome, refused, step, source_step, enter_file}
use Rattle.kc_syntax.specs.Reading.{run, ◌>>=◌}
use Rattle.kc_syntax.specs.Grammar.{row_begins, row_ends, begins, ends, behind}
use Rattle.kc_syntax.proofs.Moves.{IsSame, none, some, Moves, stays, opens, closes}
use Rattle.kc_syntax.proofs.Matching.{moved, behind_blocks}
use Rattle.kc_syntax.proofs.Runs.{run_behind, run_fault, run_one}

-- blocks of one file, which is the innermost of those that are read
data IsAbove (base : List Open) : List Open → Type 0 where
  top : (o : Open) → o.block ≡ kind.File → IsAbove base (o ∷ base)
  more : (o : Open) (blocks : List Open) → (o.block ≡ kind.File → ⊥) → IsAbove base blocks → IsAbove base (o ∷ blocks)

above_same : (base a b : List Open) → IsAbove base a → IsSame a b → IsAbove base b
above_same base _ _ (top o is) (some _ p _ e) = top p (sym e ∙ is)
above_same base _ _ (more o blocks other rest) (some _ p _ e) = more p blocks (λ is. other (e ∙ is)) rest

-- the innermost of these goes
inner_gone : (base blocks : List Open) (inner : Open) (outer : List Open) → IsAbove base blocks → blocks ≡ inner ∷ outer → (inner.block ≡ kind.File → ⊥) → IsAbove base outer
inner_gone base _ inner outer (top o is) cut other = let same : o ≡ inner = cc in absurd (other (sym (ap (λ b. b.block) same) ∙ is))
inner_gone base _ inner outer (more o blocks apart rest) cut other = let same : blocks ≡ outer = cc in subst (IsAbove base) same rest

file_gone : (base blocks : List Open) (inner : Open) (outer : List Open) → IsAbove base blocks → blocks ≡ inner ∷ outer → inner.block ≡ kind.File → outer ≡ base
file_gone base _ inner outer (top o is) cut file = cc
file_gone base _ inner outer (more o blocks apart rest) cut file = let same : o ≡ inner = cc in absurd (apart (ap (λ b. b.block) same ∙ file))

shut_blocks : (k : Block) (s t : State) (outer : List Open) → ((r : State) → r.blocks ≡ outer → t ≡ behind k r s) → t.blocks ≡ outer
shut_blocks k s t outer shuts =
    let round : State = record s { blocks = outer } in ap (λ u. u.blocks) (shuts round refl) ∙ behind_blocks k round s

above_step : (base : List Open) (s t : State) (event : Event) → (begins event ≡ Some kind.File → ⊥) → (ends event ≡ Some kind.File → ⊥) → IsAbove base s.blocks → Moves s event t → IsAbove base t.blocks
above_step base s t event no_begin no_end above (stays _ _ same) = above_same base s.blocks t.blocks above same
above_step base s t event no_begin no_end above (opens k inner is cut fits) =
    subst (IsAbove base) (sym cut) (more inner s.blocks (λ file. no_begin (is ∙ ap (λ b. Some b) (sym fits ∙ file))) above)
above_step base s t event no_begin no_end above (closes k inner outer _ is cut fits shuts) =
    subst (IsAbove base) (sym (shut_blocks k s t outer shuts)) (inner_gone base s.blocks inner outer above cut (λ file. no_end (is ∙ ap (λ b. Some b) (sym fits ∙ file))))

above_leave : (base : List Open) (s t : State) (file : Names) → IsAbove base s.blocks → Moves s (file_ends file) t → t.blocks ≡ base
above_leave base s t file above (stays _ no_end _) = absurd (cc)
above_leave base s t file above (opens k inner is cut fits) = absurd (cc)
above_leave base s t file above (closes k inner outer _ is cut fits shuts) =
    let file : kind.File ≡ k = cc in
    shut_blocks k s t outer shuts ∙ file_gone base s.blocks inner outer above cut (fits ∙ sym file)

row_begins_none : (r : Row) → row_begins r ≡ Some kind.File → ⊥
row_begins_none Menu e = cc
row_begins_none (If c) e = cc
row_begins_none Choice e = cc
row_begins_none r e = cc

row_ends_none : (r : Row) → row_ends r ≡ Some kind.File → ⊥
row_ends_none EndMenu e = cc
row_ends_none EndIf e = cc
row_ends_none EndChoice e = cc
row_ends_none r e = cc

-- a run in two pieces
pub data IsSplit (front back : List Event) (s t : State) : Type 0 where
  split : (u : State) → run front s ≡ Ok u → run back u ≡ Ok t → IsSplit front back s t

pub run_split : (front back : List Event) (s t : State) → run (front ++ back) s ≡ Ok t → IsSplit front back s t
run_split front back s t e = by (run front s) refl
  where
    by : (o : Outcome) → run front s ≡ o → IsSplit front back s t
    by (Ok u) is = split u is (sym (run_behind front back s u is) ∙ e)
    by (Err fault) is = let stop : run (front ++ back) s ≡ Err fault = run_fault front back s fault is in absurd (cc)

never_fault : (file : Names) (line : ℕ) (k : KcKind) (s t : State) → run (fault_at file line k ∷ []) s ≡ Ok t → ⊥
unfolding step
never_fault file line k s t e = cc

-- source lines leave the blocks as they are
abbrev KeepsBlocks : Sourced → Type 0
KeepsBlocks sourced = (file : Names) (line : ℕ) (path : List ℕ) (s t : State) → run (sourced file line path) s ≡ Ok t → t.blocks ≡ s.blocks

module _ (sourced : Sourced) (keeps : KeepsBlocks sourced) (file : Names) (base : List Open) where
  above_plain : (line : ℕ) (r : Row) (s t : State) → run (row_at file line r ∷ []) s ≡ Ok t → IsAbove base s.blocks → IsAbove base t.blocks
  above_plain line r s t e above =
      above_step base s t (row_at file line r) (row_begins_none r) (row_ends_none r) above (moved s t (row_at file line r) (sym (run_one (row_at file line r) s) ∙ e))

  above_row : (line : ℕ) (r : Row) (s t : State) → run (row_events sourced file line r) s ≡ Ok t → IsAbove base s.blocks → IsAbove base t.blocks
  above_row line (Source path) s t e above = subst (IsAbove base) (sym (keeps file line path s t e)) above
  above_row line r s t e above = above_plain line r s t e above

  above_parts : (line : ℕ) (found : Option Row) (s t : State) → run (option_map_or (row_events sourced file line) found (fault_at file line BadLine ∷ [])) s ≡ Ok t → IsAbove base s.blocks → IsAbove base t.blocks
  above_parts line None s t e above = absurd (never_fault file line BadLine s t e)
  above_parts line (Some r) s t e above = above_row line r s t e above

  above_line : (line : ℕ) (parts : Option (List Part)) (s t : State) → run (option_map_or (parts_events sourced file line) parts (fault_at file line BadString ∷ [])) s ≡ Ok t → IsAbove base s.blocks → IsAbove base t.blocks
  above_line line None s t e above = absurd (never_fault file line BadString s t e)
  above_line line (Some parts) s t e above = above_parts line (rows.row parts) s t e above

  above_more : (line : Line) (back : List Event) (s t : State) → IsAbove base s.blocks → ((u : State) → run back u ≡ Ok t → IsAbove base u.blocks → IsAbove base t.blocks) → IsSplit (line_events sourced file line) back s t → IsAbove base t.blocks
  above_more line back s t above rest (split u first behind_it) =
      rest u behind_it (above_line line.number line.parts s u first above)

  above_lines : (all : List Line) (s t : State) → run (flat_map (line_events sourced file) all) s ≡ Ok t → IsAbove base s.blocks → IsAbove base t.blocks
  above_lines [] s t e above = let same : s ≡ t = cc in subst (λ u. IsAbove base u.blocks) same above
  above_lines (line ∷ all) s t e above =
      above_more line (flat_map (line_events sourced file) all) s t above (λ u. above_lines all u t)
      (run_split (line_events sourced file line) (flat_map (line_events sourced file) all) s t
      (ap (λ es. run es s) (sym (flat_map-cons (line_events sourced file) line all)) ∙ e))

-- so does a file
keeps_file : (sourced : Sourced) → KeepsBlocks sourced → (file : Names) (bytes : List ℕ) (s t : State) → run (file_events sourced file bytes) s ≡ Ok t → t.blocks ≡ s.blocks
unfolding file_events step
keeps_file sourced keeps file bytes s t e =
    by (run_split (flat_map (line_events sourced file) (lines bytes)) (file_ends file ∷ []) (enter_file s) t e)
  where
    by : IsSplit (flat_map (line_events sourced file) (lines bytes)) (file_ends file ∷ []) (enter_file s) t → t.blocks ≡ s.blocks
    by (split u body end) =
        above_leave s.blocks u t file (above_lines sourced keeps file s.blocks (lines bytes) (enter_file s) u body (top _ refl))
        (moved u t (file_ends file) (sym (run_one (file_ends file) u) ∙ end))

source_blocks : (s u : State) (file : Names) (line : ℕ) → source_step s file line ≡ Ok u → u.blocks ≡ s.blocks
source_blocks s u file line e = by (nat_lt s.sources 65536) e
  where
    counted : State
    counted = record s { owner = owner.Nobody; sources = s.sources + 1 }

    by : (b : Bool) → (if b then Ok counted else refused file line TooMany) ≡ Ok u → u.blocks ≡ s.blocks
    by true e = let same : counted ≡ u = cc in ap (λ r. r.blocks) (sym same)
    by false e = absurd (cc)

keeps_counted : (file : Names) (line : ℕ) (back : List Event) (s t : State) → ((u : State) → run back u ≡ Ok t → t.blocks ≡ u.blocks) → run (source_at file line ∷ back) s ≡ Ok t → t.blocks ≡ s.blocks
unfolding step
keeps_counted file line back s t rest e = by (source_step s file line) refl e
  where
    by : (o : Outcome) → source_step s file line ≡ o → (o >>= run back) ≡ Ok t → t.blocks ≡ s.blocks
    by (Ok u) is e = rest u e ∙ source_blocks s u file line is
    by (Err fault) is e = absurd (cc)

keeps_here : (found : Option (List ℕ)) (file : Names) (line : ℕ) (k : KcKind) (f : List ℕ → List Event) (s t : State) → ((bytes : List ℕ) → run (f bytes) s ≡ Ok t → t.blocks ≡ s.blocks) → run (option_map_or f found (fault_at file line k ∷ [])) s ≡ Ok t → t.blocks ≡ s.blocks
keeps_here None file line k f s t rest e = absurd (never_fault file line k s t e)
keeps_here (Some bytes) file line k f s t rest e = rest bytes e

keeps_once : (b : Bool) (file : Names) (line : ℕ) (back : List Event) (s t : State) → (run back s ≡ Ok t → t.blocks ≡ s.blocks) → run (if b then fault_at file line Loop ∷ [] else back) s ≡ Ok t → t.blocks ≡ s.blocks
keeps_once true file line back s t rest e = absurd (never_fault file line Loop s t e)
keeps_once false file line back s t rest e = rest e

-- and so do source lines, whatever they stand for
keeps_sources : (depth : ℕ) (files : FileMap) (reading : List Names) → KeepsBlocks (source_events depth files reading)
unfolding source_events
keeps_sources zero files reading file line path s t e =
    keeps_here (file_at files path) file line NoFile _ s t (λ bytes e. absurd (never_fault file line BadLine s t e)) e
keeps_sources (suc depth) files reading file line path s t e =
    keeps_here (file_at files path) file line NoFile _ s t
    (λ bytes. keeps_once (is_reading reading (path_parts path)) file line _ s t
    (keeps_counted file line _ s t
    (λ u. keeps_file (source_events depth files (reading ++ path_parts path ∷ [])) (keeps_sources depth files (reading ++ path_parts path ∷ [])) (path_parts path) bytes u t)))
    e

-- after all files no block is open
pub all_closed : (files : FileMap) (t : State) → run (all_events files) start ≡ Ok t → t.blocks ≡ []
unfolding all_events
all_closed files t e =
    keeps_here (fin.get files config_in) config_in 0 NoFile _ start t (λ bytes. keeps_file (source_events 64 files (config_in ∷ [])) (keeps_sources 64 files (config_in ∷ [])) config_in bytes start t) e
