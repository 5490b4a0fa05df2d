-- What is read whole, and fronts, are what a run goes through.
use Rattle.std.proofs.Common.{◌≡◌, ℕ, Bool, true, false, List, [], ◌∷◌, ◌++◌, Option, Some, None, Result, Ok, Err, refl, ap, sym, subst, ◌∙◌, append_assoc}
use Rattle.std.specs.Prelude.{if◌then◌else◌}
use Rattle.std.proofs.lemmas.List.{append-nil}
use Rattle.br_path.specs.Path.{Names}
use Rattle.kc_rows.specs.declared.row.Row.{Row}
use Rattle.kc_rows.specs.declared.row.Row.TheVariants.{EndMenu, EndIf, EndChoice}
use Rattle.kc_syntax.specs.declared.block.Block.{Block}
use Rattle.kc_syntax.specs.declared.block.Block.TheVariants as kind
use Rattle.kc_syntax.specs.declared.block.Open.{Open}
use Rattle.kc_syntax.specs.declared.block.Owner.TheVariants as owner
use Rattle.kc_syntax.specs.declared.error.KcFault.{KcFault}
use Rattle.kc_syntax.specs.declared.error.KcKind.TheVariants.{OpenBlock}
use Rattle.kc_syntax.specs.Events.{Event, row_at, source_at, file_begins, file_ends, fault_at}
use Rattle.kc_syntax.specs.State.{State, start, is_file, outer_of, first_line}
use Rattle.kc_syntax.specs.Step.{Outcome, refused, end_block, is_inside, same_block, leave_file, step}
use Rattle.kc_syntax.specs.Reading.{run, ◌>>=◌}
use Rattle.kc_syntax.specs.Grammar.{begins, row_ends, ends, behind, IsRead, nothing, line, block, IsFront, whole, inside}
use Rattle.kc_syntax.proofs.Moves.{IsSame, none, some, Moves, stays, opens, closes, MovesTo, moves_step}
use Rattle.kc_syntax.proofs.Runs.{run_behind}

-- what a line does to the blocks, where it is allowed
pub moved : (s t : State) (event : Event) → step s event ≡ Ok t → Moves s event t
moved s t event e = subst (MovesTo s event) e (moves_step s event)

same_blocks : (blocks : List Open) → IsSame blocks blocks
same_blocks [] = none
same_blocks (inner ∷ outer) = some inner inner outer refl

same_twice : (a b c : List Open) → IsSame a b → IsSame b c → IsSame a c
same_twice _ _ _ none none = none
same_twice _ _ _ (some o p outer e) (some _ r _ f) = some o r outer (e ∙ f)

pub behind_blocks : (which : Block) (s u : State) → (behind which s u).blocks ≡ s.blocks
behind_blocks kind.Menu s u = refl
behind_blocks kind.If s u = refl
behind_blocks kind.Choice s u = refl
behind_blocks kind.File s u = refl

plain_same : (s t : State) (event : Event) → begins event ≡ None → ends event ≡ None → Moves s event t → IsSame s.blocks t.blocks
plain_same s t event no_begin no_end (stays _ _ same) = same
plain_same s t event no_begin no_end (opens k inner is cut fits) = absurd (cc)
plain_same s t event no_begin no_end (closes k inner outer is_none is cut fits shuts) = absurd (cc)

-- after what is read whole the same blocks are open
read_same : (s t : State) (events : List Event) → IsRead s events t → IsSame s.blocks t.blocks
read_same _ _ _ (nothing s) = same_blocks s.blocks
read_same _ _ _ (line s t u event events no_begin no_end e rest) =
    same_twice s.blocks t.blocks u.blocks (plain_same s t event no_begin no_end (moved s t event e)) (read_same t u events rest)
read_same _ _ _ (block s t u v which first last within events is_begin is_end e inner rest) =
    subst (λ bs. IsSame bs v.blocks) (behind_blocks which s u) (read_same (behind which s u) v events rest)

-- the blocks inside of a block
data IsInside (which : Block) (outer blocks : List Open) : Type 0 where
  at : (inner : Open) → blocks ≡ inner ∷ outer → inner.block ≡ which → IsInside which outer blocks

begun_inside : (which : Block) (s t : State) (event : Event) → begins event ≡ Some which → Moves s event t → IsInside which s.blocks t.blocks
begun_inside which s t event is (stays no_begin _ same) = absurd (cc)
begun_inside which s t event is (opens k inner is_k cut fits) = let same : k ≡ which = cc in at inner cut (fits ∙ same)
begun_inside which s t event is (closes k inner outer no_begin is_end cut fits shuts) = absurd (cc)

same_inside : (which : Block) (outer a b : List Open) → IsInside which outer a → IsSame a b → IsInside which outer b
same_inside which outer _ _ (at inner cut fits) none = absurd (cc)
same_inside which outer _ _ (at inner cut fits) (some o p rest e) =
    let front : o ≡ inner = cc in let back : rest ≡ outer = cc in
    at p (ap (λ bs. p ∷ bs) back) (sym e ∙ ap (λ b. b.block) front ∙ fits)

same_block-refl : (k : Block) → same_block k k ≡ true
same_block-refl kind.Menu = refl
same_block-refl kind.If = refl
same_block-refl kind.Choice = refl
same_block-refl kind.File = refl

end_fits : (u : State) (file : Names) (number : ℕ) (k : Block) (outer : List Open) → IsInside k outer u.blocks → end_block u file number k ≡ Ok (record u { blocks = outer; owner = owner.Nobody })
end_fits u file number k outer (at inner cut fits) =
    let closed : List Open → Outcome = λ bs. if is_inside bs k then Ok (record u { blocks = outer_of bs; owner = owner.Nobody }) else refused file number OpenBlock in
    let fit : same_block inner.block k ≡ true = ap (λ b. same_block b k) fits ∙ same_block-refl k in
    let shut : Outcome = Ok (record u { blocks = outer; owner = owner.Nobody }) in
    ap closed cut ∙ ap (λ b. if b then shut else refused file number OpenBlock) fit

leave_fits : (u : State) (file : Names) (outer : List Open) → IsInside kind.File outer u.blocks → leave_file u file u.blocks ≡ Ok (record u { blocks = outer })
leave_fits u file outer (at inner cut fits) =
    let shut : Outcome = Ok (record u { blocks = outer }) in
    ap (leave_file u file) cut ∙ ap (λ b. if is_file b then shut else refused file (first_line inner.line outer) OpenBlock) fits

row_end : (u s : State) (file : Names) (number : ℕ) (row : Row) (which : Block) → row_ends row ≡ Some which → IsInside which s.blocks u.blocks → step u (row_at file number row) ≡ Ok (behind which s u)
unfolding step
row_end u s file number EndMenu kind.Menu e within = end_fits u file number kind.Menu s.blocks within
row_end u s file number EndIf kind.If e within = end_fits u file number kind.If s.blocks within
row_end u s file number EndChoice kind.Choice e within = end_fits u file number kind.Choice s.blocks within
row_end u s file number row which e within = absurd (cc)

-- the last line of a block that is open
end_step : (u s : State) (event : Event) (which : Block) → ends event ≡ Some which → IsInside which s.blocks u.blocks → step u event ≡ Ok (behind which s u)
unfolding step
end_step u s (row_at file number row) which e within = row_end u s file number row which e within
end_step u s (file_ends file) kind.File e within = leave_fits u file s.blocks within
end_step u s event which e within = absurd (cc)

-- a run goes through what is read whole
pub read_run : (s t : State) (events : List Event) → IsRead s events t → run events s ≡ Ok t
read_run _ _ _ (nothing s) = refl
read_run _ _ _ (line s t u event events no_begin no_end e rest) = ap (λ o. o >>= run events) e ∙ read_run t u events rest
read_run _ _ _ (block s t u v which first last within events is_begin is_end e inner rest) =
    let open_inside : IsInside which s.blocks u.blocks = same_inside which s.blocks t.blocks u.blocks (begun_inside which s t first is_begin (moved s t first e)) (read_same t u within inner) in
    ap (λ o. o >>= run (within ++ last ∷ events)) e
    ∙ run_behind within (last ∷ events) t u (read_run t u within inner)
    ∙ ap (λ o. o >>= run events) (end_step u s last which is_end open_inside)
    ∙ read_run (behind which s u) v events rest

-- two in a row
read_append : (s t u : State) (events more : List Event) → IsRead s events t → IsRead t more u → IsRead s (events ++ more) u
read_append _ _ u _ more (nothing s) other = other
read_append _ _ v _ more (line s t u event events no_begin no_end e rest) other = line s t v event (events ++ more) no_begin no_end e (read_append t u v events more rest other)
read_append _ _ w _ more (block s t u v which first last within events is_begin is_end e inner rest) other =
    subst (λ es. IsRead s (first ∷ es) w) (sym (append_assoc within (last ∷ events) more))
    (block s t u w which first last within (events ++ more) is_begin is_end e inner (read_append (behind which s u) v w events more rest other))

-- a front grows by what is read whole
grow : (front : List Event) (s t : State) (more : List Event) → IsFront front s → IsRead s more t → IsFront (front ++ more) t
grow _ _ t more (whole events s read) other = whole (events ++ more) t (read_append start s t events more read other)
grow _ _ v more (inside front s t u which first events rest is_begin e read) other =
    subst (λ es. IsFront es v) (sym (append_assoc front (first ∷ events) more))
    (inside front s t v which first (events ++ more) rest is_begin e (read_append t u v events more read other))

-- and by a line that is allowed
module _ (t : State) (event : Event) where
  close : (front : List Event) (s : State) (k : Block) (inner : Open) (outer : List Open) → ends event ≡ Some k → s.blocks ≡ inner ∷ outer → inner.block ≡ k → ((r : State) → r.blocks ≡ outer → t ≡ behind k r s) → IsFront front s → IsFront (front ++ event ∷ []) t
  close _ _ k inner outer is_end cut fits shuts (whole events s read) = absurd (empty (read_same start s events read))
    where
      empty : IsSame [] s.blocks → ⊥
      empty same = nowhere s.blocks same cut
        where
          nowhere : (bs : List Open) → IsSame [] bs → bs ≡ inner ∷ outer → ⊥
          nowhere _ none e = cc
  close _ _ k inner outer is_end cut fits shuts (inside front r r' s which first events rest is_begin e read) =
      by (same_inside which r.blocks r'.blocks s.blocks (begun_inside which r r' first is_begin (moved r r' first e)) (read_same r' s events read))
    where
      by : IsInside which r.blocks s.blocks → IsFront ((front ++ first ∷ events) ++ event ∷ []) t
      by (at other cut_other fits_other) =
          let same : other ≡ inner = cc in
          let round : r.blocks ≡ outer = cc in
          let kinds : which ≡ k = sym fits_other ∙ ap (λ b. b.block) same ∙ fits in
          let last : behind which r s ≡ t = ap (λ w. behind w r s) kinds ∙ sym (shuts r round) in
          let read_block : IsRead r (first ∷ (events ++ event ∷ [])) (behind which r s) =
          block r r' s (behind which r s) which first event events [] is_begin (is_end ∙ ap (λ w. Some w) (sym kinds)) e read (nothing (behind which r s)) in
          subst (λ es. IsFront es t) (sym (append_assoc front (first ∷ events) (event ∷ [])))
          (grow front r t (first ∷ (events ++ event ∷ [])) rest (subst (IsRead r (first ∷ (events ++ event ∷ []))) last read_block))

  extend : (front : List Event) (s : State) → IsFront front s → step s event ≡ Ok t → Moves s event t → IsFront (front ++ event ∷ []) t
  extend front s is_front e (stays no_begin no_end same) =
      grow front s t (event ∷ []) is_front (line s t t event [] no_begin no_end e (nothing t))
  extend front s is_front e (opens k inner is_begin cut fits) = inside front s t t k event [] is_front is_begin e (nothing t)
  extend front s is_front e (closes k inner outer no_begin is_end cut fits shuts) = close front s k inner outer is_end cut fits shuts is_front

-- a run that is fine is a front
module _ (event : Event) (events front : List Event) (s t : State) where
  goes_more : (o : Outcome) → IsFront front s → step s event ≡ o → ((u : State) → IsFront (front ++ event ∷ []) u → run events u ≡ Ok t → IsFront ((front ++ event ∷ []) ++ events) t) → (o >>= run events) ≡ Ok t → IsFront (front ++ event ∷ events) t
  goes_more (Ok u) is_front e rest goes =
      subst (λ es. IsFront es t) (append_assoc front (event ∷ []) events) (rest u (extend u event front s is_front e (moved s u event e)) goes)
  goes_more (Err fault) is_front e rest goes = absurd (cc)

pub goes_on : (events front : List Event) (s t : State) → IsFront front s → run events s ≡ Ok t → IsFront (front ++ events) t
goes_on [] front s t is_front e =
    let same : s ≡ t = cc in subst (λ es. IsFront es t) (sym (append-nil front)) (subst (IsFront front) same is_front)
goes_on (event ∷ events) front s t is_front e =
    goes_more event events front s t (step s event) is_front refl (λ u grown. goes_on events (front ++ event ∷ []) u t grown) e

-- and a front is a run that is fine
pub front_run : (events : List Event) (s : State) → IsFront events s → run events start ≡ Ok s
front_run _ _ (whole events s read) = read_run start s events read
front_run _ _ (inside front s t u which first events rest is_begin e read) =
    run_behind front (first ∷ events) start s (front_run front s rest) ∙ ap (λ o. o >>= run events) e ∙ read_run t u events read

-- a front after which no block is open is read whole
pub front_whole : (events : List Event) (s : State) → IsFront events s → s.blocks ≡ [] → IsRead start events s
front_whole _ _ (whole events s read) none_open = read
front_whole _ _ (inside front s t u which first events rest is_begin e read) none_open =
    absurd (no_inside (same_inside which s.blocks t.blocks u.blocks (begun_inside which s t first is_begin (moved s t first e)) (read_same t u events read)))
  where
    no_inside : IsInside which s.blocks u.blocks → ⊥
    no_inside (at inner cut fits) = let e : [] ≡ inner ∷ s.blocks = sym none_open ∙ cut in cc

-- a fault of a run is that of a line after a front
pub data IsCut (events : List Event) (fault : KcFault) : Type 0 where
  cut : (front back : List Event) (event : Event) (s : State) → events ≡ front ++ event ∷ back → IsFront front s → step s event ≡ Err fault → IsCut events fault

module _ (event : Event) (events front : List Event) (s : State) (fault : KcFault) where
  stops_more : (o : Outcome) → IsFront front s → step s event ≡ o → ((u : State) → IsFront (front ++ event ∷ []) u → run events u ≡ Err fault → IsCut ((front ++ event ∷ []) ++ events) fault) → (o >>= run events) ≡ Err fault → IsCut (front ++ event ∷ events) fault
  stops_more (Ok u) is_front e rest goes =
      subst (λ es. IsCut es fault) (append_assoc front (event ∷ []) events) (rest u (extend u event front s is_front e (moved s u event e)) goes)
  stops_more (Err other) is_front e rest goes = let same : step s event ≡ Err fault = cc in cut front events event s refl is_front same

pub stops : (events front : List Event) (s : State) (fault : KcFault) → IsFront front s → run events s ≡ Err fault → IsCut (front ++ events) fault
stops [] front s fault is_front e = absurd (cc)
stops (event ∷ events) front s fault is_front e =
    stops_more event events front s fault (step s event) is_front refl (λ u grown. stops events (front ++ event ∷ []) u fault grown) e

pub cut_run : (events front back : List Event) (event : Event) (s : State) (fault : KcFault) → events ≡ front ++ event ∷ back → IsFront front s → step s event ≡ Err fault → run events start ≡ Err fault
cut_run events front back event s fault apart is_front e =
    ap (λ es. run es start) apart ∙ run_behind front (event ∷ back) start s (front_run front s is_front) ∙ ap (λ o. o >>= run back) e

-- a line that ends an open block, of whatever file
last_of : Block → Event
last_of kind.Menu = row_at [] 0 EndMenu
last_of kind.If = row_at [] 0 EndIf
last_of kind.Choice = row_at [] 0 EndChoice
last_of kind.File = file_ends []

last_ends : (k : Block) → ends (last_of k) ≡ Some k
unfolding last_of
last_ends kind.Menu = refl
last_ends kind.If = refl
last_ends kind.Choice = refl
last_ends kind.File = refl

-- how a front goes on until it is whole
pub data GoesOn (front : List Event) : Type 0 where
  goes : (back : List Event) (end : State) → IsRead start (front ++ back) end → GoesOn front

goes_before : (front : List Event) (event : Event) → GoesOn (front ++ event ∷ []) → GoesOn front
goes_before front event (goes back end read) = goes (event ∷ back) end (subst (λ es. IsRead start es end) (append_assoc front (event ∷ []) back) read)

pub onward : (blocks : List Open) (front : List Event) (s : State) → IsFront front s → s.blocks ≡ blocks → GoesOn front
onward [] front s is_front none_open =
    goes [] s (subst (λ es. IsRead start es s) (sym (append-nil front)) (front_whole front s is_front none_open))
onward (inner ∷ outer) front s is_front apart =
    let round : State = record s { blocks = outer } in
    let event : Event = last_of inner.block in
    let e : step s event ≡ Ok (behind inner.block round s) = end_step s round event inner.block (last_ends inner.block) (at inner apart refl) in
    goes_before front event
    (onward outer (front ++ event ∷ []) (behind inner.block round s)
    (extend (behind inner.block round s) event front s is_front e (moved s (behind inner.block round s) event e)) (behind_blocks inner.block round s))
