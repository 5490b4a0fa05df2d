-- A number that fits no word is read as the greatest, and no answer is another for it.
use Rattle.std.proofs.Common.{ℕ, ◌≡◌, ◌+◌, ◌-◌, ◌*◌, ◌≤◌, ◌<◌, ◌==◌, Bool, true, false, cond, min, List, [], ◌∷◌, ◌++◌, length, Option, Some, None, Result, Ok, Err, refl, sym, ap, subst, ◌∙◌, length-append, eq-eqb, ne_eqb, arith}
use Rattle.std.specs.Option.{option_map}
use Rattle.std.proofs.lemmas.Bool.{eqb-true, eqb-false}
use Rattle.br_path.specs.Path.{Names}
use Rattle.root_image.specs.declared.root.RootEntry.{RootEntry}
use Rattle.root_image.specs.declared.root.RootEntry.TheVariants.{Dir, Link, First, Same}
use Rattle.root_image.specs.declared.fault.ImageKind.{ImageKind}
use Rattle.root_image.specs.declared.fault.ImageKind.TheVariants.{Form, Count, Size, Group}
use Rattle.root_image.specs.Lines.{Line, HeadLine, DirLine, LinkLine, FileLine, SameLine, TextLine, BytesLine, EndLine, Entries}
use Rattle.root_image.specs.Roots.{has_first, is_link_text}
use Rattle.root_image.specs.Words.{path_at}
use Rattle.root_image.specs.Reading.{Place, no_line, AtHead, Between, InFile, InLink, InSame, Ended, State, unless, checked, at_place, with_entry, head_fault, in_file, ended, same_as, step_in, line_in, on_line, step, end_in, go_on, read_from}
use Rattle.root_image.specs.Reader.{most, capped, read_step, read_by}
use Rattle.root_image.proofs.Told.{unless-ok, checked-ok}

abbrev pub capped_place : Place → Place
capped_place (InFile path mode size bytes) = InFile path mode (min size most) bytes
capped_place AtHead = AtHead
capped_place Between = Between
capped_place (InLink path) = InLink path
capped_place (InSame path) = InSame path
capped_place Ended = Ended

abbrev pub cap : State → State
cap state = at_place state.entries (capped_place state.place)

abbrev pub cap_each : Result State ImageKind → Result State ImageKind
cap_each (Ok state) = Ok (cap state)
cap_each (Err kind) = Err kind

-- the entries, and the bytes of a file that isn't one yet
abbrev bytes_in : Place → ℕ
bytes_in (InFile path mode size bytes) = length bytes
bytes_in AtHead = 0
bytes_in Between = 0
bytes_in (InLink path) = 0
bytes_in (InSame path) = 0
bytes_in Ended = 0

abbrev pub weight : State → ℕ
weight state = length state.entries + bytes_in state.place

unless-cap : (fault : Option ImageKind) (state : State) → unless fault (cap state) ≡ cap_each (unless fault state)
unless-cap None state = refl
unless-cap (Some kind) state = refl

checked-cap : (b : Bool) (kind : ImageKind) (state : State) → checked b kind (cap state) ≡ cap_each (checked b kind state)
checked-cap true kind state = refl
checked-cap false kind state = refl

same-cap : (entries : Entries) (path : Names) (found : Option Names) → same_as entries path found ≡ cap_each (same_as entries path found)
same-cap entries path None = refl
same-cap entries path (Some first) = checked-cap (has_first entries first) Group (with_entry entries path (Same first))

-- what is less than the greatest number is equal to a number just where it is to the number that is read
same-test : (n size : ℕ) → n < most → (n == min size most) ≡ (n == size)
same-test n size small = by (n == size) refl
  where
    by : (b : Bool) → (n == size) ≡ b → (n == min size most) ≡ b
    by true is = let same = eqb-true n size is in eq-eqb n (min size most) (omega arith)
    by false is = let other = eqb-false n size is in ne_eqb n (min size most) (λ same. absurd (omega arith))

file-cap : (entries : Entries) (path : Names) (mode size : ℕ) (bytes : List ℕ) → length bytes < most → in_file entries path mode (min size most) bytes ≡ cap (in_file entries path mode size bytes)
file-cap entries path mode size bytes few =
    ap (λ b. cond b (with_entry entries path (First mode bytes)) (at_place entries (InFile path mode (min size most) bytes))) (same-test (length bytes) size few) ∙ by (length bytes == size)
  where
    by : (b : Bool) → cond b (with_entry entries path (First mode bytes)) (at_place entries (InFile path mode (min size most) bytes)) ≡ cap (cond b (with_entry entries path (First mode bytes)) (at_place entries (InFile path mode size bytes)))
    by true = refl
    by false = refl

flipped : (n m : ℕ) → (n == m) ≡ (m == n)
flipped n m = by (m == n) refl
  where
    by : (b : Bool) → (m == n) ≡ b → (n == m) ≡ b
    by true is = eq-eqb n m (sym (eqb-true m n is))
    by false is = let other = eqb-false m n is in ne_eqb n m (λ same. absurd (omega arith))

ended-cap : (entries : Entries) (count : ℕ) → length entries + 0 + 64 < most → ended entries (min count most) ≡ cap_each (ended entries count)
ended-cap [] count few = refl
ended-cap (entry ∷ entries) count few =
    ap (λ b. checked b Count (at_place (entry ∷ entries) Ended)) (flipped (min count most) (length (entry ∷ entries)) ∙ same-test (length (entry ∷ entries)) count (omega arith) ∙ flipped (length (entry ∷ entries)) count)
    ∙ checked-cap (count == length (entry ∷ entries)) Count (at_place (entry ∷ entries) Ended)

piece-cap : (entries : Entries) (path : Names) (mode size : ℕ) (bytes piece : List ℕ) → length entries + length bytes + 64 < most
    → checked (length piece == min 32 (min size most - length bytes)) Size (in_file entries path mode (min size most) (bytes ++ piece)) ≡ cap_each (checked (length piece == min 32 (size - length bytes)) Size (in_file entries path mode size (bytes ++ piece)))
piece-cap entries path mode size bytes piece few =
    let wanted : min 32 (min size most - length bytes) ≡ min 32 (size - length bytes) = omega arith in
    ap (λ n. checked (length piece == n) Size (in_file entries path mode (min size most) (bytes ++ piece))) wanted
    ∙ by (length piece == min 32 (size - length bytes)) refl
  where
    by : (b : Bool) → (length piece == min 32 (size - length bytes)) ≡ b → checked b Size (in_file entries path mode (min size most) (bytes ++ piece)) ≡ cap_each (checked b Size (in_file entries path mode size (bytes ++ piece)))
    by false is = refl
    by true is = let long = eqb-true (length piece) (min 32 (size - length bytes)) is in let all = length-append bytes piece in ap Ok (file-cap entries path mode size (bytes ++ piece) (omega arith))

on-capped : (entries : Entries) (place : Place) (line : Line) → weight (at_place entries place) + 64 < most → step_in entries (capped_place place) (capped line) ≡ cap_each (step_in entries place line)
on-capped entries AtHead HeadLine few = refl
on-capped entries AtHead (DirLine m at) few = refl
on-capped entries AtHead (LinkLine at) few = refl
on-capped entries AtHead (FileLine m s at) few = refl
on-capped entries AtHead (SameLine at) few = refl
on-capped entries AtHead (TextLine text) few = refl
on-capped entries AtHead (BytesLine piece) few = refl
on-capped entries AtHead (EndLine count) few = refl
on-capped entries Between HeadLine few = refl
on-capped entries Between (DirLine m at) few = unless-cap (head_fault entries at true) (with_entry entries at (Dir m))
on-capped entries Between (LinkLine at) few = unless-cap (head_fault entries at false) (at_place entries (InLink at))
on-capped entries Between (FileLine m s at) few = ap (unless (head_fault entries at false)) (file-cap entries at m s [] (omega arith)) ∙ unless-cap (head_fault entries at false) (in_file entries at m s [])
on-capped entries Between (SameLine at) few = unless-cap (head_fault entries at false) (at_place entries (InSame at))
on-capped entries Between (TextLine text) few = refl
on-capped entries Between (BytesLine piece) few = refl
on-capped entries Between (EndLine count) few = ended-cap entries count few
on-capped entries (InLink path) HeadLine few = refl
on-capped entries (InLink path) (DirLine m at) few = refl
on-capped entries (InLink path) (LinkLine at) few = refl
on-capped entries (InLink path) (FileLine m s at) few = refl
on-capped entries (InLink path) (SameLine at) few = refl
on-capped entries (InLink path) (TextLine text) few = checked-cap (is_link_text text) Form (with_entry entries path (Link text))
on-capped entries (InLink path) (BytesLine piece) few = refl
on-capped entries (InLink path) (EndLine count) few = refl
on-capped entries (InSame path) HeadLine few = refl
on-capped entries (InSame path) (DirLine m at) few = refl
on-capped entries (InSame path) (LinkLine at) few = refl
on-capped entries (InSame path) (FileLine m s at) few = refl
on-capped entries (InSame path) (SameLine at) few = refl
on-capped entries (InSame path) (TextLine text) few = same-cap entries path (path_at text)
on-capped entries (InSame path) (BytesLine piece) few = refl
on-capped entries (InSame path) (EndLine count) few = refl
on-capped entries (InFile path mode size bytes) HeadLine few = refl
on-capped entries (InFile path mode size bytes) (DirLine m at) few = refl
on-capped entries (InFile path mode size bytes) (LinkLine at) few = refl
on-capped entries (InFile path mode size bytes) (FileLine m s at) few = refl
on-capped entries (InFile path mode size bytes) (SameLine at) few = refl
on-capped entries (InFile path mode size bytes) (TextLine text) few = refl
on-capped entries (InFile path mode size bytes) (BytesLine piece) few = piece-cap entries path mode size bytes piece few
on-capped entries (InFile path mode size bytes) (EndLine count) few = refl
on-capped entries Ended line few = refl

no_line-capped : (place : Place) → no_line (capped_place place) ≡ no_line place
no_line-capped AtHead = refl
no_line-capped Between = refl
no_line-capped (InLink path) = refl
no_line-capped (InSame path) = refl
no_line-capped (InFile path mode size bytes) = refl
no_line-capped Ended = refl

line_in-capped : (place : Place) (text : List ℕ) → line_in (capped_place place) text ≡ line_in place text
line_in-capped AtHead text = refl
line_in-capped Between text = refl
line_in-capped (InLink path) text = refl
line_in-capped (InSame path) text = refl
line_in-capped (InFile path mode size bytes) text = refl
line_in-capped Ended text = refl

step-capped : (state : State) (text : List ℕ) → weight state + 64 < most → read_step (cap state) text ≡ cap_each (step state text)
step-capped state text few = ap (λ o. on_line state.entries (capped_place state.place) (option_map capped o)) (line_in-capped state.place text) ∙ by (line_in state.place text)
  where
    by : (o : Option Line) → on_line state.entries (capped_place state.place) (option_map capped o) ≡ cap_each (on_line state.entries state.place o)
    by None = ap (λ k. Err k) (no_line-capped state.place)
    by (Some line) = on-capped state.entries state.place line few

-- ---- a line adds one entry or 32 bytes at most

unless-weight : (fault : Option ImageKind) (state new : State) → unless fault state ≡ Ok new → (held : ℕ) → weight state ≤ held → weight new ≤ held
unless-weight fault state new is held within = subst (λ s. weight s ≤ held) (unless-ok fault state new is).1 within

checked-weight : (b : Bool) (kind : ImageKind) (state new : State) → checked b kind state ≡ Ok new → (held : ℕ) → weight state ≤ held → weight new ≤ held
checked-weight b kind state new is held within = subst (λ s. weight s ≤ held) (checked-ok b kind state new is).1 within

entry-weight : (entries : Entries) (path : Names) (entry : RootEntry) (held : ℕ) → weight (with_entry entries path entry) ≤ length entries + held + 33
entry-weight entries path entry held = omega (arith, length-append entries ((path, entry) ∷ []))

file-weight : (entries : Entries) (path : Names) (mode size : ℕ) (bytes : List ℕ) (b : Bool) → weight (cond b (with_entry entries path (First mode bytes)) (at_place entries (InFile path mode size bytes))) ≤ length entries + length bytes + 1
file-weight entries path mode size bytes true = omega (arith, length-append entries ((path, First mode bytes) ∷ []))
file-weight entries path mode size bytes false = omega arith

same-weight : (entries : Entries) (path : Names) (found : Option Names) (new : State) → same_as entries path found ≡ Ok new → weight new ≤ length entries + 0 + 33
same-weight entries path None new is = cc
same-weight entries path (Some first) new is = checked-weight (has_first entries first) Group (with_entry entries path (Same first)) new is _ (entry-weight entries path (Same first) 0)

ended-weight : (entries : Entries) (count : ℕ) (new : State) → ended entries count ≡ Ok new → weight new ≤ length entries + 0 + 33
ended-weight [] count new is = cc
ended-weight (entry ∷ entries) count new is = checked-weight (count == length (entry ∷ entries)) Count (at_place (entry ∷ entries) Ended) new is _ (omega arith)

weight-step : (entries : Entries) (place : Place) (line : Line) (new : State) → step_in entries place line ≡ Ok new → weight new ≤ weight (at_place entries place) + 33
weight-step entries AtHead HeadLine new is = let same : at_place entries Between ≡ new = cc in subst (λ s. weight s ≤ length entries + 0 + 33) same (omega arith)
weight-step entries AtHead (DirLine m at) new is = cc
weight-step entries AtHead (LinkLine at) new is = cc
weight-step entries AtHead (FileLine m s at) new is = cc
weight-step entries AtHead (SameLine at) new is = cc
weight-step entries AtHead (TextLine text) new is = cc
weight-step entries AtHead (BytesLine piece) new is = cc
weight-step entries AtHead (EndLine count) new is = cc
weight-step entries Between HeadLine new is = cc
weight-step entries Between (DirLine m at) new is = unless-weight (head_fault entries at true) (with_entry entries at (Dir m)) new is _ (entry-weight entries at (Dir m) 0)
weight-step entries Between (LinkLine at) new is = unless-weight (head_fault entries at false) (at_place entries (InLink at)) new is _ (omega arith)
weight-step entries Between (FileLine m s at) new is = unless-weight (head_fault entries at false) (in_file entries at m s []) new is (length entries + 0 + 33) (let held = file-weight entries at m s [] (0 == s) in omega arith)
weight-step entries Between (SameLine at) new is = unless-weight (head_fault entries at false) (at_place entries (InSame at)) new is _ (omega arith)
weight-step entries Between (TextLine text) new is = cc
weight-step entries Between (BytesLine piece) new is = cc
weight-step entries Between (EndLine count) new is = ended-weight entries count new is
weight-step entries (InLink path) HeadLine new is = cc
weight-step entries (InLink path) (DirLine m at) new is = cc
weight-step entries (InLink path) (LinkLine at) new is = cc
weight-step entries (InLink path) (FileLine m s at) new is = cc
weight-step entries (InLink path) (SameLine at) new is = cc
weight-step entries (InLink path) (TextLine text) new is = checked-weight (is_link_text text) Form (with_entry entries path (Link text)) new is _ (entry-weight entries path (Link text) 0)
weight-step entries (InLink path) (BytesLine piece) new is = cc
weight-step entries (InLink path) (EndLine count) new is = cc
weight-step entries (InSame path) HeadLine new is = cc
weight-step entries (InSame path) (DirLine m at) new is = cc
weight-step entries (InSame path) (LinkLine at) new is = cc
weight-step entries (InSame path) (FileLine m s at) new is = cc
weight-step entries (InSame path) (SameLine at) new is = cc
weight-step entries (InSame path) (TextLine text) new is = same-weight entries path (path_at text) new is
weight-step entries (InSame path) (BytesLine piece) new is = cc
weight-step entries (InSame path) (EndLine count) new is = cc
weight-step entries (InFile path mode size bytes) HeadLine new is = cc
weight-step entries (InFile path mode size bytes) (DirLine m at) new is = cc
weight-step entries (InFile path mode size bytes) (LinkLine at) new is = cc
weight-step entries (InFile path mode size bytes) (FileLine m s at) new is = cc
weight-step entries (InFile path mode size bytes) (SameLine at) new is = cc
weight-step entries (InFile path mode size bytes) (TextLine text) new is = cc
weight-step entries (InFile path mode size bytes) (BytesLine piece) new is =
    let done = checked-ok (length piece == min 32 (size - length bytes)) Size (in_file entries path mode size (bytes ++ piece)) new is in
    let long = eqb-true (length piece) (min 32 (size - length bytes)) done.0 in
    let all = length-append bytes piece in
    let held = file-weight entries path mode size (bytes ++ piece) (length (bytes ++ piece) == size) in
    subst (λ s. weight s ≤ length entries + length bytes + 33) done.1 (omega arith)
weight-step entries (InFile path mode size bytes) (EndLine count) new is = cc
weight-step entries Ended line new is = cc

on-weight : (entries : Entries) (place : Place) (o : Option Line) (new : State) → on_line entries place o ≡ Ok new → weight new ≤ weight (at_place entries place) + 33
on-weight entries place None new is = cc
on-weight entries place (Some line) new is = weight-step entries place line new is

-- ---- the whole text

end-capped : (entries : Entries) (place : Place) (number : ℕ) (rest : List ℕ) → end_in entries (capped_place place) number rest ≡ end_in entries place number rest
end-capped entries AtHead number rest = refl
end-capped entries Between number rest = refl
end-capped entries (InLink path) number rest = refl
end-capped entries (InSame path) number rest = refl
end-capped entries (InFile path mode size bytes) number rest = refl
end-capped entries Ended number rest = refl

-- lines that are read so give the same answer
pub read-capped : (parts : List (List ℕ)) (state : State) (number : ℕ) → weight state + 33 * length parts + 64 < most → read_by read_step (cap state) number parts ≡ read_from state number parts
read-capped [] state number few = end-capped state.entries state.place number []
read-capped (rest ∷ []) state number few = end-capped state.entries state.place number rest
read-capped (line ∷ next ∷ lines) state number few =
    ap (λ o. go_on o number (λ new. read_by read_step new (number + 1) (next ∷ lines))) (step-capped state line (omega arith))
    ∙ by (λ new held. read-capped (next ∷ lines) new (number + 1) (omega arith)) (step state line) refl
  where
    by : ((new : State) → weight new ≤ weight state + 33 → read_by read_step (cap new) (number + 1) (next ∷ lines) ≡ read_from new (number + 1) (next ∷ lines)) → (o : Result State ImageKind) → step state line ≡ o → go_on (cap_each o) number (λ new. read_by read_step new (number + 1) (next ∷ lines)) ≡ go_on o number (λ new. read_from new (number + 1) (next ∷ lines))
    by later (Err kind) is = refl
    by later (Ok new) is = later new (on-weight state.entries state.place (line_in state.place line) new is)
