-- What is read is what the lines tell.
use Rattle.std.proofs.Common.{ℕ, suc, ◌≡◌, ◌+◌, ◌-◌, ◌*◌, ◌/◌, ◌%◌, ◌≤◌, ◌<◌, ◌^◌, ◌==◌, Bool, true, false, cond, ◌⊎◌, inl, inr, min, List, [], ◌∷◌, ◌++◌, map, length, Option, Some, None, Ok, refl, sym, ap, subst, ◌∙◌, append_assoc, append-nil, length-append, add-one, arith}
use Rattle.std.specs.Prelude.{All}
use Rattle.std.specs.List.{slice_get}
use Rattle.std.proofs.lemmas.Bool.{eqb-true, eqb-false}
use Rattle.std.proofs.lemmas.List.Elements.{All-append, All-nil}
use Rattle.br_path.specs.Path.{Names, IsPath, parent_of}
use Rattle.root_image.specs.declared.root.RootEntry.{RootEntry}
use Rattle.root_image.specs.declared.root.RootEntry.TheVariants.{Dir, Link, First, Same}
use Rattle.root_image.specs.declared.fault.ImageKind.{ImageKind}
use Rattle.root_image.specs.declared.fault.ImageKind.TheVariants.{Form, Order, Parent, Group, Size, Count}
use Rattle.root_image.specs.Lines.{Line, HeadLine, DirLine, LinkLine, FileLine, SameLine, TextLine, BytesLine, EndLine, Entries, entry_lines, all_lines, image_lines, pieces, pieces_from}
use Rattle.root_image.specs.Roots.{Stands, Fits, FitEach, last_of, rises, has_place, has_first, is_link_text}
use Rattle.root_image.specs.Words.{path_at}
use Rattle.root_image.specs.Reading.{Place, AtHead, Between, InFile, InLink, InSame, Ended, State, unless, checked, at_place, with_entry, first_fault, parent_fault, fault_behind, head_fault, in_file, ended, same_as, step_in}
use Rattle.root_image.specs.Spelling.{IsLine}
use Rattle.root_image.proofs.Spelled.{path_at-some}
use Rattle.root_image.proofs.Pieces.{pieces_more}

-- the lines that a state tells
abbrev pub told : Entries → Place → List Line
told entries AtHead = []
told entries Between = HeadLine ∷ all_lines entries
told entries (InFile path mode size bytes) = HeadLine ∷ all_lines entries ++ FileLine mode size path ∷ map BytesLine (pieces_from (length bytes / 32) bytes)
told entries (InLink path) = HeadLine ∷ all_lines entries ++ LinkLine path ∷ []
told entries (InSame path) = HeadLine ∷ all_lines entries ++ SameLine path ∷ []
told entries Ended = image_lines entries

-- what is true of an entry that is begun
abbrev pub IsBegun : Entries → Names → Type 0
IsBegun entries path = IsPath path × Stands entries path false

-- what is true where the reader stands
abbrev pub IsSound : Entries → Place → Type 0
IsSound entries AtHead = entries ≡ []
IsSound entries Between = Unit {0}
IsSound entries (InFile path mode size bytes) = IsBegun entries path × (mode < 4096) × (length bytes % 32 ≡ 0) × (length bytes < size) × (size < 2 ^ 63) × All (λ byte. byte < 256) bytes
IsSound entries (InLink path) = IsBegun entries path
IsSound entries (InSame path) = IsBegun entries path
IsSound entries Ended = 1 ≤ length entries

-- a state with entries that fit, which tells these lines
pub record Tells (state : State) (lines : List Line) : Type 0 where
  pub lines_are : told state.entries state.place ≡ lines
  pub sound : IsSound state.entries state.place
  pub each : FitEach [] state.entries

-- no file is said to have more bytes than fit
abbrev pub IsShort : Line → Type 0
IsShort HeadLine = Unit {0}
IsShort (DirLine mode path) = Unit {0}
IsShort (LinkLine path) = Unit {0}
IsShort (FileLine mode size path) = size < 2 ^ 63
IsShort (SameLine path) = Unit {0}
IsShort (TextLine text) = Unit {0}
IsShort (BytesLine bytes) = Unit {0}
IsShort (EndLine count) = Unit {0}

pub unless-ok : (fault : Option ImageKind) (state new : State) → unless fault state ≡ Ok new → (fault ≡ None) × (state ≡ new)
unless-ok None state new is = (refl, cc)
unless-ok (Some kind) state new is = cc

pub checked-ok : (b : Bool) (kind : ImageKind) (state new : State) → checked b kind state ≡ Ok new → (b ≡ true) × (state ≡ new)
checked-ok true kind state new is = (refl, cc)
checked-ok false kind state new is = cc

-- the last of some entries is there
get-last : (entry : Names × RootEntry) (entries : Entries) → (last : Names × RootEntry) × (slice_get (entry ∷ entries) (length entries) ≡ Some last)
get-last entry [] = (entry, refl)
get-last entry (next ∷ entries) = get-last next entries

last_of-some : (entry : Names × RootEntry) (entries : Entries) → (last : Names × RootEntry) × (last_of (entry ∷ entries) ≡ Some last)
last_of-some entry entries =
    let last = get-last entry entries in
    let at : length (entry ∷ entries) - 1 ≡ length entries = omega arith in
    (last.0, ap (slice_get (entry ∷ entries)) at ∙ last.1)

chosen : {A : Type 0} (b : Bool) (one other : Option A) → cond b one other ≡ None → ((b ≡ true) × (one ≡ None)) ⊎ ((b ≡ false) × (other ≡ None))
chosen true one other is = inl (refl, is)
chosen false one other is = inr (refl, is)

-- where no fault is, an entry can stand
pub stands-no_fault : (entries : Entries) (path : Names) (folder : Bool) → head_fault entries path folder ≡ None → Stands entries path folder
stands-no_fault [] [] true is = (refl, refl)
stands-no_fault [] [] false is = cc
stands-no_fault [] (name ∷ names) folder is = cc
stands-no_fault (entry ∷ entries) path folder is =
    let last = last_of-some entry entries in
    let at : fault_behind (Some last.0) (entry ∷ entries) path folder ≡ None = ap (λ o. fault_behind o (entry ∷ entries) path folder) (sym last.1) ∙ is in
    elim (chosen (rises (Some last.0) path) (parent_fault (entry ∷ entries) path) (Some Order) at) [
      | inl up ↦ elim (chosen (has_place (entry ∷ entries) (parent_of path)) None (Some Parent) up.1) [
        | inl there ↦ (ap (λ o. rises o path) last.1 ∙ up.0, there.0)
        | inr none ↦ cc none.1
      ]
      | inr down ↦ cc down.1
    ]

-- and where one can stand, no fault is
pub no_fault-stands : (entries : Entries) (path : Names) (folder : Bool) → Stands entries path folder → head_fault entries path folder ≡ None
no_fault-stands [] path folder is = (λ i. first_fault (is.0 i) (is.1 i))
no_fault-stands (entry ∷ entries) path folder is =
    let last = last_of-some entry entries in
    let up : rises (Some last.0) path ≡ true = ap (λ o. rises o path) (sym last.1) ∙ is.0 in
    ap (λ o. fault_behind o (entry ∷ entries) path folder) last.1
    ∙ (λ i. cond (up i) (cond (is.1 i) None (Some Parent)) (Some Order))

-- one entry more
all-more : (entries : Entries) (path : Names) (entry : RootEntry) → all_lines (entries ++ (path, entry) ∷ []) ≡ all_lines entries ++ entry_lines path entry
all-more [] path entry = append-nil (entry_lines path entry)
all-more (e ∷ entries) path entry =
    ap (λ l. entry_lines e.0 e.1 ++ l) (all-more entries path entry) ∙ sym (append_assoc (entry_lines e.0 e.1) (all_lines entries) (entry_lines path entry))

fits-more : (past entries : Entries) (path : Names) (entry : RootEntry) → FitEach past entries → Fits (past ++ entries) path entry → FitEach past (entries ++ (path, entry) ∷ [])
fits-more past [] path entry each fits = (subst (λ p. Fits p path entry) (append-nil past) fits, tt)
fits-more past (e ∷ entries) path entry each fits =
    (each.0, fits-more (past ++ e ∷ []) entries path entry each.1 (subst (λ p. Fits p path entry) (sym (append_assoc past (e ∷ []) entries)) fits))

-- an entry more is told by its lines, after those before it
entry-tells : (entries : Entries) (path : Names) (entry : RootEntry) (lines : List Line) → FitEach [] entries → Fits entries path entry → (HeadLine ∷ all_lines entries ++ entry_lines path entry) ≡ lines → Tells (with_entry entries path entry) lines
entry-tells entries path entry lines each fits is = record {
  lines_are = ap (λ l. HeadLine ∷ l) (all-more entries path entry) ∙ is;
  sound = tt;
  each = fits-more [] entries path entry each fits;
}

bytes-more : (some : List (List ℕ)) (piece : List ℕ) → map BytesLine (some ++ piece ∷ []) ≡ map BytesLine some ++ BytesLine piece ∷ []
bytes-more [] piece = refl
bytes-more (p ∷ some) piece = ap (λ l. BytesLine p ∷ l) (bytes-more some piece)

-- the lines of a file with one piece more
file-more : (entries : Entries) (path : Names) (mode size count more : ℕ) (bytes piece : List ℕ) → length bytes ≡ count * 32 → length piece ≤ 32 → more ≡ suc count
    → (HeadLine ∷ all_lines entries ++ FileLine mode size path ∷ map BytesLine (pieces_from more (bytes ++ piece))) ≡ ((HeadLine ∷ all_lines entries ++ FileLine mode size path ∷ map BytesLine (pieces_from count bytes)) ++ BytesLine piece ∷ [])
file-more entries path mode size count more bytes piece full short next =
    ap (λ n. HeadLine ∷ all_lines entries ++ FileLine mode size path ∷ map BytesLine (pieces_from n (bytes ++ piece))) next
    ∙ ap (λ ps. HeadLine ∷ all_lines entries ++ FileLine mode size path ∷ map BytesLine ps) (pieces_more count bytes piece full short)
    ∙ ap (λ l. HeadLine ∷ all_lines entries ++ FileLine mode size path ∷ l) (bytes-more (pieces_from count bytes) piece)
    ∙ ap (λ l. HeadLine ∷ l) (sym (append_assoc (all_lines entries) (FileLine mode size path ∷ map BytesLine (pieces_from count bytes)) (BytesLine piece ∷ [])))

-- a file of which all bytes may be there
first-tells : (entries : Entries) (path : Names) (mode size : ℕ) → FitEach [] entries → IsBegun entries path → mode < 4096 → size < 2 ^ 63 → (full : Bool) → (0 == size) ≡ full
    → Tells (cond full (with_entry entries path (First mode [])) (at_place entries (InFile path mode size []))) (HeadLine ∷ all_lines entries ++ FileLine mode size path ∷ [])
first-tells entries path mode size each begun small few true is =
    entry-tells entries path (First mode []) _ each (record { legal = begun.0; stands = begun.1; said = (small, omega arith, All-nil (λ byte. byte < 256)) })
    (ap (λ n. HeadLine ∷ all_lines entries ++ FileLine mode n path ∷ []) (eqb-true 0 size is))
first-tells entries path mode size each begun small few false is =
    let other = eqb-false 0 size is in
    record { lines_are = refl; sound = (begun, small, refl, omega arith, few, All-nil (λ byte. byte < 256)); each = each }

piece-tells : (entries : Entries) (path : Names) (mode size : ℕ) (bytes piece : List ℕ) → FitEach [] entries → IsSound entries (InFile path mode size bytes) → All (λ byte. byte < 256) piece → length piece ≡ min 32 (size - length bytes)
    → (full : Bool) → (length (bytes ++ piece) == size) ≡ full
    → Tells (cond full (with_entry entries path (First mode (bytes ++ piece))) (at_place entries (InFile path mode size (bytes ++ piece)))) (told entries (InFile path mode size bytes) ++ BytesLine piece ∷ [])
piece-tells entries path mode size bytes piece each sound small long true is =
    let all = length-append bytes piece in
    let whole = eqb-true (length (bytes ++ piece)) size is in
    let even = sound.2 in
    let below = sound.3 in
    let few = sound.4 in
    let full : length bytes ≡ length bytes / 32 * 32 = omega arith in
    let short : length piece ≤ 32 = omega arith in
    let count : (length (bytes ++ piece) + 31) / 32 ≡ length bytes / 32 + 1 = omega arith in
    entry-tells entries path (First mode (bytes ++ piece)) _ each (record { legal = sound.0.0; stands = sound.0.1; said = (sound.1, omega arith, All-append (λ byte. byte < 256) bytes piece sound.5 small) })
    (ap (λ n. HeadLine ∷ all_lines entries ++ FileLine mode n path ∷ map BytesLine (pieces (bytes ++ piece))) whole
    ∙ file-more entries path mode size (length bytes / 32) ((length (bytes ++ piece) + 31) / 32) bytes piece full short (count ∙ add-one (length bytes / 32)))
piece-tells entries path mode size bytes piece each sound small long false is =
    let all = length-append bytes piece in
    let other = eqb-false (length (bytes ++ piece)) size is in
    let even = sound.2 in
    let below = sound.3 in
    let few = sound.4 in
    let full : length bytes ≡ length bytes / 32 * 32 = omega arith in
    let short : length piece ≤ 32 = omega arith in
    let longer : length piece ≡ 32 = omega arith in
    let count : length (bytes ++ piece) / 32 ≡ length bytes / 32 + 1 = omega arith in
    record {
      lines_are = file-more entries path mode size (length bytes / 32) (length (bytes ++ piece) / 32) bytes piece full short (count ∙ add-one (length bytes / 32));
      sound = (sound.0, sound.1, omega arith, omega arith, few, All-append (λ byte. byte < 256) bytes piece sound.5 small);
      each = each;
    }

ended-tells : (entries : Entries) (count : ℕ) (new : State) → FitEach [] entries → ended entries count ≡ Ok new → Tells new ((HeadLine ∷ all_lines entries) ++ EndLine count ∷ [])
ended-tells [] count new each is = cc
ended-tells (entry ∷ entries) count new each is =
    let done = checked-ok (count == length (entry ∷ entries)) Count (at_place (entry ∷ entries) Ended) new is in
    subst (λ s. Tells s ((HeadLine ∷ all_lines (entry ∷ entries)) ++ EndLine count ∷ [])) done.1
    (record { lines_are = ap (λ n. HeadLine ∷ all_lines (entry ∷ entries) ++ EndLine n ∷ []) (sym (eqb-true count (length (entry ∷ entries)) done.0)); sound = omega arith; each = each })

same-tells : (entries : Entries) (path : Names) (text : List ℕ) (found : Option Names) (new : State) → FitEach [] entries → IsBegun entries path → path_at text ≡ found → same_as entries path found ≡ Ok new
    → Tells new ((HeadLine ∷ all_lines entries ++ SameLine path ∷ []) ++ TextLine text ∷ [])
same-tells entries path text None new each begun at is = cc
same-tells entries path text (Some first) new each begun at is =
    let done = checked-ok (has_first entries first) Group (with_entry entries path (Same first)) new is in
    let spelled = path_at-some text first at in
    subst (λ s. Tells s ((HeadLine ∷ all_lines entries ++ SameLine path ∷ []) ++ TextLine text ∷ [])) done.1
    (entry-tells entries path (Same first) _ each (record { legal = begun.0; stands = begun.1; said = (spelled.0, done.0) })
    (ap (λ t. HeadLine ∷ all_lines entries ++ SameLine path ∷ TextLine t ∷ []) (sym spelled.1)
    ∙ ap (λ l. HeadLine ∷ l) (sym (append_assoc (all_lines entries) (SameLine path ∷ []) (TextLine text ∷ [])))))

-- a step's line is what the state tells more
pub step-tells : (entries : Entries) (place : Place) (line : Line) (new : State) → Tells (at_place entries place) (told entries place) → IsLine line → IsShort line → step_in entries place line ≡ Ok new → Tells new (told entries place ++ line ∷ [])
step-tells entries AtHead HeadLine new now said few is =
    let same : at_place entries Between ≡ new = cc in
    subst (λ s. Tells s (HeadLine ∷ [])) same (record { lines_are = ap (λ e. HeadLine ∷ all_lines e) now.sound; sound = tt; each = now.each })
step-tells entries AtHead (DirLine mode path) new now said few is = cc
step-tells entries AtHead (LinkLine path) new now said few is = cc
step-tells entries AtHead (FileLine mode size path) new now said few is = cc
step-tells entries AtHead (SameLine path) new now said few is = cc
step-tells entries AtHead (TextLine text) new now said few is = cc
step-tells entries AtHead (BytesLine bytes) new now said few is = cc
step-tells entries AtHead (EndLine count) new now said few is = cc
step-tells entries Between HeadLine new now said few is = cc
step-tells entries Between (DirLine mode path) new now said few is =
    let done = unless-ok (head_fault entries path true) (with_entry entries path (Dir mode)) new is in
    subst (λ s. Tells s ((HeadLine ∷ all_lines entries) ++ DirLine mode path ∷ [])) done.1
    (entry-tells entries path (Dir mode) _ now.each (record { legal = said.1; stands = stands-no_fault entries path true done.0; said = said.0 }) refl)
step-tells entries Between (LinkLine path) new now said few is =
    let done = unless-ok (head_fault entries path false) (at_place entries (InLink path)) new is in
    subst (λ s. Tells s ((HeadLine ∷ all_lines entries) ++ LinkLine path ∷ [])) done.1
    (record { lines_are = refl; sound = (said, stands-no_fault entries path false done.0); each = now.each })
step-tells entries Between (FileLine mode size path) new now said few is =
    let done = unless-ok (head_fault entries path false) (in_file entries path mode size []) new is in
    subst (λ s. Tells s ((HeadLine ∷ all_lines entries) ++ FileLine mode size path ∷ [])) done.1
    (first-tells entries path mode size now.each (said.1, stands-no_fault entries path false done.0) said.0 few (0 == size) refl)
step-tells entries Between (SameLine path) new now said few is =
    let done = unless-ok (head_fault entries path false) (at_place entries (InSame path)) new is in
    subst (λ s. Tells s ((HeadLine ∷ all_lines entries) ++ SameLine path ∷ [])) done.1
    (record { lines_are = refl; sound = (said, stands-no_fault entries path false done.0); each = now.each })
step-tells entries Between (EndLine count) new now said few is = ended-tells entries count new now.each is
step-tells entries Between (TextLine text) new now said few is = cc
step-tells entries Between (BytesLine bytes) new now said few is = cc
step-tells entries (InLink path) (TextLine text) new now said few is =
    let done = checked-ok (is_link_text text) Form (with_entry entries path (Link text)) new is in
    subst (λ s. Tells s ((HeadLine ∷ all_lines entries ++ LinkLine path ∷ []) ++ TextLine text ∷ [])) done.1
    (entry-tells entries path (Link text) _ now.each (record { legal = now.sound.0; stands = now.sound.1; said = done.0 })
    (ap (λ l. HeadLine ∷ l) (sym (append_assoc (all_lines entries) (LinkLine path ∷ []) (TextLine text ∷ [])))))
step-tells entries (InLink path) HeadLine new now said few is = cc
step-tells entries (InLink path) (DirLine mode at) new now said few is = cc
step-tells entries (InLink path) (LinkLine at) new now said few is = cc
step-tells entries (InLink path) (FileLine mode size at) new now said few is = cc
step-tells entries (InLink path) (SameLine at) new now said few is = cc
step-tells entries (InLink path) (BytesLine bytes) new now said few is = cc
step-tells entries (InLink path) (EndLine count) new now said few is = cc
step-tells entries (InSame path) (TextLine text) new now said few is = same-tells entries path text (path_at text) new now.each now.sound refl is
step-tells entries (InSame path) HeadLine new now said few is = cc
step-tells entries (InSame path) (DirLine mode at) new now said few is = cc
step-tells entries (InSame path) (LinkLine at) new now said few is = cc
step-tells entries (InSame path) (FileLine mode size at) new now said few is = cc
step-tells entries (InSame path) (SameLine at) new now said few is = cc
step-tells entries (InSame path) (BytesLine bytes) new now said few is = cc
step-tells entries (InSame path) (EndLine count) new now said few is = cc
step-tells entries (InFile path mode size bytes) (BytesLine piece) new now said few is =
    let done = checked-ok (length piece == min 32 (size - length bytes)) Size (in_file entries path mode size (bytes ++ piece)) new is in
    subst (λ s. Tells s (told entries (InFile path mode size bytes) ++ BytesLine piece ∷ [])) done.1
    (piece-tells entries path mode size bytes piece now.each now.sound said (eqb-true (length piece) _ done.0) (length (bytes ++ piece) == size) refl)
step-tells entries (InFile path mode size bytes) HeadLine new now said few is = cc
step-tells entries (InFile path mode size bytes) (DirLine m at) new now said few is = cc
step-tells entries (InFile path mode size bytes) (LinkLine at) new now said few is = cc
step-tells entries (InFile path mode size bytes) (FileLine m s at) new now said few is = cc
step-tells entries (InFile path mode size bytes) (SameLine at) new now said few is = cc
step-tells entries (InFile path mode size bytes) (TextLine text) new now said few is = cc
step-tells entries (InFile path mode size bytes) (EndLine count) new now said few is = cc
step-tells entries Ended line new now said few is = cc
