-- A text that is read is the image of the root that it gives.
use Rattle.std.proofs.Common.{ℕ, ◌≡◌, ◌≢◌, ◌+◌, ◌-◌, ◌*◌, ◌≤◌, ◌<◌, ◌^◌, ◌==◌, Bool, true, false, cond, min, List, [], ◌∷◌, ◌++◌, map, length, Option, Some, None, Result, Ok, Err, refl, sym, ap, subst, ◌∙◌, append_assoc, append-nil, length-append, arith}
use Rattle.std.specs.List.{join_with_byte}
use Rattle.std.proofs.lemmas.Bool.{eqb-true}
use Rattle.std.proofs.lemmas.List.Splits.{join_with_byte-slice_split, length-slice_split}
use Rattle.br_path.specs.Path.{Names}
use Rattle.root_image.specs.declared.root.RootEntry.{RootEntry}
use Rattle.root_image.specs.declared.root.RootEntry.TheVariants.{Dir, Link, First, Same}
use Rattle.root_image.specs.declared.fault.ImageKind.{ImageKind}
use Rattle.root_image.specs.declared.fault.ImageKind.TheVariants.{Count, Size}
use Rattle.root_image.specs.declared.fault.ImageFault.{ImageFault}
use Rattle.root_image.specs.Lines.{Line, HeadLine, DirLine, LinkLine, FileLine, SameLine, TextLine, BytesLine, EndLine, Entries, line_text, entry_lines, all_lines, image_lines, lines_text, image_text}
use Rattle.root_image.specs.Roots.{FitEach, IsRoot}
use Rattle.root_image.specs.Words.{bytes_line}
use Rattle.root_image.specs.Reading.{Place, AtHead, Between, InFile, InLink, InSame, Ended, State, unless, at_place, with_entry, head_fault, in_file, ended, step_in, line_in, on_line, end_in, go_on, read_from, lines_of, image_of}
use Rattle.root_image.specs.Spelling.{IsNumbered}
use Rattle.root_image.proofs.Spelled.{line-said}
use Rattle.root_image.proofs.Told.{told, IsShort, Tells, step-tells, unless-ok, checked-ok}

pub go-ok : (o : Result State ImageKind) (number : ℕ) (next : State → Result Entries ImageFault) (root : Entries) → go_on o number next ≡ Ok root → (new : State) × (o ≡ Ok new) × (next new ≡ Ok root)
go-ok (Ok new) number next root is = (new, refl, is)
go-ok (Err kind) number next root is = cc

on-ok : (entries : Entries) (place : Place) (o : Option Line) (new : State) → on_line entries place o ≡ Ok new → (line : Line) × (o ≡ Some line) × (step_in entries place line ≡ Ok new)
on-ok entries place None new is = cc
on-ok entries place (Some line) new is = (line, refl, is)

-- a file that is read to its end has no more bytes than the lines that follow may have
piece-ok : (entries : Entries) (path : Names) (mode size : ℕ) (bytes : List ℕ) (line : Line) (new : State) → step_in entries (InFile path mode size bytes) line ≡ Ok new
    → (piece : List ℕ) × (length piece ≤ 32) × (in_file entries path mode size (bytes ++ piece) ≡ new)
piece-ok entries path mode size bytes HeadLine new is = cc
piece-ok entries path mode size bytes (DirLine m at) new is = cc
piece-ok entries path mode size bytes (LinkLine at) new is = cc
piece-ok entries path mode size bytes (FileLine m s at) new is = cc
piece-ok entries path mode size bytes (SameLine at) new is = cc
piece-ok entries path mode size bytes (TextLine text) new is = cc
piece-ok entries path mode size bytes (EndLine count) new is = cc
piece-ok entries path mode size bytes (BytesLine piece) new is =
    let done = checked-ok (length piece == min 32 (size - length bytes)) Size (in_file entries path mode size (bytes ++ piece)) new is in
    let long = eqb-true (length piece) (min 32 (size - length bytes)) done.0 in
    (piece, omega arith, done.1)

file-within : (parts : List (List ℕ)) (entries : Entries) (path : Names) (mode size : ℕ) (bytes : List ℕ) (number : ℕ) (root : Entries) → read_from (at_place entries (InFile path mode size bytes)) number parts ≡ Ok root → size ≤ length bytes + 32 * length parts
file-within [] entries path mode size bytes number root is = cc
file-within (rest ∷ []) entries path mode size bytes number root is = cc
file-within (line ∷ next ∷ lines) entries path mode size bytes number root is =
    let gone = go-ok (on_line entries (InFile path mode size bytes) (bytes_line line)) number (λ new. read_from new (number + 1) (next ∷ lines)) root is in
    let at = on-ok entries (InFile path mode size bytes) (bytes_line line) gone.0 gone.1 in
    let piece = piece-ok entries path mode size bytes at.0 gone.0 at.2 in
    by (λ more later. file-within (next ∷ lines) entries path mode size more (number + 1) root later) (length (bytes ++ piece.0) == size) piece.0 refl piece.1 (ap (λ s. read_from s (number + 1) (next ∷ lines)) piece.2 ∙ gone.2)
  where
    by : ((more : List ℕ) → read_from (at_place entries (InFile path mode size more)) (number + 1) (next ∷ lines) ≡ Ok root → size ≤ length more + 32 * length (next ∷ lines))
        → (full : Bool) (piece : List ℕ) → (length (bytes ++ piece) == size) ≡ full → length piece ≤ 32
        → read_from (cond full (with_entry entries path (First mode (bytes ++ piece))) (at_place entries (InFile path mode size (bytes ++ piece)))) (number + 1) (next ∷ lines) ≡ Ok root
        → size ≤ length bytes + 32 * length (line ∷ next ∷ lines)
    by within true piece is short later = let whole = eqb-true (length (bytes ++ piece)) size is in let all = length-append bytes piece in omega arith
    by within false piece is short later = let rest = within (bytes ++ piece) later in let all = length-append bytes piece in omega arith

-- there are no more entries than lines that tell them
pub length-all_lines : (entries : Entries) → length entries ≤ length (all_lines entries)
length-all_lines [] = omega arith
length-all_lines (entry ∷ entries) = let rest = length-all_lines entries in let some = filled entry.0 entry.1 in omega (arith, length-append (entry_lines entry.0 entry.1) (all_lines entries))
  where
    filled : (path : Names) (entry : RootEntry) → 1 ≤ length (entry_lines path entry)
    filled path (Dir mode) = omega arith
    filled path (Link text) = omega arith
    filled path (First mode bytes) = omega arith
    filled path (Same first) = omega arith

-- the numbers of a line that is read in a text that is read to its end
file-short : (entries : Entries) (path : Names) (mode size number : ℕ) (parts : List (List ℕ)) (root : Entries) (new : State) → unless (head_fault entries path false) (in_file entries path mode size []) ≡ Ok new → read_from new number parts ≡ Ok root → 32 * length parts < 2 ^ 63 → size < 2 ^ 63
file-short entries path mode size number parts root new is later few =
    let done = unless-ok (head_fault entries path false) (in_file entries path mode size []) new is in
    by (0 == size) refl (ap (λ s. read_from s number parts) done.1 ∙ later)
  where
    by : (full : Bool) → (0 == size) ≡ full → read_from (cond full (with_entry entries path (First mode [])) (at_place entries (InFile path mode size []))) number parts ≡ Ok root → size < 2 ^ 63
    by true is later = let none = eqb-true 0 size is in omega arith
    by false is later = let within = file-within parts entries path mode size [] number root later in omega arith

count-short : (entries : Entries) (count : ℕ) (new : State) → ended entries count ≡ Ok new → count ≡ length entries
count-short [] count new is = cc
count-short (entry ∷ entries) count new is = let done = checked-ok (count == length (entry ∷ entries)) Count (at_place (entry ∷ entries) Ended) new is in eqb-true count _ done.0

line-short : (line : Line) (entries : Entries) (place : Place) (new : State) (number : ℕ) (parts : List (List ℕ)) (root : Entries) → step_in entries place line ≡ Ok new → read_from new number parts ≡ Ok root → 32 * length parts < 2 ^ 63 → length (told entries place) < 2 ^ 63
    → IsShort line × IsNumbered line
line-short HeadLine entries place new number parts root is later few all = (tt, tt)
line-short (DirLine mode path) entries place new number parts root is later few all = (tt, tt)
line-short (LinkLine path) entries place new number parts root is later few all = (tt, tt)
line-short (SameLine path) entries place new number parts root is later few all = (tt, tt)
line-short (TextLine text) entries place new number parts root is later few all = (tt, tt)
line-short (BytesLine bytes) entries place new number parts root is later few all = (tt, tt)
line-short (FileLine mode size path) entries Between new number parts root is later few all = let short = file-short entries path mode size number parts root new is later few in (short, omega arith)
line-short (FileLine mode size path) entries AtHead new number parts root is later few all = cc
line-short (FileLine mode size path) entries (InLink at) new number parts root is later few all = cc
line-short (FileLine mode size path) entries (InSame at) new number parts root is later few all = cc
line-short (FileLine mode size path) entries (InFile p m s b) new number parts root is later few all = cc
line-short (FileLine mode size path) entries Ended new number parts root is later few all = cc
line-short (EndLine count) entries Between new number parts root is later few all =
    let count_is = count-short entries count new is in
    let lines = length-all_lines entries in
    (tt, omega arith)
line-short (EndLine count) entries AtHead new number parts root is later few all = cc
line-short (EndLine count) entries (InLink at) new number parts root is later few all = cc
line-short (EndLine count) entries (InSame at) new number parts root is later few all = cc
line-short (EndLine count) entries (InFile p m s b) new number parts root is later few all = cc
line-short (EndLine count) entries Ended new number parts root is later few all = cc

-- the lines that are still to come
pub record Rest (entries : Entries) (place : Place) (parts : List (List ℕ)) (root : Entries) : Type 0 where
  pub rest : List Line
  pub spelled : parts ≡ map line_text rest ++ [] ∷ []
  pub whole : told entries place ++ rest ≡ image_lines root
  pub each : FitEach [] root
  pub filled : 1 ≤ length root

end-rest : (entries : Entries) (place : Place) (number : ℕ) (rest : List ℕ) (root : Entries) → Tells (at_place entries place) (told entries place) → end_in entries place number rest ≡ Ok root → Rest entries place (rest ∷ []) root
end-rest entries Ended number [] root now is =
    let same : entries ≡ root = cc in
    subst (λ r. Rest entries Ended ([] ∷ []) r) same (record { rest = []; spelled = refl; whole = append-nil (image_lines entries); each = now.each; filled = now.sound })
end-rest entries Ended number (byte ∷ bytes) root now is = cc
end-rest entries AtHead number rest root now is = cc
end-rest entries Between number rest root now is = cc
end-rest entries (InLink path) number rest root now is = cc
end-rest entries (InSame path) number rest root now is = cc
end-rest entries (InFile path mode size bytes) number rest root now is = cc

pub read-rest : (parts : List (List ℕ)) (entries : Entries) (place : Place) (number : ℕ) (root : Entries) → Tells (at_place entries place) (told entries place) → parts ≢ [] → length (told entries place) + length parts < 2 ^ 40
    → read_from (at_place entries place) number parts ≡ Ok root → Rest entries place parts root
read-rest [] entries place number root now some few is = absurd (some refl)
read-rest (rest ∷ []) entries place number root now some few is = end-rest entries place number rest root now is
read-rest (line ∷ next ∷ lines) entries place number root now some few is =
    let gone = go-ok (on_line entries place (line_in place line)) number (λ new. read_from new (number + 1) (next ∷ lines)) root is in
    let at = on-ok entries place (line_in place line) gone.0 gone.1 in
    let short = line-short at.0 entries place gone.0 (number + 1) (next ∷ lines) root at.2 gone.2 (omega arith) (omega arith) in
    let said = line-said place line at.0 short.1 at.1 in
    let tells = step-tells entries place at.0 gone.0 now said.1 short.0 at.2 in
    let longer = length-append (told entries place) (at.0 ∷ []) in
    let here : length (told gone.0.entries gone.0.place) ≡ length (told entries place ++ at.0 ∷ []) = ap length tells.lines_are in
    let later = read-rest (next ∷ lines) gone.0.entries gone.0.place (number + 1) root (record { lines_are = refl; sound = tells.sound; each = tells.each }) (λ none. cc) (omega arith) gone.2 in
    record {
      rest = at.0 ∷ later.rest;
      spelled = (λ i. said.2 i ∷ later.spelled i);
      whole = sym (append_assoc (told entries place) (at.0 ∷ []) later.rest) ∙ ap (λ t. t ++ later.rest) (sym tells.lines_are) ∙ later.whole;
      each = later.each;
      filled = later.filled;
    }

-- the text of lines is their texts joined
joined : (lines : List Line) → join_with_byte 10 (map line_text lines ++ [] ∷ []) ≡ lines_text lines
joined [] = refl
joined (line ∷ []) = sym (append-nil (line_text line ++ 10 ∷ []))
joined (line ∷ next ∷ lines) = ap (λ t. line_text line ++ 10 ∷ t) (joined (next ∷ lines)) ∙ sym (append_assoc (line_text line) (10 ∷ []) (lines_text (next ∷ lines)))

length-parts : (lines : List Line) → length (map line_text lines ++ [] ∷ []) ≡ length lines + 1
length-parts [] = refl
length-parts (line ∷ lines) = let rest = length-parts lines in omega arith

-- a text has one part at least
pub filled : (text : List ℕ) → lines_of text ≢ []
filled text none = let some = length-slice_split (λ byte. byte == 10) text in let few : length (lines_of text) ≡ 0 = ap length none in absurd (omega arith)

pub image_of-is : (text : List ℕ) (root : Entries) → length (lines_of text) < 2 ^ 32 → image_of text ≡ Ok root → IsRoot root × (text ≡ image_text root)
image_of-is text root few is =
    let read = read-rest (lines_of text) [] AtHead 1 root (record { lines_are = refl; sound = refl; each = tt }) (filled text) (omega arith) is in
    let lines : map line_text read.rest ++ [] ∷ [] ≡ map line_text (image_lines root) ++ [] ∷ [] = ap (λ l. map line_text l ++ [] ∷ []) read.whole in
    let count : length (lines_of text) ≡ length (image_lines root) + 1 = ap length (read.spelled ∙ lines) ∙ length-parts (image_lines root) in
    let behind = length-append (all_lines root) (EndLine (length root) ∷ []) in
    let entries = length-all_lines root in (
      record { filled = read.filled; few = omega arith; each = read.each },
      sym (join_with_byte-slice_split 10 text) ∙ ap (join_with_byte 10) (read.spelled ∙ lines) ∙ joined (image_lines root),
    )
