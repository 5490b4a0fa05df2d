-- A turn of the reader's loop.
use Rattle.std.proofs.Common.{ℕ, ◌≡◌, ◌≢◌, ◌+◌, ◌<◌, ◌≤◌, ◌^◌, ◌==◌, List, [], ◌∷◌, length, take, drop, nat_lt, Some, None, Result, Ok, Err, refl, sym, ap, ◌∙◌, arith}
use Rattle.std.specs.List.{position, position_or_len}
use Rattle.std.proofs.lemmas.Bool.{ltb-true}
use Rattle.std.proofs.lemmas.List.Splits.{slice_split_none, slice_split_first, length-slice_split}
use Rattle.br_path.proofs.Faults.{All-position}
use Rattle.root_image.specs.declared.fault.ImageKind.{ImageKind}
use Rattle.root_image.specs.declared.fault.ImageKind.TheVariants.{Cut, After}
use Rattle.root_image.specs.declared.fault.ImageFault.{ImageFault}
use Rattle.root_image.specs.declared.fault.ImageError.{ImageError}
use Rattle.root_image.specs.declared.fault.ImageError.TheVariants.{Fault, Memory}
use Rattle.root_image.specs.declared.fault.Refusal.{Refusal}
use Rattle.root_image.specs.declared.fault.Refusal.TheVariants.{Fault as refused, Memory as no_memory}
use Rattle.root_image.specs.Lines.{Entries}
use Rattle.root_image.specs.Reading.{Answers, Place, AtHead, Between, InFile, InLink, InSame, Ended, State, start, at_place, end_in, go_on, lines_of, image_of}
use Rattle.root_image.specs.Reader.{Refuses, Taken, end_kind, error_at, read_by, read_step}
use Rattle.root_image.proofs.Digits.{passed}
use Rattle.root_image.proofs.Whole.{filled}
use Rattle.root_image.proofs.Capped.{read-capped}

-- a line with a text after it
turn : (take : State → List ℕ → Result State ImageKind) (state : State) (number : ℕ) (line : List ℕ) (parts : List (List ℕ)) → parts ≢ [] → read_by take state number (line ∷ parts) ≡ go_on (take state line) number (λ new. read_by take new (number + 1) parts)
turn take state number line [] some = absurd (some refl)
turn take state number line (next ∷ parts) some = refl

pub line-turn : (old new : State) (number : ℕ) (text line more : List ℕ) → lines_of text ≡ line ∷ lines_of more → read_step old line ≡ Ok new → read_by read_step old number (lines_of text) ≡ read_by read_step new (number + 1) (lines_of more)
line-turn old new number text line more cut is =
    ap (read_by read_step old number) cut ∙ turn read_step old number line (lines_of more) (filled more) ∙ ap (λ o. go_on o number (λ s. read_by read_step s (number + 1) (lines_of more))) is

line-refused : (old : State) (number : ℕ) (text line more : List ℕ) (kind : ImageKind) → lines_of text ≡ line ∷ lines_of more → read_step old line ≡ Err kind → read_by read_step old number (lines_of text) ≡ Err (record { line = number; kind = kind })
line-refused old number text line more kind cut is =
    ap (read_by read_step old number) cut ∙ turn read_step old number line (lines_of more) (filled more) ∙ ap (λ o. go_on o number (λ s. read_by read_step s (number + 1) (lines_of more))) is

-- the whole text is read by lines whose numbers are capped
pub whole : (text : List ℕ) → length (lines_of text) < 2 ^ 32 → read_by read_step start 1 (lines_of text) ≡ image_of text
whole text few = read-capped (lines_of text) start 1 (omega arith)

pub refusal-refuses : (old new : State) (number : ℕ) (whole_text text line more : List ℕ) (refusal : Refusal) → length (lines_of whole_text) < 2 ^ 32
    → read_by read_step old number (lines_of text) ≡ read_by read_step start 1 (lines_of whole_text) → lines_of text ≡ line ∷ lines_of more → Taken (read_step old line) (Err refusal) new
    → Refuses (image_of whole_text) (error_at number refusal)
refusal-refuses old new number whole_text text line more (refused kind) few so_far cut taken = sym (whole whole_text few) ∙ sym so_far ∙ line-refused old number text line more kind cut taken
refusal-refuses old new number whole_text text line more no_memory few so_far cut taken = tt

end-ok : (entries : Entries) (place : Place) (number : ℕ) (rest : List ℕ) → end_kind place rest ≡ None → end_in entries place number rest ≡ Ok entries
end-ok entries Ended number [] is = refl
end-ok entries Ended number (byte ∷ bytes) is = cc
end-ok entries AtHead number rest is = cc
end-ok entries Between number rest is = cc
end-ok entries (InLink path) number rest is = cc
end-ok entries (InSame path) number rest is = cc
end-ok entries (InFile path mode size bytes) number rest is = cc

end-fault : (entries : Entries) (place : Place) (number : ℕ) (rest : List ℕ) (kind : ImageKind) → end_kind place rest ≡ Some kind → end_in entries place number rest ≡ Err (record { line = number; kind = kind })
end-fault entries Ended number [] kind is = cc
end-fault entries Ended number (byte ∷ bytes) kind is = let same : After ≡ kind = cc in ap (λ k. Err (record { line = number; kind = k })) same
end-fault entries AtHead number rest kind is = let same : Cut ≡ kind = cc in ap (λ k. Err (record { line = number; kind = k })) same
end-fault entries Between number rest kind is = let same : Cut ≡ kind = cc in ap (λ k. Err (record { line = number; kind = k })) same
end-fault entries (InLink path) number rest kind is = let same : Cut ≡ kind = cc in ap (λ k. Err (record { line = number; kind = k })) same
end-fault entries (InSame path) number rest kind is = let same : Cut ≡ kind = cc in ap (λ k. Err (record { line = number; kind = k })) same
end-fault entries (InFile path mode size bytes) number rest kind is = let same : Cut ≡ kind = cc in ap (λ k. Err (record { line = number; kind = k })) same

pub end-gathers : (entries : Entries) (place : Place) (number : ℕ) (whole_text rest : List ℕ) → length (lines_of whole_text) < 2 ^ 32
    → read_by read_step (at_place entries place) number (lines_of rest) ≡ read_by read_step start 1 (lines_of whole_text) → lines_of rest ≡ rest ∷ [] → end_kind place rest ≡ None → image_of whole_text ≡ Ok entries
end-gathers entries place number whole_text rest few so_far cut is =
    sym (whole whole_text few) ∙ sym so_far ∙ ap (read_by read_step (at_place entries place) number) cut ∙ end-ok entries place number rest is

pub end-refuses : (entries : Entries) (place : Place) (number : ℕ) (whole_text rest : List ℕ) (kind : ImageKind) → length (lines_of whole_text) < 2 ^ 32
    → read_by read_step (at_place entries place) number (lines_of rest) ≡ read_by read_step start 1 (lines_of whole_text) → lines_of rest ≡ rest ∷ [] → end_kind place rest ≡ Some kind → image_of whole_text ≡ Err (record { line = number; kind = kind })
end-refuses entries place number whole_text rest kind few so_far cut is =
    sym (whole whole_text few) ∙ sym so_far ∙ ap (read_by read_step (at_place entries place) number) cut ∙ end-fault entries place number rest kind is

-- the first line, and what stands after it
pub first-line : (text front back : List ℕ) (place : ℕ) → position (λ byte. byte == 10) text ≡ Some place → front ≡ take place text → back ≡ drop (place + 1) text → lines_of text ≡ front ∷ lines_of back
first-line text front back place at cut rest =
    let found = passed (nat_lt (position_or_len (λ byte. byte == 10) text) (length text)) (position_or_len (λ byte. byte == 10) text) place at in
    slice_split_first (λ byte. byte == 10) text 0 (ltb-true _ _ found.0)
    ∙ (λ i. take (found.1 i) text ∷ lines_of (drop (found.1 i + 1) text))
    ∙ (λ i. sym cut i ∷ lines_of (sym rest i))

pub no-newline : (text : List ℕ) → position (λ byte. byte == 10) text ≡ None → lines_of text ≡ text ∷ []
no-newline text none = slice_split_none (λ byte. byte == 10) text (All-position (λ byte. byte == 10) text none)

-- a text has one line at least, whole or not
pub some-lines : (text : List ℕ) → 1 ≤ length (lines_of text)
some-lines text = omega (arith, length-slice_split (λ byte. byte == 10) text)

-- where a root is meant, nothing but out of memory is answered in its place
pub err-only : (meant : Result Entries ImageFault) (root : Entries) (error : ImageError) → meant ≡ Ok root → Refuses meant error → Answers (Ok root) (Err error)
err-only meant root (Fault fault) is refuses = sym is ∙ refuses
err-only meant root Memory is refuses = tt
