-- The image of a root is read, and gives it back.
use Rattle.std.proofs.Common.{ℕ, zero, suc, ◌≡◌, ◌+◌, ◌-◌, ◌*◌, ◌/◌, ◌%◌, ◌≤◌, ◌<◌, ◌^◌, ◌==◌, ◌&&◌, ◌||◌, not, Bool, true, false, cond, nat_le, min, slice_index, List, [], ◌∷◌, ◌++◌, map, length, take, drop, Ok, refl, sym, ap, subst, ◌∙◌, append_assoc, append-nil, length-append, length-drop, length-take, take_all, take-append-drop, add-one, eq-eqb, ne_eqb, arith}
use Rattle.std.specs.Prelude.{All, IsTrue, codes}
use Rattle.std.specs.List.{list_all}
use Rattle.std.specs.Fmt.{decimal}
use Rattle.std.proofs.lemmas.Bool.{eqb-true, eqb-false, and_parts}
use Rattle.std.proofs.lemmas.List.Splits.{slice_split_at}
use Rattle.std.proofs.lemmas.List.Elements.{All-append, All-nil, All-cons, All-head, All-tail, All-weaker, All-take, All-drop}
use Rattle.hex.specs.Hex.{encode_lower, encode_with, lower_digits}
use Rattle.br_path.specs.Mode.{octal}
use Rattle.br_path.specs.Path.{Names, IsName, IsPath, is_name_byte, path_text}
use Rattle.root_image.specs.declared.root.RootEntry.{RootEntry}
use Rattle.root_image.specs.declared.root.RootEntry.TheVariants.{Dir, Link, First, Same}
use Rattle.root_image.specs.declared.fault.ImageKind.TheVariants.{Form, Count, Size, Group}
use Rattle.root_image.specs.Lines.{Line, BytesLine, EndLine, Entries, rooted, line_text, entry_lines, all_lines, image_lines, lines_text, image_text, pieces, pieces_from}
use Rattle.root_image.specs.Roots.{Fits, FitEach, IsRoot, is_link_text}
use Rattle.root_image.specs.Reading.{Between, InFile, InLink, InSame, Ended, State, start, unless, checked, at_place, with_entry, in_file, ended, same_as, step_in, on_line, step, at_end, go_on, read_from, lines_of, image_of}
use Rattle.root_image.specs.Spelling.{IsLine, IsNumbered, MayStand}
use Rattle.root_image.proofs.Digits.{digits_within, is_number-decimal}
use Rattle.root_image.proofs.Spelled.{line-read, path_at-rooted}
use Rattle.root_image.proofs.Told.{no_fault-stands}
use Rattle.root_image.proofs.Pieces.{no_bytes}

-- a text of one line
abbrev pub Plain : List ℕ → Type 0
Plain text = All (λ byte. (byte == 10) ≡ false) text

-- the reader takes a line, which says what stands in its text
pub record Takes (old : State) (line : Line) (new : State) : Type 0 where
  pub may : MayStand old.place line
  pub said : IsLine line
  pub few : IsNumbered line
  pub plain : Plain (line_text line)
  pub step : step_in old.entries old.place line ≡ Ok new

abbrev pub Reads : State → List Line → State → Type 0
Reads old [] new = old ≡ new
Reads old (line ∷ lines) new = (mid : State) × Takes old line mid × Reads mid lines new

reads-append : (one two : List Line) (old mid new : State) → Reads old one mid → Reads mid two new → Reads old (one ++ two) new
reads-append [] two old mid new front back = subst (λ s. Reads s two new) (sym front) back
reads-append (line ∷ one) two old mid new front back = (front.0, front.1, reads-append one two front.0 mid new front.2 back)

-- ---- texts of one line

above-plain : (byte : ℕ) → 11 ≤ byte → (byte == 10) ≡ false
above-plain byte high = ne_eqb byte 10 (λ same. absurd (omega arith))

four-plain : (a b c d : ℕ) → 11 ≤ a → 11 ≤ b → 11 ≤ c → 11 ≤ d → Plain (a ∷ b ∷ c ∷ d ∷ [])
four-plain a b c d at_a at_b at_c at_d =
    All-cons (λ byte. (byte == 10) ≡ false) a (b ∷ c ∷ d ∷ []) (above-plain a at_a)
    (All-cons (λ byte. (byte == 10) ≡ false) b (c ∷ d ∷ []) (above-plain b at_b)
    (All-cons (λ byte. (byte == 10) ≡ false) c (d ∷ []) (above-plain c at_c)
    (All-cons (λ byte. (byte == 10) ≡ false) d [] (above-plain d at_d) (All-nil (λ byte. (byte == 10) ≡ false)))))

octal-plain : (mode : ℕ) → Plain (octal mode)
octal-plain mode = four-plain (48 + mode / 512 % 8) (48 + mode / 64 % 8) (48 + mode / 8 % 8) (48 + mode % 8) (omega arith) (omega arith) (omega arith) (omega arith)

decimal-plain : (n : ℕ) → n < 2 ^ 64 → Plain (decimal n)
decimal-plain n small = All-weaker (λ byte. (48 ≤ byte) × (byte ≤ 57)) (λ byte. (byte == 10) ≡ false) (λ byte within. above-plain byte (let low = within.0 in omega arith)) (decimal n) (digits_within (decimal n) (is_number-decimal n small))

name-byte_plain : (byte : ℕ) → is_name_byte byte ≡ true → (byte == 10) ≡ false
name-byte_plain byte legal = grind arith

names-plain : (names : Names) → All IsName names → Plain (path_text names)
names-plain [] legal = All-nil (λ byte. (byte == 10) ≡ false)
names-plain (name ∷ []) legal = All-weaker (λ byte. IsTrue (is_name_byte byte)) (λ byte. (byte == 10) ≡ false) name-byte_plain name (All-head IsName name [] legal).printable
names-plain (name ∷ next ∷ names) legal =
    All-append (λ byte. (byte == 10) ≡ false) name (47 ∷ path_text (next ∷ names))
    (All-weaker (λ byte. IsTrue (is_name_byte byte)) (λ byte. (byte == 10) ≡ false) name-byte_plain name (All-head IsName name (next ∷ names) legal).printable)
    (All-cons (λ byte. (byte == 10) ≡ false) 47 (path_text (next ∷ names)) refl (names-plain (next ∷ names) (All-tail IsName name (next ∷ names) legal)))

path-plain : (path : Names) → IsPath path → Plain (rooted path)
path-plain path legal = All-cons (λ byte. (byte == 10) ≡ false) 47 (path_text path) refl (names-plain path legal.legal)

text-plain : (text : List ℕ) → is_link_text text ≡ true → Plain text
text-plain text is = by text (and_parts (nat_le 1 (length text) && nat_le (length text) 1024) (list_all (λ byte. byte == 47 || is_name_byte byte) text) is).1
  where
    fact : (byte : ℕ) → (byte == 47 || is_name_byte byte) ≡ true → (byte == 10) ≡ false
    fact byte is = grind arith

    by : (text : List ℕ) → list_all (λ byte. byte == 47 || is_name_byte byte) text ≡ true → Plain text
    by [] all = All-nil (λ byte. (byte == 10) ≡ false)
    by (byte ∷ text) all =
        let parts = and_parts (byte == 47 || is_name_byte byte) (list_all (λ byte. byte == 47 || is_name_byte byte) text) all in
        All-cons (λ byte. (byte == 10) ≡ false) byte text (fact byte parts.0) (by text parts.1)

-- the digits of the table
abbrev all_plain : List ℕ → Bool
all_plain [] = true
all_plain (byte ∷ bytes) = not (byte == 10) && all_plain bytes

digit-plain : (d : ℕ) → (slice_index lower_digits d == 10) ≡ false
digit-plain d = by lower_digits refl d
  where
    flipped : (b : Bool) → not b ≡ true → b ≡ false
    flipped true is = cc
    flipped false is = refl

    by : (table : List ℕ) → all_plain table ≡ true → (d : ℕ) → (slice_index table d == 10) ≡ false
    by [] all d = refl
    by (byte ∷ table) all zero = flipped (byte == 10) (and_parts (not (byte == 10)) (all_plain table) all).0
    by (byte ∷ table) all (suc d) = by table (and_parts (not (byte == 10)) (all_plain table) all).1 d

bytes-plain : (bytes : List ℕ) → Plain (encode_lower bytes)
unfolding encode_with
bytes-plain [] = All-nil (λ byte. (byte == 10) ≡ false)
bytes-plain (byte ∷ bytes) =
    All-cons (λ byte. (byte == 10) ≡ false) (slice_index lower_digits (byte / 16)) (slice_index lower_digits (byte % 16) ∷ encode_lower bytes) (digit-plain (byte / 16))
    (All-cons (λ byte. (byte == 10) ≡ false) (slice_index lower_digits (byte % 16)) (encode_lower bytes) (digit-plain (byte % 16)) (bytes-plain bytes))

-- a word and a blank before
two-plain : (one two : ℕ) (text : List ℕ) → 11 ≤ one → 11 ≤ two → Plain text → Plain (one ∷ two ∷ text)
two-plain one two text high low plain = All-cons (λ byte. (byte == 10) ≡ false) one (two ∷ text) (above-plain one high) (All-cons (λ byte. (byte == 10) ≡ false) two text (above-plain two low) plain)

joined-plain : (one two : List ℕ) → Plain one → Plain two → Plain (one ++ 32 ∷ two)
joined-plain one two front back = All-append (λ byte. (byte == 10) ≡ false) one (32 ∷ two) front (All-cons (λ byte. (byte == 10) ≡ false) 32 two refl back)

-- ---- the lines of a root

file-reads : (past : Entries) (path : Names) (mode size : ℕ) (more : ℕ) (done rest : List ℕ) → All (λ byte. byte < 256) rest → length done + length rest ≡ size → more * 32 < length rest → length rest ≤ more * 32 + 32
    → Reads (at_place past (InFile path mode size done)) (map BytesLine (pieces_from (suc more) rest)) (with_entry past path (First mode (done ++ rest)))
file-reads past path mode size zero done rest small all over under =
    let short : length rest ≤ 32 = omega arith in
    let whole : take 32 rest ≡ rest = take_all 32 rest short in
    let long : length rest ≡ min 32 (size - length done) = omega arith in
    let ends : length (done ++ rest) ≡ size = omega (arith, length-append done rest) in
    subst (λ r. Reads (at_place past (InFile path mode size done)) (BytesLine r ∷ []) (with_entry past path (First mode (done ++ rest)))) (sym whole) (
      with_entry past path (First mode (done ++ rest)),
      record {
        may = tt;
        said = small;
        few = tt;
        plain = two-plain 61 32 (encode_lower rest) (omega arith) (omega arith) (bytes-plain rest);
        step = (λ i. checked (eq-eqb (length rest) (min 32 (size - length done)) long i) Size (in_file past path mode size (done ++ rest)))
            ∙ (λ i. Ok (cond (eq-eqb (length (done ++ rest)) size ends i) (with_entry past path (First mode (done ++ rest))) (at_place past (InFile path mode size (done ++ rest)))));
      },
      refl,
    )
file-reads past path mode size (suc more) done rest small all over under =
    let front : length (take 32 rest) ≡ 32 = omega (arith, length-take 32 rest) in
    let back : length (drop 32 rest) ≡ length rest - 32 = length-drop 32 rest in
    let long : length (take 32 rest) ≡ min 32 (size - length done) = omega arith in
    let joined = length-append done (take 32 rest) in
    let goes : (length (done ++ take 32 rest) == size) ≡ false = ne_eqb (length (done ++ take 32 rest)) size (λ same. absurd (omega arith)) in (
      at_place past (InFile path mode size (done ++ take 32 rest)),
      record {
        may = tt;
        said = All-take (λ byte. byte < 256) 32 rest small;
        few = tt;
        plain = two-plain 61 32 (encode_lower (take 32 rest)) (omega arith) (omega arith) (bytes-plain (take 32 rest));
        step = (λ i. checked (eq-eqb (length (take 32 rest)) (min 32 (size - length done)) long i) Size (in_file past path mode size (done ++ take 32 rest)))
            ∙ (λ i. Ok (cond (goes i) (with_entry past path (First mode (done ++ take 32 rest))) (at_place past (InFile path mode size (done ++ take 32 rest)))));
      },
      subst (λ b. Reads (at_place past (InFile path mode size (done ++ take 32 rest))) (map BytesLine (pieces_from (suc more) (drop 32 rest))) (with_entry past path (First mode b)))
          (append_assoc done (take 32 rest) (drop 32 rest) ∙ ap (λ r. done ++ r) (take-append-drop 32 rest))
          (file-reads past path mode size more (done ++ take 32 rest) (drop 32 rest) (All-drop (λ byte. byte < 256) 32 rest small) (omega arith) (omega arith) (omega arith)),
    )

bytes-reads : (past : Entries) (path : Names) (mode : ℕ) (bytes : List ℕ) → All (λ byte. byte < 256) bytes → (none : Bool) → (0 == length bytes) ≡ none
    → Reads (cond none (with_entry past path (First mode [])) (at_place past (InFile path mode (length bytes) []))) (map BytesLine (pieces bytes)) (with_entry past path (First mode bytes))
bytes-reads past path mode bytes small true is =
    let empty : bytes ≡ [] = no_bytes bytes (sym (eqb-true 0 (length bytes) is)) in
    subst (λ b. Reads (with_entry past path (First mode [])) (map BytesLine (pieces b)) (with_entry past path (First mode b))) (sym empty) refl
bytes-reads past path mode bytes small false is =
    let some = eqb-false 0 (length bytes) is in
    let more = (length bytes - 1) / 32 in
    let count : (length bytes + 31) / 32 ≡ more + 1 = omega arith in
    subst (λ n. Reads (at_place past (InFile path mode (length bytes) [])) (map BytesLine (pieces_from n bytes)) (with_entry past path (First mode bytes))) (sym (count ∙ add-one more))
    (file-reads past path mode (length bytes) more [] bytes small (omega arith) (omega arith) (omega arith))

entry-reads : (past : Entries) (path : Names) (entry : RootEntry) → Fits past path entry → Reads (at_place past Between) (entry_lines path entry) (with_entry past path entry)
entry-reads past path (Dir mode) fits =
    let free = no_fault-stands past path true fits.stands in (
      with_entry past path (Dir mode),
      record { may = tt; said = (fits.said, fits.legal); few = tt; plain = two-plain 100 32 (octal mode ++ 32 ∷ rooted path) (omega arith) (omega arith) (joined-plain (octal mode) (rooted path) (octal-plain mode) (path-plain path fits.legal)); step = ap (λ f. unless f (with_entry past path (Dir mode))) free },
      refl,
    )
entry-reads past path (Link text) fits =
    let free = no_fault-stands past path false fits.stands in (
      at_place past (InLink path),
      record { may = tt; said = fits.legal; few = tt; plain = two-plain 108 32 (rooted path) (omega arith) (omega arith) (path-plain path fits.legal); step = ap (λ f. unless f (at_place past (InLink path))) free },
      (
        with_entry past path (Link text),
        record { may = tt; said = tt; few = tt; plain = two-plain 62 32 text (omega arith) (omega arith) (text-plain text fits.said); step = ap (λ b. checked b Form (with_entry past path (Link text))) fits.said },
        refl,
      ),
    )
entry-reads past path (First mode bytes) fits =
    let free = no_fault-stands past path false fits.stands in
    let few : length bytes < 2 ^ 63 = fits.said.1 in (
      in_file past path mode (length bytes) [],
      record {
        may = tt;
        said = (fits.said.0, fits.legal);
        few = omega arith;
        plain = two-plain 102 32 (octal mode ++ 32 ∷ (decimal (length bytes) ++ 32 ∷ rooted path)) (omega arith) (omega arith) (joined-plain (octal mode) (decimal (length bytes) ++ 32 ∷ rooted path) (octal-plain mode) (joined-plain (decimal (length bytes)) (rooted path) (decimal-plain (length bytes) (omega arith)) (path-plain path fits.legal)));
        step = ap (λ f. unless f (in_file past path mode (length bytes) [])) free;
      },
      bytes-reads past path mode bytes fits.said.2 (0 == length bytes) refl,
    )
entry-reads past path (Same first) fits =
    let free = no_fault-stands past path false fits.stands in (
      at_place past (InSame path),
      record { may = tt; said = fits.legal; few = tt; plain = two-plain 104 32 (rooted path) (omega arith) (omega arith) (path-plain path fits.legal); step = ap (λ f. unless f (at_place past (InSame path))) free },
      (
        with_entry past path (Same first),
        record {
          may = tt;
          said = tt;
          few = tt;
          plain = two-plain 62 32 (rooted first) (omega arith) (omega arith) (path-plain first fits.said.0);
          step = ap (λ found. same_as past path found) (path_at-rooted first fits.said.0) ∙ ap (λ b. checked b Group (with_entry past path (Same first))) fits.said.1;
        },
        refl,
      ),
    )

all-reads : (past entries : Entries) → FitEach past entries → Reads (at_place past Between) (all_lines entries) (at_place (past ++ entries) Between)
all-reads past [] fits = ap (λ e. at_place e Between) (sym (append-nil past))
all-reads past (entry ∷ entries) fits =
    reads-append (entry_lines entry.0 entry.1) (all_lines entries) (at_place past Between) (at_place (past ++ entry ∷ []) Between) (at_place (past ++ entry ∷ entries) Between)
    (entry-reads past entry.0 entry.1 fits.0)
    (subst (λ e. Reads (at_place (past ++ entry ∷ []) Between) (all_lines entries) (at_place e Between)) (append_assoc past (entry ∷ []) entries) (all-reads (past ++ entry ∷ []) entries fits.1))

end-step : (root : Entries) → 1 ≤ length root → ended root (length root) ≡ Ok (at_place root Ended)
end-step [] some = absurd (omega arith)
end-step (entry ∷ root) some = ap (λ b. checked b Count (at_place (entry ∷ root) Ended)) (eq-eqb (length (entry ∷ root)) (length (entry ∷ root)) refl)

word-plain : (text : List ℕ) → all_plain text ≡ true → Plain text
word-plain [] all = All-nil (λ byte. (byte == 10) ≡ false)
word-plain (byte ∷ text) all =
    let parts = and_parts (not (byte == 10)) (all_plain text) all in
    All-cons (λ byte. (byte == 10) ≡ false) byte text (flipped (byte == 10) parts.0) (word-plain text parts.1)
  where
    flipped : (b : Bool) → not b ≡ true → b ≡ false
    flipped true is = cc
    flipped false is = refl

image-reads : (root : Entries) → IsRoot root → Reads start (image_lines root) (at_place root Ended)
image-reads root is =
    let few : length root < 2 ^ 63 = is.few in (
      at_place [] Between,
      record { may = tt; said = tt; few = tt; plain = word-plain (codes "rootfs 1") refl; step = refl },
      reads-append (all_lines root) (EndLine (length root) ∷ []) (at_place [] Between) (at_place root Between) (at_place root Ended) (all-reads [] root is.each) (
        at_place root Ended,
        record { may = tt; said = tt; few = omega arith; plain = All-append (λ byte. (byte == 10) ≡ false) (codes "end ") (decimal (length root)) (word-plain (codes "end ") refl) (decimal-plain (length root) (omega arith)); step = end-step root is.filled },
        refl,
      ),
    )

-- ---- from lines to their text

-- each line is a part of the text, and the last part is empty
lines_of-text : (lines : List Line) (old new : State) → Reads old lines new → lines_of (lines_text lines) ≡ map line_text lines ++ [] ∷ []
lines_of-text [] old new reads = refl
lines_of-text (line ∷ lines) old new reads =
    ap lines_of (append_assoc (line_text line) (10 ∷ []) (lines_text lines))
    ∙ slice_split_at (λ byte. byte == 10) (line_text line) 10 (lines_text lines) reads.1.plain refl
    ∙ ap (λ parts. line_text line ∷ parts) (lines_of-text lines reads.0 new reads.2)

read-cons : (old : State) (number : ℕ) (line : List ℕ) (lines : List Line) → read_from old number (line ∷ (map line_text lines ++ [] ∷ [])) ≡ go_on (step old line) number (λ new. read_from new (number + 1) (map line_text lines ++ [] ∷ []))
read-cons old number line [] = refl
read-cons old number line (next ∷ lines) = refl

reads-read : (lines : List Line) (old : State) (number : ℕ) (root : Entries) → Reads old lines (at_place root Ended) → read_from old number (map line_text lines ++ [] ∷ []) ≡ Ok root
reads-read [] old number root reads = ap (λ s. at_end s number []) reads
reads-read (line ∷ lines) old number root reads =
    let takes = reads.1 in
    read-cons old number (line_text line) lines
    ∙ ap (λ o. go_on (on_line old.entries old.place o) number (λ new. read_from new (number + 1) (map line_text lines ++ [] ∷ []))) (line-read old.place line takes.may takes.said takes.few)
    ∙ ap (λ o. go_on o number (λ new. read_from new (number + 1) (map line_text lines ++ [] ∷ []))) takes.step
    ∙ reads-read lines reads.0 (number + 1) root reads.2

pub image_of-image_text : (root : Entries) → IsRoot root → image_of (image_text root) ≡ Ok root
image_of-image_text root is =
    let reads = image-reads root is in
    ap (read_from start 1) (lines_of-text (image_lines root) start (at_place root Ended) reads) ∙ reads-read (image_lines root) start 1 root reads

pub one_root : (one other : Entries) → IsRoot one → IsRoot other → image_text one ≡ image_text other → one ≡ other
one_root one other is also same =
    let both : Ok one ≡ Ok other = sym (image_of-image_text one is) ∙ ap image_of same ∙ image_of-image_text other also in cc
