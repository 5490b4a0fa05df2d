-- Joined lines, as laws on the parts of a text.
use Rattle.std.proofs.Common.{◌≡◌, ℕ, zero, suc, ◌+◌, ◌-◌, eqb, Bool, true, false, cond, List, [], ◌∷◌, ◌++◌, length, take, reverse, map, sym, refl, ap, ◌∙◌, append_assoc, ◌⊎◌, inl, inr, arith}
use Rattle.std.specs.Prelude.{All, slice_index}
use Rattle.std.proofs.lemmas.List.{append-nil, reverse-reverse, length-append}
use Rattle.std.proofs.Math.Seq.{take-append_seam, get_or-append_seam}
use Rattle.mk_syntax.specs.declared.lines.Line.{Line}
use Rattle.mk_syntax.specs.Blanks.{is_blank, skip_blanks, trim_end}
use Rattle.mk_syntax.specs.Lines.{is_joined, joined, lines_from, joined_parts}
use Rattle.mk_syntax.specs.Joins.{texts, AreBlanks, BeginsPlain, EndsPlain, later, StayApart, BecomesOneSpace, CountOn}
use Rattle.mk_syntax.proofs.Trims.{trim_end-blank, trim_end-kept}

-- a text that isn't empty has a last byte
snoc : (x : ℕ) (xs : List ℕ) → (front : List ℕ) × ((b : ℕ) × (x ∷ xs ≡ front ++ b ∷ []))
snoc x [] = ([], (x, refl))
snoc x (y ∷ ys) = let s = snoc y ys in (x ∷ s.0, (s.1.0, ap (λ r. x ∷ r) s.1.1))

-- blanks before a text go
skip_blanks-blanks : (before text : List ℕ) → AreBlanks before → skip_blanks (before ++ text) ≡ skip_blanks text
skip_blanks-blanks [] text h = refl
skip_blanks-blanks (b ∷ bs) text h =
    let blank : is_blank b ≡ true = h 0 b (omega arith) in
    ap (λ t. cond t (skip_blanks (bs ++ text)) (b ∷ bs ++ text)) blank ∙ skip_blanks-blanks bs text (λ k d e. h (suc k) d (omega arith))

-- what begins with another byte stays
skip_blanks-plain : (text : List ℕ) → BeginsPlain text → skip_blanks text ≡ text
skip_blanks-plain [] h = refl
skip_blanks-plain (b ∷ bs) h = ap (λ t. cond t (skip_blanks bs) (b ∷ bs)) (h b bs refl)

-- another byte and what is after it stay
skip_blanks-kept : (front : List ℕ) (b : ℕ) (bs : List ℕ) → is_blank b ≡ false → skip_blanks (front ++ b ∷ bs) ≡ skip_blanks front ++ b ∷ bs
skip_blanks-kept [] b bs h = ap (λ t. cond t (skip_blanks bs) (b ∷ bs)) h
skip_blanks-kept (x ∷ front) b bs h =
    elim (is_blank x) as (λ t. cond t (skip_blanks (front ++ b ∷ bs)) (x ∷ front ++ b ∷ bs) ≡ cond t (skip_blanks front) (x ∷ front) ++ b ∷ bs) [
      | true ↦ skip_blanks-kept front b bs h
      | false ↦ refl
    ]

skip_blanks-twice : (text : List ℕ) → skip_blanks (skip_blanks text) ≡ skip_blanks text
skip_blanks-twice [] = refl
skip_blanks-twice (b ∷ bs) =
    let P : Bool → Type 0 = λ t. is_blank b ≡ t → skip_blanks (cond t (skip_blanks bs) (b ∷ bs)) ≡ cond t (skip_blanks bs) (b ∷ bs) in
    elim (is_blank b) as P [
      | true ↦ λ e. skip_blanks-twice bs
      | false ↦ λ e. ap (λ t. cond t (skip_blanks bs) (b ∷ bs)) e
    ] refl

trim_end-twice : (text : List ℕ) → trim_end (trim_end text) ≡ trim_end text
trim_end-twice text =
    ap (λ r. reverse (skip_blanks r)) (reverse-reverse (skip_blanks (reverse text))) ∙ ap reverse (skip_blanks-twice (reverse text))

-- blanks after a text go
trim_end-blanks : (line before : List ℕ) → AreBlanks before → trim_end (line ++ before) ≡ trim_end line
trim_end-blanks line [] h = ap trim_end (append-nil line)
trim_end-blanks line (b ∷ bs) h =
    let blank : is_blank b ≡ true = h 0 b (omega arith) in
    ap trim_end (sym (append_assoc line (b ∷ []) bs)) ∙ trim_end-blanks (line ++ b ∷ []) bs (λ k d e. h (suc k) d (omega arith)) ∙ trim_end-blank line b blank

-- a backslash at the end
last-byte : (x : List ℕ) (b : ℕ) → slice_index (x ++ b ∷ []) (length (x ++ b ∷ []) - 1) ≡ b
last-byte x b =
    let size : length (x ++ b ∷ []) - 1 ≡ length x = omega (arith, length-append x (b ∷ [])) in
    ap (slice_index (x ++ b ∷ [])) size ∙ get_or-append_seam x b [] 0

is_joined-end : (x : List ℕ) → is_joined (x ++ 92 ∷ []) ≡ true
is_joined-end x = ap (λ b. eqb b 92) (last-byte x 92)

-- what joining makes, as one list after what is kept
joined-is : (line further : List ℕ) → joined line further ≡ trim_end (take (length line - 1) line) ++ 32 ∷ skip_blanks further
joined-is line further = append_assoc (trim_end (take (length line - 1) line)) (32 ∷ []) (skip_blanks further)

joined-end : (x further : List ℕ) → joined (x ++ 92 ∷ []) further ≡ trim_end x ++ 32 ∷ skip_blanks further
joined-end x further =
    let size : length (x ++ 92 ∷ []) - 1 ≡ length x = omega (arith, length-append x (92 ∷ [])) in
    joined-is (x ++ 92 ∷ []) further
    ∙ ap (λ n. trim_end (take n (x ++ 92 ∷ [])) ++ 32 ∷ skip_blanks further) size
    ∙ ap (λ t. trim_end t ++ 32 ∷ skip_blanks further) (take-append_seam x (92 ∷ []))

-- the bytes of the lines, where this one is begun
abbrev texts_from : List ℕ → List (List ℕ) → List (List ℕ)
texts_from line [] = line ∷ []
texts_from line (further ∷ raw) = cond (is_joined line) (texts_from (joined line further) raw) (line ∷ texts_from further raw)

texts_lines : (start number : ℕ) (line : List ℕ) (raw : List (List ℕ)) → texts (lines_from start number line raw) ≡ texts_from line raw
texts_lines start number line [] = refl
texts_lines start number line (further ∷ raw) =
    elim (is_joined line) as (λ t. texts (cond t (lines_from start (number + 1) (joined line further) raw) (record { number = start; bytes = line } ∷ lines_from (number + 1) (number + 1) further raw)) ≡ cond t (texts_from (joined line further) raw) (line ∷ texts_from further raw)) [
      | true ↦ texts_lines start (number + 1) (joined line further) raw
      | false ↦ ap (λ r. line ∷ r) (texts_lines (number + 1) (number + 1) further raw)
    ]

-- one join
one_space : (line before after next : List ℕ) (back : List (List ℕ)) → trim_end line ≡ line → AreBlanks before → AreBlanks after → BeginsPlain next → texts_from ((line ++ before) ++ 92 ∷ []) ((after ++ next) ∷ back) ≡ texts_from (line ++ 32 ∷ next) back
one_space line before after next back ends blanks_before blanks_after begins =
    ap (λ t. cond t (texts_from (joined ((line ++ before) ++ 92 ∷ []) (after ++ next)) back) (((line ++ before) ++ 92 ∷ []) ∷ texts_from (after ++ next) back)) (is_joined-end (line ++ before))
    ∙ ap (λ t. texts_from t back)
    (joined-end (line ++ before) (after ++ next)
    ∙ ap (λ t. t ++ 32 ∷ skip_blanks (after ++ next)) (trim_end-blanks line before blanks_before ∙ ends)
    ∙ ap (λ t. line ++ 32 ∷ t) (skip_blanks-blanks after next blanks_after ∙ skip_blanks-plain next begins))

one_blank : AreBlanks (32 ∷ [])
one_blank zero d e = refl
one_blank (suc k) d e = absurd (omega arith)

-- a join after a join
again : (kept line before after next : List ℕ) (back : List (List ℕ)) → trim_end kept ≡ kept → EndsPlain line → AreBlanks before → AreBlanks after → BeginsPlain next → texts_from (kept ++ 32 ∷ skip_blanks (line ++ (before ++ 92 ∷ []))) ((after ++ next) ∷ back) ≡ texts_from (kept ++ 32 ∷ skip_blanks (line ++ 32 ∷ next)) back
again kept [] before after next back ends plain blanks_before blanks_after begins =
    ap (λ t. texts_from (kept ++ 32 ∷ t) ((after ++ next) ∷ back)) (skip_blanks-blanks before (92 ∷ []) blanks_before)
    ∙ ap (λ t. texts_from t ((after ++ next) ∷ back)) (sym (append_assoc kept (32 ∷ []) (92 ∷ [])))
    ∙ one_space kept (32 ∷ []) after next back ends one_blank blanks_after begins
    ∙ ap (λ t. texts_from (kept ++ 32 ∷ t) back) (sym (skip_blanks-plain next begins))
again kept (x ∷ xs) before after next back ends plain blanks_before blanks_after begins =
    let s = snoc x xs in
    let front = s.0 in
    let b = s.1.0 in
    let cut : x ∷ xs ≡ front ++ b ∷ [] = s.1.1 in
    let kept_byte : is_blank b ≡ false = plain front b cut in
    let skipped : (rest : List ℕ) → kept ++ 32 ∷ skip_blanks ((x ∷ xs) ++ rest) ≡ ((kept ++ 32 ∷ skip_blanks front) ++ b ∷ []) ++ rest =
    λ rest. ap (λ t. kept ++ 32 ∷ skip_blanks (t ++ rest)) cut
    ∙ ap (λ t. kept ++ 32 ∷ skip_blanks t) (append_assoc front (b ∷ []) rest)
    ∙ ap (λ t. kept ++ 32 ∷ t) (skip_blanks-kept front b rest kept_byte)
    ∙ sym (append_assoc kept (32 ∷ skip_blanks front) (b ∷ rest))
    ∙ sym (append_assoc (kept ++ 32 ∷ skip_blanks front) (b ∷ []) rest) in
    ap (λ t. texts_from t ((after ++ next) ∷ back)) (skipped (before ++ 92 ∷ []) ∙ sym (append_assoc ((kept ++ 32 ∷ skip_blanks front) ++ b ∷ []) before (92 ∷ [])))
    ∙ one_space ((kept ++ 32 ∷ skip_blanks front) ++ b ∷ []) before after next back (trim_end-kept (kept ++ 32 ∷ skip_blanks front) b kept_byte) blanks_before blanks_after begins
    ∙ ap (λ t. texts_from t back) (sym (skipped (32 ∷ next)))

trim_end-plain : (line : List ℕ) → EndsPlain line → trim_end line ≡ line
trim_end-plain [] h = refl
trim_end-plain (x ∷ xs) h =
    let s = snoc x xs in ap trim_end s.1.1 ∙ trim_end-kept s.0 s.1.0 (h s.0 s.1.0 s.1.1) ∙ sym s.1.1

-- a join after any parts
behind_parts : (front back : List (List ℕ)) (begun line before after next : List ℕ) → EndsPlain line → AreBlanks before → AreBlanks after → BeginsPlain next → texts_from begun (front ++ (line ++ before ++ 92 ∷ []) ∷ (after ++ next) ∷ back) ≡ texts_from begun (front ++ (line ++ 32 ∷ next) ∷ back)
behind_parts [] back begun line before after next ends blanks_before blanks_after begins =
    elim (is_joined begun) as (λ t. cond t (texts_from (joined begun (line ++ before ++ 92 ∷ [])) ((after ++ next) ∷ back)) (begun ∷ texts_from (line ++ before ++ 92 ∷ []) ((after ++ next) ∷ back)) ≡ cond t (texts_from (joined begun (line ++ 32 ∷ next)) back) (begun ∷ texts_from (line ++ 32 ∷ next) back)) [
      | true ↦ ap (λ t. texts_from t ((after ++ next) ∷ back)) (joined-is begun ((line ++ before) ++ 92 ∷ []) ∙ ap (λ t. trim_end (take (length begun - 1) begun) ++ 32 ∷ skip_blanks t) (append_assoc line before (92 ∷ [])))
          ∙ again (trim_end (take (length begun - 1) begun)) line before after next back (trim_end-twice (take (length begun - 1) begun)) ends blanks_before blanks_after begins
          ∙ ap (λ t. texts_from t back) (sym (joined-is begun (line ++ 32 ∷ next)))
      | false ↦ ap (λ r. begun ∷ r) (one_space line before after next back (trim_end-plain line ends) blanks_before blanks_after begins)
    ]
behind_parts (part ∷ front) back begun line before after next ends blanks_before blanks_after begins =
    elim (is_joined begun) as (λ t. cond t (texts_from (joined begun part) (front ++ (line ++ before ++ 92 ∷ []) ∷ (after ++ next) ∷ back)) (begun ∷ texts_from part (front ++ (line ++ before ++ 92 ∷ []) ∷ (after ++ next) ∷ back)) ≡ cond t (texts_from (joined begun part) (front ++ (line ++ 32 ∷ next) ∷ back)) (begun ∷ texts_from part (front ++ (line ++ 32 ∷ next) ∷ back))) [
      | true ↦ behind_parts front back (joined begun part) line before after next ends blanks_before blanks_after begins
      | false ↦ ap (λ r. begun ∷ r) (behind_parts front back part line before after next ends blanks_before blanks_after begins)
    ]

pub becomes_one_space : (front : List (List ℕ)) (line before after next : List ℕ) (back : List (List ℕ)) → BecomesOneSpace front line before after next back
becomes_one_space [] line before after next back ends blanks_before blanks_after begins =
    texts_lines 1 1 (line ++ before ++ 92 ∷ []) ((after ++ next) ∷ back)
    ∙ one_space line before after next back (trim_end-plain line ends) blanks_before blanks_after begins
    ∙ sym (texts_lines 1 1 (line ++ 32 ∷ next) back)
becomes_one_space (part ∷ front) line before after next back ends blanks_before blanks_after begins =
    texts_lines 1 1 part (front ++ (line ++ before ++ 92 ∷ []) ∷ (after ++ next) ∷ back)
    ∙ behind_parts front back part line before after next ends blanks_before blanks_after begins
    ∙ sym (texts_lines 1 1 part (front ++ (line ++ 32 ∷ next) ∷ back))

-- parts without a backslash at an end
apart : (part : List ℕ) (parts : List (List ℕ)) → All (λ p. is_joined p ≡ false) (part ∷ parts) → texts_from part parts ≡ part ∷ parts
apart part [] h = refl
apart part (further ∷ parts) h =
    let here : is_joined part ≡ false = h 0 part (omega arith) in
    ap (λ t. cond t (texts_from (joined part further) parts) (part ∷ texts_from further parts)) here
    ∙ ap (λ r. part ∷ r) (apart further parts (λ k d e. h (suc k) d (omega arith)))

pub stay_apart : (parts : List (List ℕ)) → StayApart parts
stay_apart [] h = refl
stay_apart (part ∷ parts) h = texts_lines 1 1 part parts ∙ apart part parts h

-- a line by its number and bytes
abbrev line_at : ℕ → List ℕ → Line
line_at number bytes = record { number = number; bytes = bytes }

-- lines, counted on
counted : (count start number : ℕ) (line : List ℕ) (raw : List (List ℕ)) → lines_from (start + count) (number + count) line raw ≡ map (later count) (lines_from start number line raw)
counted count start number line [] = refl
counted count start number line (further ∷ raw) =
    let one : (number + count) + 1 ≡ (number + 1) + count = omega arith in
    elim (is_joined line) as (λ t. cond t (lines_from (start + count) ((number + count) + 1) (joined line further) raw) (record { number = start + count; bytes = line } ∷ lines_from ((number + count) + 1) ((number + count) + 1) further raw) ≡ map (later count) (cond t (lines_from start (number + 1) (joined line further) raw) (record { number = start; bytes = line } ∷ lines_from (number + 1) (number + 1) further raw))) [
      | true ↦ ap (λ n. lines_from (start + count) n (joined line further) raw) one ∙ counted count start (number + 1) (joined line further) raw
      | false ↦ ap (λ r. line_at (start + count) line ∷ r) (ap (λ n. lines_from n n further raw) one ∙ counted count (number + 1) (number + 1) further raw)
    ]

-- after a line that isn't joined, the count goes on
stops : (start number : ℕ) (line : List ℕ) (back : List (List ℕ)) → is_joined line ≡ false → lines_from start number line back ≡ record { number = start; bytes = line } ∷ map (later number) (joined_parts back)
stops start number line [] h = refl
stops start number line (part ∷ back) h =
    let one : number + 1 ≡ 1 + number = omega arith in
    ap (λ t. cond t (lines_from start (number + 1) (joined line part) back) (record { number = start; bytes = line } ∷ lines_from (number + 1) (number + 1) part back)) h
    ∙ ap (λ r. line_at start line ∷ r) (ap (λ n. lines_from n n part back) one ∙ counted number 1 1 part back)

skip_end : (front : List ℕ) (b : ℕ) → (skip_blanks (front ++ b ∷ []) ≡ []) ⊎ (skip_blanks (front ++ b ∷ []) ≡ skip_blanks front ++ b ∷ [])
skip_end [] b = elim (is_blank b) as (λ t. (cond t [] (b ∷ []) ≡ []) ⊎ (cond t [] (b ∷ []) ≡ b ∷ [])) [ true ↦ inl refl | false ↦ inr refl ]
skip_end (x ∷ front) b =
    elim (is_blank x) as (λ t. (cond t (skip_blanks (front ++ b ∷ [])) (x ∷ front ++ b ∷ []) ≡ []) ⊎ (cond t (skip_blanks (front ++ b ∷ [])) (x ∷ front ++ b ∷ []) ≡ cond t (skip_blanks front) (x ∷ front) ++ b ∷ [])) [
      | true ↦ skip_end front b
      | false ↦ inr refl
    ]

-- a joined line is joined on where its last part is
unjoined : (kept part : List ℕ) → is_joined part ≡ false → is_joined (kept ++ 32 ∷ skip_blanks part) ≡ false
unjoined kept [] h = ap (λ b. eqb b 92) (last-byte kept 32)
unjoined kept (x ∷ xs) h =
    let s = snoc x xs in
    let front = s.0 in
    let b = s.1.0 in
    let cut : x ∷ xs ≡ front ++ b ∷ [] = s.1.1 in
    let other : eqb b 92 ≡ false = ap (λ c. eqb c 92) (sym (last-byte front b)) ∙ ap is_joined (sym cut) ∙ h in
    elim (skip_end front b) as (λ _. is_joined (kept ++ 32 ∷ skip_blanks (x ∷ xs)) ≡ false) [
      | inl e ↦ ap (λ t. is_joined (kept ++ 32 ∷ skip_blanks t)) cut ∙ ap (λ t. is_joined (kept ++ 32 ∷ t)) e ∙ ap (λ c. eqb c 92) (last-byte kept 32)
      | inr e ↦ ap (λ t. is_joined (kept ++ 32 ∷ skip_blanks t)) cut ∙ ap (λ t. is_joined (kept ++ 32 ∷ t)) e
          ∙ ap is_joined (sym (append_assoc kept (32 ∷ skip_blanks front) (b ∷ [])))
          ∙ ap (λ c. eqb c 92) (last-byte (kept ++ 32 ∷ skip_blanks front) b) ∙ other
    ]

counts_on : (start number : ℕ) (begun : List ℕ) (front : List (List ℕ)) (part : List ℕ) (back : List (List ℕ)) → is_joined part ≡ false → lines_from start number begun (front ++ part ∷ back) ≡ lines_from start number begun (front ++ part ∷ []) ++ map (later (number + 1 + length front)) (joined_parts back)
counts_on start number begun [] part back h =
    let one : number + 1 ≡ number + 1 + 0 = omega arith in
    elim (is_joined begun) as (λ t. cond t (lines_from start (number + 1) (joined begun part) back) (record { number = start; bytes = begun } ∷ lines_from (number + 1) (number + 1) part back) ≡ cond t (lines_from start (number + 1) (joined begun part) []) (record { number = start; bytes = begun } ∷ lines_from (number + 1) (number + 1) part []) ++ map (later (number + 1 + 0)) (joined_parts back)) [
      | true ↦ stops start (number + 1) (joined begun part) back (ap is_joined (joined-is begun part) ∙ unjoined (trim_end (take (length begun - 1) begun)) part h)
          ∙ ap (λ n. line_at start (joined begun part) ∷ map (later n) (joined_parts back)) one
      | false ↦ ap (λ r. line_at start begun ∷ r) (stops (number + 1) (number + 1) part back h
          ∙ ap (λ n. line_at (number + 1) part ∷ map (later n) (joined_parts back)) one)
    ]
counts_on start number begun (further ∷ front) part back h =
    let one : number + 1 + 1 + length front ≡ number + 1 + length (further ∷ front) = omega arith in
    elim (is_joined begun) as (λ t. cond t (lines_from start (number + 1) (joined begun further) (front ++ part ∷ back)) (record { number = start; bytes = begun } ∷ lines_from (number + 1) (number + 1) further (front ++ part ∷ back)) ≡ cond t (lines_from start (number + 1) (joined begun further) (front ++ part ∷ [])) (record { number = start; bytes = begun } ∷ lines_from (number + 1) (number + 1) further (front ++ part ∷ [])) ++ map (later (number + 1 + length (further ∷ front))) (joined_parts back)) [
      | true ↦ counts_on start (number + 1) (joined begun further) front part back h
          ∙ ap (λ n. lines_from start (number + 1) (joined begun further) (front ++ part ∷ []) ++ map (later n) (joined_parts back)) one
      | false ↦ ap (λ r. line_at start begun ∷ r) (counts_on (number + 1) (number + 1) further front part back h
          ∙ ap (λ n. lines_from (number + 1) (number + 1) further (front ++ part ∷ []) ++ map (later n) (joined_parts back)) one)
    ]

pub count_on : (front : List (List ℕ)) (part : List ℕ) (back : List (List ℕ)) → CountOn front part back
count_on [] part back h = stops 1 1 part back h ∙ ap (λ r. r ++ map (later 1) (joined_parts back)) (sym (stops 1 1 part [] h))
count_on (begun ∷ front) part back h =
    let one : 1 + 1 + length front ≡ length (begun ∷ front) + 1 = omega arith in
    counts_on 1 1 begun front part back h ∙ ap (λ n. lines_from 1 1 begun (front ++ part ∷ []) ++ map (later n) (joined_parts back)) one
