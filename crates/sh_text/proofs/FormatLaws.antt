-- Formats by their parts.
use Rattle.std.proofs.Common.{◌≡◌, ◌≢◌, ℕ, zero, suc, ◌+◌, ◌-◌, ◌*◌, ◌≤◌, Bool, true, false, cond, not, ◌||◌, ◌==◌, nat_le, List, [], ◌∷◌, ◌++◌, length, map, Option, Some, None, refl, ap, sym, subst, ◌∙◌, arith}
use Rattle.std.specs.Option.{option_map}
use Rattle.std.specs.List.{concat}
use Rattle.std.proofs.lemmas.List.{append-nil}
use Rattle.std.proofs.lemmas.Bool.{true≢false, eqb-true, eqb-false, ne_eqb, leb-true, le-leb, and_parts, or_parts, not-true, cond_both}
use Rattle.br_path.specs.Path.{Names}
use Rattle.sh_text.specs.declared.format.Part.{Part}
use Rattle.sh_text.specs.declared.format.Part.TheVariants.{Byte, Word}
use Rattle.sh_text.specs.Formats.{Format, Cut, is_octal, with_digit, octal_part, escape_of, byte_before, behind_backslash, behind_percent, first_part, format_of, used, has_word, is_none_left, again, put_out}
use Rattle.sh_text.specs.Laws.{begins_octal, IsOctal, one, two, three, IsFormat, none, plain, letter, octal, percent, word, is_plain_text}
use Rattle.sh_text.proofs.Formats.{read_shorter, format-empty, format-none, format-part, again_over, again_more}

-- 1. What is read is written so.

-- if what stands after a part is a format, so is the text that begins with the part
Written : List ℕ → Format → Cut → Type 0
Written text more None = Unit {0}
Written text more (Some (part, rest)) = IsFormat rest more → IsFormat text (part ∷ more)

octal_written : (digits rest : List ℕ) (value : ℕ) (more : Format) → IsOctal digits rest value → Written (92 ∷ (digits ++ rest)) more (octal_part (value, rest))
unfolding Written
octal_written digits rest value more is =
    cond_both (nat_le value 255) (Some (Byte value, rest)) None (Written (92 ∷ (digits ++ rest)) more) (λ low further. octal digits rest value more is (leb-true value 255 low) further) (λ high. tt)

second_digit : (a b : ℕ) (rest : List ℕ) (more : Format) → is_octal a ≡ true → is_octal b ≡ true → Written (92 ∷ a ∷ b ∷ rest) more (octal_part (with_digit ((a - 48) * 8 + (b - 48), rest)))
second_digit a b [] more first second = octal_written (a ∷ b ∷ []) [] ((a - 48) * 8 + (b - 48)) more (two a b [] first second refl)
second_digit a b (c ∷ rest) more first second =
    cond_both (is_octal c) (((a - 48) * 8 + (b - 48)) * 8 + (c - 48), rest) ((a - 48) * 8 + (b - 48), c ∷ rest) (λ pair. Written (92 ∷ a ∷ b ∷ c ∷ rest) more (octal_part pair))
    (λ third. octal_written (a ∷ b ∷ c ∷ []) rest (((a - 48) * 8 + (b - 48)) * 8 + (c - 48)) more (three a b c rest first second third))
    (λ other. octal_written (a ∷ b ∷ []) (c ∷ rest) ((a - 48) * 8 + (b - 48)) more (two a b (c ∷ rest) first second other))

first_digit : (a : ℕ) (rest : List ℕ) (more : Format) → is_octal a ≡ true → Written (92 ∷ a ∷ rest) more (octal_part (with_digit (with_digit (a - 48, rest))))
first_digit a [] more first = octal_written (a ∷ []) [] (a - 48) more (one a [] first refl)
first_digit a (b ∷ rest) more first =
    cond_both (is_octal b) ((a - 48) * 8 + (b - 48), rest) (a - 48, b ∷ rest) (λ pair. Written (92 ∷ a ∷ b ∷ rest) more (octal_part (with_digit pair)))
    (λ second. second_digit a b rest more first second)
    (λ other. cond_both (is_octal b) ((a - 48) * 8 + (b - 48), rest) (a - 48, b ∷ rest) (λ pair. Written (92 ∷ a ∷ b ∷ rest) more (octal_part pair))
    (λ is_yes. absurd (true≢false (sym is_yes ∙ other))) (λ is_no. octal_written (a ∷ []) (b ∷ rest) (a - 48) more (one a (b ∷ rest) first is_no)))

letter_written : (l : ℕ) (rest : List ℕ) (more : Format) (byte : Option ℕ) → escape_of l ≡ byte → Written (92 ∷ l ∷ rest) more (byte_before rest byte)
unfolding Written
letter_written l rest more None is = tt
letter_written l rest more (Some byte) is = λ further. letter l byte rest more is further

backslash_written : (rest : List ℕ) (more : Format) → Written (92 ∷ rest) more (behind_backslash rest)
unfolding Written
backslash_written [] more = tt
backslash_written (l ∷ rest) more =
    cond_both (is_octal l) (octal_part (with_digit (with_digit (l - 48, rest)))) (byte_before rest (escape_of l)) (Written (92 ∷ l ∷ rest) more)
    (λ is. first_digit l rest more is) (λ other. letter_written l rest more (escape_of l) refl)

percent_written : (rest : List ℕ) (more : Format) → Written (37 ∷ rest) more (behind_percent rest)
unfolding Written
percent_written [] more = tt
percent_written (l ∷ rest) more =
    cond_both (l == 37) (Some (Byte 37, rest)) (cond (l == 115) (Some (Word, rest)) None) (Written (37 ∷ l ∷ rest) more)
    (λ is. subst (λ l. Written (37 ∷ l ∷ rest) more (Some (Byte 37, rest))) (sym (eqb-true l 37 is)) (λ further. percent rest more further))
    (λ other. cond_both (l == 115) (Some (Word, rest)) None (Written (37 ∷ l ∷ rest) more)
    (λ is. subst (λ l. Written (37 ∷ l ∷ rest) more (Some (Word, rest))) (sym (eqb-true l 115 is)) (λ further. word rest more further)) (λ is_no. tt))

first_written : (byte : ℕ) (rest : List ℕ) (more : Format) → Written (byte ∷ rest) more (first_part byte rest)
unfolding Written
first_written byte rest more =
    cond_both (byte == 92) (behind_backslash rest) (cond (byte == 37) (behind_percent rest) (Some (Byte byte, rest))) (Written (byte ∷ rest) more)
    (λ is. subst (λ b. Written (b ∷ rest) more (behind_backslash rest)) (sym (eqb-true byte 92 is)) (backslash_written rest more))
    (λ other. cond_both (byte == 37) (behind_percent rest) (Some (Byte byte, rest)) (Written (byte ∷ rest) more)
    (λ is. subst (λ b. Written (b ∷ rest) more (behind_percent rest)) (sym (eqb-true byte 37 is)) (percent_written rest more))
    (λ is_no. λ further. plain byte rest more (eqb-false byte 92 other) (eqb-false byte 37 is_no) further))

with_part : (part : Part) (further : Option Format) (parts : Format) → option_map (λ more. part ∷ more) further ≡ Some parts → (more : Format) × (further ≡ Some more) × (part ∷ more ≡ parts)
with_part part None parts is = cc
with_part part (Some more) parts is = (more, refl, cc)

format_read : (most : ℕ) (text : List ℕ) (parts : Format) → length text ≤ most → format_of text ≡ Some parts → IsFormat text parts
unfolding Written
format_read most [] parts low is = let e : [] ≡ parts = let s : Some [] ≡ Some parts = sym format-empty ∙ is in cc in subst (λ (p : Format). IsFormat [] p) e none
format_read zero (byte ∷ rest) parts low is = absurd (omega arith)
format_read (suc most) (byte ∷ rest) parts low is = by (λ behind more low is. format_read most behind more low is) (first_part byte rest) refl
  where
    by : ((behind : List ℕ) (more : Format) → length behind ≤ most → format_of behind ≡ Some more → IsFormat behind more) → (cut : Cut) → first_part byte rest ≡ cut → IsFormat (byte ∷ rest) parts
    by further None cut = let e : None ≡ Some parts = sym (format-none byte rest cut) ∙ is in absurd cc
    by further (Some (part, behind)) cut =
        let split = with_part part (format_of behind) parts (sym (format-part byte rest part behind cut) ∙ is) in
        let short = read_shorter byte rest part behind cut in
        let first : Written (byte ∷ rest) split.0 (Some (part, behind)) = subst (Written (byte ∷ rest) split.0) cut (first_written byte rest split.0) in
        subst (λ (p : Format). IsFormat (byte ∷ rest) p) split.2 (first (further behind split.0 (omega arith) split.1))

-- 2. What is written so is read.

no_octal : (l byte : ℕ) → escape_of l ≡ Some byte → is_octal l ≡ false
no_octal l byte is = by (is_octal l) refl
  where
    none_of : 48 ≤ l → l ≤ 55 → escape_of l ≡ None
    none_of low high =
        let n = ne_eqb l 110 (λ e. absurd (omega arith)) in
        let t = ne_eqb l 116 (λ e. absurd (omega arith)) in
        let s = ne_eqb l 92 (λ e. absurd (omega arith)) in
        let q = ne_eqb l 34 (λ e. absurd (omega arith)) in
        let a = ne_eqb l 97 (λ e. absurd (omega arith)) in
        let b = ne_eqb l 98 (λ e. absurd (omega arith)) in
        let f = ne_eqb l 102 (λ e. absurd (omega arith)) in
        let r = ne_eqb l 114 (λ e. absurd (omega arith)) in
        let v = ne_eqb l 118 (λ e. absurd (omega arith)) in
        simp (n, t, s, q, a, b, f, r, v)

    by : (q : Bool) → is_octal l ≡ q → is_octal l ≡ false
    by false is_no = is_no
    by true is_yes =
        let parts = and_parts (nat_le 48 l) (nat_le l 55) is_yes in
        let e : None ≡ Some byte = sym (none_of (leb-true 48 l parts.0) (leb-true l 55 parts.1)) ∙ is in absurd cc

first-letter : (l byte : ℕ) (rest : List ℕ) → escape_of l ≡ Some byte → first_part 92 (l ∷ rest) ≡ Some (Byte byte, rest)
first-letter l byte rest is = ap (λ q. cond q (octal_part (with_digit (with_digit (l - 48, rest)))) (byte_before rest (escape_of l))) (no_octal l byte is) ∙ ap (byte_before rest) is

first-plain : (byte : ℕ) (rest : List ℕ) → byte ≢ 92 → byte ≢ 37 → first_part byte rest ≡ Some (Byte byte, rest)
first-plain byte rest other is_no =
    ap (λ q. cond q (behind_backslash rest) (cond (byte == 37) (behind_percent rest) (Some (Byte byte, rest)))) (ne_eqb byte 92 other)
    ∙ ap (λ q. cond q (behind_percent rest) (Some (Byte byte, rest))) (ne_eqb byte 37 is_no)

with_digit-none : (value : ℕ) (rest : List ℕ) → begins_octal rest ≡ false → with_digit (value, rest) ≡ (value, rest)
with_digit-none value [] is = refl
with_digit-none value (b ∷ rest) is = ap (λ q. cond q (value * 8 + (b - 48), rest) (value, b ∷ rest)) is

with_digit-one : (value b : ℕ) (rest : List ℕ) → is_octal b ≡ true → with_digit (value, b ∷ rest) ≡ (value * 8 + (b - 48), rest)
with_digit-one value b rest is = ap (λ q. cond q (value * 8 + (b - 48), rest) (value, b ∷ rest)) is

octal-behind : (a value : ℕ) (text rest : List ℕ) → is_octal a ≡ true → with_digit (with_digit (a - 48, text)) ≡ (value, rest) → value ≤ 255 → first_part 92 (a ∷ text) ≡ Some (Byte value, rest)
octal-behind a value text rest is digits low =
    ap (λ q. cond q (octal_part (with_digit (with_digit (a - 48, text)))) (byte_before text (escape_of a))) is
    ∙ (ap octal_part digits ∙ ap (λ q. cond q (Some (Byte value, rest)) None) (le-leb value 255 low))

first-octal : (digits rest : List ℕ) (value : ℕ) → IsOctal digits rest value → value ≤ 255 → first_part 92 (digits ++ rest) ≡ Some (Byte value, rest)
first-octal digits rest value (one a text is end) low =
    octal-behind a (a - 48) text text is (ap with_digit (with_digit-none (a - 48) text end) ∙ with_digit-none (a - 48) text end) low
first-octal digits rest value (two a b text is second end) low =
    octal-behind a ((a - 48) * 8 + (b - 48)) (b ∷ text) text is (ap with_digit (with_digit-one (a - 48) b text second) ∙ with_digit-none ((a - 48) * 8 + (b - 48)) text end) low
first-octal digits rest value (three a b c text is second third) low =
    octal-behind a (((a - 48) * 8 + (b - 48)) * 8 + (c - 48)) (b ∷ c ∷ text) text is
    (ap with_digit (with_digit-one (a - 48) b (c ∷ text) second) ∙ with_digit-one ((a - 48) * 8 + (b - 48)) c text third) low

then_part : (byte : ℕ) (rest : List ℕ) (part : Part) (behind : List ℕ) (more : Format) → first_part byte rest ≡ Some (part, behind) → format_of behind ≡ Some more → format_of (byte ∷ rest) ≡ Some (part ∷ more)
then_part byte rest part behind more cut is = format-part byte rest part behind cut ∙ ap (option_map (λ parts. part ∷ parts)) is

pub format_written : (text : List ℕ) (parts : Format) → IsFormat text parts → format_of text ≡ Some parts
format_written text parts none = format-empty
format_written text parts (plain byte rest more other is_no is) = then_part byte rest (Byte byte) rest more (first-plain byte rest other is_no) (format_written rest more is)
format_written text parts (letter l byte rest more escape is) = then_part 92 (l ∷ rest) (Byte byte) rest more (first-letter l byte rest escape) (format_written rest more is)
format_written text parts (octal digits rest value more digit low is) = then_part 92 (digits ++ rest) (Byte value) rest more (first-octal digits rest value digit low) (format_written rest more is)
format_written text parts (percent rest more is) = then_part 37 (37 ∷ rest) (Byte 37) rest more refl (format_written rest more is)
format_written text parts (word rest more is) = then_part 37 (115 ∷ rest) Word rest more refl (format_written rest more is)

pub formats_read : (text : List ℕ) (parts : Format) → format_of text ≡ Some parts → IsFormat text parts
formats_read text parts is = format_read (length text) text parts (omega arith) is

-- 3. Formats without `%s`, and `%s` alone.

plain_parts : (text : List ℕ) → is_plain_text text ≡ true → IsFormat text (map Byte text)
plain_parts [] is = none
plain_parts (byte ∷ text) is =
    let parts = and_parts (not (byte == 92 || byte == 37)) (is_plain_text text) is in
    let both = or_parts (byte == 92) (byte == 37) (not-true (byte == 92 || byte == 37) parts.0) in
    plain byte text (map Byte text) (eqb-false byte 92 both.0) (eqb-false byte 37 both.1) (plain_parts text parts.1)

used-bytes : (text : List ℕ) (words : Names) → (used (map Byte text) words).0 ≡ text
used-bytes [] words = refl
used-bytes (byte ∷ text) words = ap (λ t. byte ∷ t) (used-bytes text words)

has_word-bytes : (text : List ℕ) → has_word (map Byte text) ≡ false
has_word-bytes [] = refl
has_word-bytes (byte ∷ text) = has_word-bytes text

over_true : (q : Bool) → (q || true) ≡ true
over_true true = refl
over_true false = refl

pub plain_puts : (text : List ℕ) (words : Names) → is_plain_text text ≡ true → format_of text ≡ Some (map Byte text) × (put_out (map Byte text) words ≡ text)
plain_puts text words is = (
  format_written text (map Byte text) (plain_parts text is),
  ap (λ t. (used (map Byte text) words).0 ++ t) (again_over (map Byte text) (used (map Byte text) words).1
      (ap (λ q. is_none_left (used (map Byte text) words).1 || not q) (has_word-bytes text) ∙ over_true (is_none_left (used (map Byte text) words).1)))
      ∙ (append-nil (used (map Byte text) words).0 ∙ used-bytes text words),
)

again-words : (words : Names) → again (Word ∷ []) words ≡ concat words
again-words [] = again_over (Word ∷ []) [] refl
again-words (first ∷ words) = again_more (Word ∷ []) (first ∷ words) refl ∙ (ap (λ t. t ++ again (Word ∷ []) words) (append-nil first) ∙ ap (λ t. first ++ t) (again-words words))

pub words_put : (words : Names) → put_out (Word ∷ []) words ≡ concat words
words_put [] = again-words []
words_put (first ∷ words) = ap (λ t. t ++ again (Word ∷ []) words) (append-nil first) ∙ ap (λ t. first ++ t) (again-words words)

pub words_format : format_of (37 ∷ 115 ∷ []) ≡ Some (Word ∷ [])
words_format = format_written (37 ∷ 115 ∷ []) (Word ∷ []) (word [] [] none)
