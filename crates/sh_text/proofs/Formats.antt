-- The parts of a format, one by one, and its uses.
use Rattle.std.proofs.Common.{◌≡◌, ℕ, zero, suc, ◌-◌, ◌<◌, ◌≤◌, Bool, true, false, cond, not, ◌==◌, nat_le, List, [], ◌∷◌, ◌++◌, length, Option, Some, None, refl, ap, sym, ◌∙◌, arith, append_assoc}
use Rattle.std.proofs.lemmas.List.{append-nil}
use Rattle.std.specs.Option.{option_map}
use Rattle.br_path.specs.Path.{Names}
use Rattle.sh_text.specs.declared.format.Part.{Part}
use Rattle.sh_text.specs.declared.format.Part.TheVariants.{Byte, Word}
use Rattle.sh_text.specs.Formats.{Format, Cut, is_octal, with_digit, octal_part, escape_of, byte_before, behind_backslash, behind_percent, first_part, before, parts_within, format_of, used, behind_word, has_word, is_over, again_within, again}

-- 1. What stands after the first part is shorter.

IsShort : ℕ → Cut → Type 0
IsShort most None = Unit {0}
IsShort most (Some (part, rest)) = length rest ≤ most

IsShort-cond : (most : ℕ) (q : Bool) (one other : Cut) → IsShort most one → IsShort most other → IsShort most (cond q one other)
IsShort-cond most true one other first second = first
IsShort-cond most false one other first second = second

length-with_digit : (value : ℕ) (text : List ℕ) → length (with_digit (value, text)).1 ≤ length text
length-with_digit value [] = omega arith
length-with_digit value (byte ∷ text) = by (is_octal byte) refl
  where
    by : (q : Bool) → is_octal byte ≡ q → length (with_digit (value, byte ∷ text)).1 ≤ suc (length text)
    by true is = rw is (omega arith)
    by false is = rw is (omega arith)

short_octal : (most : ℕ) (pair : ℕ × List ℕ) → length pair.1 ≤ most → IsShort most (octal_part pair)
unfolding IsShort
short_octal most (value, rest) low = IsShort-cond most (nat_le value 255) (Some (Byte value, rest)) None low tt

short_letter : (rest : List ℕ) (byte : Option ℕ) → IsShort (suc (length rest)) (byte_before rest byte)
unfolding IsShort
short_letter rest None = tt
short_letter rest (Some byte) = omega arith

short_backslash : (text : List ℕ) → IsShort (length text) (behind_backslash text)
unfolding IsShort
short_backslash [] = tt
short_backslash (letter ∷ rest) =
    let one = length-with_digit (letter - 48) rest in
    let two = length-with_digit (with_digit (letter - 48, rest)).0 (with_digit (letter - 48, rest)).1 in
    IsShort-cond (suc (length rest)) (is_octal letter) (octal_part (with_digit (with_digit (letter - 48, rest)))) (byte_before rest (escape_of letter))
    (short_octal (suc (length rest)) (with_digit (with_digit (letter - 48, rest))) (omega arith)) (short_letter rest (escape_of letter))

short_percent : (text : List ℕ) → IsShort (length text) (behind_percent text)
unfolding IsShort
short_percent [] = tt
short_percent (letter ∷ rest) =
    IsShort-cond (suc (length rest)) (letter == 37) (Some (Byte 37, rest)) (cond (letter == 115) (Some (Word, rest)) None) (omega arith)
    (IsShort-cond (suc (length rest)) (letter == 115) (Some (Word, rest)) None (omega arith) tt)

short_first : (byte : ℕ) (rest : List ℕ) → IsShort (length rest) (first_part byte rest)
unfolding IsShort
short_first byte rest =
    IsShort-cond (length rest) (byte == 92) (behind_backslash rest) (cond (byte == 37) (behind_percent rest) (Some (Byte byte, rest))) (short_backslash rest)
    (IsShort-cond (length rest) (byte == 37) (behind_percent rest) (Some (Byte byte, rest)) (short_percent rest) (omega arith))

pub read_shorter : (byte : ℕ) (rest : List ℕ) (part : Part) (behind : List ℕ) → first_part byte rest ≡ Some (part, behind) → length behind ≤ length rest
unfolding IsShort
read_shorter byte rest part behind is = rw is at (short_first byte rest)

-- 2. The parts of a text.

enough : (most more : ℕ) (text : List ℕ) → length text ≤ most → length text ≤ more → parts_within most text ≡ parts_within more text
enough most more [] one two = refl
enough zero more (byte ∷ text) one two = absurd (omega arith)
enough (suc most) zero (byte ∷ text) one two = absurd (omega arith)
enough (suc most) (suc more) (byte ∷ text) one two = by (λ rest low high. enough most more rest low high) (first_part byte text) refl
  where
    by : ((rest : List ℕ) → length rest ≤ most → length rest ≤ more → parts_within most rest ≡ parts_within more rest)
        → (cut : Cut) → first_part byte text ≡ cut → before (parts_within most) (first_part byte text) ≡ before (parts_within more) (first_part byte text)
    by less None is = rw is refl
    by less (Some (part, rest)) is =
        let low = read_shorter byte text part rest is in
        rw is (ap (option_map (λ parts. part ∷ parts)) (less rest (omega arith) (omega arith)))

pub format-empty : format_of [] ≡ Some []
unfolding format_of
format-empty = refl

pub format-none : (byte : ℕ) (rest : List ℕ) → first_part byte rest ≡ None → format_of (byte ∷ rest) ≡ None
unfolding format_of
format-none byte rest is = ap (before (parts_within (length rest))) is

pub format-part : (byte : ℕ) (rest : List ℕ) (part : Part) (behind : List ℕ) → first_part byte rest ≡ Some (part, behind) → format_of (byte ∷ rest) ≡ option_map (λ parts. part ∷ parts) (format_of behind)
unfolding format_of
format-part byte rest part behind is =
    ap (before (parts_within (length rest))) is ∙ ap (option_map (λ parts. part ∷ parts)) (enough (length rest) (length behind) behind (read_shorter byte rest part behind is) (omega arith))

-- what was read, and what is read further
pub read_end : (parts : Format) (rest : List ℕ) (meant : Option Format) → meant ≡ option_map (λ more. parts ++ more) (format_of rest) → length rest ≡ 0 → Some parts ≡ meant
read_end parts [] meant is empty = sym (is ∙ (ap (option_map (λ more. parts ++ more)) format-empty ∙ ap Some (append-nil parts)))
read_end parts (byte ∷ rest) meant is empty = absurd (omega arith)

pub read_stop : (parts : Format) (byte : ℕ) (rest : List ℕ) (meant : Option Format) → meant ≡ option_map (λ more. parts ++ more) (format_of (byte ∷ rest)) → first_part byte rest ≡ None → None ≡ meant
read_stop parts byte rest meant is none = sym (is ∙ ap (option_map (λ more. parts ++ more)) (format-none byte rest none))

onward : (parts : Format) (part : Part) (further : Option Format) → option_map (λ more. parts ++ more) (option_map (λ more. part ∷ more) further) ≡ option_map (λ more. (parts ++ part ∷ []) ++ more) further
onward parts part None = refl
onward parts part (Some more) = ap Some (sym (append_assoc parts (part ∷ []) more))

pub read_on : (parts : Format) (byte : ℕ) (rest : List ℕ) (part : Part) (behind : List ℕ) (meant : Option Format)
    → meant ≡ option_map (λ more. parts ++ more) (format_of (byte ∷ rest)) → first_part byte rest ≡ Some (part, behind) → meant ≡ option_map (λ more. (parts ++ part ∷ []) ++ more) (format_of behind)
read_on parts byte rest part behind meant is cut = is ∙ (ap (option_map (λ more. parts ++ more)) (format-part byte rest part behind cut) ∙ onward parts part (format_of behind))

-- 3. Uses.

length-behind_word : (words : Names) → length (behind_word words) ≤ length words
length-behind_word [] = omega arith
length-behind_word (word ∷ words) = omega arith

length-used : (parts : Format) (words : Names) → length (used parts words).1 ≤ length words
length-used [] words = omega arith
length-used (Byte byte ∷ parts) words = length-used parts words
length-used (Word ∷ parts) words = let less = length-behind_word words in let low = length-used parts (behind_word words) in omega arith

-- a use takes a word if there is one and a place for it
used_less : (parts : Format) (word : List ℕ) (words : Names) → has_word parts ≡ true → length (used parts (word ∷ words)).1 ≤ length words
used_less [] word words has = cc
used_less (Byte byte ∷ parts) word words has = used_less parts word words has
used_less (Word ∷ parts) word words has = length-used parts words

has_more : (parts : Format) (q : Bool) → not q ≡ false → q ≡ true
has_more parts true is = refl
has_more parts false is = cc

pub again_less : (parts : Format) (words : Names) → is_over parts words ≡ false → length (used parts words).1 < length words
again_less parts [] is = cc
again_less parts (word ∷ words) is = let low = used_less parts word words (has_more parts (has_word parts) is) in omega arith

again_enough : (most more : ℕ) (parts : Format) (words : Names) → length words ≤ most → length words ≤ more → again_within most parts words ≡ again_within more parts words
again_enough zero zero parts words one two = refl
again_enough zero (suc more) parts [] one two = refl
again_enough (suc most) zero parts [] one two = refl
again_enough zero (suc more) parts (word ∷ words) one two = absurd (omega arith)
again_enough (suc most) zero parts (word ∷ words) one two = absurd (omega arith)
again_enough (suc most) (suc more) parts words one two = by (λ low high. again_enough most more parts (used parts words).1 low high) (is_over parts words) refl
  where
    by : (length (used parts words).1 ≤ most → length (used parts words).1 ≤ more → again_within most parts (used parts words).1 ≡ again_within more parts (used parts words).1)
        → (q : Bool) → is_over parts words ≡ q → again_within (suc most) parts words ≡ again_within (suc more) parts words
    by further true is = rw is refl
    by further false is =
        let less = again_less parts words is in
        rw is (ap (λ text. (used parts words).0 ++ text) (further (omega arith) (omega arith)))

pub again_over : (parts : Format) (words : Names) → is_over parts words ≡ true → again parts words ≡ []
unfolding again
again_over parts [] is = refl
again_over parts (word ∷ words) is = rw is refl

pub again_more : (parts : Format) (words : Names) → is_over parts words ≡ false → again parts words ≡ (used parts words).0 ++ again parts (used parts words).1
unfolding again
again_more parts [] is = cc
again_more parts (word ∷ words) is =
    let less = again_less parts (word ∷ words) is in
    rw is (ap (λ text. (used parts (word ∷ words)).0 ++ text) (again_enough (length words) (length (used parts (word ∷ words)).1) parts (used parts (word ∷ words)).1 (omega arith) (omega arith)))

-- what was put out, and what is put out further
pub put_end : (parts : Format) (words : Names) (start out : List ℕ) (text : List ℕ) → start ++ text ≡ out ++ again parts words → is_over parts words ≡ true → out ≡ start ++ text
put_end parts words start out text is over = sym (is ∙ (ap (λ more. out ++ more) (again_over parts words over) ∙ append-nil out))

pub put_on : (parts : Format) (words : Names) (start out : List ℕ) (text : List ℕ) → start ++ text ≡ out ++ again parts words → is_over parts words ≡ false
    → start ++ text ≡ (out ++ (used parts words).0) ++ again parts (used parts words).1
put_on parts words start out text is more = is ∙ (ap (λ t. out ++ t) (again_more parts words more) ∙ sym (append_assoc out (used parts words).0 (again parts (used parts words).1)))
