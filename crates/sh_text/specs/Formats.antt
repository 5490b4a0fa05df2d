-- The format of printf: its parts, and what it puts out with words.
use Rattle.std.specs.Prelude.{ℕ, zero, suc, ◌+◌, ◌-◌, ◌*◌, Bool, true, false, ◌&&◌, ◌||◌, ◌==◌, not, nat_le, List, [], ◌∷◌, ◌++◌, length, Option, Some, None, option_map, if◌then◌else◌}
use Rattle.std.specs.List.{list_any}
use Rattle.std.specs.Borrow.{Bor}
use Rattle.br_path.specs.Path.{Names}
use Rattle.sh_text.specs.declared.format.Part.{Part}
use Rattle.sh_text.specs.declared.format.Part.TheVariants.{Byte, Word}

abbrev pub Format : Type 0
Format = List Part

-- 1. The parts of a text.

-- the part that a text begins with, and what stands after it; or it begins with none
abbrev pub Cut : Type 0
Cut = Option (Part × List ℕ)

abbrev pub is_octal : ℕ → Bool
is_octal byte = nat_le 48 byte && nat_le byte 55

-- a value with one more digit, if the text after it begins with one
abbrev pub with_digit : ℕ × List ℕ → ℕ × List ℕ
with_digit (value, []) = (value, [])
with_digit (value, byte ∷ rest) = if is_octal byte then (value * 8 + (byte - 48), rest) else (value, byte ∷ rest)

-- a value that a byte may have
abbrev pub octal_part : ℕ × List ℕ → Cut
octal_part (value, rest) = if nat_le value 255 then Some (Byte value, rest) else None

-- the byte that a letter stands for after a backslash: n t \ " a b f r v
abbrev pub escape_of : ℕ → Option ℕ
escape_of letter =
    if letter == 110 then Some 10 else
    if letter == 116 then Some 9 else
    if letter == 92 then Some 92 else
    if letter == 34 then Some 34 else
    if letter == 97 then Some 7 else
    if letter == 98 then Some 8 else
    if letter == 102 then Some 12 else
    if letter == 114 then Some 13 else
    if letter == 118 then Some 11 else None

abbrev pub byte_before : List ℕ → Option ℕ → Cut
byte_before rest byte = option_map (λ b. (Byte b, rest)) byte

-- after a backslash: one to three octal digits, or a letter
abbrev pub behind_backslash : List ℕ → Cut
behind_backslash [] = None
behind_backslash (letter ∷ rest) =
    if is_octal letter then octal_part (with_digit (with_digit (letter - 48, rest))) else byte_before rest (escape_of letter)

-- after a `%`: another one, or an `s` for the next word
abbrev pub behind_percent : List ℕ → Cut
behind_percent [] = None
behind_percent (letter ∷ rest) = if letter == 37 then Some (Byte 37, rest) else if letter == 115 then Some (Word, rest) else None

-- a byte stands for itself, except for a backslash and `%`
abbrev pub first_part : ℕ → List ℕ → Cut
first_part byte rest = if byte == 92 then behind_backslash rest else if byte == 37 then behind_percent rest else Some (Byte byte, rest)

abbrev pub before : (List ℕ → Option Format) → Cut → Option Format
before further None = None
before further (Some (part, rest)) = option_map (λ parts. part ∷ parts) (further rest)

-- the parts of a text, of which there are at most so many
abbrev pub parts_within : ℕ → List ℕ → Option Format
parts_within most [] = Some []
parts_within zero (byte ∷ text) = None
parts_within (suc most) (byte ∷ text) = before (parts_within most) (first_part byte text)

-- the parts of a text, each of which has a byte at least; or it is no format
unfoldable pub format_of : List ℕ → Option Format
format_of text = parts_within (length text) text

-- 2. What a format puts out with words.

abbrev pub onto : List ℕ → List ℕ × Names → List ℕ × Names
onto front (text, words) = (front ++ text, words)

-- the next word; nothing stands for it where none is left
abbrev pub next_word : Names → List ℕ
next_word [] = []
next_word (word ∷ words) = word

abbrev pub behind_word : Names → Names
behind_word [] = []
behind_word (word ∷ words) = words

-- what a format puts out when it is used once, and the words that are left
abbrev pub used : Format → Names → List ℕ × Names
used [] words = ([], words)
used (Byte byte ∷ parts) words = onto (byte ∷ []) (used parts words)
used (Word ∷ parts) words = onto (next_word words) (used parts (behind_word words))

abbrev pub is_word : Part → Bool
is_word (Byte byte) = false
is_word Word = true

abbrev pub has_word : Format → Bool
has_word parts = list_any is_word parts

abbrev pub is_none_left : Names → Bool
is_none_left [] = true
is_none_left (word ∷ words) = false

-- it is used again while words are left and it has a place for one
abbrev pub is_over : Format → Names → Bool
is_over parts words = is_none_left words || not (has_word parts)

-- what it puts out when it is used again, at most so often
abbrev pub again_within : ℕ → Format → Names → List ℕ
again_within zero parts words = []
again_within (suc most) parts words = if is_over parts words then [] else (used parts words).0 ++ again_within most parts (used parts words).1

-- each such use takes a word at least
unfoldable pub again : Format → Names → List ℕ
again parts words = again_within (length words) parts words

-- what a format puts out with words
abbrev pub put_out : Format → Names → List ℕ
put_out parts words = (used parts words).0 ++ again parts (used parts words).1

-- what a cut of the code stands for
abbrev pub shown_cut : Option (Part × Bor (List ℕ)) → Cut
shown_cut cut = option_map (λ c. (c.0, c.1.now)) cut
