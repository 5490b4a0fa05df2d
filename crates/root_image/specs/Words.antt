-- The line that a text is.
use Rattle.std.specs.Prelude.{ℕ, ◌+◌, ◌-◌, ◌*◌, Bool, false, ◌&&◌, ◌==◌, not, nat_le, List, [], ◌∷◌, length, take, drop, Option, Some, None, is_none, codes, if◌then◌else◌}
use Rattle.std.specs.Option.{option_map, option_and_then}
use Rattle.std.specs.List.{position, list_all}
use Rattle.br_path.specs.Path.{Names, parts}
use Rattle.br_path.specs.PathFault.{path_fault}
use Rattle.br_path.specs.Text.{is_text, is_digit}
use Rattle.root_image.specs.Lines.{Line, HeadLine, DirLine, LinkLine, FileLine, SameLine, TextLine, BytesLine, EndLine}

-- what stands after a word, if the text begins with it
abbrev pub behind : List ℕ → List ℕ → Option (List ℕ)
behind word text = if is_text (take (length word) text) word then Some (drop (length word) text) else None

-- four octal digits
abbrev pub is_octal : ℕ → Bool
is_octal byte = nat_le 48 byte && nat_le byte 55

abbrev pub mode_of : List ℕ → Option ℕ
mode_of (a ∷ b ∷ c ∷ d ∷ []) =
    if is_octal a && is_octal b && is_octal c && is_octal d then Some ((a - 48) * 512 + (b - 48) * 64 + (c - 48) * 8 + (d - 48)) else None
mode_of other = None

-- the number that digits write, after the one that was written so far
abbrev pub number_on : ℕ → List ℕ → ℕ
number_on number [] = number
number_on number (digit ∷ digits) = number_on (number * 10 + (digit - 48)) digits

-- decimal digits, one at least, the first of several not 0
abbrev pub is_number : List ℕ → Bool
is_number [] = false
is_number (digit ∷ []) = is_digit digit
is_number (digit ∷ next ∷ digits) = is_digit digit && not (digit == 48) && list_all is_digit (next ∷ digits)

abbrev pub number_of : List ℕ → Option ℕ
number_of digits = if is_number digits then Some (number_on 0 digits) else None

-- lower-case hex digits, two a byte
abbrev pub digit_of : ℕ → Option ℕ
digit_of byte = if is_digit byte then Some (byte - 48) else if nat_le 97 byte && nat_le byte 102 then Some (byte - 87) else None

abbrev pub byte_of : ℕ → ℕ → Option ℕ
byte_of high low = option_and_then (λ h. option_map (λ l. h * 16 + l) (digit_of low)) (digit_of high)

abbrev pub bytes_of : List ℕ → Option (List ℕ)
bytes_of [] = Some []
bytes_of (high ∷ []) = None
bytes_of (high ∷ low ∷ digits) = option_and_then (λ byte. option_map (λ bytes. byte ∷ bytes) (bytes_of digits)) (byte_of high low)

-- the path of a text that is a slash alone, or a slash and a path's text
abbrev pub path_behind : List ℕ → Option Names
path_behind [] = Some []
path_behind (byte ∷ text) = if is_none (path_fault (byte ∷ text)) then Some (parts (byte ∷ text)) else None

abbrev pub path_at : List ℕ → Option Names
path_at text = option_and_then path_behind (behind (codes "/") text)

-- what stands before the first blank, and what stands after it
abbrev pub cut_at : Option ℕ → List ℕ → Option (List ℕ × List ℕ)
cut_at None text = None
cut_at (Some place) text = Some (take place text, drop (place + 1) text)

abbrev pub word_of : List ℕ → Option (List ℕ × List ℕ)
word_of text = cut_at (position (λ byte. byte == 32) text) text

-- a mode before a blank, and what stands after it
abbrev pub mode_word : List ℕ → Option (ℕ × List ℕ)
mode_word text = option_and_then (λ cut. option_map (λ mode. (mode, cut.1)) (mode_of cut.0)) (word_of text)

-- a size before a blank, and what stands after it
abbrev pub size_word : List ℕ → Option (ℕ × List ℕ)
size_word text = option_and_then (λ cut. option_map (λ size. (size, cut.1)) (number_of cut.0)) (word_of text)

abbrev pub dir_line : List ℕ → Option Line
dir_line text = option_and_then (λ word. option_map (λ path. DirLine word.0 path) (path_at word.1)) (mode_word text)

abbrev pub sized_line : ℕ → List ℕ → Option Line
sized_line mode text = option_and_then (λ word. option_map (λ path. FileLine mode word.0 path) (path_at word.1)) (size_word text)

abbrev pub file_line : List ℕ → Option Line
file_line text = option_and_then (λ word. sized_line word.0 word.1) (mode_word text)

-- the first of these that the text begins with decides
abbrev pub when : Option (List ℕ) → (List ℕ → Option Line) → Option Line → Option Line
when None said other = other
when (Some rest) said other = said rest

-- a line that begins an entry, or the last line
abbrev pub entry_line : List ℕ → Option Line
entry_line text =
    when (behind (codes "d ") text) dir_line
    (when (behind (codes "l ") text) (λ rest. option_map LinkLine (path_at rest))
    (when (behind (codes "f ") text) file_line
    (when (behind (codes "h ") text) (λ rest. option_map SameLine (path_at rest))
    (when (behind (codes "end ") text) (λ rest. option_map EndLine (number_of rest)) None))))

abbrev pub head_line : List ℕ → Option Line
head_line text = if is_text text (codes "rootfs 1") then Some HeadLine else None

abbrev pub text_line : List ℕ → Option Line
text_line text = option_map TextLine (behind (codes "> ") text)

abbrev pub bytes_line : List ℕ → Option Line
bytes_line text = option_and_then (λ rest. option_map BytesLine (bytes_of rest)) (behind (codes "= ") text)
