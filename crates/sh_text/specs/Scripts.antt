-- The script of sed.
use Rattle.std.specs.Prelude.{ℕ, Bool, true, false, ◌&&◌, ◌||◌, ◌==◌, not, nat_le, List, [], ◌∷◌, Option, Some, None, option_map, position, take, drop, ◌+◌, if◌then◌else◌}
use Rattle.std.specs.Option.{option_and_then}
use Rattle.br_path.specs.Text.{is_letter, is_digit}
use Rattle.tree_ops.specs.Walk.{is_filled}
use Rattle.sh_text.specs.declared.spelled.Spelled.{Spelled}
use Rattle.sh_text.specs.declared.spelled.Spelled.TheVariants.{Plain, Escaped}
use Rattle.sh_text.specs.declared.spelled.Side.{Side}
use Rattle.sh_text.specs.declared.spelled.Side.TheVariants.{Left, Right}
use Rattle.sh_text.specs.declared.script.Pattern.{Pattern}
use Rattle.sh_text.specs.declared.script.Script.{Script}

-- bytes as they are written
abbrev pub Spelling : Type 0
Spelling = List Spelled

-- 1. The bytes of a text, each by itself or after a backslash; none if the last backslash has nothing after it.

abbrev pub put_before : Spelled → Option Spelling → Option Spelling
put_before first more = option_map (λ bytes. first ∷ bytes) more

abbrev pub spelling_of : List ℕ → Option Spelling
spelling_of [] = Some []
spelling_of (byte ∷ []) = if byte == 92 then None else Some (Plain byte ∷ [])
spelling_of (byte ∷ next ∷ text) =
    if byte == 92 then put_before (Escaped next) (spelling_of text) else put_before (Plain byte) (spelling_of (next ∷ text))

-- 2. What a byte stands for in a pattern and in a replacement, by the delimiter.

-- those that a backslash takes in each pattern: . * [ ] \ ^ $
abbrev pub is_taken : ℕ → Bool
is_taken byte = byte == 46 || byte == 42 || byte == 91 || byte == 93 || byte == 92 || byte == 94 || byte == 36

-- by themselves `.`, `*` and `[` are out
abbrev pub pattern_byte : ℕ → Spelled → Option ℕ
pattern_byte delimiter (Plain byte) = if byte == 46 || byte == 42 || byte == 91 then None else Some byte
pattern_byte delimiter (Escaped byte) = if is_taken byte || byte == delimiter then Some byte else None

-- by itself `&` is out
abbrev pub replacement_byte : ℕ → Spelled → Option ℕ
replacement_byte delimiter (Plain byte) = if byte == 38 then None else Some byte
replacement_byte delimiter (Escaped byte) = if byte == 38 || byte == 92 || byte == delimiter then Some byte else None

-- in one of the two
abbrev pub byte_in : Side → ℕ → Spelled → Option ℕ
byte_in Left delimiter byte = pattern_byte delimiter byte
byte_in Right delimiter byte = replacement_byte delimiter byte

-- what bytes stand for, if each stands for one
abbrev pub bytes_by : (Spelled → Option ℕ) → Spelling → Option (List ℕ)
bytes_by read [] = Some []
bytes_by read (first ∷ more) = option_and_then (λ byte. option_map (λ bytes. byte ∷ bytes) (bytes_by read more)) (read first)

-- 3. The pattern.

-- the byte stands there by itself
abbrev pub is_plain : ℕ → Spelled → Bool
is_plain byte (Plain other) = other == byte
is_plain byte (Escaped other) = false

abbrev pub begins_with : ℕ → Spelling → Bool
begins_with byte [] = false
begins_with byte (first ∷ more) = is_plain byte first

abbrev pub ends_with : ℕ → Spelling → Bool
ends_with byte [] = false
ends_with byte (last ∷ []) = is_plain byte last
ends_with byte (first ∷ second ∷ more) = ends_with byte (second ∷ more)

abbrev pub without_first : Spelling → Spelling
without_first [] = []
without_first (first ∷ more) = more

abbrev pub without_last : Spelling → Spelling
without_last [] = []
without_last (last ∷ []) = []
without_last (first ∷ second ∷ more) = first ∷ without_last (second ∷ more)

-- without a first `^`, without a last `$`
abbrev pub behind_caret : Spelling → Spelling
behind_caret bytes = if begins_with 94 bytes then without_first bytes else bytes

abbrev pub before_dollar : Spelling → Spelling
before_dollar bytes = if ends_with 36 bytes then without_last bytes else bytes

-- the bytes between the anchors; without anchor there is one at least
abbrev pub anchored : Bool → Bool → Option (List ℕ) → Option Pattern
anchored begins ends None = None
anchored begins ends (Some bytes) = if is_filled bytes || begins || ends then Some (record { begins = begins; bytes = bytes; ends = ends }) else None

abbrev pub pattern_of : ℕ → Spelling → Option Pattern
pattern_of delimiter bytes =
    anchored (begins_with 94 bytes) (ends_with 36 (behind_caret bytes)) (bytes_by (byte_in Left delimiter) (before_dollar (behind_caret bytes)))

-- 4. The script: `s`, and between delimiters the pattern, the replacement and perhaps `g`.

-- a byte from 0x21 to 0x7E other than backslash, letter and digit
abbrev pub is_delimiter : ℕ → Bool
is_delimiter byte = nat_le 33 byte && nat_le byte 126 && not (byte == 92 || is_letter byte || is_digit byte)

abbrev pub each_of : Spelling → Option Bool
each_of [] = Some false
each_of (flag ∷ []) = if is_plain 103 flag then Some true else None
each_of (flag ∷ other ∷ more) = None

-- what stands before the first delimiter that stands by itself, and what after it
abbrev pub cut : ℕ → Spelling → Option (Spelling × Spelling)
cut delimiter bytes = option_map (λ place. (take place bytes, drop (place + 1) bytes)) (position (is_plain delimiter) bytes)

abbrev pub script_with : Option Pattern → Option (List ℕ) → Option Bool → Option Script
script_with (Some pattern) (Some replacement) (Some each) = Some (record { pattern = pattern; replacement = replacement; each = each })
script_with pattern replacement each = None

-- after a pattern
abbrev pub script_behind : ℕ → Spelling → Option (Spelling × Spelling) → Option Script
script_behind delimiter pattern None = None
script_behind delimiter pattern (Some (replacement, flags)) = script_with (pattern_of delimiter pattern) (bytes_by (byte_in Right delimiter) replacement) (each_of flags)

-- after the first delimiter
abbrev pub script_by : ℕ → Option (Spelling × Spelling) → Option Script
script_by delimiter None = None
script_by delimiter (Some (pattern, rest)) = script_behind delimiter pattern (cut delimiter rest)

abbrev pub script_in : ℕ → Option Spelling → Option Script
script_in delimiter None = None
script_in delimiter (Some bytes) = script_by delimiter (cut delimiter bytes)

abbrev pub script_of : List ℕ → Option Script
script_of [] = None
script_of (byte ∷ []) = None
script_of (byte ∷ delimiter ∷ text) = if byte == 115 && is_delimiter delimiter then script_in delimiter (spelling_of text) else None
