-- What a format and a script are, and what they come to, in the words of the rules.
use Rattle.std.specs.Prelude.{◌≡◌, ◌≢◌, ℕ, ◌-◌, ◌*◌, ◌+◌, ◌≤◌, Bool, true, false, ◌||◌, ◌==◌, not, List, [], ◌∷◌, ◌++◌, Some, codes}
use Rattle.std.specs.List.{list_all}
use Rattle.tree_ops.specs.Walk.{is_filled}
use Rattle.sh_text.specs.declared.format.Part.TheVariants.{Byte, Word}
use Rattle.sh_text.specs.declared.spelled.Side.{Side}
use Rattle.sh_text.specs.declared.spelled.Side.TheVariants.{Left, Right}
use Rattle.sh_text.specs.declared.spelled.Spelled.{Spelled}
use Rattle.sh_text.specs.declared.spelled.Spelled.TheVariants.{Plain, Escaped}
use Rattle.sh_text.specs.declared.script.Pattern.{Pattern}
use Rattle.sh_text.specs.declared.script.Script.{Script}
use Rattle.sh_text.specs.Formats.{Format, is_octal, escape_of}
use Rattle.sh_text.specs.Scripts.{Spelling, byte_in, is_plain, begins_with, ends_with, is_delimiter}

-- 1. Formats.

abbrev pub begins_octal : List ℕ → Bool
begins_octal [] = false
begins_octal (byte ∷ text) = is_octal byte

-- octal digits before a text with the number that they are: three, or all that stand there
pub data IsOctal : List ℕ → List ℕ → ℕ → Type 0 where
  one : (a : ℕ) (text : List ℕ) → is_octal a ≡ true → begins_octal text ≡ false → IsOctal (a ∷ []) text (a - 48)
  two : (a b : ℕ) (text : List ℕ) → is_octal a ≡ true → is_octal b ≡ true → begins_octal text ≡ false → IsOctal (a ∷ b ∷ []) text ((a - 48) * 8 + (b - 48))
  three : (a b c : ℕ) (text : List ℕ) → is_octal a ≡ true → is_octal b ≡ true → is_octal c ≡ true → IsOctal (a ∷ b ∷ c ∷ []) text (((a - 48) * 8 + (b - 48)) * 8 + (c - 48))

-- a text with the parts that it is written by
pub data IsFormat : List ℕ → Format → Type 0 where
  none : IsFormat [] []
  plain : (byte : ℕ) (text : List ℕ) (parts : Format) → byte ≢ 92 → byte ≢ 37 → IsFormat text parts → IsFormat (byte ∷ text) (Byte byte ∷ parts)
  letter : (letter byte : ℕ) (text : List ℕ) (parts : Format) → escape_of letter ≡ Some byte → IsFormat text parts → IsFormat (92 ∷ letter ∷ text) (Byte byte ∷ parts)
  octal : (digits text : List ℕ) (value : ℕ) (parts : Format) → IsOctal digits text value → value ≤ 255 → IsFormat text parts → IsFormat (92 ∷ (digits ++ text)) (Byte value ∷ parts)
  percent : (text : List ℕ) (parts : Format) → IsFormat text parts → IsFormat (37 ∷ 37 ∷ text) (Byte 37 ∷ parts)
  word : (text : List ℕ) (parts : Format) → IsFormat text parts → IsFormat (37 ∷ 115 ∷ text) (Word ∷ parts)

-- a text without backslash and `%`
abbrev pub is_plain_text : List ℕ → Bool
is_plain_text text = list_all (λ byte. not (byte == 92 || byte == 37)) text

-- 2. Scripts.

-- bytes as they are written, one after another
abbrev pub written : Spelling → List ℕ
written [] = []
written (Plain byte ∷ more) = byte ∷ written more
written (Escaped byte ∷ more) = 92 ∷ byte ∷ written more

-- neither a backslash nor the delimiter stands there by itself
abbrev pub is_field : ℕ → Spelling → Bool
is_field delimiter bytes = list_all (λ byte. not (is_plain 92 byte || is_plain delimiter byte)) bytes

-- what bytes stand for on a side, by the tables of the two sides
pub data StandFor (side : Side) (delimiter : ℕ) : Spelling → List ℕ → Type 0 where
  no_bytes : StandFor side delimiter [] []
  and_byte : (first : Spelled) (byte : ℕ) (more : Spelling) (bytes : List ℕ) → byte_in side delimiter first ≡ Some byte → StandFor side delimiter more bytes → StandFor side delimiter (first ∷ more) (byte ∷ bytes)

-- an anchor that is there, or isn't
abbrev pub anchor : Bool → ℕ → Spelling
anchor true byte = Plain byte ∷ []
anchor false byte = []

-- a pattern as it is written: its bytes between its anchors; what could be read as an anchor is one
pub record IsPattern (delimiter : ℕ) (field : Spelling) (pattern : Pattern) : Type 0 where
  pub middle : Spelling
  pub whole : field ≡ anchor pattern.begins 94 ++ (middle ++ anchor pattern.ends 36)
  pub bytes : StandFor Left delimiter middle pattern.bytes
  pub first : pattern.begins ≡ false → begins_with 94 field ≡ false
  pub last : pattern.ends ≡ false → ends_with 36 middle ≡ false
  pub some : (is_filled pattern.bytes || pattern.begins || pattern.ends) ≡ true

abbrev pub flag : Bool → List ℕ
flag true = codes "g"
flag false = []

-- a script as it is written
pub record IsScript (text : List ℕ) (script : Script) : Type 0 where
  pub delimiter : ℕ
  pub pattern : Spelling
  pub replacement : Spelling
  pub whole : text ≡ 115 ∷ delimiter ∷ (written pattern ++ delimiter ∷ (written replacement ++ delimiter ∷ flag script.each))
  pub divides : is_delimiter delimiter ≡ true
  pub left : is_field delimiter pattern ≡ true
  pub right : is_field delimiter replacement ≡ true
  pub finds : IsPattern delimiter pattern script.pattern
  pub puts : StandFor Right delimiter replacement script.replacement
