-- How a line is written by its parts.
use Rattle.std.specs.Prelude.{ℕ, ⊤, Bool, false, not, ◌||◌, ◌==◌, ◌≡◌, ◌≢◌, IsTrue, List, [], ◌∷◌, ◌++◌, Some, None}
use Rattle.std.specs.List.{list_all}
use Rattle.kc_text.specs.Bytes as byte_is
use Rattle.kc_text.specs.Lexer.{is_quote, single, pair}
use Rattle.kc_text.specs.declared.part.Part.{Part}
use Rattle.kc_text.specs.declared.part.Part.TheVariants.{Word, Quoted}

-- a text, and how it is written between two of this quote: a backslash takes the next byte as it is
pub data IsQuoted (quote : ℕ) : List ℕ → List ℕ → Type 0 where
  empty : IsQuoted quote [] []
  plain : (byte : ℕ) (text written : List ℕ) → byte ≢ quote → byte ≢ 92 → IsQuoted quote text written → IsQuoted quote (byte ∷ text) (byte ∷ written)
  escaped : (byte : ℕ) (text written : List ℕ) → IsQuoted quote text written → IsQuoted quote (byte ∷ text) (92 ∷ byte ∷ written)

-- what stands after a quote that nothing closes: a text, perhaps with a backslash at its end
pub data IsUnclosed (quote : ℕ) : List ℕ → Type 0 where
  bare : (text written : List ℕ) → IsQuoted quote text written → IsUnclosed quote written
  backslash : (text written : List ℕ) → IsQuoted quote text written → IsUnclosed quote (written ++ 92 ∷ [])

-- after a word stands no further byte of a word
abbrev pub EndsWord : List ℕ → Type 0
EndsWord [] = ⊤
EndsWord (byte ∷ line) = byte_is.of_word byte ≡ false

-- a byte that is no blank and begins no comment, no quoted text and no word
abbrev pub is_sign : ℕ → Bool
is_sign byte = not (byte_is.blank byte || (byte == 35) || is_quote byte || byte_is.of_word byte)

-- with the byte after it it is no operator of two bytes
abbrev pub IsAlone : ℕ → List ℕ → Type 0
IsAlone byte [] = ⊤
IsAlone byte (next ∷ line) = pair byte next ≡ None

-- the front of a line is written by these parts, and this is the rest of the line
pub data IsFront : List ℕ → List Part → List ℕ → Type 0 where
  nothing : (line : List ℕ) → IsFront line [] line
  blank : (byte : ℕ) (line rest : List ℕ) (parts : List Part) → IsTrue (byte_is.blank byte) →
      IsFront line parts rest → IsFront (byte ∷ line) parts rest
  word : (byte : ℕ) (bytes line rest : List ℕ) (parts : List Part) → IsTrue (list_all byte_is.of_word (byte ∷ bytes)) → EndsWord line →
      IsFront line parts rest → IsFront (byte ∷ (bytes ++ line)) (Word (byte ∷ bytes) ∷ parts) rest
  quoted : (quote : ℕ) (text written line rest : List ℕ) (parts : List Part) → IsTrue (is_quote quote) → IsQuoted quote text written →
      IsFront line parts rest → IsFront (quote ∷ (written ++ quote ∷ line)) (Quoted text ∷ parts) rest
  double : (first second : ℕ) (part : Part) (line rest : List ℕ) (parts : List Part) → pair first second ≡ Some part →
      IsFront line parts rest → IsFront (first ∷ second ∷ line) (part ∷ parts) rest
  sign : (byte : ℕ) (line rest : List ℕ) (parts : List Part) → IsTrue (is_sign byte) → IsAlone byte line →
      IsFront line parts rest → IsFront (byte ∷ line) (single byte ∷ parts) rest

-- nothing is left of a line, or a comment
abbrev pub IsOver : List ℕ → Type 0
IsOver [] = ⊤
IsOver (byte ∷ line) = byte ≡ 35

-- the whole line is written by these parts, perhaps with a comment after
pub record IsLine (line : List ℕ) (parts : List Part) : Type 0 where
  pub rest : List ℕ
  pub front : IsFront line parts rest
  pub over : IsOver rest

-- a quote of the line doesn't close
pub record HasOpenQuote (line : List ℕ) : Type 0 where
  pub parts : List Part
  pub quote : ℕ
  pub back : List ℕ
  pub front : IsFront line parts (quote ∷ back)
  pub begins : IsTrue (is_quote quote)
  pub unclosed : IsUnclosed quote back
