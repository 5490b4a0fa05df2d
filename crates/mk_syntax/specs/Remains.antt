-- What is left of a line without its comment, piece by piece.
use Rattle.std.specs.Prelude.{◌≡◌, ◌≢◌, ℕ, List, [], ◌∷◌, ◌++◌}

-- the brackets of references, each kind with its closing one
pub data AreBrackets : ℕ → ℕ → Type 0 where
  round : AreBrackets 40 41
  curly : AreBrackets 123 125

-- a text in which the brackets of one kind match
pub data AreMatched (opening closes : ℕ) : List ℕ → Type 0 where
  none : AreMatched opening closes []
  other : {b : ℕ} {text : List ℕ} → b ≢ opening → b ≢ closes → AreMatched opening closes text → AreMatched opening closes (b ∷ text)
  pair : (inside text : List ℕ) → AreMatched opening closes inside → AreMatched opening closes text → AreMatched opening closes (opening ∷ inside ++ closes ∷ text)

-- no bracket of a text closes one that is opened right before it
abbrev pub StaysOpen : ℕ → ℕ → List ℕ → Type 0
StaysOpen opening closes text = (inside rest : List ℕ) → text ≡ inside ++ closes ∷ rest → AreMatched opening closes inside → ⊥

-- a text begins with a byte
abbrev pub Begins : ℕ → List ℕ → Type 0
Begins b text = (rest : List ℕ) × (text ≡ b ∷ rest)

-- a byte, before what follows it in its line, that begins no comment, escapes no `#`, and begins neither `$$` nor a reference
pub record IsPlainByte (b : ℕ) (line : List ℕ) : Type 0 where
  pub no_comment : b ≢ 35
  pub no_escape : b ≡ 92 → Begins 35 line → ⊥
  pub no_dollars : b ≡ 36 → Begins 36 line → ⊥
  pub no_reference : (opening closes : ℕ) → AreBrackets opening closes → b ≡ 36 → Begins opening line → ⊥

-- what is left: a `#` ends the line, `\#` is one without ending it, and `$$` and references stay as they are; one that doesn't close reaches to the end
pub data Keeps : List ℕ → List ℕ → Type 0 where
  nothing : Keeps [] []
  comment : (words : List ℕ) → Keeps (35 ∷ words) []
  escaped : {line kept : List ℕ} → Keeps line kept → Keeps (92 ∷ 35 ∷ line) (35 ∷ kept)
  dollars : {line kept : List ℕ} → Keeps line kept → Keeps (36 ∷ 36 ∷ line) (36 ∷ 36 ∷ kept)
  reference : (opening closes : ℕ) (inside line kept : List ℕ) → AreBrackets opening closes → AreMatched opening closes inside → Keeps line kept → Keeps (36 ∷ opening ∷ inside ++ closes ∷ line) (36 ∷ opening ∷ inside ++ closes ∷ kept)
  unclosed : (opening closes : ℕ) (text : List ℕ) → AreBrackets opening closes → StaysOpen opening closes text → Keeps (36 ∷ opening ∷ text) (36 ∷ opening ∷ text)
  plain : (b : ℕ) {line kept : List ℕ} → IsPlainByte b line → Keeps line kept → Keeps (b ∷ line) (b ∷ kept)
