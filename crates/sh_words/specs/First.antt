-- The byte that a fault names is the first with which no line goes on, or one after which a line ends too early.
use Rattle.std.specs.Prelude.{◌≡◌, ℕ, Bool, IsTrue, List, [], ◌∷◌, ◌++◌, length}
use Rattle.sh_words.specs.declared.line.Line.{Line}
use Rattle.sh_words.specs.Bytes.{are_blanks, is_over}
use Rattle.sh_words.specs.Grammar.{IsLine, IsOperator}

-- some line begins with these bytes
pub record Begins (front : List ℕ) : Type 0 where
  pub back : List ℕ
  pub line : Line
  pub is : IsLine (front ++ back) line

-- some line begins with the bytes before a place, and none with the byte there as well
pub record IsMisfit (text : List ℕ) (byte place : ℕ) : Type 0 where
  pub front : List ℕ
  pub back : List ℕ
  pub cut : text ≡ front ++ byte ∷ back
  pub at : place ≡ length front
  pub begins : Begins front
  pub no_further : Begins (front ++ byte ∷ []) → ⊥

-- a byte asks for more than is after it: a backslash for a byte, an operator for a word
pub data Asks : ℕ → List ℕ → Type 0 where
  backslash : Asks 92 []
  operator : (append : Bool) (text blanks rest : List ℕ) → IsOperator append (62 ∷ text) (blanks ++ rest) → IsTrue (are_blanks blanks) → IsTrue (is_over rest) → Asks 62 text

-- some line begins with the bytes up to a place, and the byte there asks for more than is after it
pub record EndsEarly (text : List ℕ) (byte place : ℕ) : Type 0 where
  pub front : List ℕ
  pub back : List ℕ
  pub cut : text ≡ front ++ byte ∷ back
  pub at : place ≡ length front
  pub begins : Begins (front ++ byte ∷ [])
  pub asks : Asks byte back
