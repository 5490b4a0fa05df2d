-- How a line is written: words and an operator with its target, with blanks between them, and perhaps a comment after.
use Rattle.std.specs.Prelude.{◌≡◌, ℕ, Bool, true, false, not, ◌||◌, ◌&&◌, ◌==◌, IsTrue, List, [], ◌∷◌, ◌++◌, Option, Some, None}
use Rattle.std.specs.List.{list_all}
use Rattle.br_path.specs.Path.{Names}
use Rattle.br_path.specs.Text.{is_blank, is_digit}
use Rattle.sh_words.specs.declared.line.Line.{Line}
use Rattle.sh_words.specs.declared.line.Redirect.{Redirect}
use Rattle.sh_words.specs.Bytes.{are_blanks, begins_operator, behind_backslash, ends_word, is_over, is_taken, is_unsupported}

-- 1. Pieces: how each is written, and the bytes that it stands for.

-- what stands between two `"`: bytes that no backslash takes, and backslashes each with the byte after it
pub data IsQuoted : List ℕ → List ℕ → Type 0 where
  nothing : IsQuoted [] []
  plain : (byte : ℕ) (written text : List ℕ) → is_taken byte ≡ false → IsQuoted written text → IsQuoted (byte ∷ written) (byte ∷ text)
  backslash : (byte : ℕ) (written text : List ℕ) → IsQuoted written text → IsQuoted (92 ∷ byte ∷ written) (behind_backslash byte ++ text)

-- no `'` is in a text
abbrev pub has_no_quote : List ℕ → Bool
has_no_quote text = list_all (λ byte. not (byte == 39)) text

-- a byte that stands for itself outside quotes
abbrev pub is_plain : ℕ → Bool
is_plain byte = not (is_blank byte || byte == 62 || byte == 39 || byte == 34 || byte == 92 || is_unsupported byte)

-- a byte as it is, a byte after a backslash, a text in `'` or a text in `"`
pub data IsPiece : List ℕ → List ℕ → Type 0 where
  plain : (byte : ℕ) → IsTrue (is_plain byte) → IsPiece (byte ∷ []) (byte ∷ [])
  escaped : (byte : ℕ) → IsPiece (92 ∷ byte ∷ []) (byte ∷ [])
  single : (text : List ℕ) → IsTrue (has_no_quote text) → IsPiece (39 ∷ (text ++ 39 ∷ [])) text
  double : (written text : List ℕ) → IsQuoted written text → IsPiece (34 ∷ (written ++ 34 ∷ [])) text

-- pieces one after another, with nothing between them
pub data IsPieces : List ℕ → List ℕ → Type 0 where
  nothing : IsPieces [] []
  joined : (written piece behind word : List ℕ) → IsPiece written piece → IsPieces behind word → IsPieces (written ++ behind) (piece ++ word)

-- 2. Words and operators, each with what stands after it.

-- a word doesn't begin with a `#` or a `~` as it is
abbrev pub may_begin : List ℕ → Bool
may_begin [] = false
may_begin (byte ∷ text) = not (byte == 35 || byte == 126)

-- a word is made of pieces, up to a blank, an operator or the end; digits alone don't stand right before an operator
pub record IsWord (written word behind : List ℕ) : Type 0 where
  pub pieces : IsPieces written word
  pub begins : IsTrue (may_begin written)
  pub ends : IsTrue (ends_word behind)
  pub no_number : (list_all is_digit written && begins_operator behind) ≡ false

-- `>`, or `>>`, which appends: a text that begins with one, and what stands after it
pub data IsOperator : Bool → List ℕ → List ℕ → Type 0 where
  one : (behind : List ℕ) → begins_operator behind ≡ false → IsOperator false (62 ∷ behind) behind
  two : (behind : List ℕ) → IsOperator true (62 ∷ 62 ∷ behind) behind

-- 3. Lines.

-- a text begins with blanks, with these words, and with an operator and its target where there was none before; then comes the rest
pub data IsFront : Option Redirect → List ℕ → Names → Option Redirect → List ℕ → Type 0 where
  nothing : (into : Option Redirect) (text : List ℕ) → IsFront into text [] into text
  blank : (before after : Option Redirect) (byte : ℕ) (text rest : List ℕ) (words : Names) → IsTrue (is_blank byte) →
      IsFront before text words after rest → IsFront before (byte ∷ text) words after rest
  word : (before after : Option Redirect) (written word behind rest : List ℕ) (words : Names) → IsWord written word behind →
      IsFront before behind words after rest → IsFront before (written ++ behind) (word ∷ words) after rest
  target : (after : Option Redirect) (append : Bool) (text blanks written word behind rest : List ℕ) (words : Names) →
      IsOperator append text (blanks ++ (written ++ behind)) → IsTrue (are_blanks blanks) → IsWord written word behind →
      IsFront (Some (record { append = append; word = word })) behind words after rest → IsFront None text words after rest

-- a text is a line: after its words and its target nothing is left, or a comment
pub record IsLine (text : List ℕ) (line : Line) : Type 0 where
  pub rest : List ℕ
  pub front : IsFront None text line.words line.into rest
  pub over : IsTrue (is_over rest)
