-- Why a text is no line, and where.
use Rattle.std.specs.Prelude.{ℕ, ◌+◌, ◌-◌, Bool, IsTrue, List, [], ◌∷◌, ◌++◌, length, Option, Some, None, if◌then◌else◌}
use Rattle.std.specs.List.{list_all}
use Rattle.br_path.specs.Path.{Names}
use Rattle.br_path.specs.Text.{is_digit}
use Rattle.sh_words.specs.declared.fault.WordFault.{WordFault}
use Rattle.sh_words.specs.declared.fault.WordFault.TheVariants.{OpenQuote, Unsupported}
use Rattle.sh_words.specs.declared.line.Redirect.{Redirect}
use Rattle.sh_words.specs.Bytes.{are_blanks, is_bare, is_over, is_unsupported}
use Rattle.sh_words.specs.Grammar.{IsQuoted, IsPieces, IsOperator, IsFront, has_no_quote, may_begin}

-- what stands after a `"` that nothing closes: perhaps a backslash at the end
pub data IsUnclosed : List ℕ → Type 0 where
  whole : (written text : List ℕ) → IsQuoted written text → IsUnclosed written
  backslash : (written text : List ℕ) → IsQuoted written text → IsUnclosed (written ++ 92 ∷ [])

-- at a place stands no piece
pub data IsBarrier (place : ℕ) : List ℕ → WordFault → Type 0 where
  -- but a byte that isn't supported
  unsupported : (byte : ℕ) (rest : List ℕ) → IsTrue (is_unsupported byte) → IsBarrier place (byte ∷ rest) (Unsupported byte place)
  -- but a backslash at the end
  backslash : IsBarrier place (92 ∷ []) (Unsupported 92 place)
  -- but a quote that nothing closes
  single : (text : List ℕ) → IsTrue (has_no_quote text) → IsBarrier place (39 ∷ text) OpenQuote
  double : (written : List ℕ) → IsUnclosed written → IsBarrier place (34 ∷ written) OpenQuote
  -- but a `"` and, in what it quotes, a `$` or a backquote without a backslash
  bare : (byte : ℕ) (written text rest : List ℕ) → IsTrue (is_bare byte) → IsQuoted written text →
      IsBarrier place (34 ∷ (written ++ byte ∷ rest)) (Unsupported byte (place + 1 + length written))

-- at a place stands no word
pub data IsBroken (place : ℕ) : List ℕ → WordFault → Type 0 where
  -- but a `~`
  tilde : (rest : List ℕ) → IsBroken place (126 ∷ rest) (Unsupported 126 place)
  -- but digits alone right before an operator
  number : (digit : ℕ) (digits rest : List ℕ) → IsTrue (list_all is_digit (digit ∷ digits)) →
      IsBroken place ((digit ∷ digits) ++ 62 ∷ rest) (Unsupported 62 (place + length (digit ∷ digits)))
  -- but pieces, and no piece after them
  barred : (written word rest : List ℕ) (fault : WordFault) → IsPieces written word → IsTrue (may_begin (written ++ rest)) →
      IsBarrier (place + length written) rest fault → IsBroken place (written ++ rest) fault

-- the bytes of an operator
abbrev pub size : Bool → ℕ
size append = if append then 2 else 1

-- at a place no line goes on, with a target so far or without
pub data IsStop (place : ℕ) : Option Redirect → List ℕ → WordFault → Type 0 where
  -- since no word stands there
  word : (into : Option Redirect) (text : List ℕ) (fault : WordFault) → IsBroken place text fault → IsStop place into text fault
  -- since a second operator stands there
  second : (into : Redirect) (rest : List ℕ) → IsStop place (Some into) (62 ∷ rest) (Unsupported 62 place)
  -- since an operator stands there, and after it the line is over
  no_target : (append : Bool) (text blanks rest : List ℕ) → IsOperator append text (blanks ++ rest) → IsTrue (are_blanks blanks) →
      IsTrue (is_over rest) → IsStop place None text (Unsupported 62 place)
  -- since an operator stands there, and after it another one
  operator : (append : Bool) (text blanks rest : List ℕ) → IsOperator append text (blanks ++ 62 ∷ rest) → IsTrue (are_blanks blanks) →
      IsStop place None text (Unsupported 62 (place + size append + length blanks))
  -- since an operator stands there, and after it no word
  target : (append : Bool) (text blanks rest : List ℕ) (fault : WordFault) → IsOperator append text (blanks ++ rest) → IsTrue (are_blanks blanks) →
      IsBroken (place + size append + length blanks) rest fault → IsStop place None text fault

-- a text has this fault: after what it begins with no line goes on
pub record IsFault (text : List ℕ) (fault : WordFault) : Type 0 where
  pub words : Names
  pub into : Option Redirect
  pub rest : List ℕ
  pub front : IsFront None text words into rest
  pub stop : IsStop (length text - length rest) into rest fault
