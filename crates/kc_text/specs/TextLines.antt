-- How the lines of a text are written by its raw lines.
use Rattle.std.specs.Prelude.{ℕ, ⊤, ◌≡◌, ◌<◌, ◌+◌, Bool, true, false, ◌||◌, nat_le, IsTrue, List, [], ◌∷◌, ◌++◌, length, Option, Some}
use Rattle.std.specs.List.{list_all}
use Rattle.kc_text.specs.Lexer.{parts}
use Rattle.kc_text.specs.Lines.{joins, is_blank_line, indent, is_help, is_empty}
use Rattle.kc_text.specs.declared.part.Part.{Part}
use Rattle.kc_text.specs.declared.part.Part.TheVariants.{Word}
use Rattle.kc_text.specs.declared.part.Line.{Line}

-- the first line of raw lines: its text, how many raw lines it takes, and those after them
pub data IsFirst : List (List ℕ) → List ℕ → ℕ → List (List ℕ) → Type 0 where
  -- a raw line that doesn't end in a backslash is a line
  whole : (raw : List ℕ) (rest : List (List ℕ)) → joins raw ≡ false → IsFirst (raw ∷ rest) raw 1 rest
  -- nor does a backslash join anything that has no newline after it
  last : (raw : List ℕ) → joins raw ≡ true → IsFirst (raw ∷ []) raw 1 []
  -- a backslash and its newline are one space
  joined : (front text : List ℕ) (raws rest : List (List ℕ)) (count : ℕ) → IsFirst raws text count rest → IsFirst ((front ++ 92 ∷ []) ∷ raws) (front ++ 32 ∷ text) (count + 1) rest

-- a raw line that is blank, or indented by so much at least
abbrev pub is_inside : ℕ → List ℕ → Bool
is_inside least raw = is_blank_line raw || nat_le least (indent raw)

-- nothing follows, or a raw line that is indented less
abbrev pub EndsInside : ℕ → List (List ℕ) → Type 0
EndsInside least [] = ⊤
EndsInside least (raw ∷ rest) = is_inside least raw ≡ false

-- nothing follows, or a raw line that isn't blank and has no indent
abbrev pub IsFlush : List (List ℕ) → Type 0
IsFlush [] = ⊤
IsFlush (raw ∷ rest) = (is_blank_line raw ≡ false) × (indent raw ≡ 0)

-- a block of help, and the raw lines after it: the first line that isn't blank gives the indent, and one without ends it
pub data IsHelpBlock : List (List ℕ) → List (List ℕ) → Type 0 where
  bare : (blanks rest : List (List ℕ)) → IsTrue (list_all is_blank_line blanks) → IsFlush rest → IsHelpBlock blanks rest
  indented : (blanks more rest : List (List ℕ)) (first : List ℕ) → IsTrue (list_all is_blank_line blanks) → is_blank_line first ≡ false → 0 < indent first →
      IsTrue (list_all (is_inside (indent first)) more) → EndsInside (indent first) rest → IsHelpBlock (blanks ++ first ∷ more) rest

-- the line of one such word
abbrev pub is_help_line : Option (List Part) → Bool
is_help_line (Some (Word word ∷ [])) = is_help word
is_help_line _ = false

-- raw lines, of which the first has the number, are written by these lines
pub data IsLines : ℕ → List (List ℕ) → List Line → Type 0 where
  end : (number : ℕ) → IsLines number [] []
  -- a line without parts is left out
  empty : (number count : ℕ) (raws rest : List (List ℕ)) (text : List ℕ) (found : List Line) → IsFirst raws text count rest → is_empty (parts text) ≡ true →
      IsLines (number + count) rest found → IsLines number raws found
  line : (number count : ℕ) (raws rest : List (List ℕ)) (text : List ℕ) (found : List Line) → IsFirst raws text count rest → is_empty (parts text) ≡ false → is_help_line (parts text) ≡ false →
      IsLines (number + count) rest found → IsLines number raws (record { number = number; parts = parts text } ∷ found)
  -- a block of help is left out
  help : (number count : ℕ) (raws block rest : List (List ℕ)) (text : List ℕ) (found : List Line) → IsFirst raws text count (block ++ rest) → is_help_line (parts text) ≡ true → IsHelpBlock block rest →
      IsLines (number + count + length block) rest found → IsLines number raws (record { number = number; parts = parts text } ∷ found)
