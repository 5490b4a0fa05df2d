-- The lines of a text, joined.
use Rattle.std.specs.Prelude.{ℕ, ◌+◌, ◌-◌, ◌==◌, Bool, List, [], ◌∷◌, ◌++◌, if◌then◌else◌, length, take, slice_index, Option, Some, None}
use Rattle.std.specs.List.{slice_split}
use Rattle.mk_syntax.specs.declared.lines.Line.{Line}
use Rattle.mk_syntax.specs.Blanks.{skip_blanks, trim_end}

-- how many lines a text has: each is ended by a newline, which the last may lack
abbrev pub line_count : List ℕ → ℕ
line_count [] = 0
line_count (b ∷ []) = 1
line_count (b ∷ c ∷ text) = if b == 10 then line_count (c ∷ text) + 1 else line_count (c ∷ text)

-- the parts of a text between newlines, as written
abbrev pub raw_lines : List ℕ → List (List ℕ)
raw_lines text = slice_split (λ b. b == 10) text

-- a line is joined with the next where its last byte is a backslash
abbrev pub is_joined : List ℕ → Bool
is_joined line = slice_index line (length line - 1) == 92

-- in place of the backslash, with the blanks before it and those that begin the next line, stands one space
abbrev pub joined : List ℕ → List ℕ → List ℕ
joined line further = trim_end (take (length line - 1) line) ++ 32 ∷ [] ++ skip_blanks further

-- the lines, where this one begins at a number and has come to a later one, and others follow as written
abbrev pub lines_from : ℕ → ℕ → List ℕ → List (List ℕ) → List Line
lines_from start number line [] = record { number = start; bytes = line } ∷ []
lines_from start number line (further ∷ raw) =
    if is_joined line then lines_from start (number + 1) (joined line further) raw
    else (record { number = start; bytes = line } ∷ lines_from (number + 1) (number + 1) further raw)

-- the lines of parts as written, counted from 1
abbrev pub joined_parts : List (List ℕ) → List Line
joined_parts [] = []
joined_parts (first ∷ raw) = lines_from 1 1 first raw

-- the lines of a text: each has the number of its first part
abbrev pub joined_lines : List ℕ → List Line
joined_lines text = joined_parts (raw_lines text)

-- the parts after a newline, if there is one
abbrev pub raw_behind : Option (List ℕ) → List (List ℕ)
raw_behind None = []
raw_behind (Some text) = raw_lines text
