-- Tables of the letters that a command takes.
use Rattle.std.specs.Prelude.{ℕ, Bool, true, false, ◌&&◌, ◌==◌, nat_lt, List, [], ◌∷◌, ◌++◌, Option, Some, None, map, fold, if◌then◌else◌}
use Rattle.std.specs.List.{find}
use Rattle.opt_table.specs.declared.table.OptRow.{OptRow}

abbrev pub Rows : Type 0
Rows = List OptRow

-- a letter without a value
abbrev pub flag : ℕ → OptRow
flag letter = record { letter = letter; value = false }

-- a letter with a value
abbrev pub valued : ℕ → OptRow
valued letter = record { letter = letter; value = true }

-- the letters rise: each is below the next
abbrev pub is_rising : Rows → Bool
is_rising [] = true
is_rising (row ∷ []) = true
is_rising (row ∷ next ∷ rows) = nat_lt row.letter next.letter && is_rising (next ∷ rows)

-- rows are a table exactly where their letters rise
abbrev pub table_of : Rows → Option Rows
table_of rows = if is_rising rows then Some rows else None

-- the row of a letter, if the table has it
abbrev pub row_of : Rows → ℕ → Option OptRow
row_of rows letter = find (λ row. row.letter == letter) rows

-- a row in its place among rows that rise
abbrev pub put_row : Rows → OptRow → Rows
put_row [] row = row ∷ []
put_row (first ∷ rows) row = if nat_lt row.letter first.letter then row ∷ first ∷ rows else first ∷ put_row rows row

-- the rows of a command, by its letters without a value and those with one
abbrev pub rows_of : List ℕ → List ℕ → Rows
rows_of letters with_value = fold put_row [] (map flag letters ++ map valued with_value)
