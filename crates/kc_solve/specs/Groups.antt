-- Items that are put into numbered rows.
use Rattle.std.specs.Prelude.{ℕ, List, [], ◌∷◌, ◌++◌, fold, replicate, Option, Some, None, slice_index_or, slice_set}

abbrev pub row : {X : Type 0} → List (List X) → ℕ → List X
row rows place = slice_index_or rows place []

-- an item after the others of its row; one without a row is left out
abbrev pub put : {X : Type 0} → List (List X) → Option ℕ → X → List (List X)
put rows None item = rows
put rows (Some place) item = slice_set rows place (row rows place ++ item ∷ [])

-- items that are put one after the other, each with its row
abbrev pub put_all : {X : Type 0} → List (List X) → List (Option ℕ × X) → List (List X)
put_all rows items = fold (λ more x. put more x.0 x.1) rows items

-- so many rows, of these items
abbrev pub grouped : {X : Type 0} → ℕ → List (Option ℕ × X) → List (List X)
grouped count items = put_all (replicate count []) items
