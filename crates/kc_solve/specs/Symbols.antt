-- Symbols that are numbered by their places.
use Rattle.std.specs.Prelude.{ℕ, ◌<◌, ◌^◌, List, [], Option, length, position, slice_index_or}
use Rattle.std.specs.List.Sorted.{IsStrictlySortedBy}
use Rattle.std.specs.Cmp.Lexicographic.{slice_cmp}
use Rattle.std.specs.Ordering.{nat_cmp}
use Rattle.br_path.specs.Text.{is_text}

-- symbols that rise by bytes; their places can be numbered in 32 bits
pub record AreSymbols (symbols : List (List ℕ)) : Type 0 where
  pub few : length symbols < 2 ^ 32
  pub rising : IsStrictlySortedBy (slice_cmp nat_cmp) symbols

-- the symbol at a place
abbrev pub symbol_at : List (List ℕ) → ℕ → List ℕ
symbol_at symbols place = slice_index_or symbols place []

-- the place of a symbol
abbrev pub place_of : List (List ℕ) → List ℕ → Option ℕ
place_of symbols symbol = position (is_text symbol) symbols
