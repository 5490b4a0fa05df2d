-- Walks and cycles of "its equation names".
use Rattle.std.specs.Prelude.{ℕ, ◌≡◌, Bool, true, List, [], ◌∷◌, ◌++◌}

-- each symbol is named by the one before it, the first of them by the symbol that the walk leaves
abbrev pub IsWalk : (List ℕ → List ℕ → Bool) → List ℕ → List (List ℕ) → Type 0
IsWalk names symbol [] = Unit {0}
IsWalk names symbol (next ∷ rest) = (names symbol next ≡ true) × IsWalk names next rest

-- a walk of one or more steps leads from a symbol to another
abbrev pub Reaches : (List ℕ → List ℕ → Bool) → List ℕ → List ℕ → Type 0
Reaches names symbol other = (between : List (List ℕ)) × IsWalk names symbol (between ++ other ∷ [])

-- a walk of one or more steps leads from a symbol back to it
abbrev pub OnCycle : (List ℕ → List ℕ → Bool) → List ℕ → Type 0
OnCycle names symbol = Reaches names symbol symbol
