-- What lines are made of.
use Rattle.std.specs.Prelude.{ℕ, List, [], ◌∷◌, ◌++◌, codes}
use Rattle.std.specs.Fmt.{decimal}

abbrev pub line : List ℕ → List ℕ
line text = text ++ 10 ∷ []

-- the line of a fault, by its words
abbrev pub fault_line : List ℕ → List ℕ
fault_line words = line (codes "fault " ++ words)

abbrev pub status_line : ℕ → List ℕ
status_line number = line (codes "status " ++ decimal number)
