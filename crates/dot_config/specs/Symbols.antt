-- Sets of symbols.
use Rattle.std.specs.Prelude.{ℕ, Bool, List}
use Rattle.std.specs.List.{list_any}
use Rattle.br_path.specs.Text.{is_text}

-- the symbol is one of these
abbrev pub has : List ℕ → List (List ℕ) → Bool
has symbol names = list_any (λ name. is_text name symbol) names
