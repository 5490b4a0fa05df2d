-- Symbols with their types and texts.
use Rattle.std.specs.Prelude.{ℕ, ◌≡◌, ◌⊎◌, Bool, true, false, ◌&&◌, List, Option, Some, None, All, codes}
use Rattle.std.specs.List.{IsDistinct}
use Rattle.std.specs.Map.{lookup, keys_of}
use Rattle.br_path.specs.Text.{is_text}
use Rattle.kc_values.specs.declared.kind.Kind.{Kind}
use Rattle.kc_values.specs.declared.kind.Kind.TheVariants.{Bool as BoolKind, Text as TextKind, Int as IntKind}
use Rattle.kc_values.specs.declared.values.Valued.{Valued}
use Rattle.std.specs.Borrow.{Bor}

-- a list of symbols, each with its type and text
abbrev pub Table : Type 0
Table = List (List ℕ × Valued)

-- type and text of a symbol
abbrev pub find : List ℕ → Table → Option Valued
find symbol values = lookup (is_text symbol) values

-- the text of a bool is `y` or `n`
abbrev pub IsFit : Valued → Type 0
IsFit v = v.kind ≡ BoolKind → (v.text ≡ codes "y") ⊎ (v.text ≡ codes "n")

-- no symbol stands twice, and each has a text that is fit for its type
pub record IsTable (values : Table) : Type 0 where
  pub distinct : IsDistinct is_text (keys_of values)
  pub fit : All (λ e. IsFit e.1) values

abbrev pub is_y : List ℕ → Bool
is_y text = is_text text (codes "y")

abbrev pub is_bool : Kind → Bool
is_bool BoolKind = true
is_bool TextKind = false
is_bool IntKind = false

-- a symbol is a bool that is y
abbrev pub is_yes : Option Valued → Bool
is_yes (Some v) = is_bool v.kind && is_y v.text
is_yes None = false

-- a symbol that is shown, with its type and text
abbrev pub named : Bor (List ℕ) × Bor Valued → List ℕ × Valued
named found = (found.0.now, found.1.now)
