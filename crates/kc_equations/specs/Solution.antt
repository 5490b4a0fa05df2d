-- The solutions of a configuration.
use Rattle.std.specs.Prelude.{ℕ, ◌≡◌, List, [], ◌∷◌, ◌++◌, map, fold, slice_get, if◌then◌else◌}
use Rattle.std.specs.List.{list_any}
use Rattle.std.specs.Option.{option_map_or}
use Rattle.br_path.specs.Text.{is_text}
use Rattle.kc_values.specs.Values.{Table}
use Rattle.kc_values.specs.declared.values.Valued.{Valued}
use Rattle.kc_values.specs.declared.kind.Kind.{Kind}
use Rattle.kc_values.specs.declared.kind.Kind.TheVariants.{Bool as BoolKind}
use Rattle.kc_menu.specs.Menu.{Declared}
use Rattle.kc_menu.specs.declared.menu.KcEntry.{KcEntry}
use Rattle.kc_menu.specs.declared.wishes.Wish.{Wish}
use Rattle.kc_equations.specs.Equation.{entries_of, equation}

-- a symbol after others, unless it is one of them
abbrev pub put_symbol : List (List ℕ) → List ℕ → List (List ℕ)
put_symbol symbols symbol = if list_any (is_text symbol) symbols then symbols else symbols ++ symbol ∷ []

-- the symbols of entries, in the order of their first ones
unfoldable pub symbols_of : List KcEntry → List (List ℕ)
symbols_of entries = fold (λ symbols e. put_symbol symbols e.symbol) [] entries

-- the type of a symbol: that of its entries
unfoldable pub kind_of : List KcEntry → List ℕ → Kind
kind_of entries symbol = option_map_or (λ e. e.kind) (slice_get (entries_of entries symbol) 0) BoolKind

-- the type of a symbol, and the text that its equation gives
abbrev pub valued_by : Declared → List Wish → Table → List ℕ → Valued
valued_by menu wishes values symbol = record { kind = kind_of menu.entries symbol; text = equation menu wishes values symbol }

-- each symbol in the order of first entries, with its type and the text that its equation gives at some values
unfoldable pub by_equations : Declared → List Wish → Table → Table
by_equations menu wishes values = map (λ symbol. (symbol, valued_by menu wishes values symbol)) (symbols_of menu.entries)

-- a solution: at its own texts, the equation of each symbol gives the text that the symbol has
unfoldable pub IsSolution : Declared → List Wish → Table → Type 0
IsSolution menu wishes values = values ≡ by_equations menu wishes values

pub record HasOneSolution (menu : Declared) (wishes : List Wish) : Type 0 where
  pub values : Table
  pub solution : IsSolution menu wishes values
  pub alone : (others : Table) → IsSolution menu wishes others → others ≡ values
