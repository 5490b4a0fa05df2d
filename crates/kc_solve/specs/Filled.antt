-- Values that are found one by one.
use Rattle.std.specs.Prelude.{ℕ, ◌≡◌, nat_lt, Bool, ◌&&◌, List, [], ◌∷◌, ◌++◌, length, fold, Option, Some, None, is_some, if◌then◌else◌}
use Rattle.kc_values.specs.Values.{Table, find as valued}
use Rattle.kc_values.specs.declared.values.Valued.{Valued}
use Rattle.kc_menu.specs.Menu.{Declared}
use Rattle.kc_menu.specs.declared.menu.KcEntry.{KcEntry}
use Rattle.kc_menu.specs.declared.wishes.Wish.{Wish}
use Rattle.kc_equations.specs.Names.{is_declared, names}
use Rattle.kc_equations.specs.Solution.{valued_by}
use Rattle.kc_solve.specs.Symbols.{symbol_at}

-- each declared symbol has the value that its equation gives at these values, and no other symbol has one
abbrev pub IsFilled : Declared → List Wish → Table → Type 0
IsFilled menu wishes values = (s : List ℕ) → valued s values ≡ (if is_declared menu.entries s then Some (valued_by menu wishes values s) else None)

-- whether a place names another: the equation of its symbol names that of the other
abbrev pub names_at : Declared → List (List ℕ) → ℕ → ℕ → Bool
names_at menu symbols place other = names menu (symbol_at symbols place) (symbol_at symbols other)

-- the same of the places of symbols, and of no others
abbrev pub names_within : Declared → List (List ℕ) → ℕ → ℕ → Bool
names_within menu symbols place other = nat_lt place (length symbols) && nat_lt other (length symbols) && names_at menu symbols place other

-- a symbol after the others, with the value that its equation gives at theirs
abbrev pub with_value : Declared → List Wish → Table → List ℕ → Table
with_value menu wishes values symbol = values ++ (symbol, valued_by menu wishes values symbol) ∷ []

-- a symbol with its value after the others, unless it is there
abbrev pub put_valued : Table → List ℕ → Option Valued → Table
put_valued values symbol None = values
put_valued values symbol (Some v) = if is_some (valued symbol values) then values else values ++ (symbol, v) ∷ []

-- values in the order of the first entries
abbrev pub in_order : Table → List KcEntry → Table
in_order filled entries = fold (λ values e. put_valued values e.symbol (valued e.symbol filled)) [] entries
