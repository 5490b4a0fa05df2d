-- What a menu and wishes say of each symbol and each choice.
use Rattle.std.specs.Prelude.{ℕ, ◌≡◌, ◌<◌, List, Option, map, flat_map, length}
use Rattle.std.specs.List.{list_any, slice_get}
use Rattle.br_path.specs.Text.{is_text}
use Rattle.kc_menu.specs.Menu.{Declared, IsMenu}
use Rattle.kc_menu.specs.declared.menu.KcEntry.{KcEntry}
use Rattle.kc_menu.specs.declared.menu.SymbolIf.{SymbolIf}
use Rattle.kc_menu.specs.declared.wishes.Wish.{Wish}
use Rattle.kc_menu.specs.declared.wishes.WishValue.{WishValue}
use Rattle.kc_equations.specs.Behind.{behind, selects_behind}
use Rattle.kc_equations.specs.Equation.{entries_of, selects_of, members_of, wish_of}
use Rattle.kc_equations.specs.Names.{is_declared}
use Rattle.kc_solve.specs.Groups.{row}
use Rattle.kc_solve.specs.Symbols.{AreSymbols, symbol_at, place_of}
use Rattle.kc_solve.specs.declared.index.Index.{Index}

-- each entry with the place of its symbol
abbrev pub placed_entries : List (List ℕ) → List KcEntry → List (Option ℕ × KcEntry)
placed_entries symbols entries = map (λ e. (place_of symbols e.symbol, e)) entries

-- each select, with its entry and the place of the symbol that it names
abbrev pub placed_selects : List (List ℕ) → List KcEntry → List (Option ℕ × (KcEntry × SymbolIf))
placed_selects symbols entries = flat_map (λ e. map (λ s. (place_of symbols s.symbol, (e, s))) e.selects) entries

-- each wish with the place of its symbol
abbrev pub placed_wishes : List (List ℕ) → List Wish → List (Option ℕ × WishValue)
placed_wishes symbols wishes = map (λ w. (place_of symbols w.symbol, w.value)) wishes

-- each entry with the place of its choice
abbrev pub placed_members : List KcEntry → List (Option ℕ × KcEntry)
placed_members entries = map (λ e. (e.choice, e)) entries

-- the symbols are those that are declared
abbrev pub AreDeclared : Declared → List (List ℕ) → Type 0
AreDeclared menu symbols = (s : List ℕ) → list_any (is_text s) symbols ≡ is_declared menu.entries s

-- an index tells of each symbol and choice what the menu and the wishes do
pub record IsIndex (index : Index) : Type 0 where
  pub menu : IsMenu index.menu.now
  pub symbols : AreSymbols index.symbols
  pub declared : AreDeclared index.menu.now index.symbols
  pub own : (place : ℕ) → place < length index.symbols → behind (row index.own place) ≡ entries_of index.menu.now.entries (symbol_at index.symbols place)
  pub selects : (place : ℕ) → place < length index.symbols → selects_behind (row index.selects place) ≡ selects_of index.menu.now.entries (symbol_at index.symbols place)
  pub wishes : (place : ℕ) → place < length index.symbols → slice_get (behind (row index.asked place)) 0 ≡ wish_of index.wishes.now (symbol_at index.symbols place)
  pub members : (place : ℕ) → place < length index.menu.now.choices → behind (row index.members place) ≡ members_of index.menu.now.entries place
  pub own_rows : length index.own ≡ length index.symbols
  pub select_rows : length index.selects ≡ length index.symbols
  pub wish_rows : length index.asked ≡ length index.symbols
  pub member_rows : length index.members ≡ length index.menu.now.choices
