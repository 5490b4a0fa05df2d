-- The symbols that an equation names, by their places.
use Rattle.std.specs.Prelude.{ℕ, ◌≡◌, ◌<◌, List, [], ◌∷◌, ◌++◌, length, flat_map, Option, Some, None, slice_index_or, slice_set}
use Rattle.std.specs.Option.{option_map_or}
use Rattle.cycle_walks.specs.Graph.{Rows, row}
use Rattle.kc_menu.specs.Menu.{Declared}
use Rattle.kc_equations.specs.Equation.{entries_of, selects_of, choice_at}
use Rattle.kc_equations.specs.Names.{choice_of}
use Rattle.kc_solve.specs.Symbols.{place_of}
use Rattle.kc_solve.specs.Words.{own_words, select_words, choice_words}

-- a node names another, where there is one
abbrev pub named : Rows → ℕ → Option ℕ → Rows
named rows place None = rows
named rows place (Some other) = slice_set rows place (row rows place ++ other ∷ [])

abbrev pub listed : Option ℕ → List ℕ
listed None = []
listed (Some place) = place ∷ []

-- the places of the words that are symbols
abbrev pub places_in : List (List ℕ) → List (List ℕ) → List ℕ
places_in symbols words = flat_map (λ word. listed (place_of symbols word)) words

-- the words of the choice at a place
abbrev pub choice_words_at : Declared → ℕ → List (List ℕ)
choice_words_at menu place = option_map_or (λ c. choice_words c.0 c.1) (choice_at menu place) []

-- the words of each choice, by its place
pub record AreChoiceWords (menu : Declared) (chosen : List (List (List ℕ))) : Type 0 where
  pub count : length chosen ≡ length menu.choices
  pub each : (place : ℕ) → place < length menu.choices → slice_index_or chosen place [] ≡ choice_words_at menu place

-- the words that stand in the entries of a symbol and round the selects that name it
abbrev pub own_words_at : Declared → List ℕ → List (List ℕ)
own_words_at menu symbol = flat_map own_words (entries_of menu.entries symbol) ++ flat_map (λ x. select_words x.0 x.1) (selects_of menu.entries symbol)

-- the words of the choice of a symbol
abbrev pub chosen_words_at : Declared → List ℕ → List (List ℕ)
chosen_words_at menu symbol = option_map_or (λ c. choice_words c.0 c.1) (choice_of menu symbol) []

-- the words that stand in the equation of a symbol
unfoldable pub words_at : Declared → List ℕ → List (List ℕ)
words_at menu symbol = own_words_at menu symbol ++ chosen_words_at menu symbol
