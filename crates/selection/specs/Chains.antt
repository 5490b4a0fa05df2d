-- The graph whose walks are the chains of lists: its nodes are the places of the made packages, and after them a root.
use Rattle.std.specs.Prelude.{◌≡◌, ℕ, ◌+◌, ◌<◌, ◌↔◌, false, List, [], ◌∷◌, ◌++◌, length, flat_map, position, Option, None, Some, slice_get, slice_set, option_to_list, Contains, if◌then◌else◌}
use Rattle.std.specs.Option.{option_map_or}
use Rattle.cycle_walks.specs.Graph.{Rows, row}
use Rattle.kc_values.specs.Values.{Table as Values}
use Rattle.br_path.specs.Text.{is_text}
use Rattle.recipe_set.specs.declared.packages.Made.{Made}
use Rattle.selection.specs.declared.listed.Listed.{Listed}
use Rattle.selection.specs.Names.{is_asked}
use Rattle.selection.specs.Selected.{IsSelected}

-- the place of the package of a name
abbrev pub place_of : List Made → List ℕ → Option ℕ
place_of made name = position (λ one. is_text name one.name) made

-- a place stays where a host package stands there
abbrev pub if_host : List Made → Option ℕ → Option ℕ
if_host made None = None
if_host made (Some place) = if option_map_or (λ one. one.host) (slice_get made place) false then Some place else None

-- the place of the host package of a name
abbrev pub host_place : List Made → List ℕ → Option ℕ
host_place made name = if_host made (place_of made name)

-- a node names another, where there is one
abbrev pub named : Rows → ℕ → Option ℕ → Rows
named rows node None = rows
named rows node (Some other) = slice_set rows node (row rows node ++ other ∷ [])

abbrev pub listed : Option ℕ → List ℕ
listed None = []
listed (Some place) = place ∷ []

-- the places of the host packages among names
abbrev pub host_places : List Made → List (List ℕ) → List ℕ
host_places made names = flat_map (λ name. listed (host_place made name)) names

-- places are those of the selected ones among packages with their lists
pub record ArePlaces (values : Values) (packages : List Listed) (places : List ℕ) : Type 0 where
  pub within : (place : ℕ) → Contains places place → place < length packages
  pub selected : (place : ℕ) (item : Listed) → slice_get packages place ≡ Some item → Contains places place ↔ IsSelected values packages item

-- the place of a package, where it is asked for
abbrev pub asked_place : Values → ℕ → Made → Option ℕ
asked_place values place one = if is_asked values one.name then Some place else None

-- the places of the packages that are asked for, from a place on
abbrev pub asked_places : Values → ℕ → List Made → List ℕ
asked_places values place [] = []
asked_places values place (one ∷ made) = listed (asked_place values place one) ++ asked_places values (place + 1) made

-- the packages at places
abbrev pub picked : List Listed → List ℕ → List Listed
picked packages places = flat_map (λ place. option_to_list (slice_get packages place)) places
