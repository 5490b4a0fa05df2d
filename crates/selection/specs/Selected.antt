-- Selected packages: those to which a chain of lists leads from a package that is asked for.
use Rattle.std.specs.Prelude.{ℕ, ◌≤◌, ◌↔◌, ◌&&◌, not, Bool, IsTrue, List, ◌++◌, length, map, flat_map, Contains}
use Rattle.std.specs.List.{list_any}
use Rattle.kc_values.specs.Values.{Table as Values}
use Rattle.br_path.specs.Text.{is_text}
use Rattle.recipe_set.specs.declared.packages.Made.{Made}
use Rattle.selection.specs.declared.listed.Listed.{Listed}
use Rattle.selection.specs.Names.{is_asked, is_made, is_target, AreRising}

-- all that a package lists
abbrev pub listed_by : Listed → List (List ℕ)
listed_by item = item.depends ++ (item.extract ++ item.patch)

-- of packages with their lists, one is selected: its symbol is y, or it is a host package that a selected one lists
pub data IsSelected (values : Values) (packages : List Listed) : Listed → Type 0 where
  asked : (item : Listed) → Contains packages item → IsTrue (is_asked values item.made.name) → IsSelected values packages item
  needed : (item other : Listed) → IsSelected values packages item → Contains packages other → IsTrue other.made.host →
      Contains (listed_by item) other.made.name → IsSelected values packages other

-- the names of packages with their lists
abbrev pub names_of : List Listed → List (List ℕ)
names_of packages = map (λ item. item.made.name) packages

-- the selected ones, by name
pub record AreSelected (values : Values) (packages chosen : List Listed) : Type 0 where
  pub rising : AreRising (names_of chosen)
  pub selected : (item : Listed) → Contains chosen item ↔ IsSelected values packages item

-- a package of this name is among them
abbrev pub has_name : List Listed → List ℕ → Bool
has_name packages name = list_any (λ item. is_text name item.made.name) packages

-- packages with the names that they list, one after another
abbrev pub listings : List Listed → List (List ℕ × List ℕ)
listings packages = flat_map (λ item. map (λ name. (item.made.name, name)) (listed_by item)) packages

-- a name that is listed while no recipe makes such a package
abbrev pub is_unknown : List Made → List ℕ × List ℕ → Bool
is_unknown made listing = not (is_made made listing.1)

-- a target package that is listed and isn't selected
abbrev pub is_unselected : List Made → List Listed → List ℕ × List ℕ → Bool
is_unselected made chosen listing = is_target made listing.1 && not (has_name chosen listing.1)

-- each host package that one of them lists is one of them
abbrev pub HaveHosts : List Made → List Listed → Type 0
HaveHosts made chosen = (item : Listed) (one : Made) → Contains chosen item → Contains made one → IsTrue one.host → Contains (listed_by item) one.name → IsTrue (has_name chosen one.name)

-- each package that one of them lists is one of them
abbrev pub AreClosed : List Listed → Type 0
AreClosed chosen = (item : Listed) (name : List ℕ) → Contains chosen item → Contains (listed_by item) name → IsTrue (has_name chosen name)

-- at most 256 packages by name, whose lists name none but them
pub record IsSelection (chosen : List Listed) : Type 0 where
  pub rising : AreRising (names_of chosen)
  pub few : length chosen ≤ 256
  pub closed : AreClosed chosen
