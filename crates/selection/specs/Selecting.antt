-- The packages that are selected, or why there are none.
use Rattle.std.specs.Prelude.{◌≡◌, ℕ, ◌<◌, ◌≤◌, false, IsTrue, List, [], ◌∷◌, length, None, Some, Result, Ok, Err, codes}
use Rattle.std.specs.List.{find}
use Rattle.std.specs.Ordering.{nat_cmp, is_le}
use Rattle.std.specs.Cmp.Lexicographic.{slice_cmp}
use Rattle.br_path.specs.Files.{FileMap, IsFile}
use Rattle.kc_values.specs.Values.{Table as Values}
use Rattle.recipe_set.specs.declared.fault.PlanFault.{PlanFault}
use Rattle.recipe_set.specs.declared.fault.PlanFault.TheVariants.{NoRecipe, UnknownDependency, NotSelected, TooManyPackages}
use Rattle.recipe_set.specs.declared.packages.Made.{Made}
use Rattle.recipe_set.specs.declared.recipes.Recipes.{Recipes}
use Rattle.selection.specs.declared.listed.Listed.{Listed}
use Rattle.selection.specs.Names.{is_asked, is_target}
use Rattle.selection.specs.Each.{Each}
use Rattle.selection.specs.Lists.{HasLists}
use Rattle.selection.specs.Selected.{AreSelected, listings, is_unknown, is_unselected}

-- a folder of `package` with a Config.in, whose symbol is y, while no recipe makes its target package
pub record LacksRecipe (files : FileMap) (values : Values) (made : List Made) (name : List ℕ) : Type 0 where
  pub config : IsFile files (codes "package" ∷ name ∷ codes "Config.in" ∷ [])
  pub asked : IsTrue (is_asked values name)
  pub not_made : is_target made name ≡ false

-- the least by bytes of which something holds
pub record IsLeast (P : List ℕ → Type 0) (least : List ℕ) : Type 0 where
  pub holds : P least
  pub below : (other : List ℕ) → P other → IsTrue (is_le (slice_cmp nat_cmp least other))

-- what the selected packages list: first none that no recipe makes, then no target package that isn't selected, and then at most 256 of them
pub data IsChecked (made : List Made) (chosen : List Listed) : Result (List Listed) PlanFault → Type 0 where
  unknown : (owner name : List ℕ) → find (is_unknown made) (listings chosen) ≡ Some (owner, name) →
      IsChecked made chosen (Err (UnknownDependency owner name))
  not_selected : (owner name : List ℕ) → find (is_unknown made) (listings chosen) ≡ None →
      find (is_unselected made chosen) (listings chosen) ≡ Some (owner, name) → IsChecked made chosen (Err (NotSelected owner name))
  too_many : find (is_unknown made) (listings chosen) ≡ None → find (is_unselected made chosen) (listings chosen) ≡ None →
      256 < length chosen → IsChecked made chosen (Err TooManyPackages)
  few : find (is_unknown made) (listings chosen) ≡ None → find (is_unselected made chosen) (listings chosen) ≡ None →
      length chosen ≤ 256 → IsChecked made chosen (Ok chosen)

-- the selected packages of files, values and recipes, or their first fault: a folder without its recipe, then a list that has no
-- words, then what the selected packages list, then their number
pub data IsSelecting (files : FileMap) (values : Values) (recipes : Recipes) : Result (List Listed) PlanFault → Type 0 where
  no_recipe : (name : List ℕ) → IsLeast (LacksRecipe files values recipes.packages) name → IsSelecting files values recipes (Err (NoRecipe name))
  no_list : (fault : PlanFault) → ((name : List ℕ) → LacksRecipe files values recipes.packages name → ⊥) →
      Each (HasLists recipes.vars) recipes.packages (Err fault) → IsSelecting files values recipes (Err fault)
  selected : {answer : Result (List Listed) PlanFault} (packages chosen : List Listed) → ((name : List ℕ) → LacksRecipe files values recipes.packages name → ⊥) →
      Each (HasLists recipes.vars) recipes.packages (Ok packages) → AreSelected values packages chosen → IsChecked recipes.packages chosen answer →
      IsSelecting files values recipes answer
