-- Names of packages, their variables and their symbols.
use Rattle.std.specs.Prelude.{ℕ, ◌&&◌, not, Bool, List, ◌++◌, codes}
use Rattle.std.specs.List.{list_any}
use Rattle.std.specs.List.Sorted.{IsStrictlySortedBy}
use Rattle.std.specs.Ordering.{nat_cmp}
use Rattle.std.specs.Cmp.Lexicographic.{slice_cmp}
use Rattle.kc_values.specs.Values.{is_yes, find, Table as Values}
use Rattle.br_path.specs.Text.{is_text}
use Rattle.recipe_set.specs.declared.packages.Made.{Made}
use Rattle.recipe_set.specs.Names.{upper_form}

-- the symbol of a package is a bool that is y
abbrev pub is_asked : Values → List ℕ → Bool
is_asked values name = is_yes (find (codes "BR2_PACKAGE_" ++ upper_form name) values)

-- a recipe makes a package of this name
abbrev pub is_made : List Made → List ℕ → Bool
is_made packages name = list_any (λ made. is_text name made.name) packages

-- a recipe makes a package of this name that is no host package
abbrev pub is_target : List Made → List ℕ → Bool
is_target packages name = list_any (λ made. is_text name made.name && not made.host) packages

-- names that rise by their bytes
abbrev pub AreRising : List (List ℕ) → Type 0
AreRising names = IsStrictlySortedBy (slice_cmp nat_cmp) names
