-- The dependency lists of a package that a recipe makes.
use Rattle.std.specs.Prelude.{◌≡◌, ℕ, ◌&&◌, ◌||◌, ◌-◌, not, nat_eq, Bool, true, false, List, [], ◌∷◌, ◌++◌, map, fold, filter, is_some, Result, Ok, Err, codes, length, slice_index_or, if◌then◌else◌}
use Rattle.std.specs.List.{list_any, starts_with}
use Rattle.mk_expand.specs.declared.fault.ExpandFault.{ExpandFault}
use Rattle.mk_expand.specs.Words.{words}
use Rattle.br_path.specs.Text.{is_text}
use Rattle.mk_expand.specs.Vars.{Table, found}
use Rattle.mk_expand.specs.Value.{depth_limit}
use Rattle.mk_expand.specs.Answer.{IsValue, IsFault, outside}
use Rattle.recipe_set.specs.declared.fault.PlanFault.{PlanFault}
use Rattle.recipe_set.specs.declared.fault.PlanFault.TheVariants.{Expand}
use Rattle.recipe_set.specs.declared.packages.Made.{Made}
use Rattle.recipe_set.specs.Names.{upper_form}
use Rattle.selection.specs.declared.listed.Listed.{Listed}

-- a reference to a variable
abbrev pub reference : List ℕ → List ℕ
reference variable = codes "$(" ++ (variable ++ codes ")")

-- a list of a package: what the words of the value of a reference to a variable become, or the fault of its expansion, which
-- names the package and the variable
pub data HasList (vars : Table) (owner variable : List ℕ) (becomes : List (List ℕ) → List (List ℕ)) : Result (List (List ℕ)) PlanFault → Type 0 where
  value : (bytes : List ℕ) → IsValue (found vars) depth_limit (outside []) (reference variable) bytes → HasList vars owner variable becomes (Ok (becomes (words bytes)))
  fails : (fault : ExpandFault) → IsFault (found vars) depth_limit (outside []) (reference variable) fault → HasList vars owner variable becomes (Err (Expand owner variable fault))

-- a word after others, unless it is one of them
abbrev pub put_word : List (List ℕ) → List ℕ → List (List ℕ)
put_word words word = if list_any (is_text word) words then words else words ++ word ∷ []

-- words without repeats: the first of each stays
abbrev pub distinct : List (List ℕ) → List (List ℕ)
distinct words = fold put_word [] words

-- ---- what a host package takes over where it doesn't set its dependencies

-- the name of the folder that a recipe stands in
abbrev pub folder_name : Made → List ℕ
folder_name made = slice_index_or made.folder (length made.folder - 1) []

-- a name with `host-` before it, unless it begins so
abbrev pub host_name : List ℕ → List ℕ
host_name name = if starts_with nat_eq name (codes "host-") then name else codes "host-" ++ name

-- names that a host package doesn't take over: its own, and those of the toolchain and the skeleton
abbrev pub is_left : List ℕ → List ℕ → Bool
is_left own name = is_text name own || is_text name (codes "host-toolchain") || is_text name (codes "host-skeleton")

-- what a host package takes over of the dependencies of the target package
abbrev pub taken_over : List ℕ → List (List ℕ) → List (List ℕ)
taken_over own words = filter (λ name. not (is_left own name)) (map host_name words)

-- ---- the three lists

-- a variable of a package, by its name and ending
abbrev pub variable_of : List ℕ → List ℕ → List ℕ
variable_of name ending = upper_form name ++ ending

-- a host package whose dependencies aren't set
abbrev pub is_derived : Table → Made → Bool
is_derived vars made = made.host && not (is_some (found vars (variable_of made.name (codes "_DEPENDENCIES"))))

-- the dependencies of a package: by its own variable, or what it takes over by that of the target package
pub data HasDepends (vars : Table) (made : Made) (list : Result (List (List ℕ)) PlanFault) : Type 0 where
  own : is_derived vars made ≡ false → HasList vars made.name (variable_of made.name (codes "_DEPENDENCIES")) distinct list → HasDepends vars made list
  derived : is_derived vars made ≡ true →
      HasList vars made.name (variable_of (folder_name made) (codes "_DEPENDENCIES")) (λ words. distinct (taken_over made.name words)) list → HasDepends vars made list

-- what a package needs before it is extracted
abbrev pub HasExtract : Table → Made → Result (List (List ℕ)) PlanFault → Type 0
HasExtract vars made = HasList vars made.name (variable_of made.name (codes "_EXTRACT_DEPENDENCIES")) distinct

-- what it needs before it is patched
abbrev pub HasPatch : Table → Made → Result (List (List ℕ)) PlanFault → Type 0
HasPatch vars made = HasList vars made.name (variable_of made.name (codes "_PATCH_DEPENDENCIES")) distinct

-- a made package with its three lists, or the fault of the first that has one
pub data HasLists (vars : Table) (made : Made) : Result Listed PlanFault → Type 0 where
  lists : (depends extract patch : List (List ℕ)) → HasDepends vars made (Ok depends) → HasExtract vars made (Ok extract) → HasPatch vars made (Ok patch) →
      HasLists vars made (Ok (record { made = made; depends = depends; extract = extract; patch = patch }))
  no_depends : (fault : PlanFault) → HasDepends vars made (Err fault) → HasLists vars made (Err fault)
  no_extract : (depends : List (List ℕ)) (fault : PlanFault) → HasDepends vars made (Ok depends) → HasExtract vars made (Err fault) → HasLists vars made (Err fault)
  no_patch : (depends extract : List (List ℕ)) (fault : PlanFault) → HasDepends vars made (Ok depends) → HasExtract vars made (Ok extract) →
      HasPatch vars made (Err fault) → HasLists vars made (Err fault)
