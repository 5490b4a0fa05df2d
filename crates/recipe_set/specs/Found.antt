-- What is found of recipes and patches among the files.
use Rattle.std.specs.Prelude.{◌≡◌, ◌≢◌, ℕ, IsTrue, nat_eq, List, [], ◌∷◌, ◌++◌, codes}
use Rattle.std.specs.List.{ends_with}
use Rattle.std.specs.Ordering.{nat_cmp}
use Rattle.std.specs.Cmp.Lexicographic.{slice_cmp}
use Rattle.std.specs.declared.cmp.Ordering.TheVariants.{Less}
use Rattle.br_path.specs.Path.{Names}
use Rattle.br_path.specs.Files.{FileMap, IsFile}
use Rattle.recipe_set.specs.declared.folder.Folder.{Folder}
use Rattle.recipe_set.specs.declared.folder.RecipeFile.{RecipeFile}
use Rattle.recipe_set.specs.Effect.{folder_path}
use Rattle.recipe_set.specs.Reading.{recipe_path}

-- the package of a recipe that is found, and its text
abbrev pub told : RecipeFile → List ℕ × List ℕ
told recipe = (recipe.folder.name, recipe.text.now)

-- a folder has the path that its name says
abbrev pub IsPlaced : Folder → Type 0
IsPlaced folder = folder.path ≡ folder_path folder.name

-- a recipe that is found has the paths that its package's name says
pub record IsFound (recipe : RecipeFile) : Type 0 where
  pub folder : IsPlaced recipe.folder
  pub path : recipe.path ≡ recipe_path recipe.folder.name

-- a patch of this name directly in a folder
pub record IsPatchOf (files : FileMap) (folder : Names) (name : List ℕ) : Type 0 where
  pub file : IsFile files (folder ++ name ∷ [])
  pub ending : IsTrue (ends_with nat_eq name (codes ".patch"))

-- the least patch directly in a folder
pub record IsFirstPatchOf (files : FileMap) (folder at : Names) : Type 0 where
  pub name : List ℕ
  pub is : at ≡ folder ++ name ∷ []
  pub patch : IsPatchOf files folder name
  pub least : (other : List ℕ) → IsPatchOf files folder other → slice_cmp nat_cmp other name ≢ Less
