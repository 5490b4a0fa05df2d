-- All recipes of the files, read one after another, or their first fault.
use Rattle.std.specs.Prelude.{◌≡◌, ◌≢◌, ◌↔◌, ℕ, true, false, nat_eq, IsTrue, List, [], ◌∷◌, ◌++◌, map, Contains, Some, Result, Ok, Err, codes}
use Rattle.std.specs.FinMap as fin
use Rattle.std.specs.List.{ends_with}
use Rattle.std.specs.List.Sorted.{IsStrictlySortedBy}
use Rattle.std.specs.declared.cmp.Ordering.TheVariants.{Less}
use Rattle.br_path.specs.Path.{Names, path_cmp}
use Rattle.br_path.specs.Files.{FileMap, IsFile}
use Rattle.kc_values.specs.Values.{Table as Values}
use Rattle.mk_syntax.specs.declared.recipe.Statement.{Statement}
use Rattle.mk_syntax.specs.declared.recipe.What.{What}
use Rattle.mk_syntax.specs.declared.recipe.Test.{Test}
use Rattle.mk_syntax.specs.declared.fault.MkFault.{MkFault}
use Rattle.mk_syntax.specs.Lines.{joined_lines}
use Rattle.mk_syntax.specs.Grammar.{IsPlain, IsRecipeOf, IsFirstFault}
use Rattle.recipe_set.specs.declared.draft.Draft.{Draft}
use Rattle.recipe_set.specs.declared.recipes.Recipes.{Recipes}
use Rattle.recipe_set.specs.declared.fault.PlanFault.{PlanFault}
use Rattle.recipe_set.specs.declared.fault.PlanFault.TheVariants.{WrongName, Recipe, PatchFile}
use Rattle.recipe_set.specs.Names.{is_allowed}
use Rattle.recipe_set.specs.First.{first_vars}
use Rattle.recipe_set.specs.Block.{Block, Branches, nothing, statement, condition, done, another, last, flat, whats}
use Rattle.recipe_set.specs.Effect.{Outcome, Does, Asks, folder_path}

mutual
  -- what a block of a package's recipe makes of what is read before it; a fault before it stands
  pub data Reads (folder : List ℕ) : Outcome → Block → Outcome → Type 0 where
    failed : {fault : PlanFault} {block : Block} → Reads folder (Err fault) block (Err fault)
    nothing_more : {draft : Draft} → Reads folder (Ok draft) nothing (Ok draft)
    one_more : {draft : Draft} {what : What} {plain : IsPlain what} {block : Block} {end : Outcome} (next : Outcome) →
        Does folder draft what next → Reads folder next block end → Reads folder (Ok draft) (statement what plain block) end
    choice : {draft : Draft} {test : Test} {inner block : Block} {branches : Branches} {end : Outcome} (next : Outcome) →
        Chooses folder draft test inner branches next → Reads folder next block end → Reads folder (Ok draft) (condition test inner branches block) end

  -- what a branch with a test makes of it, or what follows the branch where the test doesn't hold: one branch is read at most
  pub data Chooses (folder : List ℕ) : Draft → Test → Block → Branches → Outcome → Type 0 where
    unknown : {draft : Draft} {test : Test} {inner : Block} {branches : Branches} {fault : PlanFault} →
        Asks folder draft test (Err fault) → Chooses folder draft test inner branches (Err fault)
    taken : {draft : Draft} {test : Test} {inner : Block} {branches : Branches} {end : Outcome} →
        Asks folder draft test (Ok true) → Reads folder (Ok draft) inner end → Chooses folder draft test inner branches end
    passed : {draft : Draft} {test : Test} {inner : Block} {branches : Branches} {end : Outcome} →
        Asks folder draft test (Ok false) → Turns folder draft branches end → Chooses folder draft test inner branches end

  -- what the branches after those that aren't taken make of it
  pub data Turns (folder : List ℕ) : Draft → Branches → Outcome → Type 0 where
    to_none : {draft : Draft} → Turns folder draft done (Ok draft)
    to_another : {draft : Draft} {test : Test} {inner : Block} {branches : Branches} {end : Outcome} →
        Chooses folder draft test inner branches end → Turns folder draft (another test inner branches) end
    to_last : {draft : Draft} {inner : Block} {end : Outcome} → Reads folder (Ok draft) inner end → Turns folder draft (last inner) end

-- the path of a package's recipe
abbrev pub recipe_path : List ℕ → Names
recipe_path folder = codes "package" ∷ folder ∷ (folder ++ codes ".mk") ∷ []

-- what the recipe of a folder makes of what is read before it, after the recipes of these folders
pub data ReadsRecipe (earlier : List (List ℕ)) (draft : Draft) (folder text : List ℕ) : Outcome → Type 0 where
  wrong_name : is_allowed earlier folder ≡ false → ReadsRecipe earlier draft folder text (Err (WrongName (recipe_path folder)))
  no_recipe : (fault : MkFault) → is_allowed earlier folder ≡ true → IsFirstFault (joined_lines text) fault →
      ReadsRecipe earlier draft folder text (Err (Recipe (recipe_path folder) fault))
  recipe : {end : Outcome} (statements : List Statement) (block : Block) → is_allowed earlier folder ≡ true →
      IsRecipeOf (joined_lines text) statements → flat block ≡ whats statements → Reads folder (Ok draft) block end →
      ReadsRecipe earlier draft folder text end

-- what recipes, each with its package and its text, make of what is read before them, one after another; the first fault
-- ends it
pub data ReadsAll : List (List ℕ) → Outcome → List (List ℕ × List ℕ) → Outcome → Type 0 where
  no_more : {earlier : List (List ℕ)} {draft : Draft} → ReadsAll earlier (Ok draft) [] (Ok draft)
  faulty : {earlier : List (List ℕ)} {recipes : List (List ℕ × List ℕ)} {fault : PlanFault} → ReadsAll earlier (Err fault) recipes (Err fault)
  further : {earlier : List (List ℕ)} {recipes : List (List ℕ × List ℕ)} {draft : Draft} {folder text : List ℕ} {end : Outcome} (next : Outcome) →
      ReadsRecipe earlier draft folder text next → ReadsAll (earlier ++ folder ∷ []) next recipes end → ReadsAll earlier (Ok draft) ((folder, text) ∷ recipes) end

-- the recipes of files, each with its package and its text, in the order of their paths
pub record AreRecipes (files : FileMap) (recipes : List (List ℕ × List ℕ)) : Type 0 where
  pub ordered : IsStrictlySortedBy path_cmp (map (λ recipe. recipe_path recipe.0) recipes)
  pub all : (folder text : List ℕ) → Contains recipes (folder, text) ↔ (fin.get files (recipe_path folder) ≡ Some text)

-- a patch directly in the folder of a recipe
pub record IsPatch (files : FileMap) (at : Names) : Type 0 where
  pub folder : List ℕ
  pub name : List ℕ
  pub is : at ≡ folder_path folder ++ name ∷ []
  pub file : IsFile files at
  pub recipe : IsFile files (recipe_path folder)
  pub ending : IsTrue (ends_with nat_eq name (codes ".patch"))

-- the least patch
pub record IsFirstPatch (files : FileMap) (at : Names) : Type 0 where
  pub patch : IsPatch files at
  pub least : (other : Names) → IsPatch files other → path_cmp other at ≢ Less

-- nothing is read, so there are only the variables before the first recipe
abbrev pub start : Values → Draft
start values = record { vars = first_vars values; packages = [] }

-- the recipes of files, at values of the symbols, or their first fault: that of the first recipe that has one, and then the
-- least patch
pub data IsReading (files : FileMap) (values : Values) : Result Recipes PlanFault → Type 0 where
  read : (recipes : List (List ℕ × List ℕ)) (draft : Draft) → AreRecipes files recipes → ReadsAll [] (Ok (start values)) recipes (Ok draft) →
      ((at : Names) → IsPatch files at → ⊥) → IsReading files values (Ok (record { vars = draft.vars; packages = draft.packages }))
  stopped : (recipes : List (List ℕ × List ℕ)) (fault : PlanFault) → AreRecipes files recipes → ReadsAll [] (Ok (start values)) recipes (Err fault) →
      IsReading files values (Err fault)
  patched : (recipes : List (List ℕ × List ℕ)) (draft : Draft) (at : Names) → AreRecipes files recipes → ReadsAll [] (Ok (start values)) recipes (Ok draft) →
      IsFirstPatch files at → IsReading files values (Err (PatchFile at))
