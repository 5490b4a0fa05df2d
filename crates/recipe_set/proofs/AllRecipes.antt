-- Recipes that are read one by one.
use Rattle.std.proofs.Common.{◌≡◌, ℕ, ◌+◌, ◌<◌, ◌≤◌, Ok, Err, List, [], ◌∷◌, ◌++◌, map, length, get_or, take, drop, sym, ap, ◌∙◌, subst}
use Rattle.std.specs.Prelude.{All}
use Rattle.std.proofs.lemmas.List.{map_more, drop_more, drop_all}
use Rattle.std.proofs.lemmas.List.Elements.{Contains-get_or}
use Rattle.br_path.specs.Files.{FileMap, AreSmall}
use Rattle.recipe_set.specs.declared.draft.Draft.{Draft}
use Rattle.recipe_set.specs.declared.folder.RecipeFile.{RecipeFile}
use Rattle.recipe_set.specs.declared.fault.PlanFault.{PlanFault}
use Rattle.recipe_set.specs.Effect.{Outcome}
use Rattle.recipe_set.specs.Reading.{ReadsRecipe, ReadsAll, no_more, faulty, further, AreRecipes, recipe_path}
use Rattle.recipe_set.specs.Found.{told}
use Rattle.recipe_set.proofs.Listing.{in_map}

-- the folders of recipes
abbrev pub folders : List RecipeFile → List (List ℕ)
folders recipes = map (λ recipe. recipe.folder.name) recipes

module _ (recipes : List RecipeFile) (start : Draft) where
  -- what the recipes to come lead to, all recipes lead to
  abbrev pub Leads : ℕ → Draft → Type 0
  Leads i draft = (end : Outcome) → ReadsAll (folders (take i recipes)) (Ok draft) (map told (drop i recipes)) end → ReadsAll [] (Ok start) (map told recipes) end

  module _ (i : ℕ) (draft : Draft) (recipe : RecipeFile) (within : i < length recipes) (at : recipe ≡ get_or recipes i recipe) (leads : Leads i draft) where
    here : drop i recipes ≡ recipe ∷ drop (i + 1) recipes
    here = drop_more recipes i recipe within ∙ ap (λ r. r ∷ drop (i + 1) recipes) (sym at)

    pub folders_more : folders (take (i + 1) recipes) ≡ folders (take i recipes) ++ recipe.folder.name ∷ []
    folders_more = map_more (λ r. r.folder.name) recipes i recipe within ∙ ap (λ r. folders (take i recipes) ++ r.folder.name ∷ []) (sym at)

    one_further : (next end : Outcome) → ReadsRecipe (folders (take i recipes)) draft recipe.folder.name recipe.text.now next → ReadsAll (folders (take i recipes) ++ recipe.folder.name ∷ []) next (map told (drop (i + 1) recipes)) end → ReadsAll [] (Ok start) (map told recipes) end
    one_further next end reads all =
        leads end (subst (λ left. ReadsAll (folders (take i recipes)) (Ok draft) (map told left) end) (sym here) (further next reads all))

    pub next_leads : (next : Draft) → ReadsRecipe (folders (take i recipes)) draft recipe.folder.name recipe.text.now (Ok next) → Leads (i + 1) next
    next_leads next reads end all = one_further (Ok next) end reads (subst (λ f. ReadsAll f (Ok next) (map told (drop (i + 1) recipes)) end) folders_more all)

    pub stop_leads : (fault : PlanFault) → ReadsRecipe (folders (take i recipes)) draft recipe.folder.name recipe.text.now (Err fault) → ReadsAll [] (Ok start) (map told recipes) (Err fault)
    stop_leads fault reads = one_further (Err fault) (Err fault) reads faulty

  pub end_leads : (i : ℕ) (draft : Draft) → length recipes ≤ i → Leads i draft → ReadsAll [] (Ok start) (map told recipes) (Ok draft)
  end_leads i draft all leads =
      leads (Ok draft) (subst (λ left. ReadsAll (folders (take i recipes)) (Ok draft) (map told left) (Ok draft)) (sym (drop_all i recipes all)) no_more)

-- recipes of small files are small
pub small_recipes : (files : FileMap) (recipes : List RecipeFile) → AreSmall files → AreRecipes files (map told recipes) → All (λ recipe. length recipe.text.now < 2147483648) recipes
small_recipes files recipes small are i d within =
    let recipe : RecipeFile = get_or recipes i d in
    small (recipe_path recipe.folder.name) recipe.text.now ((are.all recipe.folder.name recipe.text.now).0 (in_map told recipes recipe (Contains-get_or recipes i d within)))
