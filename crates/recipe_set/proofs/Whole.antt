-- The reading of all recipes, from what is found of them.
use Rattle.std.proofs.Common.{◌≡◌, Ok, Err, List, [], map, sym, subst}
use Rattle.br_path.specs.Path.{Names}
use Rattle.br_path.specs.Files.{FileMap}
use Rattle.kc_values.specs.Values.{Table as Values}
use Rattle.recipe_set.specs.declared.draft.Draft.{Draft}
use Rattle.recipe_set.specs.declared.folder.RecipeFile.{RecipeFile}
use Rattle.recipe_set.specs.declared.recipes.Recipes.{Recipes}
use Rattle.recipe_set.specs.declared.fault.PlanFault.{PlanFault}
use Rattle.recipe_set.specs.declared.fault.PlanFault.TheVariants.{PatchFile}
use Rattle.recipe_set.specs.Effect.{Outcome}
use Rattle.recipe_set.specs.Reading.{ReadsAll, AreRecipes, IsPatch, IsFirstPatch, IsReading, read, stopped, patched, start}
use Rattle.recipe_set.specs.Found.{told}

module _ (files : FileMap) (values : Values) (recipes : List RecipeFile) (are : AreRecipes files (map told recipes)) where
  from_start : (first : Draft) (slice : List RecipeFile) (end : Outcome) → first ≡ start values → slice ≡ recipes → ReadsAll [] (Ok first) (map told slice) end → ReadsAll [] (Ok (start values)) (map told recipes) end
  from_start first slice end begins same all =
      subst (λ d. ReadsAll [] (Ok d) (map told recipes) end) begins (subst (λ r. ReadsAll [] (Ok first) (map told r) end) same all)

  pub stops : (first : Draft) (slice : List RecipeFile) (fault : PlanFault) → first ≡ start values → slice ≡ recipes → ReadsAll [] (Ok first) (map told slice) (Err fault) → IsReading files values (Err fault)
  stops first slice fault begins same all = stopped (map told recipes) fault are (from_start first slice (Err fault) begins same all)

  pub finds : (first : Draft) (slice : List RecipeFile) (draft : Draft) (fault : PlanFault) → first ≡ start values → slice ≡ recipes → ReadsAll [] (Ok first) (map told slice) (Ok draft) → (at : Names) × (fault ≡ PatchFile at) × IsFirstPatch files at →
      IsReading files values (Err fault)
  finds first slice draft fault begins same all (at, is, found) =
      subst (λ f. IsReading files values (Err f)) (sym is) (patched (map told recipes) draft at are (from_start first slice (Ok draft) begins same all) found)

  pub ends : (first : Draft) (slice : List RecipeFile) (draft : Draft) (made : Recipes) → first ≡ start values → slice ≡ recipes → ReadsAll [] (Ok first) (map told slice) (Ok draft) → ((at : Names) → IsPatch files at → ⊥) →
      made ≡ record { vars = draft.vars; packages = draft.packages } → IsReading files values (Ok made)
  ends first slice draft made begins same all no_patch is =
      subst (λ r. IsReading files values (Ok r)) (sym is) (read (map told recipes) draft are (from_start first slice (Ok draft) begins same all) no_patch)
