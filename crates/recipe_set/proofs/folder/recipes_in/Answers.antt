use Rattle.std.proofs.Common.{◌≡◌, ◌+◌, [], ℕ, List, Vec, Global, Some, map, take, ap, sym, ◌∙◌, subst, ◌↔◌}
use Rattle.std.specs.Prelude.{All, Contains}
use Rattle.std.specs.FinMap as fin
use Rattle.std.specs.List.Sorted.{IsStrictlySortedBy}
use Rattle.std.specs.Ordering.{nat_cmp}
use Rattle.std.specs.Cmp.Lexicographic.{slice_cmp}
use Rattle.std.proofs.lemmas.List.{take_all}
use Rattle.std.proofs.lemmas.List.Elements.{All-nil}
use Rattle.br_path.specs.Files.{IsChild}
use Rattle.recipe_set.specs.declared.folder.RecipeFile.{RecipeFile}
use Rattle.recipe_set.specs.Reading.{recipe_path}
use Rattle.recipe_set.specs.Found.{told, IsFound}
use Rattle.recipe_set.proofs.FoundPatches.{some_is}
use Rattle.recipe_set.proofs.Listing.{IsListing, listing_none, listing_skip, listing_all, found_more, all_folders}
use Rattle.recipe_set.proofs.folder.recipes_in.Goals as goal
use Rattle.recipe_set.proofs.folder.recipes_in.Goals.{in-Some+in_ok-push, in_default}

pub loop-name-init : goal.loop-name-init
loop-name-init c =
    subst (λ recipes. IsListing c.args.files.now [] (map told recipes) × All IsFound recipes) (sym c.new-recipes.ensures.items) (listing_none c.args.files.now, All-nil IsFound)

pub loop-name-preserved : goal.loop-name-preserved
loop-name-preserved c =
    let items : Vec RecipeFile Global → List RecipeFile = λ v. v.items in
    elim c.match-branch-3.branch [
      | in-Some+in_ok-push w ↦
          let found = some_is (λ recipe. IsFound recipe × (recipe.folder.name ≡ c.name-item.result) × (fin.get c.args.files.now (recipe_path c.name-item.result) ≡ Some recipe.text.now))
          c.in_ok-recipe.field-0 w.in-Some.recipe w.in-Some.is c.in_ok-recipe.ensures.some in
          subst (λ recipes. IsListing c.args.files.now (take (c.loop-name.name-index + 1) c.deref-name-items.result.now) (map told recipes) × All IsFound recipes) (sym (ap items w.recipes-is ∙ w.in_ok-push.ensures.items))
          (found_more c.args.files.now c.deref-name-items.result.now c.loop-name.name-index c.name-item.result c.loop-name-test.true c.name-item.is c.loop-name.recipes.items w.in-Some.recipe c.loop-name.invariant found.0 found.1 found.2)
      | in_default w ↦
          subst (λ recipes. IsListing c.args.files.now (take (c.loop-name.name-index + 1) c.deref-name-items.result.now) (map told recipes) × All IsFound recipes) (sym (ap items w.recipes-is))
          (listing_skip c.args.files.now c.deref-name-items.result.now c.loop-name.name-index c.name-item.result c.loop-name-test.true c.name-item.is (map told c.loop-name.recipes.items) c.loop-name.invariant.0 (c.in_ok-recipe.ensures.none w.in_default.is), c.loop-name.invariant.1)
    ]

pub returns-clause-recipes : goal.returns-clause-recipes
returns-clause-recipes c =
    let names : List (List ℕ) = c.deref-name-items.result.now in
    let items : names ≡ c.in_ok-names.names = c.deref-name-items.ensures.value ∙ c.names.view_is in
    listing_all c.args.files.now names (map told c.loop-name.recipes.items)
    (subst (IsStrictlySortedBy (slice_cmp nat_cmp)) (sym items) c.in_ok-names.ensures.order)
    (subst (λ (ns : List (List ℕ)). (name : List ℕ) → Contains ns name ↔ IsChild c.args.files.now all_folders name) (sym items)
    (subst (λ all. (name : List ℕ) → Contains c.in_ok-names.names name ↔ IsChild c.args.files.now all name) c.requires.all c.in_ok-names.ensures.names))
    (subst (λ ns. IsListing c.args.files.now ns (map told c.loop-name.recipes.items)) (take_all c.loop-name.name-index names c.loop-name-test.false) c.loop-name.invariant.0)
