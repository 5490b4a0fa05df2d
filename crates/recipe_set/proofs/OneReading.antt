-- Files and values have one reading.
use Rattle.std.proofs.Common.{◌≡◌, ℕ, Bool, true, false, Ok, Err, Result, List, [], ◌∷◌, ◌++◌, sym, refl, ap, ◌∙◌, subst, Ordering, Less, Equal, Greater}
use Rattle.std.specs.Ordering.{ordering_reverse}
use Rattle.std.proofs.lemmas.Bool.{true≢false}
use Rattle.br_path.specs.Path.{Names, path_cmp}
use Rattle.br_path.specs.Files.{FileMap}
use Rattle.br_path.proofs.PathOrder.{path_total, path_same}
use Rattle.kc_values.specs.Values.{Table as Values}
use Rattle.mk_syntax.specs.declared.fault.MkFault.{MkFault}
use Rattle.mk_syntax.specs.Lines.{joined_lines}
use Rattle.mk_syntax.proofs.Answers.{one_recipe, one_fault, not_both}
use Rattle.recipe_set.specs.declared.draft.Draft.{Draft}
use Rattle.recipe_set.specs.declared.recipes.Recipes.{Recipes}
use Rattle.recipe_set.specs.declared.fault.PlanFault.{PlanFault}
use Rattle.recipe_set.specs.declared.fault.PlanFault.TheVariants.{Recipe as recipe_fault, PatchFile}
use Rattle.recipe_set.specs.declared.reader.Reader.{Reader}
use Rattle.recipe_set.specs.Names.{is_allowed}
use Rattle.recipe_set.specs.Block.{Block, flat, whats}
use Rattle.recipe_set.specs.Effect.{Outcome}
use Rattle.recipe_set.specs.Reading.{Reads, ReadsRecipe, wrong_name, no_recipe, recipe, ReadsAll, no_more, faulty, further, AreRecipes, IsFirstPatch, IsReading, read, stopped, patched, recipe_path, start}
use Rattle.recipe_set.specs.Steps.{at, kept}
use Rattle.recipe_set.proofs.Once.{runs_once}
use Rattle.recipe_set.proofs.Outcomes.{reads_run}
use Rattle.recipe_set.proofs.SameLists.{sorted_by, same_lists}

same_kept : (one other : Outcome) → ◌≡◌ {A = Result Reader PlanFault} (kept [] one) (kept [] other) → one ≡ other
same_kept (Ok draft) (Ok later) is =
    let same : at draft [] ≡ at later [] = cc in
    let answer : Draft → Outcome = λ d. Ok d in
    ap (λ r. answer r.draft) same
same_kept (Ok draft) (Err fault) is = absurd (cc)
same_kept (Err fault) (Ok draft) is = absurd (cc)
same_kept (Err fault) (Err other) is = let same : fault ≡ other = cc in let answer : PlanFault → Outcome = λ f. Err f in ap answer same

-- the same statements make the same, however they are matched
reads_once : (folder : List ℕ) (draft : Draft) (block others : Block) (one other : Outcome) → flat block ≡ flat others → Reads folder (Ok draft) block one → Reads folder (Ok draft) others other → one ≡ other
reads_once folder draft block others one other same reads also =
    same_kept one other (runs_once folder (reads_run folder draft block (flat others) one same reads) (reads_run folder draft others (flat others) other refl also))

allowed_both : {A : Type 0} (b : Bool) → b ≡ true → b ≡ false → A
allowed_both b is isnt = absurd (true≢false (sym is ∙ isnt))

module _ (earlier : List (List ℕ)) (draft : Draft) (folder text : List ℕ) where
  recipe_once : (one other : Outcome) → ReadsRecipe earlier draft folder text one → ReadsRecipe earlier draft folder text other → one ≡ other
  recipe_once _ _ (wrong_name refused) (wrong_name again) = refl
  recipe_once _ _ (wrong_name refused) (no_recipe fault allowed is_fault) = allowed_both (is_allowed earlier folder) allowed refused
  recipe_once _ _ (wrong_name refused) (recipe statements block allowed is_recipe is reads) = allowed_both (is_allowed earlier folder) allowed refused
  recipe_once _ _ (no_recipe fault allowed is_fault) (wrong_name refused) = allowed_both (is_allowed earlier folder) allowed refused
  recipe_once _ _ (no_recipe fault allowed is_fault) (no_recipe other allowed_too was_fault) =
      let answer : MkFault → Outcome = λ f. Err (recipe_fault (recipe_path folder) f) in
      ap answer (one_fault (joined_lines text) fault other is_fault was_fault)
  recipe_once _ _ (no_recipe fault allowed is_fault) (recipe statements block allowed_too is_recipe is reads) =
      absurd (not_both (joined_lines text) statements fault is_recipe is_fault)
  recipe_once _ _ (recipe statements block allowed is_recipe is reads) (wrong_name refused) = allowed_both (is_allowed earlier folder) allowed refused
  recipe_once _ _ (recipe statements block allowed is_recipe is reads) (no_recipe fault allowed_too is_fault) =
      absurd (not_both (joined_lines text) statements fault is_recipe is_fault)
  recipe_once one other (recipe statements block allowed is_recipe is reads) (recipe others again allowed_too was_recipe was also) =
      reads_once folder draft block again one other (is ∙ ap whats (one_recipe (joined_lines text) statements others is_recipe was_recipe) ∙ sym was) reads also

all_once : {earlier : List (List ℕ)} {outcome : Outcome} {recipes : List (List ℕ × List ℕ)} {one other : Outcome} → ReadsAll earlier outcome recipes one → ReadsAll earlier outcome recipes other → one ≡ other
all_once no_more no_more = refl
all_once faulty faulty = refl
all_once {other = other} (further {earlier = earlier} {recipes = recipes} {draft = draft} {folder = folder} {text = text} next reads all) (further later also rest) =
    all_once all (subst (λ o. ReadsAll (earlier ++ folder ∷ []) o recipes other) (recipe_once earlier draft folder text later next also reads) rest)

-- two paths aren't each below the other
apart : (p q : Names) → path_cmp p q ≡ Less → path_cmp q p ≡ Less → ⊥
apart p q below above =
    let turned : path_cmp q p ≡ ordering_reverse (path_cmp p q) = path_total.antisymm q p in
    let no : Less ≡ Greater = sym above ∙ turned ∙ ap ordering_reverse below in absurd (cc)

recipes_once : (files : FileMap) (one other : List (List ℕ × List ℕ)) → AreRecipes files one → AreRecipes files other → one ≡ other
recipes_once files one other are were =
    same_lists (λ a b. path_cmp (recipe_path a.0) (recipe_path b.0)) (λ a b. apart (recipe_path a.0) (recipe_path b.0)) one other
    (sorted_by path_cmp (λ recipe. recipe_path recipe.0) one are.ordered) (sorted_by path_cmp (λ recipe. recipe_path recipe.0) other were.ordered)
    (λ k. (λ there. (were.all k.0 k.1).1 ((are.all k.0 k.1).0 there), λ there. (are.all k.0 k.1).1 ((were.all k.0 k.1).0 there)))

-- the first of two things in an order is one
first_once : (files : FileMap) (one other : Names) → IsFirstPatch files one → IsFirstPatch files other → one ≡ other
first_once files one other is was = by (path_cmp one other) refl
  where
    by : (r : Ordering) → path_cmp one other ≡ r → one ≡ other
    by Less below = absurd (was.least one is.patch below)
    by Equal tied = path_same one other tied
    by Greater above = absurd (is.least other was.patch (path_total.antisymm other one ∙ ap ordering_reverse above))

module _ (files : FileMap) (values : Values) where
  abbrev Whole : List (List ℕ × List ℕ) → Outcome → Type 0
  Whole = ReadsAll [] (Ok (start values))

  -- two readings of all recipes
  whole_once : (recipes others : List (List ℕ × List ℕ)) (one other : Outcome) → AreRecipes files recipes → AreRecipes files others → Whole recipes one → Whole others other → one ≡ other
  whole_once recipes others one other are were all also =
      all_once all (subst (λ r. Whole r other) (recipes_once files others recipes were are) also)

  finished : Draft → Result Recipes PlanFault
  finished draft = Ok (record { vars = draft.vars; packages = draft.packages })

  same_draft : (draft later : Draft) → ◌≡◌ {A = Outcome} (Ok draft) (Ok later) → draft ≡ later
  same_draft draft later is = cc

  same_fault : (fault later : PlanFault) → ◌≡◌ {A = Outcome} (Err fault) (Err later) → ◌≡◌ {A = Result Recipes PlanFault} (Err fault) (Err later)
  same_fault fault later is = cc

  not_both_ways : {A : Type 0} (draft : Draft) (fault : PlanFault) → ◌≡◌ {A = Outcome} (Ok draft) (Err fault) → A
  not_both_ways draft fault is = absurd (cc)

  pub reading_once : (one other : Result Recipes PlanFault) → IsReading files values one → IsReading files values other → one ≡ other
  unfolding finished
  reading_once _ _ (read recipes draft are all none) (read others later were whole no_patch) =
      ap finished (same_draft draft later (whole_once recipes others (Ok draft) (Ok later) are were all whole))
  reading_once _ _ (read recipes draft are all none) (stopped others fault were whole) =
      not_both_ways draft fault (whole_once recipes others (Ok draft) (Err fault) are were all whole)
  reading_once _ _ (read recipes draft are all none) (patched others later found were whole first) = absurd (none found first.patch)
  reading_once _ _ (stopped recipes fault are all) (read others later were whole none) =
      not_both_ways later fault (whole_once others recipes (Ok later) (Err fault) were are whole all)
  reading_once _ _ (stopped recipes fault are all) (stopped others later were whole) =
      same_fault fault later (whole_once recipes others (Err fault) (Err later) are were all whole)
  reading_once _ _ (stopped recipes fault are all) (patched others later found were whole first) =
      not_both_ways later fault (whole_once others recipes (Ok later) (Err fault) were are whole all)
  reading_once _ _ (patched recipes draft found are all first) (read others later were whole none) = absurd (none found first.patch)
  reading_once _ _ (patched recipes draft found are all first) (stopped others fault were whole) =
      not_both_ways draft fault (whole_once recipes others (Ok draft) (Err fault) are were all whole)
  reading_once _ _ (patched recipes draft found are all first) (patched others later again were whole also) =
      let answer : Names → Result Recipes PlanFault = λ at. Err (PatchFile at) in
      ap answer (first_once files found again first also)
