-- The first patch that is found is the least.
use Rattle.std.proofs.Common.{◌≡◌, ◌≢◌, ℕ, ◌<◌, Option, Some, None, is_some, IsSome, List, [], ◌∷◌, ◌++◌, length, get_or, take, sym, refl, ap, ◌∙◌, subst, ◌↔◌, inl, inr, Ordering, Less, Equal, Greater, arith}
use Rattle.std.specs.Prelude.{Contains, All}
use Rattle.std.specs.FinMap as fin
use Rattle.std.specs.List.Sorted.{IsStrictlySortedBy}
use Rattle.std.specs.Cmp.{IsTotalOrder}
use Rattle.std.specs.Cmp.Lexicographic.{slice_cmp, nat_list_cmp_total}
use Rattle.std.specs.Ordering.{nat_cmp, ordering_then, ordering_reverse}
use Rattle.std.proofs.lemmas.Bool.{false≢true, cases_lt}
use Rattle.std.proofs.lemmas.Cmp.{tied_itself}
use Rattle.std.proofs.lemmas.List.{get_or-take, length-take}
use Rattle.std.proofs.lemmas.List.Elements.{at_read}
use Rattle.std.proofs.lemmas.Map.Keys.{Less-from_sorted}
use Rattle.br_path.specs.Path.{Names, path_cmp}
use Rattle.br_path.specs.Files.{FileMap, IsFile, IsChild}
use Rattle.br_path.proofs.PathOrder.{path_total, name_same}
use Rattle.recipe_set.specs.Effect.{folder_path}
use Rattle.recipe_set.specs.Reading.{AreRecipes, IsPatch, IsFirstPatch, recipe_path}
use Rattle.recipe_set.specs.Found.{IsPatchOf, IsFirstPatchOf}
use Rattle.recipe_set.proofs.Listing.{path_rises}
use Rattle.recipe_set.proofs.SameLists.{sorted_by}

module _ {K : Type 0} {R : K → K → Ordering} (o : IsTotalOrder R) where
  -- what is below isn't above, and not below itself
  pub turned : (x y : K) → R x y ≡ Less → R y x ≡ Less → ⊥
  turned x y below above = let no : Less ≡ Greater = sym above ∙ o.antisymm y x ∙ ap ordering_reverse below in absurd (cc)

  itself : (x : K) → R x x ≡ Less → ⊥
  itself x below = let no : Less ≡ Equal = sym below ∙ tied_itself o x in absurd (cc)

  -- in a list in order, by what stands for its members, what comes first of some kind isn't above another of it
  pub first_is_least : {X : Type 0} (f : X → K) (P : X → Type 0) (xs : List X) (i : ℕ) (x y : X) → i < length xs → x ≡ get_or xs i x → IsStrictlySortedBy (λ a b. R (f a) (f b)) xs →
      All (λ z. P z → ⊥) (take i xs) → Contains xs y → P y → R (f y) (f x) ≡ Less → ⊥
  first_is_least f P xs i x y within at rises none (j, inside, is) holds below =
      let here : get_or xs i y ≡ x = at_read xs (λ z. z ≡ x) i x within at refl y in
      elim (cases_lt j i) [
        | inl before ↦
            let shown : j < length (take i xs) = omega (arith, length-take i xs) in
            none j y shown (subst P (sym (get_or-take i xs j y before ∙ is)) holds)
        | inr not_before ↦ elim (cases_lt i j) [
          | inl behind ↦
              let above : R (f (get_or xs i y)) (f (get_or xs j y)) ≡ Less = Less-from_sorted (λ a b. R (f a) (f b)) xs i j y rises behind inside in
              turned (f x) (f y) (subst (λ z. R (f x) (f z) ≡ Less) is (subst (λ z. R (f z) (f (get_or xs j y)) ≡ Less) here above)) below
          | inr not_behind ↦
              let same : j ≡ i = omega arith in
              let equal : y ≡ x = sym is ∙ ap (λ k. get_or xs k y) same ∙ here in
              itself (f x) (subst (λ z. R (f z) (f x) ≡ Less) equal below)
        ]
      ]

-- of names in order, the first that is a patch's is the least
pub least_name : (files : FileMap) (folder : Names) (names : List (List ℕ)) (i : ℕ) (name : List ℕ) → i < length names → name ≡ get_or names i name → IsStrictlySortedBy (slice_cmp nat_cmp) names →
    ((name : List ℕ) → Contains names name ↔ IsChild files folder name) → All (λ other. IsPatchOf files folder other → ⊥) (take i names) →
    (other : List ℕ) → IsPatchOf files folder other → slice_cmp nat_cmp other name ≢ Less
least_name files folder names i name within at rises all none other patch below =
    first_is_least nat_list_cmp_total (λ n. n) (IsPatchOf files folder) names i name other within at rises none ((all other).1 ([], patch.file)) patch below

-- a patch's name is one of its folder's
pub no_patch : (files : FileMap) (folder : Names) (names : List (List ℕ)) → ((name : List ℕ) → Contains names name ↔ IsChild files folder name) → All (λ other. IsPatchOf files folder other → ⊥) names →
    (name : List ℕ) → IsPatchOf files folder name → ⊥
no_patch files folder names all none name patch =
    let there = (all name).1 ([], patch.file) in
    none there.0 name there.1 (subst (IsPatchOf files folder) (sym there.2) patch)

-- a folder has a patch, or none
abbrev pub HasPatch : FileMap → List ℕ × List ℕ → Type 0
HasPatch files recipe = (name : List ℕ) × IsPatchOf files (folder_path recipe.0) name

abbrev pub HasNoPatch : FileMap → List ℕ × List ℕ → Type 0
HasNoPatch files recipe = HasPatch files recipe → ⊥

-- a file has bytes
bytes_of : (found : Option (List ℕ)) → IsSome found → (text : List ℕ) × (found ≡ Some text)
bytes_of None some = absurd (false≢true some)
bytes_of (Some text) some = (text, refl)

module _ (files : FileMap) (recipes : List (List ℕ × List ℕ)) (are : AreRecipes files recipes) where
  -- a patch is in the folder of one of the recipes
  patch_in : (at : Names) (patch : IsPatch files at) → (text : List ℕ) × Contains recipes (patch.folder, text)
  patch_in at patch =
      let found = bytes_of (fin.get files (recipe_path patch.folder)) patch.recipe in
      (found.0, (are.all patch.folder found.0).1 found.1)

  patch_of : (at : Names) (patch : IsPatch files at) → IsPatchOf files (folder_path patch.folder) patch.name
  patch_of at patch = record { file = subst (IsFile files) patch.is patch.file; ending = patch.ending }

  -- where no folder has one there is none
  pub no_patches : All (HasNoPatch files) recipes → (at : Names) → IsPatch files at → ⊥
  no_patches none at patch =
      let there = patch_in at patch in
      let inside = there.1 in
      none inside.0 (patch.folder, there.0) inside.1 (subst (HasPatch files) (sym inside.2) (patch.name, patch_of at patch))

  module _ (i : ℕ) (folder text : List ℕ) (at : Names) (within : i < length recipes) (here : ◌≡◌ {A = List ℕ × List ℕ} (folder, text) (get_or recipes i (folder, text))) (first : IsFirstPatchOf files (folder_path folder) at) where
    pub is_patch : IsPatch files at
    is_patch = record {
      folder = folder;
      name = first.name;
      is = first.is;
      file = subst (IsFile files) (sym first.is) first.patch.file;
      recipe = ap is_some ((are.all folder text).0 (i, within, sym here));
      ending = first.patch.ending;
    }

    -- a patch isn't below it, by the order of their folders
    not_below : (other : Names) (patch : IsPatch files other) (r : Ordering) → slice_cmp nat_cmp patch.folder folder ≡ r → All (HasNoPatch files) (take i recipes) →
        ordering_then r (slice_cmp (slice_cmp nat_cmp) (patch.name ∷ []) (first.name ∷ [])) ≡ Less → ⊥
    not_below other patch Less below none less =
        let there = patch_in other patch in
        first_is_least path_total (λ (recipe : List ℕ × List ℕ). recipe_path recipe.0) (HasPatch files) recipes i (folder, text) (patch.folder, there.0) within here
        (sorted_by path_cmp (λ recipe. recipe_path recipe.0) recipes are.ordered) none there.1 (patch.name, patch_of other patch) (path_rises patch.folder folder below)
    not_below other patch Equal tied none less =
        let same : patch.folder ≡ folder = name_same patch.folder folder tied in
        first.least patch.name (subst (λ f. IsPatchOf files (folder_path f) patch.name) same (patch_of other patch)) (name_less (slice_cmp nat_cmp patch.name first.name) less)
      where
        name_less : (r : Ordering) → ordering_then r Equal ≡ Less → r ≡ Less
        name_less Less is = refl
        name_less Equal is = is
        name_less Greater is = is
    not_below other patch Greater above none less = absurd (cc)

    pub first_patch : All (HasNoPatch files) (take i recipes) → IsFirstPatch files at
    first_patch none = record {
      patch = is_patch;
      least = λ other patch below.
          let compared : path_cmp (folder_path patch.folder ++ patch.name ∷ []) (folder_path folder ++ first.name ∷ []) ≡ Less =
          ap (λ p. path_cmp p (folder_path folder ++ first.name ∷ [])) (sym patch.is) ∙ ap (path_cmp other) (sym first.is) ∙ below in
          not_below other patch (slice_cmp nat_cmp patch.folder folder) refl none compared;
    }
