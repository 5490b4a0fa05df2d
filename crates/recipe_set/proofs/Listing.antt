-- The recipes of the folders in `package`, in the order of their names, are the recipes of the files.
use Rattle.std.proofs.Common.{◌≡◌, ℕ, ◌+◌, ◌<◌, Bool, true, false, cond, Some, None, is_some, List, [], ◌∷◌, ◌++◌, map, length, get_or, take, sym, refl, ap, ◌∙◌, subst, ◌↔◌, inl, inr, Less}
use Rattle.std.specs.Prelude.{Contains, All, filter, codes}
use Rattle.std.specs.FinMap as fin
use Rattle.std.specs.List.{AllByRecursion}
use Rattle.std.specs.List.Sorted.{IsStrictlySortedBy}
use Rattle.std.specs.Ordering.{nat_cmp, ordering_then}
use Rattle.std.specs.Cmp.Lexicographic.{slice_cmp}
use Rattle.std.proofs.lemmas.Bool.{false≢true}
use Rattle.std.proofs.lemmas.List.{map-append}
use Rattle.std.proofs.lemmas.List.Elements.{All-nil, All-push, All-contains, filter_more}
use Rattle.std.proofs.lemmas.List.Kept.{IsStrictlySortedBy-filter}
use Rattle.br_path.specs.Path.{path_cmp}
use Rattle.br_path.specs.Files.{FileMap, IsChild}
use Rattle.recipe_set.specs.declared.folder.RecipeFile.{RecipeFile}
use Rattle.recipe_set.specs.Reading.{AreRecipes, recipe_path}
use Rattle.recipe_set.specs.Found.{told, IsFound}
use Rattle.recipe_set.proofs.SameLists.{in_first, in_rest, is_first, in_none}

-- the path of the folder that has the folders of recipes
abbrev pub all_folders : List (List ℕ)
all_folders = codes "package" ∷ []

-- recipes rise as their names do
pub path_rises : (name other : List ℕ) → slice_cmp nat_cmp name other ≡ Less → path_cmp (recipe_path name) (recipe_path other) ≡ Less
path_rises name other below = ap (λ r. ordering_then r (path_cmp ((name ++ codes ".mk") ∷ []) ((other ++ codes ".mk") ∷ []))) below

paths_rise : (names : List (List ℕ)) → IsStrictlySortedBy (slice_cmp nat_cmp) names → IsStrictlySortedBy path_cmp (map recipe_path names)
unfolding IsStrictlySortedBy
paths_rise [] rises = tt
paths_rise (name ∷ names) rises = (above names rises.0, paths_rise names rises.1)
  where
    above : (others : List (List ℕ)) → AllByRecursion (λ other. slice_cmp nat_cmp name other ≡ Less) others → AllByRecursion (λ path. path_cmp (recipe_path name) path ≡ Less) (map recipe_path others)
    above [] all = tt
    above (other ∷ others) all = (path_rises name other all.0, above others all.1)

map-map : {A B C : Type 0} (f : A → B) (g : B → C) (xs : List A) → map g (map f xs) ≡ map (λ x. g (f x)) xs
map-map f g [] = refl
map-map f g (x ∷ xs) = ap (λ ys. g (f x) ∷ ys) (map-map f g xs)

-- what passes is kept
kept : {X : Type 0} (test : X → Bool) (xs : List X) (x : X) → Contains xs x → test x ≡ true → Contains (filter test xs) x
kept test [] x inside passes = absurd (in_none x inside)
kept {X = X} test (y ∷ ys) x inside passes =
    elim (test y) as (λ b. test y ≡ b → Contains (cond b (y ∷ filter test ys) (filter test ys)) x) [
      | true ↦ λ _. elim (in_first y ys x inside) [ inl is ↦ subst (λ z. Contains (z ∷ filter test ys) x) is (is_first x (filter test ys)) | inr there ↦ in_rest y (filter test ys) x (kept test ys x there passes) ]
      | false ↦ λ fails. elim (in_first y ys x inside) [ inl is ↦ absurd (false≢true (sym fails ∙ ap test (sym is) ∙ passes)) | inr there ↦ kept test ys x there passes ]
    ] refl

-- what a map gives comes from something
mapped : {X Y : Type 0} (f : X → Y) (xs : List X) (y : Y) → Contains (map f xs) y → (x : X) × Contains xs x × (y ≡ f x)
mapped f [] y inside = absurd (in_none y inside)
mapped f (x ∷ xs) y inside =
    elim (in_first (f x) (map f xs) y inside) [
      | inl is ↦ (x, is_first x xs, is)
      | inr there ↦ let from = mapped f xs y there in (from.0, in_rest x xs from.0 from.1, from.2)
    ]

-- what is in a list is in its map
pub in_map : {X Y : Type 0} (f : X → Y) (xs : List X) (x : X) → Contains xs x → Contains (map f xs) (f x)
in_map f [] x inside = absurd (in_none x inside)
in_map f (y ∷ ys) x inside =
    elim (in_first y ys x inside) [
      | inl is ↦ subst (λ z. Contains (f z ∷ map f ys) (f x)) is (is_first (f x) (map f ys))
      | inr there ↦ in_rest (f y) (map f ys) (f x) (in_map f ys x there)
    ]

module _ (files : FileMap) where
  -- a folder has a recipe
  has : List ℕ → Bool
  has name = is_some (fin.get files (recipe_path name))

  -- the recipes of these folders
  pub record IsListing (names : List (List ℕ)) (recipes : List (List ℕ × List ℕ)) : Type 0 where
    keys : map (λ recipe. recipe.0) recipes ≡ filter has names
    texts : All (λ recipe. fin.get files (recipe_path recipe.0) ≡ Some recipe.1) recipes

  pub listing_none : IsListing [] []
  listing_none = record { keys = refl; texts = All-nil (λ recipe. fin.get files (recipe_path recipe.0) ≡ Some recipe.1) }

  module _ (names : List (List ℕ)) (i : ℕ) (name : List ℕ) (within : i < length names) (at : name ≡ get_or names i name) where
    more_names : (b : Bool) → has name ≡ b → filter has (take (i + 1) names) ≡ filter has (take i names) ++ cond b (name ∷ []) []
    more_names b is =
        let one : List ℕ → List (List ℕ) = λ n. cond (has n) (n ∷ []) [] in
        let here : one (get_or names i name) ≡ one name = ap one (sym at) in
        let chosen : one name ≡ cond b (name ∷ []) [] = ap (λ c. cond c (name ∷ []) []) is in
        filter_more has names i name within ∙ ap (λ back. filter has (take i names) ++ back) (here ∙ chosen)

    pub listing_skip : (recipes : List (List ℕ × List ℕ)) → IsListing (take i names) recipes → fin.get files (recipe_path name) ≡ None → IsListing (take (i + 1) names) recipes
    unfolding has
    listing_skip recipes listing none = record {
      keys = listing.keys ∙ sym (append_none (filter has (take i names))) ∙ sym (more_names false (ap is_some none));
      texts = listing.texts;
    }
      where
        append_none : (xs : List (List ℕ)) → xs ++ [] ≡ xs
        append_none [] = refl
        append_none (x ∷ xs) = ap (λ ys. x ∷ ys) (append_none xs)

    pub listing_more : (recipes : List (List ℕ × List ℕ)) (text : List ℕ) → IsListing (take i names) recipes → fin.get files (recipe_path name) ≡ Some text → IsListing (take (i + 1) names) (recipes ++ (name, text) ∷ [])
    unfolding has
    listing_more recipes text listing found = record {
      keys = map-append (λ recipe. recipe.0) recipes ((name, text) ∷ []) ∙ ap (λ front. front ++ name ∷ []) listing.keys ∙ sym (more_names true (ap is_some found));
      texts = All-push (λ recipe. fin.get files (recipe_path recipe.0) ≡ Some recipe.1) recipes (name, text) listing.texts found;
    }

  pub listing_all : (names : List (List ℕ)) (recipes : List (List ℕ × List ℕ)) → IsStrictlySortedBy (slice_cmp nat_cmp) names → ((name : List ℕ) → Contains names name ↔ IsChild files all_folders name) → IsListing names recipes → AreRecipes files recipes
  unfolding has
  listing_all names recipes rises all listing =
      let ordered : map recipe_path (filter has names) ≡ map (λ recipe. recipe_path recipe.0) recipes =
      ap (map recipe_path) (sym listing.keys) ∙ map-map (λ recipe. recipe.0) recipe_path recipes in
      record {
        ordered = subst (IsStrictlySortedBy path_cmp) ordered (paths_rise (filter has names) (IsStrictlySortedBy-filter (slice_cmp nat_cmp) has names rises));
        all = λ name text. (
          All-contains (λ recipe. fin.get files (recipe_path recipe.0) ≡ Some recipe.1) recipes (name, text) listing.texts,
          λ found.
              let child : IsChild files all_folders name = ((name ++ codes ".mk") ∷ [], ap is_some found) in
              let inside : Contains (map (λ recipe. recipe.0) recipes) name = subst (λ ns. Contains ns name) (sym listing.keys) (kept has names name ((all name).1 child) (ap is_some found)) in
              let from = mapped (λ recipe. recipe.0) recipes name inside in
              same_recipe from.0 name text from.1 from.2 found,
        );
      }
    where
      same_recipe : (recipe : List ℕ × List ℕ) (name text : List ℕ) → Contains recipes recipe → name ≡ recipe.0 → fin.get files (recipe_path name) ≡ Some text → Contains recipes (name, text)
      same_recipe recipe name text inside is found =
          let there : fin.get files (recipe_path recipe.0) ≡ Some recipe.1 = All-contains (λ r. fin.get files (recipe_path r.0) ≡ Some r.1) recipes recipe listing.texts inside in
          let two : Some recipe.1 ≡ Some text = sym there ∙ ap (λ n. fin.get files (recipe_path n)) (sym is) ∙ found in
          let same_text : recipe.1 ≡ text = cc in
          let pair : List ℕ → List ℕ → List ℕ × List ℕ = λ a b. (a, b) in
          subst (Contains recipes) (ap (λ n. pair n recipe.1) (sym is) ∙ ap (pair name) same_text) inside

module _ (files : FileMap) (names : List (List ℕ)) (i : ℕ) (name : List ℕ) (within : i < length names) (at : name ≡ get_or names i name) (recipes : List RecipeFile) where
  -- one recipe more
  pub found_more : (recipe : RecipeFile) → IsListing files (take i names) (map told recipes) × All IsFound recipes → IsFound recipe → recipe.folder.name ≡ name → fin.get files (recipe_path name) ≡ Some recipe.text.now →
      IsListing files (take (i + 1) names) (map told (recipes ++ recipe ∷ [])) × All IsFound (recipes ++ recipe ∷ [])
  found_more recipe (listing, found) is_found named text =
      let pair : List ℕ → List ℕ × List ℕ = λ n. (n, recipe.text.now) in
      let behind : map told recipes ++ pair name ∷ [] ≡ map told (recipes ++ recipe ∷ []) =
      ap (λ n. map told recipes ++ pair n ∷ []) (sym named) ∙ sym (map-append told recipes (recipe ∷ [])) in (
        subst (IsListing files (take (i + 1) names)) behind (listing_more files names i name within at (map told recipes) recipe.text.now listing text),
        All-push IsFound recipes recipe found is_found,
      )

-- where there is no file there is no recipe
pub none_listed : (files : FileMap) → fin.len files ≡ 0 → AreRecipes files []
unfolding IsStrictlySortedBy
none_listed files none = record {
  ordered = tt;
  all = λ name text. (
    λ inside. absurd (in_none (name, text) inside),
    λ found.
        let empty : fin.get files (recipe_path name) ≡ None = ap (λ (m : FileMap). fin.get m (recipe_path name)) (fin.empty_of_len files none) ∙ fin.get-empty path_cmp (recipe_path name) in
        let no : Some text ≡ None = sym found ∙ empty in absurd (cc),
  );
}
