-- What follows where no listed name is at fault.
use Rattle.std.proofs.Common.{ℕ, zero, suc, ap₂, option_map, ◌≡◌, ◌<◌, Bool, true, false, cond, not, ◌&&◌, nat_le, List, [], ◌∷◌, length, map, get_or, find, Option, Some, None, Result, Ok, Err, IsTrue, IfOk, IfErr, ◌≢◌, refl, sym, ap, subst, ◌∙◌, ⊎_elim, arith}
use Rattle.std.specs.Borrow.{Bor}
use Rattle.std.specs.List.{Contains}
use Rattle.std.proofs.lemmas.Bool.{cases_Bool, false≢true, leb-true, leb-false}
use Rattle.std.proofs.lemmas.List.Elements.{Contains-append_left, Contains-append_right}
use Rattle.std.proofs.lemmas.Option.{none-some, get_or_from_slice_get}
use Rattle.br_path.specs.Files.{FileMap}
use Rattle.kc_values.specs.Values.{Table as Values}
use Rattle.mk_expand.specs.Vars.{Table}
use Rattle.br_path.specs.Text.{is_text}
use Rattle.recipe_set.specs.declared.fault.PlanFault.{PlanFault}
use Rattle.recipe_set.specs.declared.fault.PlanFault.TheVariants.{Memory as no_memory, NoRecipe, TooManyPackages}
use Rattle.recipe_set.specs.declared.packages.Made.{Made}
use Rattle.recipe_set.specs.declared.recipes.Recipes.{Recipes}
use Rattle.selection.specs.declared.listed.Listed.{Listed}
use Rattle.selection.specs.Names.{is_made, is_target}
use Rattle.selection.specs.Each.{Each}
use Rattle.selection.specs.Lists.{HasLists}
use Rattle.selection.specs.Selected.{AreSelected, listed_by, has_name, listings, is_unknown, is_unselected, HaveHosts, AreClosed}
use Rattle.selection.specs.Selecting.{IsChecked, IsLeast, IsSelecting, LacksRecipe, too_many, few, no_recipe, no_list, selected as is_selected}
use Rattle.selection.specs.Shown.{shown_listing}
use Rattle.selection.proofs.ChainLaws.{some_at, within_place}
use Rattle.selection.proofs.PlaceLaws.{any_place, place_any}
use Rattle.selection.proofs.TextLaws.{same_text, text_same}

first_off : {X : Type 0} (b : Bool) (x : X) (rest : Option X) → cond b (Some x) rest ≡ None → (b ≡ false) × (rest ≡ None)
first_off true x rest none = absurd (none-some x (sym none))
first_off false x rest none = (refl, none)

module _ {X : Type 0} (test : X → Bool) where
  found_none : (xs : List X) → find test xs ≡ None → (k : ℕ) (d : X) → k < length xs → test (get_or xs k d) ≡ false
  found_none [] none k d short = absurd (omega (arith, short))
  found_none (x ∷ xs) none zero d short = (first_off (test x) x (find test xs) none).0
  found_none (x ∷ xs) none (suc k) d short = found_none xs (first_off (test x) x (find test xs) none).1 k d (omega (arith, short))

  pub fails_there : (xs : List X) (x : X) → find test xs ≡ None → Contains xs x → test x ≡ false
  fails_there xs x none (k, short, is) = subst (λ y. test y ≡ false) is (found_none xs none k x short)

named_in : (owner name : List ℕ) (names : List (List ℕ)) → Contains names name → Contains {X = List ℕ × List ℕ} (map (λ n. (owner, n)) names) (owner, name)
named_in owner name [] (k, short, is) = absurd (omega (arith, short))
named_in owner name (n ∷ names) (zero, short, is) = (zero, omega arith, ap {B = List ℕ × List ℕ} (λ m. (owner, m)) is)
named_in owner name (n ∷ names) (suc k, short, is) =
    let (i, inside, at) = named_in owner name names (k, omega (arith, short), is) in
    (suc i, omega (arith, inside), at)

abbrev pub pairs_of : Listed → List (List ℕ × List ℕ)
pairs_of item = map (λ name. (item.made.name, name)) (listed_by item)

listed_in : (chosen : List Listed) (item : Listed) (name : List ℕ) → Contains chosen item → Contains (listed_by item) name → Contains (listings chosen) (item.made.name, name)
listed_in [] item name (k, short, is) among = absurd (omega (arith, short))
listed_in (one ∷ chosen) item name (zero, short, is) among =
    Contains-append_left (pairs_of one) (listings chosen) (item.made.name, name)
    (subst (λ i. Contains (pairs_of i) (item.made.name, name)) (sym is) (named_in item.made.name name (listed_by item) among))
listed_in (one ∷ chosen) item name (suc k, short, is) among =
    Contains-append_right (pairs_of one) (listings chosen) (item.made.name, name) (listed_in chosen item name (k, omega (arith, short), is) among)

not_off : (b : Bool) → not b ≡ false → b ≡ true
not_off true is = refl
not_off false is = absurd (false≢true (sym is))

module _ (made : List Made) (chosen : List Listed) where
  -- where nothing that is listed is unknown, no target package is left out, and host packages are there, all that is listed is there
  pub are_closed : HaveHosts made chosen → find (is_unknown made) (listings chosen) ≡ None → find (is_unselected made chosen) (listings chosen) ≡ None → AreClosed chosen
  are_closed hosts known selected item name there among =
      let in_all : Contains (listings chosen) (item.made.name, name) = listed_in chosen item name there among in
      let is : is_made made name ≡ true = not_off (is_made made name) (fails_there (is_unknown made) (listings chosen) (item.made.name, name) known in_all) in
      let (k, short, passes) = any_place (λ one. is_text name one.name) made is in
      at_place k short passes (fails_there (is_unselected made chosen) (listings chosen) (item.made.name, name) selected in_all)
    where
      at_place : (k : ℕ) → k < length made → ((d : Made) → is_text name (get_or made k d).name ≡ true) → (is_target made name && not (has_name chosen name)) ≡ false → IsTrue (has_name chosen name)
      at_place k short passes off =
          let (one, at) = some_at made k short in
          let here : get_or made k one ≡ one = get_or_from_slice_get made k one one at in
          let same : name ≡ one.name = same_text name one.name (subst (λ other. is_text name other.name ≡ true) here (passes one)) in
          ⊎_elim
          (λ host.
          subst (λ n. IsTrue (has_name chosen n)) (sym same)
          (hosts item one there (within_place made one k at) host (subst (Contains (listed_by item)) same among)))
          (λ target.
          let passes_here : (is_text name one.name && not one.host) ≡ true = ap (λ b. b && not one.host) (text_same name one.name same) ∙ ap not target in
          let a_target : is_target made name ≡ true =
          place_any (λ other. is_text name other.name && not other.host) made k one short (subst (λ other. (is_text name other.name && not other.host) ≡ true) (sym here) passes_here) in
          not_off (has_name chosen name) (sym (ap (λ b. b && not (has_name chosen name)) a_target) ∙ off))
          (cases_Bool one.host)

  pub checked_few : find (is_unknown made) (listings chosen) ≡ None → find (is_unselected made chosen) (listings chosen) ≡ None →
      IsChecked made chosen (cond (nat_le (length chosen) 256) (Ok chosen) (Err TooManyPackages))
  checked_few known selected = by (nat_le (length chosen) 256) refl
    where
      by : (b : Bool) → nat_le (length chosen) 256 ≡ b → IsChecked made chosen (cond b (Ok chosen) (Err TooManyPackages))
      by true is = few known selected (leb-true (length chosen) 256 is)
      by false is = too_many known selected (leb-false (length chosen) 256 is)

-- ---- answers

pub if_ok_of : {A F : Type 0} (P : Result A F → Type 0) (r : Result A F) → P r → IfOk r (λ value. P (Ok value))
if_ok_of P (Ok value) is = is
if_ok_of P (Err fault) is = tt

pub if_err_of : {A : Type 0} (P : Result A PlanFault → Type 0) (r : Result A PlanFault) → P r → IfErr r (λ fault. fault ≢ no_memory → P (Err fault))
if_err_of P (Ok value) is = tt
if_err_of P (Err fault) is = λ some. is

-- ---- what is found through references

pub pair_found : (seen : Option (Bor (List ℕ) × Bor (List ℕ))) (found : Option (List ℕ × List ℕ)) (owner name : Bor (List ℕ)) (a b : List ℕ) → option_map shown_listing seen ≡ found → seen ≡ Some (owner, name) →
    a ≡ owner.now → b ≡ name.now → found ≡ Some (a, b)
pair_found seen found owner name a b shown is first second =
    let both : ◌≡◌ {A = List ℕ × List ℕ} (owner.now, name.now) (a, b) = ap₂ {C = List ℕ × List ℕ} (λ x y. (x, y)) (sym first) (sym second) in
    sym shown ∙ (ap (option_map shown_listing) is ∙ ap Some both)

-- ---- the answer of a selection

module _ (files : FileMap) (values : Values) (recipes : Recipes) (vars : Table) (made : List Made) (vars_is : vars ≡ recipes.vars) (made_is : made ≡ recipes.packages) where
  abbrev pub HasAll : Type 0
  HasAll = (name : List ℕ) → LacksRecipe files values made name → ⊥

  all_there : HasAll → (name : List ℕ) → LacksRecipe files values recipes.packages name → ⊥
  all_there none = subst (λ m. (name : List ℕ) → LacksRecipe files values m name → ⊥) made_is none

  all_lists : (answer : Result (List Listed) PlanFault) → Each (HasLists vars) made answer → Each (HasLists recipes.vars) recipes.packages answer
  all_lists answer has = subst (λ v. Each (HasLists v) recipes.packages answer) vars_is (subst (λ m. Each (HasLists vars) m answer) made_is has)

  pub without_recipe : (fault : PlanFault) → ((name : List ℕ) × (fault ≡ NoRecipe name) × IsLeast (LacksRecipe files values made) name) → IsSelecting files values recipes (Err fault)
  without_recipe fault (name, is, least) =
      subst (λ f. IsSelecting files values recipes (Err f)) (sym is) (no_recipe name (subst (λ m. IsLeast (LacksRecipe files values m) name) made_is least))

  pub without_list : (fault : PlanFault) → HasAll → Each (HasLists vars) made (Err fault) → IsSelecting files values recipes (Err fault)
  without_list fault none has = no_list fault (all_there none) (all_lists (Err fault) has)

  pub with_lists : (all chosen : List Listed) (answer : Result (List Listed) PlanFault) → HasAll → Each (HasLists vars) made (Ok all) → AreSelected values all chosen → IsChecked made chosen answer →
      IsSelecting files values recipes answer
  with_lists all chosen answer none has are is = is_selected all chosen (all_there none) (all_lists (Ok all) has) are (subst (λ m. IsChecked m chosen answer) made_is is)
