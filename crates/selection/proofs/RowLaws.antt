-- Rows of a graph to which nodes are added one after another.
use Rattle.std.proofs.Common.{ℕ, ◌+◌, ◌≡◌, ◌≢◌, ◌<◌, ◌≤◌, List, [], ◌∷◌, ◌++◌, length, get_or, drop, slice_get, Option, Some, None, refl, sym, ap, subst, ◌∙◌, ⊎_elim, append_assoc, append-nil, arith}
use Rattle.std.proofs.lemmas.Bool.{cases_eq}
use Rattle.std.proofs.lemmas.List.{get_or-set_same, get_or-set_other, length-set}
use Rattle.std.proofs.lemmas.List.Concat.{flat_map-append}
use Rattle.std.proofs.lemmas.Option.{same_Some}
use Rattle.cycle_walks.specs.Graph.{Rows, row}
use Rattle.kc_values.specs.Values.{Table as Values}
use Rattle.recipe_set.specs.declared.packages.Made.{Made}
use Rattle.selection.specs.declared.listed.Listed.{Listed}
use Rattle.selection.specs.Chains.{named, listed, host_place, host_places, asked_place, asked_places}
use Rattle.selection.specs.Selected.{listed_by}
use Rattle.selection.proofs.ListLaws.{drop_item}

-- ---- a node names another, where there is one

module _ (rows : Rows) (node : ℕ) where
  pub named_length : (found : Option ℕ) → length (named rows node found) ≡ length rows
  named_length None = refl
  named_length (Some other) = length-set rows node (row rows node ++ other ∷ [])

  pub named_here : (found : Option ℕ) → node < length rows → row (named rows node found) node ≡ row rows node ++ listed found
  named_here None short = sym (append-nil (row rows node))
  named_here (Some other) short = get_or-set_same rows node (row rows node ++ other ∷ []) [] short

  pub named_other : (found : Option ℕ) (other : ℕ) → other ≢ node → row (named rows node found) other ≡ row rows other
  named_other None other apart = refl
  named_other (Some place) other apart = get_or-set_other rows node other (row rows node ++ place ∷ []) [] apart

-- a row that grows by what one gives, before what the others give
grown : (here more one rest whole : List ℕ) → more ≡ here ++ one → here ++ (one ++ rest) ≡ whole → more ++ rest ≡ whole
grown here more one rest whole is so_far = ap (λ r. r ++ rest) is ∙ (append_assoc here one rest ∙ so_far)

-- ---- in loops

module _ (made : List Made) (rows new : Rows) (node : ℕ) (names : List (List ℕ)) (i : ℕ) (name : List ℕ) where
  pub hosts_step : (whole : List ℕ) → row rows node ++ host_places made (drop i names) ≡ whole → new ≡ named rows node (host_place made name) → node < length rows → i < length names → name ≡ get_or names i name →
      row new node ++ host_places made (drop (i + 1) names) ≡ whole
  hosts_step whole so_far is within short at =
      grown (row rows node) (row new node) (listed (host_place made name)) (host_places made (drop (i + 1) names)) whole
      (ap (λ r. row r node) is ∙ named_here rows node (host_place made name) within)
      (subst (λ left. row rows node ++ host_places made left ≡ whole) (drop_item names i name short at) so_far)

module _ (values : Values) (made : List Made) (rows new : Rows) (node : ℕ) (i : ℕ) (one : Made) where
  pub asked_step : (whole : List ℕ) → row rows node ++ asked_places values i (drop i made) ≡ whole → new ≡ named rows node (asked_place values i one) → node < length rows → i < length made → one ≡ get_or made i one →
      row new node ++ asked_places values (i + 1) (drop (i + 1) made) ≡ whole
  asked_step whole so_far is within short at =
      grown (row rows node) (row new node) (listed (asked_place values i one)) (asked_places values (i + 1) (drop (i + 1) made)) whole
      (ap (λ r. row r node) is ∙ named_here rows node (asked_place values i one) within)
      (subst (λ left. row rows node ++ asked_places values i left ≡ whole) (drop_item made i one short at) so_far)

module _ (made : List Made) (all : List Listed) (rows new : Rows) (place : ℕ) (item : Listed) (at : slice_get all place ≡ Some item) (grows : row new place ≡ row rows place ++ host_places made (listed_by item))
    (others : (q : ℕ) → q ≢ place → row new q ≡ row rows q) where
  pub lists_step : ((q : ℕ) (one : Listed) → q < place → slice_get all q ≡ Some one → row rows q ≡ host_places made (listed_by one)) → row rows place ≡ [] →
      (q : ℕ) (one : Listed) → q < place + 1 → slice_get all q ≡ Some one → row new q ≡ host_places made (listed_by one)
  lists_step done fresh q one short is =
      ⊎_elim
      (λ same.
      let it : item ≡ one = same_Some item one (sym at ∙ (ap (slice_get all) (sym same) ∙ is)) in
      ap (row new) same ∙ (grows ∙ (ap (λ r. r ++ host_places made (listed_by item)) fresh ∙ ap (λ i. host_places made (listed_by i)) it)))
      (λ apart. others q apart ∙ done q one (omega (arith, short, apart)) is)
      (cases_eq q place)

  pub empty_step : ((q : ℕ) → place ≤ q → q < length made → row rows q ≡ []) → (q : ℕ) → place + 1 ≤ q → q < length made → row new q ≡ []
  empty_step empty q behind short = others q (λ same. omega (arith, behind, same)) ∙ empty q (omega (arith, behind)) short

-- the host packages of three lists
pub three_lists : (made : List Made) (item : Listed) (start one two three : List ℕ) → one ≡ start ++ host_places made item.depends → two ≡ one ++ host_places made item.extract → three ≡ two ++ host_places made item.patch →
    three ≡ start ++ host_places made (listed_by item)
three_lists made item start one two three first second third =
    let all : host_places made (listed_by item) ≡ host_places made item.depends ++ (host_places made item.extract ++ host_places made item.patch) =
    flat_map-append (λ name. listed (host_place made name)) item.depends (item.extract ++ item.patch)
    ∙ ap (λ more. host_places made item.depends ++ more) (flat_map-append (λ name. listed (host_place made name)) item.extract item.patch) in
    third
    ∙ (ap (λ r. r ++ host_places made item.patch) (second ∙ ap (λ r. r ++ host_places made item.extract) first)
    ∙ (append_assoc (start ++ host_places made item.depends) (host_places made item.extract) (host_places made item.patch)
    ∙ (append_assoc start (host_places made item.depends) (host_places made item.extract ++ host_places made item.patch) ∙ ap (λ more. start ++ more) (sym all))))
