-- There is one answer: two are equal.
use Rattle.std.proofs.Common.{ℕ, zero, suc, ◌≡◌, ◌⊎◌, true, List, [], ◌∷◌, find, Option, Some, None, Result, Ok, Err, IfOk, IfErr, Ordering, Less, Equal, Greater, refl, sym, ap, ap₂, subst, ◌∙◌, inl, inr, ⊎_elim, arith}
use Rattle.std.specs.List.{Contains}
use Rattle.std.specs.List.Sorted.{IsStrictlySortedBy}
use Rattle.std.specs.Cmp.Lexicographic.{nat_list_cmp_total}
use Rattle.std.specs.Ordering.{is_le, is_eq, ordering_reverse}
use Rattle.std.proofs.lemmas.Bool.{true≢false, false≢true}
use Rattle.std.proofs.lemmas.Map.Keys.{sorted_tail}
use Rattle.std.proofs.lemmas.Option.{none-some, same_Some}
use Rattle.br_path.specs.Files.{FileMap}
use Rattle.kc_values.specs.Values.{Table as Values}
use Rattle.mk_expand.specs.Vars.{Table, found}
use Rattle.mk_expand.specs.Value.{depth_limit}
use Rattle.mk_expand.specs.Words.{words}
use Rattle.mk_expand.specs.Answer.{outside, OneAnswer}
use Rattle.mk_expand.proofs.Exactness.{one_answer}
use Rattle.recipe_set.specs.declared.fault.PlanFault.{PlanFault}
use Rattle.recipe_set.specs.declared.fault.PlanFault.TheVariants.{NoRecipe, Expand, UnknownDependency, NotSelected}
use Rattle.recipe_set.specs.declared.packages.Made.{Made}
use Rattle.recipe_set.specs.declared.recipes.Recipes.{Recipes}
use Rattle.selection.specs.declared.listed.Listed.{Listed}
use Rattle.selection.specs.Each.{Each, none_left, one_more, fails, later_fails}
use Rattle.selection.specs.Lists.{HasList, HasDepends, HasExtract, HasPatch, HasLists, reference, value, own, derived, lists, no_depends, no_extract, no_patch, fails as no_value}
use Rattle.selection.specs.Selected.{AreSelected, names_of, listings, is_unknown, is_unselected}
use Rattle.selection.specs.Selecting.{LacksRecipe, IsLeast, IsChecked, IsSelecting, unknown, not_selected, too_many, few, no_recipe, no_list, selected}
use Rattle.selection.proofs.TextLaws.{cmp, same_by, apart_by, key_below}

module _ {A F : Type 0} where
  ok_err : (x : A) (e : F) → ◌≡◌ {A = Result A F} (Ok x) (Err e) → ⊥
  ok_err x e is = subst (λ r. IfErr r (λ f. ⊥)) is tt

  same_ok : (x y : A) → ◌≡◌ {A = Result A F} (Ok x) (Ok y) → x ≡ y
  same_ok x y is = subst (λ r. IfOk r (λ z. x ≡ z)) is refl

  same_err : (e f : F) → ◌≡◌ {A = Result A F} (Err e) (Err f) → e ≡ f
  same_err e f is = subst (λ r. IfErr r (λ g. e ≡ g)) is refl

-- ---- lists

abbrev Names : Type 0
Names = Result (List (List ℕ)) PlanFault

module _ (vars : Table) (owner variable : List ℕ) (becomes : List (List ℕ) → List (List ℕ)) where
  answer_of : OneAnswer (found vars) depth_limit (outside []) (reference variable)
  answer_of = one_answer (found vars) depth_limit (outside []) (reference variable)

  one_list : (one other : Names) → HasList vars owner variable becomes one → HasList vars owner variable becomes other → one ≡ other
  one_list one other (value bytes (cost, has, low)) (value more (spent, had, below)) = ap (λ b. Ok (becomes (words b))) (answer_of.values bytes more cost spent has had low below).0
  one_list one other (value bytes has) (no_value fault off) = absurd (answer_of.apart bytes fault has off)
  one_list one other (no_value fault off) (value bytes has) = absurd (answer_of.apart bytes fault has off)
  one_list one other (no_value fault off) (no_value more lost) = ap (λ f. Err (Expand owner variable f)) (answer_of.faults fault more off lost)

module _ (vars : Table) (made : Made) where
  one_depends : (one other : Names) → HasDepends vars made one → HasDepends vars made other → one ≡ other
  one_depends one other (own off has) (own set had) = one_list vars made.name _ _ one other has had
  one_depends one other (own off has) (derived on had) = absurd (true≢false (sym on ∙ off))
  one_depends one other (derived on has) (own off had) = absurd (true≢false (sym on ∙ off))
  one_depends one other (derived on has) (derived is had) = one_list vars made.name _ _ one other has had

  abbrev Extract : Names → Type 0
  Extract = HasExtract vars made

  abbrev Patch : Names → Type 0
  Patch = HasPatch vars made

  one_extract : (one other : Names) → Extract one → Extract other → one ≡ other
  one_extract one other has had = one_list vars made.name _ _ one other has had

  one_patch : (one other : Names) → Patch one → Patch other → one ≡ other
  one_patch one other has had = one_list vars made.name _ _ one other has had

  abbrev of_three : List (List ℕ) → List (List ℕ) → List (List ℕ) → Result Listed PlanFault
  of_three depends extract patch = Ok (record { made = made; depends = depends; extract = extract; patch = patch })

  three_same : (d c e f p q : List (List ℕ)) → d ≡ c → e ≡ f → p ≡ q → of_three d e p ≡ of_three c f q
  three_same d c e f p q first second third = ap₂ (λ x y. of_three x y p) first second ∙ ap (of_three c f) third

  ok_apart : (R : Names → Type 0) → ((one other : Names) → R one → R other → one ≡ other) → (list : List (List ℕ)) (fault : PlanFault) → R (Ok list) → R (Err fault) → ⊥
  ok_apart R one list fault has off = ok_err list fault (one (Ok list) (Err fault) has off)

  err_same : (R : Names → Type 0) → ((one other : Names) → R one → R other → one ≡ other) → (fault other : PlanFault) → R (Err fault) → R (Err other) → ◌≡◌ {A = Result Listed PlanFault} (Err fault) (Err other)
  err_same R one fault other off lost = ap Err (same_err {A = List (List ℕ)} fault other (one (Err fault) (Err other) off lost))

  one_lists : (one other : Result Listed PlanFault) → HasLists vars made one → HasLists vars made other → one ≡ other
  one_lists one other (lists d e p hd he hp) (lists c f q gd ge gp) =
      three_same d c e f p q (same_ok {F = PlanFault} d c (one_depends (Ok d) (Ok c) hd gd)) (same_ok {F = PlanFault} e f (one_extract (Ok e) (Ok f) he ge)) (same_ok {F = PlanFault} p q (one_patch (Ok p) (Ok q) hp gp))
  one_lists one other (lists d e p hd he hp) (no_depends fault off) = absurd (ok_apart (HasDepends vars made) one_depends d fault hd off)
  one_lists one other (lists d e p hd he hp) (no_extract c fault has off) = absurd (ok_apart Extract one_extract e fault he off)
  one_lists one other (lists d e p hd he hp) (no_patch c f fault has had off) = absurd (ok_apart Patch one_patch p fault hp off)
  one_lists one other (no_depends fault off) (lists d e p hd he hp) = absurd (ok_apart (HasDepends vars made) one_depends d fault hd off)
  one_lists one other (no_depends fault off) (no_depends more lost) = err_same (HasDepends vars made) one_depends fault more off lost
  one_lists one other (no_depends fault off) (no_extract c more has lost) = absurd (ok_apart (HasDepends vars made) one_depends c fault has off)
  one_lists one other (no_depends fault off) (no_patch c f more has had lost) = absurd (ok_apart (HasDepends vars made) one_depends c fault has off)
  one_lists one other (no_extract c fault has off) (lists d e p hd he hp) = absurd (ok_apart Extract one_extract e fault he off)
  one_lists one other (no_extract c fault has off) (no_depends more lost) = absurd (ok_apart (HasDepends vars made) one_depends c more has lost)
  one_lists one other (no_extract c fault has off) (no_extract d more had lost) = err_same Extract one_extract fault more off lost
  one_lists one other (no_extract c fault has off) (no_patch d f more had given lost) = absurd (ok_apart Extract one_extract f fault given off)
  one_lists one other (no_patch c f fault has had off) (lists d e p hd he hp) = absurd (ok_apart Patch one_patch p fault hp off)
  one_lists one other (no_patch c f fault has had off) (no_depends more lost) = absurd (ok_apart (HasDepends vars made) one_depends c more has lost)
  one_lists one other (no_patch c f fault has had off) (no_extract d more given lost) = absurd (ok_apart Extract one_extract f more had lost)
  one_lists one other (no_patch c f fault has had off) (no_patch d g more given made_too lost) = err_same Patch one_patch fault more off lost

-- ---- each of a list

module _ {X Y F : Type 0} (Gives : X → Result Y F → Type 0) (one_given : (x : X) (one other : Result Y F) → Gives x one → Gives x other → one ≡ other) where
  given_apart : (x : X) (y : Y) (fault : F) → Gives x (Ok y) → Gives x (Err fault) → ⊥
  given_apart x y fault has fail = ok_err y fault (one_given x (Ok y) (Err fault) has fail)

  cons_same : (y z : Y) (ys zs : List Y) → y ≡ z → ◌≡◌ {A = Result (List Y) F} (Ok ys) (Ok zs) → ◌≡◌ {A = Result (List Y) F} (Ok (y ∷ ys)) (Ok (z ∷ zs))
  cons_same y z ys zs first rest = ap₂ (λ a bs. Ok (a ∷ bs)) first (same_ok {F = F} ys zs rest)

  one_each : (xs : List X) (one other : Result (List Y) F) → Each Gives xs one → Each Gives xs other → one ≡ other
  one_each [] one other none_left none_left = refl
  one_each (x ∷ xs) one other (one_more {y = y} {ys = ys} has rest) (one_more {y = z} {ys = zs} had more) =
      cons_same y z ys zs (same_ok {F = F} y z (one_given x (Ok y) (Ok z) has had)) (one_each xs (Ok ys) (Ok zs) rest more)
  one_each (x ∷ xs) one other (one_more {y = y} has rest) (fails {fault = fault} fail) = absurd (given_apart x y fault has fail)
  one_each (x ∷ xs) one other (one_more {ys = ys} has rest) (later_fails {fault = fault} had fail) = absurd (ok_err ys fault (one_each xs (Ok ys) (Err fault) rest fail))
  one_each (x ∷ xs) one other (fails {fault = fault} fail) (one_more {y = y} has rest) = absurd (given_apart x y fault has fail)
  one_each (x ∷ xs) one other (fails {fault = fault} fail) (fails {fault = more} failing) = ap Err (same_err {A = Y} fault more (one_given x (Err fault) (Err more) fail failing))
  one_each (x ∷ xs) one other (fails {fault = fault} fail) (later_fails {y = y} has failing) = absurd (given_apart x y fault has fail)
  one_each (x ∷ xs) one other (later_fails {fault = fault} had fail) (one_more {ys = ys} has rest) = absurd (ok_err ys fault (one_each xs (Ok ys) (Err fault) rest fail))
  one_each (x ∷ xs) one other (later_fails {y = y} has failing) (fails {fault = fault} fail) = absurd (given_apart x y fault has fail)
  one_each (x ∷ xs) one other (later_fails {fault = fault} had fail) (later_fails {fault = more} has failing) = one_each xs (Err fault) (Err more) fail failing

-- ---- the selected ones

contains_cases : (x : Listed) (xs : List Listed) (z : Listed) → Contains (x ∷ xs) z → (x ≡ z) ⊎ Contains xs z
contains_cases x xs z (zero, short, is) = inl is
contains_cases x xs z (suc k, short, is) = inr (k, omega (arith, short), is)

contains_more : (x : Listed) (xs : List Listed) (z : Listed) → Contains xs z → Contains (x ∷ xs) z
contains_more x xs z (k, short, is) = (suc k, omega (arith, short), is)

none_in : (z : Listed) → Contains [] z → ⊥
none_in z (k, short, is) = omega (arith, short)

first_in : (x : Listed) (xs : List Listed) → Contains (x ∷ xs) x
first_in x xs = (zero, omega arith, refl)

below : (x : Listed) (xs : List Listed) → IsStrictlySortedBy cmp (names_of (x ∷ xs)) → (z : Listed) → Contains xs z → cmp x.made.name z.made.name ≡ Less
below x xs up z (k, short, is) =
    subst (λ i. cmp x.made.name i.made.name ≡ Less) is (key_below (λ i. i.made.name) (x ∷ xs) up 0 (suc k) z (omega arith) (omega (arith, short)))

not_below : (x z : Listed) → x ≡ z → cmp x.made.name z.made.name ≡ Less → ⊥
not_below x z same less = apart_by x.made.name z.made.name (ap is_eq less) (ap (λ i. i.made.name) same)

not_both : (a b : List ℕ) → cmp a b ≡ Less → cmp b a ≡ Less → ⊥
not_both a b less more = let back : Less ≡ Greater = sym less ∙ (nat_list_cmp_total.antisymm a b ∙ ap ordering_reverse more) in cc

-- lists that rise are the same where they have the same elements
same_items : (xs ys : List Listed) → IsStrictlySortedBy cmp (names_of xs) → IsStrictlySortedBy cmp (names_of ys) → ((z : Listed) → Contains xs z → Contains ys z) → ((z : Listed) → Contains ys z → Contains xs z) → xs ≡ ys
same_items [] [] up rise there back = refl
same_items [] (y ∷ ys) up rise there back = absurd (none_in y (back y (first_in y ys)))
same_items (x ∷ xs) [] up rise there back = absurd (none_in x (there x (first_in x xs)))
same_items (x ∷ xs) (y ∷ ys) up rise there back =
    let heads : x ≡ y =
    ⊎_elim
    (λ same. sym same)
    (λ later.
    ⊎_elim
    (λ same. same)
    (λ behind. absurd (not_both x.made.name y.made.name (below x xs up y behind) (below y ys rise x later)))
    (contains_cases x xs y (back y (first_in y ys))))
    (contains_cases y ys x (there x (first_in x xs))) in
    let rest : xs ≡ ys =
    same_items xs ys (sorted_tail cmp x.made.name (names_of xs) up) (sorted_tail cmp y.made.name (names_of ys) rise)
    (λ z among.
    ⊎_elim
    (λ same. absurd (not_below x z (heads ∙ same) (below x xs up z among)))
    (λ later. later)
    (contains_cases y ys z (there z (contains_more x xs z among))))
    (λ z among.
    ⊎_elim
    (λ same. absurd (not_below y z (sym heads ∙ same) (below y ys rise z among)))
    (λ later. later)
    (contains_cases x xs z (back z (contains_more y ys z among)))) in
    ap₂ (λ i is. i ∷ is) heads rest

one_selected : (values : Values) (packages chosen others : List Listed) → AreSelected values packages chosen → AreSelected values packages others → chosen ≡ others
one_selected values packages chosen others are same =
    same_items chosen others are.rising same.rising (λ z there. (same.selected z).1 ((are.selected z).0 there)) (λ z there. (are.selected z).1 ((same.selected z).0 there))

-- ---- what is checked

one_least : (P : List ℕ → Type 0) (one other : List ℕ) → IsLeast P one → IsLeast P other → one ≡ other
one_least P one other is least = by (cmp one other) refl (is.below other least.holds)
  where
    by : (o : Ordering) → cmp one other ≡ o → is_le o ≡ true → one ≡ other
    by Less less le =
        let more : cmp other one ≡ Greater = nat_list_cmp_total.antisymm other one ∙ ap ordering_reverse less in
        absurd (false≢true (sym (ap is_le more) ∙ least.below one is.holds))
    by Equal same le = same_by one other same
    by Greater more le = absurd (false≢true le)

module _ (made : List Made) (chosen : List Listed) where
  abbrev Checked : Result (List Listed) PlanFault → Type 0
  Checked = IsChecked made chosen

  some_none : (o : Option (List ℕ × List ℕ)) (e : List ℕ × List ℕ) → o ≡ Some e → o ≡ None → ⊥
  some_none o e some none = none-some e (sym none ∙ some)

  both_some : (fault : List ℕ → List ℕ → PlanFault) (o : Option (List ℕ × List ℕ)) (a b c d : List ℕ) → o ≡ Some (a, b) → o ≡ Some (c, d) → ◌≡◌ {A = Result (List Listed) PlanFault} (Err (fault a b)) (Err (fault c d))
  both_some fault o a b c d first second =
      let same : ◌≡◌ {A = List ℕ × List ℕ} (a, b) (c, d) = same_Some (a, b) (c, d) (sym first ∙ second) in
      ap (λ e. Err (fault e.0 e.1)) same

  one_checked : (one other : Result (List Listed) PlanFault) → Checked one → Checked other → one ≡ other
  one_checked one other (unknown a b is) (unknown c d at) = both_some UnknownDependency (find (is_unknown made) (listings chosen)) a b c d is at
  one_checked one other (unknown a b is) (not_selected c d none at) = absurd (some_none (find (is_unknown made) (listings chosen)) (a, b) is none)
  one_checked one other (unknown a b is) (too_many none nil more) = absurd (some_none (find (is_unknown made) (listings chosen)) (a, b) is none)
  one_checked one other (unknown a b is) (few none nil less) = absurd (some_none (find (is_unknown made) (listings chosen)) (a, b) is none)
  one_checked one other (not_selected a b none is) (unknown c d at) = absurd (some_none (find (is_unknown made) (listings chosen)) (c, d) at none)
  one_checked one other (not_selected a b none is) (not_selected c d off at) = both_some NotSelected (find (is_unselected made chosen) (listings chosen)) a b c d is at
  one_checked one other (not_selected a b none is) (too_many off nil more) = absurd (some_none (find (is_unselected made chosen) (listings chosen)) (a, b) is nil)
  one_checked one other (not_selected a b none is) (few off nil less) = absurd (some_none (find (is_unselected made chosen) (listings chosen)) (a, b) is nil)
  one_checked one other (too_many none nil more) (unknown c d at) = absurd (some_none (find (is_unknown made) (listings chosen)) (c, d) at none)
  one_checked one other (too_many none nil more) (not_selected c d off at) = absurd (some_none (find (is_unselected made chosen) (listings chosen)) (c, d) at nil)
  one_checked one other (too_many none nil more) (too_many off gone over) = refl
  one_checked one other (too_many none nil more) (few off gone less) = absurd (omega (arith, more, less))
  one_checked one other (few none nil less) (unknown c d at) = absurd (some_none (find (is_unknown made) (listings chosen)) (c, d) at none)
  one_checked one other (few none nil less) (not_selected c d off at) = absurd (some_none (find (is_unselected made chosen) (listings chosen)) (c, d) at nil)
  one_checked one other (few none nil less) (too_many off gone over) = absurd (omega (arith, over, less))
  one_checked one other (few none nil less) (few off gone under) = refl

-- ---- the whole

module _ (files : FileMap) (values : Values) (recipes : Recipes) where
  abbrev Selecting : Result (List Listed) PlanFault → Type 0
  Selecting = IsSelecting files values recipes

  one_all : (one other : Result (List Listed) PlanFault) → Each (HasLists recipes.vars) recipes.packages one → Each (HasLists recipes.vars) recipes.packages other → one ≡ other
  one_all one other = one_each (HasLists recipes.vars) (λ made. one_lists recipes.vars made) recipes.packages one other

  pub one_selecting : (one other : Result (List Listed) PlanFault) → Selecting one → Selecting other → one ≡ other
  one_selecting one other (no_recipe name least) (no_recipe more is) = ap (λ n. Err (NoRecipe n)) (one_least (LacksRecipe files values recipes.packages) name more least is)
  one_selecting one other (no_recipe name least) (no_list fault none has) = absurd (none name least.holds)
  one_selecting one other (no_recipe name least) (selected packages chosen none has are checked) = absurd (none name least.holds)
  one_selecting one other (no_list fault none has) (no_recipe name least) = absurd (none name least.holds)
  one_selecting one other (no_list fault none has) (no_list more nil had) = one_all (Err fault) (Err more) has had
  one_selecting one other (no_list fault none has) (selected packages chosen nil had are checked) = absurd (ok_err packages fault (one_all (Ok packages) (Err fault) had has))
  one_selecting one other (selected packages chosen none has are checked) (no_recipe name least) = absurd (none name least.holds)
  one_selecting one other (selected packages chosen none has are checked) (no_list fault nil had) = absurd (ok_err packages fault (one_all (Ok packages) (Err fault) has had))
  one_selecting one other (selected packages chosen none has are checked) (selected others picks nil had same checks) =
      let all : packages ≡ others = same_ok {F = PlanFault} packages others (one_all (Ok packages) (Ok others) has had) in
      let both : chosen ≡ picks = one_selected values others chosen picks (subst (λ p. AreSelected values p chosen) all are) same in
      one_checked recipes.packages picks one other (subst (λ c. IsChecked recipes.packages c one) both checked) checks
