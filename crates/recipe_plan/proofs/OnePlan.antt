-- Files and values have one plan, or one first fault.
use Rattle.std.proofs.Common.{ℕ, ◌≡◌, List, Result, Ok, Err, IfOk, IfErr, refl, sym, ap, ap₂, subst, ◌∙◌, arith}
use Rattle.br_path.specs.Files.{FileMap}
use Rattle.cycle_walks.specs.Graph.{names}
use Rattle.cycle_walks.specs.Walks.{IsLeast, OnCycle}
use Rattle.dep_graph.specs.Needs.{Needs}
use Rattle.dep_graph.specs.Order.{IsOrder}
use Rattle.dep_graph.proofs.OneOrder.{one_order, no_cycle_from}
use Rattle.kc_values.specs.Values.{Table as Values}
use Rattle.mk_expand.specs.Vars.{Table}
use Rattle.plan_rows.specs.Plan.{Planned}
use Rattle.plan_rows.specs.declared.rows.TaskRow.{TaskRow}
use Rattle.recipe_set.specs.declared.fault.PlanFault.{PlanFault}
use Rattle.recipe_set.specs.declared.fault.PlanFault.TheVariants.{Cycle}
use Rattle.recipe_set.specs.declared.recipes.Recipes.{Recipes}
use Rattle.recipe_set.specs.Reading.{IsReading}
use Rattle.recipe_set.proofs.OneReading.{reading_once}
use Rattle.selection.specs.declared.listed.Listed.{Listed}
use Rattle.selection.specs.Selecting.{IsSelecting}
use Rattle.selection.proofs.OneLaws.{one_selecting}
use Rattle.recipe_plan.specs.Needs.{AreNeeds, names_of}
use Rattle.recipe_plan.specs.Planning.{IsChoice, HasNoChoice, unread, unselected, IsNaming, named, IsPlanOf, no_rows, no_order, planned, IsPlanning, choice, no_choice}
use Rattle.recipe_plan.specs.Rows.{all_rows}
use Rattle.recipe_plan.proofs.OneNeeds.{same_needs}

module _ {A F : Type 0} where
  ok_err : (x : A) (e : F) → ◌≡◌ {A = Result A F} (Ok x) (Err e) → ⊥
  ok_err x e is = subst (λ r. IfErr r (λ f. ⊥)) is tt

  same_ok : (x y : A) → ◌≡◌ {A = Result A F} (Ok x) (Ok y) → x ≡ y
  same_ok x y is = subst (λ r. IfOk r (λ z. x ≡ z)) is refl

  same_err : (e f : F) → ◌≡◌ {A = Result A F} (Err e) (Err f) → e ≡ f
  same_err e f is = subst (λ r. IfErr r (λ g. e ≡ g)) is refl

least_same : (P : ℕ → Type 0) (m n : ℕ) → IsLeast P m → IsLeast P n → m ≡ n
least_same P m n one other = omega (arith, one.below n other.holds, other.below m one.holds)

-- ---- the plan of selected packages

module _ (vars : Table) (chosen : List Listed) where
  -- the rows are a function of needs, which are one list
  rows_same : (a b : Needs) (one other : Result (List TaskRow) PlanFault) → AreNeeds chosen a → AreNeeds chosen b → all_rows vars a chosen ≡ one → all_rows vars b chosen ≡ other → one ≡ other
  rows_same a b one other are were is was = sym is ∙ ap (λ needs. all_rows vars needs chosen) (same_needs chosen a b are were) ∙ was

  abbrev of_three : List TaskRow → Needs → List ℕ → Result Planned PlanFault
  of_three rows needs order = Ok (record { rows = rows; graph = needs; order = order })

  three_same : (r s : List TaskRow) (a b : Needs) (m n : List ℕ) → r ≡ s → a ≡ b → m ≡ n → of_three r a m ≡ of_three s b n
  three_same r s a b m n rows needs order = ap₂ (λ x y. of_three x y m) rows needs ∙ ap (of_three s b) order

  -- no task is on a cycle where there is an order
  no_cycle : (a b : Needs) (order : List ℕ) (task : ℕ) → AreNeeds chosen a → AreNeeds chosen b → IsOrder a order → IsLeast (OnCycle (names b)) task → ⊥
  no_cycle a b order task are were is least =
      no_cycle_from b order were.rising.graph (subst (λ needs. IsOrder needs order) (same_needs chosen a b are were) is) task least.holds

  plan_once : (one other : Result Planned PlanFault) → IsPlanOf vars chosen one → IsPlanOf vars chosen other → one ≡ other
  plan_once _ _ (no_rows a fault are is) (no_rows b more were was) =
      ap Err (same_err {A = List TaskRow} fault more (rows_same a b (Err fault) (Err more) are were is was))
  plan_once _ _ (no_rows a fault are is) (no_order b rows task were was least) =
      absurd (ok_err rows fault (rows_same b a (Ok rows) (Err fault) were are was is))
  plan_once _ _ (no_rows a fault are is) (planned b rows order were was ordered) =
      absurd (ok_err rows fault (rows_same b a (Ok rows) (Err fault) were are was is))
  plan_once _ _ (no_order a rows task are is least) (no_rows b fault were was) =
      absurd (ok_err rows fault (rows_same a b (Ok rows) (Err fault) are were is was))
  plan_once _ _ (no_order a rows task are is least) (no_order b others later were was first) =
      ap (λ t. Err (Cycle t)) (least_same (OnCycle (names b)) task later (subst (λ needs. IsLeast (OnCycle (names needs)) task) (same_needs chosen a b are were) least) first)
  plan_once _ _ (no_order a rows task are is least) (planned b others order were was ordered) = absurd (no_cycle b a order task were are ordered least)
  plan_once _ _ (planned a rows order are is ordered) (no_rows b fault were was) =
      absurd (ok_err rows fault (rows_same a b (Ok rows) (Err fault) are were is was))
  plan_once _ _ (planned a rows order are is ordered) (no_order b others task were was least) = absurd (no_cycle a b order task are were ordered least)
  plan_once _ _ (planned a rows order are is ordered) (planned b others later were was also) =
      let needs : a ≡ b = same_needs chosen a b are were in
      three_same rows others a b order later (same_ok {F = PlanFault} rows others (rows_same a b (Ok rows) (Ok others) are were is was)) needs
      (one_order b order later (subst (λ n. IsOrder n order) needs ordered) also)

-- ---- the whole

module _ (files : FileMap) (values : Values) where
  recipes_same : (recipes others : Recipes) → IsReading files values (Ok recipes) → IsReading files values (Ok others) → recipes ≡ others
  recipes_same recipes others is was = same_ok {F = PlanFault} recipes others (reading_once files values (Ok recipes) (Ok others) is was)

  selections_same : (recipes others : Recipes) (one other : Result (List Listed) PlanFault) → recipes ≡ others → IsSelecting files values recipes one → IsSelecting files values others other → one ≡ other
  selections_same recipes others one other same is was =
      one_selecting files values others one other (subst (λ r. IsSelecting files values r one) same is) was

  chosen_same : (recipes others : Recipes) (chosen picks : List Listed) → IsChoice files values recipes chosen → IsChoice files values others picks → chosen ≡ picks
  chosen_same recipes others chosen picks is was =
      same_ok {F = PlanFault} chosen picks (selections_same recipes others (Ok chosen) (Ok picks) (recipes_same recipes others is.read was.read) is.selected was.selected)

  fault_same : (fault other : PlanFault) → HasNoChoice files values fault → HasNoChoice files values other → fault ≡ other
  fault_same fault other (unread is) (unread was) = same_err {A = Recipes} fault other (reading_once files values (Err fault) (Err other) is was)
  fault_same fault other (unread is) (unselected recipes reads was) = absurd (ok_err recipes fault (reading_once files values (Ok recipes) (Err fault) reads is))
  fault_same fault other (unselected recipes reads is) (unread was) = absurd (ok_err recipes other (reading_once files values (Ok recipes) (Err other) reads was))
  fault_same fault other (unselected recipes reads is) (unselected others also was) =
      same_err {A = List Listed} fault other (selections_same recipes others (Err fault) (Err other) (recipes_same recipes others reads also) is was)

  not_both : (fault : PlanFault) (recipes : Recipes) (chosen : List Listed) → HasNoChoice files values fault → IsChoice files values recipes chosen → ⊥
  not_both fault recipes chosen (unread was) is = ok_err recipes fault (reading_once files values (Ok recipes) (Err fault) is.read was)
  not_both fault recipes chosen (unselected others also was) is =
      ok_err chosen fault (selections_same recipes others (Ok chosen) (Err fault) (recipes_same recipes others is.read also) is.selected was)

  pub naming_once : (one other : Result (List (List ℕ)) PlanFault) → IsNaming files values one → IsNaming files values other → one ≡ other
  naming_once _ _ (no_choice fault is) (no_choice more was) = ap Err (fault_same fault more is was)
  naming_once _ _ (no_choice fault is) (named recipes chosen was) = absurd (not_both fault recipes chosen is was)
  naming_once _ _ (named recipes chosen is) (no_choice fault was) = absurd (not_both fault recipes chosen was is)
  naming_once _ _ (named recipes chosen is) (named others picks was) = ap (λ c. Ok (names_of c)) (chosen_same recipes others chosen picks is was)

  pub planning_once : (one other : Result Planned PlanFault) → IsPlanning files values one → IsPlanning files values other → one ≡ other
  planning_once _ _ (no_choice fault is) (no_choice more was) = ap Err (fault_same fault more is was)
  planning_once _ _ (no_choice fault is) (choice recipes chosen was plan) = absurd (not_both fault recipes chosen is was)
  planning_once _ _ (choice recipes chosen is plan) (no_choice fault was) = absurd (not_both fault recipes chosen was is)
  planning_once one other (choice recipes chosen is plan) (choice others picks was also) =
      let same : chosen ≡ picks = chosen_same recipes others chosen picks is was in
      let both : recipes ≡ others = recipes_same recipes others is.read was.read in
      let first : IsPlanOf recipes.vars picks one = subst (λ c. IsPlanOf recipes.vars c one) same plan in
      plan_once others.vars picks one other (subst (λ r. IsPlanOf r.vars picks one) both first) also
