-- A skipped task names the least of its needs that isn't built.
use Rattle.std.proofs.Common.{ℕ, suc, ◌≡◌, ◌<◌, ◌⊎◌, Bool, true, false, ◌||◌, List, [], ◌∷◌, map, length, nat_eq, Contains, AllPairs, Option, Some, None, refl, sym, ap, subst, ◌∙◌, inl, inr, eqb-true, arith}
use Rattle.std.proofs.lemmas.Cmp.{nat_eq_equiv}
use Rattle.std.proofs.lemmas.List.Kept.{AllPairs-from_increasing}
use Rattle.std.proofs.lemmas.Map.Views.{Contains-from_any, list_any-from_Contains}
use Rattle.std.proofs.lemmas.Option.{slice_get_cases}
use Rattle.dep_graph.specs.Needs.{needs_of, IsNeeds}
use Rattle.plan_rows.specs.Plan.{Planned, IsPlan}
use Rattle.plan_rows.specs.declared.rows.TaskRow.{TaskRow}
use Rattle.task_shelves.specs.Grounded.{IsBuilt}
use Rattle.task_shelves.specs.Labels.{is_among}
use Rattle.task_shelves.specs.Shelf.{ShelfData, Built, Failed, Skipped}
use Rattle.pkg_steps.specs.Filling.{numbered, unless_built, first_or, first_unbuilt, filled, begun, owner_of}
use Rattle.pkg_steps.specs.Lines.{Shell}
use Rattle.pkg_steps.specs.Outcome.{run_in, unless_skipped, outcome_in, outcome_of}
use Rattle.serial_build.specs.Serial.{Shelves, handed_to, serial_build}
use Rattle.serial_build.specs.Skips.{IsLeastUnbuilt}
use Rattle.serial_build.proofs.Fixed.{serial_fixed}
use Rattle.serial_build.proofs.Skips.{HasEnded, run-ends, is_first, or_later}

-- ---- numbers that rise

abbrev Rise : List ℕ → Type 0
Rise numbers = AllPairs (λ a b. a < b) numbers

later-rise : (x : ℕ) (xs : List ℕ) → Rise (x ∷ xs) → Rise xs
later-rise x xs rise i j d less below = rise (suc i) (suc j) d (omega arith) (omega arith)

first-below : (x : ℕ) (xs : List ℕ) (other : ℕ) → Rise (x ∷ xs) → Contains xs other → x < other
first-below x xs other rise (k, below, is) = subst (λ y. x < y) is (rise 0 (suc k) other (omega arith) (omega arith))

among-cases : (need : ℕ) (needs : List ℕ) (other : ℕ) → is_among (need ∷ needs) other ≡ true → (other ≡ need) ⊎ (is_among needs other ≡ true)
among-cases need needs other there = by (nat_eq other need) refl there
  where
    by : (b : Bool) → nat_eq other need ≡ b → (b || is_among needs other) ≡ true → (other ≡ need) ⊎ (is_among needs other ≡ true)
    by true is there = inl (eqb-true other need is)
    by false is there = inr there

-- ---- the first need that isn't built is the least such

abbrev Least : List ℕ → Shelves → ℕ → Type 0
Least needs shelves by = (is_among needs by ≡ true) × (IsBuilt (shelves by) → ⊥) × ((need : ℕ) → is_among needs need ≡ true → need < by → IsBuilt (shelves need))

module _ (shelves : Shelves) (need : ℕ) (needs : List ℕ) (rise : Rise (need ∷ needs)) where
  least-first : (IsBuilt (shelves need) → ⊥) → Least (need ∷ needs) shelves need
  least-first unbuilt = (
    is_first need needs,
    unbuilt,
    λ other there below. elim (among-cases need needs other there) [
      | inl same ↦ absurd (omega arith)
      | inr later ↦ let above = first-below need needs other rise (Contains-from_any {eq = nat_eq} eqb-true other needs later) in absurd (omega arith)
    ],
  )

  least-later : (by : ℕ) → IsBuilt (shelves need) → Least needs shelves by → Least (need ∷ needs) shelves by
  least-later by built least = (
    or_later (nat_eq by need) (is_among needs by) least.0,
    least.1,
    λ other there below. elim (among-cases need needs other there) [
      | inl same ↦ subst (λ t. IsBuilt (shelves t)) (sym same) built
      | inr later ↦ least.2 other later below
    ],
  )

least-of : (needs : List ℕ) (shelves : Shelves) (by : ℕ) → Rise needs → first_unbuilt (numbered needs (map shelves needs)) ≡ Some by → Least needs shelves by
least-of [] shelves by rise is = cc
least-of (need ∷ needs) shelves by rise is = go (shelves need) refl (least-of needs shelves by (later-rise need needs rise)) is
  where
    go : (shelf : ShelfData) → shelves need ≡ shelf → (first_unbuilt (numbered needs (map shelves needs)) ≡ Some by → Least needs shelves by)
        → first_or (unless_built need shelf) (first_unbuilt (numbered needs (map shelves needs))) ≡ Some by → Least (need ∷ needs) shelves by
    go (Built trees written stamps) same later is = least-later shelves need needs rise by (subst IsBuilt (sym same) tt) (later is)
    go (Failed step line status reason stamps) same later is =
        let first : need ≡ by = cc in subst (Least (need ∷ needs) shelves) first (least-first shelves need needs rise (λ built. subst IsBuilt same built))
    go (Skipped other) same later is =
        let first : need ≡ by = cc in subst (Least (need ∷ needs) shelves) first (least-first shelves need needs rise (λ built. subst IsBuilt same built))

-- ---- a task that is skipped has such a need

skipped-by : (first : Option ℕ) (shelf : ShelfData) (by : ℕ) → HasEnded shelf → unless_skipped first shelf ≡ Skipped by → first ≡ Some by
skipped-by None shelf by ended is = elim (subst HasEnded is ended) [ inl built ↦ absurd built | inr failed ↦ absurd failed ]
skipped-by (Some task) shelf by ended is = cc

module _ (plan : Planned) (shell : Shell) where
  row-skipped : (task by : ℕ) (shelves : List ShelfData) (row : TaskRow) → outcome_in plan shell task shelves (Some row) ≡ Skipped by → first_unbuilt (numbered (needs_of plan.graph task) shelves) ≡ Some by
  row-skipped task by shelves row is =
      let handed = numbered (needs_of plan.graph task) shelves in
      let start = filled row (owner_of plan) handed (begun row task) in
      skipped-by (first_unbuilt handed) (run_in row shell start) by (run-ends row shell start) is

  task-skipped : (task by : ℕ) (shelves : List ShelfData) → task < length plan.rows → outcome_of plan shell task shelves ≡ Skipped by → first_unbuilt (numbered (needs_of plan.graph task) shelves) ≡ Some by
  task-skipped task by shelves below is = elim (slice_get_cases plan.rows task).1 [
    | inl found ↦ row-skipped task by shelves found.0 (sym (ap (outcome_in plan shell task shelves) found.2) ∙ is)
    | inr past ↦ let long = past.0 in absurd (omega arith)
  ]

  pub serial_skips : IsPlan plan → IsNeeds plan.graph → (task by : ℕ) → task < length plan.rows → serial_build plan shell task ≡ Skipped by → IsLeastUnbuilt (needs_of plan.graph task) (serial_build plan shell) by
  serial_skips is needs task by below skipped =
      let build = serial_build plan shell in
      let own = needs_of plan.graph task in
      let least = least-of own build by (AllPairs-from_increasing own (needs.rising task)) (task-skipped task by (handed_to plan build task) below (sym (serial_fixed plan shell is task below) ∙ skipped)) in
      record {
        needed = Contains-from_any {eq = nat_eq} eqb-true by own least.0;
        unbuilt = least.1;
        before = λ need there less. least.2 need (list_any-from_Contains nat_eq_equiv need own there) less;
      }
