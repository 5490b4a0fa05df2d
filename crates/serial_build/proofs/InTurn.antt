-- Tasks run one after another.
use Rattle.std.proofs.Common.{ℕ, ◌≡◌, ◌<◌, ◌+◌, Bool, true, false, cond, nat_eq, List, [], ◌∷◌, ◌++◌, flat_map, take, drop, length, slice_index, slice_index_or, refl, sym, ap, subst, ◌∙◌, eqb-true}
use Rattle.std.proofs.lemmas.List.{drop_more, take_more, append-nil}
use Rattle.std.proofs.lemmas.Map.Views.{Contains-from_any}
use Rattle.tree_ops.proofs.Heads.{rows}
use Rattle.dep_graph.specs.Needs.{needs_of}
use Rattle.dep_graph.specs.Order.{IsOrder}
use Rattle.plan_rows.specs.Plan.{Planned}
use Rattle.tree_worlds.specs.Kept.{Keeps}
use Rattle.task_shelves.specs.Shelf.{ShelfData, no_shelf}
use Rattle.task_shelves.specs.Labels.{is_among, drawers_on}
use Rattle.pkg_steps.specs.Lines.{Shell}
use Rattle.pkg_steps.specs.Origins.{KeepsEach}
use Rattle.pkg_steps.specs.Outcome.{outcome_of}
use Rattle.pkg_steps.proofs.Drawn.{drawn_by_task}
use Rattle.serial_build.specs.Serial.{Shelves, put, handed_to, serial_from, serial_build}
use Rattle.serial_build.proofs.Among.{not_among, none_drew, not_last, and_last}

-- what the tasks that were run drew, is all that is drawn
abbrev pub AreDrawn : List ℕ → Shelves → Type 0
AreDrawn ran shelves = (task other : ℕ) → is_among ran other ≡ false → is_among (drawers_on (shelves task)) other ≡ false

-- where the build stands after the first tasks: what they drew is all that is drawn, and to go on from here is to begin at first
abbrev pub Goes : Planned → Shell → List ℕ → ℕ → Shelves → Type 0
Goes plan shell items index shelves = AreDrawn (take index items) shelves × (serial_from plan shell shelves (drop index items) ≡ serial_build plan shell)

module _ (plan : Planned) (shell : Shell) (each : KeepsEach Keeps shell) where
  -- a task more
  pub drawn-next : (ran : List ℕ) (old : Shelves) (task : ℕ) → AreDrawn ran old → AreDrawn (ran ++ task ∷ []) (put old task (outcome_of plan shell task (handed_to plan old task)))
  drawn-next ran old task so_far at other apart = by (nat_eq at task)
    where
      parts : (is_among ran other ≡ false) × (nat_eq other task ≡ false)
      parts = not_last ran task other apart

      by : (b : Bool) → is_among (drawers_on (cond b (outcome_of plan shell task (handed_to plan old task)) (old at))) other ≡ false
      by true = not_among (flat_map drawers_on (handed_to plan old task) ++ task ∷ []) (drawers_on (outcome_of plan shell task (handed_to plan old task))) other (drawn_by_task plan shell task (handed_to plan old task) each)
          (and_last (flat_map drawers_on (handed_to plan old task)) task other (none_drew old (needs_of plan.graph task) other (λ need. so_far need other parts.0)) parts.1)
      by false = so_far at other parts.0

  drawn-from : (ran tasks : List ℕ) (shelves : Shelves) → AreDrawn ran shelves → AreDrawn (ran ++ tasks) (serial_from plan shell shelves tasks)
  drawn-from ran [] shelves so_far = subst (λ all. AreDrawn all shelves) (sym (append-nil ran)) so_far
  drawn-from ran (task ∷ tasks) shelves so_far =
      let next = put shelves task (outcome_of plan shell task (handed_to plan shelves task)) in
      subst (λ all. AreDrawn all (serial_from plan shell next tasks)) (rows ran (task ∷ []) tasks) (drawn-from (ran ++ task ∷ []) tasks next (drawn-next ran shelves task so_far))

  pub serial_drawn : (task other : ℕ) → is_among plan.order other ≡ false → is_among (drawers_on (serial_build plan shell task)) other ≡ false
  serial_drawn = drawn-from [] plan.order (λ task. no_shelf) (λ task other apart. refl)

  -- a task is run once
  pub fresh : (order : IsOrder plan.graph plan.order) (index : ℕ) → index < length plan.order → is_among (take index plan.order) (slice_index plan.order index) ≡ false
  fresh order index below = by (is_among (take index plan.order) (slice_index plan.order index)) refl
    where
      by : (b : Bool) → is_among (take index plan.order) (slice_index plan.order index) ≡ b → b ≡ false
      by false is = refl
      by true is = absurd ((order.least index below).holds.fresh (Contains-from_any {eq = nat_eq} eqb-true (slice_index plan.order index) (take index plan.order) is))

  pub begins : (shelves : Shelves) → ((task : ℕ) → shelves task ≡ no_shelf) → Goes plan shell plan.order 0 shelves
  begins shelves none =
      let made : (λ (task : ℕ). no_shelf) ≡ shelves = λ i task. sym (none task) i in
      subst (Goes plan shell plan.order 0) made ((λ task other apart. refl), refl)

  pub goes_on : (index : ℕ) (old new : Shelves) (shelf : ShelfData) → index < length plan.order
      → ((other : ℕ) → new other ≡ put old (slice_index_or plan.order index 0) shelf other) → shelf ≡ outcome_of plan shell (slice_index_or plan.order index 0) (handed_to plan old (slice_index_or plan.order index 0))
      → Goes plan shell plan.order index old → Goes plan shell plan.order (index + 1) new
  goes_on index old new shelf below puts is (so_far, rest) =
      let task = slice_index_or plan.order index 0 in
      let result = outcome_of plan shell task (handed_to plan old task) in
      let made : put old task result ≡ new = λ i other. sym (puts other ∙ ap (λ s. put old task s other) is) i in
      subst (Goes plan shell plan.order (index + 1)) made (
        subst (λ ran. AreDrawn ran (put old task result)) (sym (take_more plan.order index 0 below)) (drawn-next (take index plan.order) old task so_far),
        sym (ap (serial_from plan shell old) (drop_more plan.order index 0 below)) ∙ rest,
      )

  -- the same over a list that is the order
  pub begins_over : (items : List ℕ) → items ≡ plan.order → (shelves : Shelves) → ((task : ℕ) → shelves task ≡ no_shelf) → Goes plan shell items 0 shelves
  begins_over items same shelves none = subst (λ l. Goes plan shell l 0 shelves) (sym same) (begins shelves none)

  pub goes_over : (items : List ℕ) → items ≡ plan.order → (index : ℕ) (old new : Shelves) (shelf : ShelfData) → index < length items
      → ((other : ℕ) → new other ≡ put old (slice_index_or items index 0) shelf other) → shelf ≡ outcome_of plan shell (slice_index_or items index 0) (handed_to plan old (slice_index_or items index 0))
      → Goes plan shell items index old → Goes plan shell items (index + 1) new
  goes_over items same index old new shelf =
      subst (λ l. index < length l → ((other : ℕ) → new other ≡ put old (slice_index_or l index 0) shelf other) → shelf ≡ outcome_of plan shell (slice_index_or l index 0) (handed_to plan old (slice_index_or l index 0))
      → Goes plan shell l index old → Goes plan shell l (index + 1) new) (sym same) (goes_on index old new shelf)

  pub fresh_over : (items : List ℕ) → items ≡ plan.order → IsOrder plan.graph plan.order → (index : ℕ) (shelves : Shelves) → index < length items → Goes plan shell items index shelves
      → (other : ℕ) → is_among (drawers_on (shelves other)) (slice_index_or items index 0) ≡ false
  fresh_over items same order index shelves =
      subst (λ l. index < length l → Goes plan shell l index shelves → (other : ℕ) → is_among (drawers_on (shelves other)) (slice_index_or l index 0) ≡ false) (sym same)
      (λ below goes other. goes.0 other (slice_index_or plan.order index 0) (fresh order index below))
