-- Where no task failed, none is skipped.
use Rattle.std.proofs.Common.{ℕ, ◌≡◌, ◌<◌, ◌⊎◌, Bool, true, false, cond, ◌||◌, List, [], ◌∷◌, ◌++◌, map, length, nat_eq, Some, None, Result, Ok, Err, refl, sym, ap, subst, ◌∙◌, inl, inr, eqb-true, eq-eqb, arith}
use Rattle.std.proofs.lemmas.Bool.{true≢false}
use Rattle.std.proofs.lemmas.Cmp.{nat_eq_equiv}
use Rattle.std.proofs.lemmas.List.Folds.{list_any-append}
use Rattle.std.proofs.lemmas.Map.Views.{Contains-from_any, list_any-from_Contains}
use Rattle.std.proofs.lemmas.Option.{slice_get_cases}
use Rattle.dep_graph.specs.Needs.{needs_of}
use Rattle.dep_graph.specs.Order.{IsReady}
use Rattle.plan_rows.specs.Plan.{Planned, IsPlan}
use Rattle.plan_rows.specs.declared.rows.Part.{Part}
use Rattle.plan_rows.specs.declared.rows.Part.TheVariants.{Prep, Make}
use Rattle.plan_rows.specs.declared.rows.Step.{Step}
use Rattle.plan_rows.specs.declared.rows.StepRow.{StepRow}
use Rattle.plan_rows.specs.declared.rows.TaskRow.{TaskRow}
use Rattle.tree_worlds.specs.declared.reason.Reason.{Reason}
use Rattle.tree_worlds.specs.World.{WorldData, AreaTrees}
use Rattle.task_shelves.specs.declared.shelf.Stamp.{Stamp}
use Rattle.task_shelves.specs.Grounded.{IsBuilt}
use Rattle.task_shelves.specs.Labels.{is_among}
use Rattle.task_shelves.specs.Shelf.{ShelfData, Built, Failed, Skipped, no_shelf}
use Rattle.pkg_steps.specs.Filling.{numbered, unless_built, first_or, first_unbuilt, filled, begun, owner_of}
use Rattle.pkg_steps.specs.Lines.{Shell, Progress, Standing, Runs, Stopped, after_step, step_run, steps_run}
use Rattle.pkg_steps.specs.Outcome.{shelved, ended, run_in, unless_skipped, outcome_in, outcome_of}
use Rattle.serial_build.specs.Serial.{Shelves, put, handed_to, serial_build, HasNotFailed}
use Rattle.serial_build.proofs.Turns.{IsUnset, put-cases, not-among, serial_has}

abbrev HasFailed : ShelfData → Type 0
HasFailed (Built trees written stamps) = ⊥
HasFailed (Failed step line status reason stamps) = Unit {0}
HasFailed (Skipped by) = ⊥

-- ---- a task all of whose needs are built ends

-- a task that stopped has failed
abbrev EndsFailed : Standing → Type 0
EndsFailed (Runs world stamps) = Unit {0}
EndsFailed (Stopped shelf) = HasFailed shelf

after-failed : (at : Step) (stamps : List Stamp) (progress : Progress) → EndsFailed (after_step at stamps progress)
after-failed at stamps (Ok world) = tt
after-failed at stamps (Err (line, reason)) = tt

steps-failed : (shell : Shell) (rows : List StepRow) (standing : Standing) → EndsFailed standing → EndsFailed (steps_run shell rows standing)
steps-failed shell [] standing is = is
steps-failed shell (row ∷ rows) (Stopped shelf) is = is
steps-failed shell (row ∷ rows) (Runs world stamps) is =
    steps-failed shell rows (after_step row.step stamps (step_run shell row world)) (after-failed row.step stamps (step_run shell row world))

abbrev pub HasEnded : ShelfData → Type 0
HasEnded shelf = IsBuilt shelf ⊎ HasFailed shelf

shelved-built : (part : Part) (old new : AreaTrees) (stamps : List Stamp) → IsBuilt (shelved part old new stamps)
shelved-built Prep old new stamps = tt
shelved-built Make old new stamps = tt

ended-ends : (part : Part) (old : AreaTrees) (standing : Standing) → EndsFailed standing → HasEnded (ended part old standing)
ended-ends part old (Runs world stamps) is = inl (shelved-built part old world.trees stamps)
ended-ends part old (Stopped shelf) is = inr is

pub run-ends : (row : TaskRow) (shell : Shell) (start : Result WorldData Reason) → HasEnded (run_in row shell start)
run-ends row shell (Err reason) = inr tt
run-ends row shell (Ok world) = ended-ends row.part world.trees (steps_run shell row.steps (Runs world [])) (steps-failed shell row.steps (Runs world []) tt)

built-none : (task : ℕ) (shelf : ShelfData) → IsBuilt shelf → unless_built task shelf ≡ None
built-none task (Built trees written stamps) is = refl
built-none task (Failed step line status reason stamps) is = absurd is
built-none task (Skipped by) is = absurd is

pub is_first : (need : ℕ) (needs : List ℕ) → is_among (need ∷ needs) need ≡ true
is_first need needs = ap (λ b. b || is_among needs need) (eq-eqb need need refl)

pub or_later : (a b : Bool) → b ≡ true → (a || b) ≡ true
or_later true b is = refl
or_later false b is = is

none-unbuilt : (needs : List ℕ) (shelves : Shelves) → ((need : ℕ) → is_among needs need ≡ true → IsBuilt (shelves need)) → first_unbuilt (numbered needs (map shelves needs)) ≡ None
none-unbuilt [] shelves all = refl
none-unbuilt (need ∷ needs) shelves all =
    ap (λ by. first_or by (first_unbuilt (numbered needs (map shelves needs)))) (built-none need (shelves need) (all need (is_first need needs)))
    ∙ none-unbuilt needs shelves (λ other there. all other (or_later (nat_eq other need) (is_among needs other) there))

module _ (plan : Planned) (shell : Shell) where
  in-ends : (task : ℕ) (shelves : List ShelfData) (row : TaskRow) → first_unbuilt (numbered (needs_of plan.graph task) shelves) ≡ None → HasEnded (outcome_in plan shell task shelves (Some row))
  in-ends task shelves row none =
      let handed = numbered (needs_of plan.graph task) shelves in
      let made = run_in row shell (filled row (owner_of plan) handed (begun row task)) in
      subst (λ by. HasEnded (unless_skipped by made)) (sym none) (run-ends row shell (filled row (owner_of plan) handed (begun row task)))

  of-ends : (task : ℕ) (shelves : List ShelfData) → task < length plan.rows → first_unbuilt (numbered (needs_of plan.graph task) shelves) ≡ None → HasEnded (outcome_of plan shell task shelves)
  of-ends task shelves below none = elim (slice_get_cases plan.rows task).1 [
    | inl found ↦ subst (λ row. HasEnded (outcome_in plan shell task shelves row)) (sym found.2) (in-ends task shelves found.0 none)
    | inr past ↦ let long = past.0 in absurd (omega arith)
  ]

-- ---- the build

not-both : (shelf : ShelfData) → HasNotFailed shelf → HasFailed shelf → ⊥
not-both (Built trees written stamps) fine failed = failed
not-both (Failed step line status reason stamps) fine failed = fine
not-both (Skipped by) fine failed = failed

pub among-last : (past : List ℕ) (task other : ℕ) → is_among (past ++ task ∷ []) other ≡ true → (is_among past other ≡ true) ⊎ (other ≡ task)
among-last past task other there = by (is_among past other) (nat_eq other task) refl refl (sym (list_any-append (nat_eq other) past (task ∷ [])) ∙ there)
  where
    by : (a b : Bool) → is_among past other ≡ a → nat_eq other task ≡ b → (a || (b || false)) ≡ true → (is_among past other ≡ true) ⊎ (other ≡ task)
    by true b before is there = inl before
    by false true before is there = inr (eqb-true other task is)
    by false false before is there = absurd (true≢false (sym there))

module _ (plan : Planned) (shell : Shell) (is : IsPlan plan) where
  -- some task failed, or all that were run are built
  abbrev SoFar : List ℕ → Shelves → Type 0
  SoFar past shelves = ((task : ℕ) × (task < length plan.rows) × HasFailed (shelves task)) ⊎ ((task : ℕ) → is_among past task ≡ true → IsBuilt (shelves task))

  module _ (past : List ℕ) (task : ℕ) (shelves : Shelves) (ready : IsReady plan.graph past task) (unset : IsUnset past shelves) where
    abbrev shelf : ShelfData
    shelf = outcome_of plan shell task (handed_to plan shelves task)

    none : shelves task ≡ no_shelf
    none = unset task (not-among past task ready.fresh)

    below : task < length plan.rows
    below = let inside = ready.inside in let count = is.count in omega arith

    -- a task that failed before has failed still
    failed-still : (other : ℕ) → HasFailed (shelves other) → HasFailed (put shelves task shelf other)
    failed-still other failed = elim (put-cases shelves task other shelf) [
      | inl here ↦ absurd (subst HasFailed (ap shelves here.0 ∙ none) failed)
      | inr same ↦ subst HasFailed (sym same) failed
    ]

    own : put shelves task shelf task ≡ shelf
    own = ap (λ b. cond b shelf (shelves task)) (eq-eqb task task refl)

    met : (need : ℕ) → is_among (needs_of plan.graph task) need ≡ true → is_among past need ≡ true
    met need there = list_any-from_Contains nat_eq_equiv need past (ready.met need (Contains-from_any {eq = nat_eq} eqb-true need (needs_of plan.graph task) there))

    built-too : ((other : ℕ) → is_among past other ≡ true → IsBuilt (shelves other)) → HasEnded shelf → SoFar (past ++ task ∷ []) (put shelves task shelf)
    built-too all (inr failed) = inl (task, below, subst HasFailed (sym own) failed)
    built-too all (inl built) = inr (λ other there. elim (put-cases shelves task other shelf) [
      | inl here ↦ subst IsBuilt (sym here.1) built
      | inr same ↦ subst IsBuilt (sym same) (elim (among-last past task other there) [
        | inl before ↦ all other before
        | inr last ↦ subst IsBuilt (sym own ∙ ap (put shelves task shelf) (sym last) ∙ same) built
      ])
    ])

    one-more : SoFar past shelves → SoFar (past ++ task ∷ []) (put shelves task shelf)
    one-more (inl failed) = inl (failed.0, failed.1, failed-still failed.0 failed.2)
    one-more (inr all) = built-too all (of-ends plan shell task (handed_to plan shelves task) below (none-unbuilt (needs_of plan.graph task) shelves (λ need there. all need (met need there))))

  pub built_unless_failed : ((task : ℕ) → task < length plan.rows → HasNotFailed (serial_build plan shell task)) → (task : ℕ) → task < length plan.rows → IsBuilt (serial_build plan shell task)
  built_unless_failed fine task below =
      elim (serial_has plan shell is.order SoFar (λ past next shelves ready unset so. one-more past next shelves ready unset so) (inr (λ other there. absurd (true≢false (sym there))))) [
        | inl failed ↦ absurd (not-both (serial_build plan shell failed.0) (fine failed.0 failed.1) failed.2)
        | inr all ↦ all task (list_any-from_Contains nat_eq_equiv task plan.order (is.order.all task (let count = is.count in omega arith)))
      ]
