-- What each task keeps, run after those that it needs, holds of the serial build.
use Rattle.std.proofs.Common.{ℕ, ◌≡◌, ◌<◌, ◌⊎◌, Bool, true, false, cond, ◌||◌, List, [], ◌∷◌, ◌++◌, length, take, slice_index, nat_eq, Contains, refl, sym, ap, subst, ◌∙◌, inl, inr, append_assoc, append-nil, length-append, arith, eqb-true}
use Rattle.std.proofs.lemmas.Bool.{or_parts}
use Rattle.std.proofs.lemmas.List.Folds.{list_any-append}
use Rattle.std.proofs.lemmas.Map.Views.{Contains-from_any}
use Rattle.std.proofs.Math.Seq.{take-append_seam}
use Rattle.dep_graph.specs.Needs.{Needs}
use Rattle.dep_graph.specs.Order.{IsOrder, IsReady}
use Rattle.plan_rows.specs.Plan.{Planned}
use Rattle.task_shelves.specs.Labels.{is_among}
use Rattle.task_shelves.specs.Shelf.{ShelfData, no_shelf}
use Rattle.pkg_steps.specs.Lines.{Shell}
use Rattle.pkg_steps.specs.Outcome.{outcome_of}
use Rattle.serial_build.specs.Serial.{Shelves, put, handed_to, serial_from, serial_build}

-- no task but these has a shelf
abbrev pub IsUnset : List ℕ → Shelves → Type 0
IsUnset past shelves = (task : ℕ) → is_among past task ≡ false → shelves task ≡ no_shelf

still-unset : (past : List ℕ) (shelves : Shelves) (task : ℕ) (shelf : ShelfData) → IsUnset past shelves → IsUnset (past ++ task ∷ []) (put shelves task shelf)
still-unset past shelves task shelf unset other apart =
    let parts = or_parts (is_among past other) (nat_eq other task || false) (sym (list_any-append (nat_eq other) past (task ∷ [])) ∙ apart) in
    ap (λ b. cond b shelf (shelves other)) (or_parts (nat_eq other task) false parts.1).0 ∙ unset other parts.0

-- a task that is put in its place, or another
pub put-cases : (shelves : Shelves) (task other : ℕ) (shelf : ShelfData) → ((other ≡ task) × (put shelves task shelf other ≡ shelf)) ⊎ (put shelves task shelf other ≡ shelves other)
put-cases shelves task other shelf = by (nat_eq other task) refl
  where
    by : (b : Bool) → nat_eq other task ≡ b → ((other ≡ task) × (cond b shelf (shelves other) ≡ shelf)) ⊎ (cond b shelf (shelves other) ≡ shelves other)
    by true is = inl (eqb-true other task is, refl)
    by false is = inr refl

-- a task that isn't among others
pub not-among : (tasks : List ℕ) (task : ℕ) → (Contains tasks task → ⊥) → is_among tasks task ≡ false
not-among tasks task never = by (is_among tasks task) refl
  where
    by : (b : Bool) → is_among tasks task ≡ b → b ≡ false
    by false is = refl
    by true is = absurd (never (Contains-from_any {eq = nat_eq} eqb-true task tasks is))

at-seam : (past rest : List ℕ) (task : ℕ) → slice_index (past ++ task ∷ rest) (length past) ≡ task
at-seam [] rest task = refl
at-seam (x ∷ past) rest task = at-seam past rest task

module _ (needs : Needs) (order : List ℕ) (is : IsOrder needs order) where
  shorter : (past rest : List ℕ) (task : ℕ) → order ≡ past ++ task ∷ rest → length past < length order
  shorter past rest task same = let long = ap length same ∙ length-append past (task ∷ rest) in omega arith

  -- each task of an order is ready after those before it
  pub ready-at : (past rest : List ℕ) (task : ℕ) → order ≡ past ++ task ∷ rest → IsReady needs past task
  ready-at past rest task same =
      subst (λ front. IsReady needs front task) (ap (take (length past)) same ∙ take-append_seam past (task ∷ rest))
      (subst (IsReady needs (take (length past) order)) (ap (λ l. slice_index l (length past)) same ∙ at-seam past rest task)
      (is.least (length past) (shorter past rest task same)).holds)

module _ (plan : Planned) (shell : Shell) (order : IsOrder plan.graph plan.order) (holds : List ℕ → Shelves → Type 0)
    (next : (past : List ℕ) (task : ℕ) (shelves : Shelves) → IsReady plan.graph past task → IsUnset past shelves → holds past shelves
    → holds (past ++ task ∷ []) (put shelves task (outcome_of plan shell task (handed_to plan shelves task)))) where
  from : (past tasks : List ℕ) (shelves : Shelves) → plan.order ≡ past ++ tasks → IsUnset past shelves → holds past shelves → holds plan.order (serial_from plan shell shelves tasks)
  from past [] shelves is unset so = subst (λ l. holds l shelves) (sym (is ∙ append-nil past)) so
  from past (task ∷ tasks) shelves is unset so =
      let shelf = outcome_of plan shell task (handed_to plan shelves task) in
      from (past ++ task ∷ []) tasks (put shelves task shelf) (is ∙ sym (append_assoc past (task ∷ []) tasks)) (still-unset past shelves task shelf unset)
      (next past task shelves (ready-at plan.graph plan.order order past tasks task is) unset so)

  pub serial_has : holds [] (λ task. no_shelf) → holds plan.order (serial_build plan shell)
  serial_has so = from [] plan.order (λ task. no_shelf) refl (λ task apart. refl) so
