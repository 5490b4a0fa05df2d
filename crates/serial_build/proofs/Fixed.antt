-- Each shelf of the serial build is the outcome of the shelves of its needs.
use Rattle.std.proofs.Common.{ℕ, ◌≡◌, ◌<◌, Bool, true, false, cond, ◌||◌, List, [], ◌∷◌, ◌++◌, map, length, nat_eq, refl, sym, ap, subst, ◌∙◌, inl, inr, eqb-true, eq-eqb, arith}
use Rattle.std.proofs.lemmas.Bool.{true≢false}
use Rattle.std.proofs.lemmas.Cmp.{nat_eq_equiv}
use Rattle.std.proofs.lemmas.List.Folds.{list_any-append}
use Rattle.std.proofs.lemmas.Map.Views.{Contains-from_any, list_any-from_Contains}
use Rattle.dep_graph.specs.Needs.{needs_of}
use Rattle.dep_graph.specs.Order.{IsReady}
use Rattle.plan_rows.specs.Plan.{Planned, IsPlan}
use Rattle.task_shelves.specs.Labels.{is_among}
use Rattle.task_shelves.specs.Shelf.{ShelfData}
use Rattle.pkg_steps.specs.Lines.{Shell}
use Rattle.pkg_steps.specs.Outcome.{outcome_of}
use Rattle.serial_build.specs.Serial.{Shelves, put, handed_to, serial_build}
use Rattle.serial_build.proofs.Turns.{IsUnset, put-cases, not-among, serial_has}
use Rattle.serial_build.proofs.Skips.{among-last, is_first, or_later}

-- a task of the past isn't one that comes after
apart : (past : List ℕ) (need task : ℕ) → is_among past need ≡ true → is_among past task ≡ false → nat_eq need task ≡ false
apart past need task there fresh = by (nat_eq need task) refl
  where
    by : (b : Bool) → nat_eq need task ≡ b → b ≡ false
    by false is = refl
    by true is = absurd (true≢false (sym there ∙ ap (is_among past) (eqb-true need task is) ∙ fresh))

-- a shelf that none of the needs has makes no difference to what is handed in
same-handed : (shelves : Shelves) (task : ℕ) (shelf : ShelfData) (needs : List ℕ) → ((need : ℕ) → is_among needs need ≡ true → nat_eq need task ≡ false) → map (put shelves task shelf) needs ≡ map shelves needs
same-handed shelves task shelf [] none = refl
same-handed shelves task shelf (need ∷ needs) none =
    ap (λ b. cond b shelf (shelves need) ∷ map (put shelves task shelf) needs) (none need (is_first need needs))
    ∙ ap (λ l. shelves need ∷ l) (same-handed shelves task shelf needs (λ other there. none other (or_later (nat_eq other need) (is_among needs other) there)))

module _ (plan : Planned) (shell : Shell) (is : IsPlan plan) where
  -- what all tasks of the past need was run before, and their shelves are the outcomes
  record Fixed (past : List ℕ) (shelves : Shelves) : Type 0 where
    met : (task need : ℕ) → is_among past task ≡ true → is_among (needs_of plan.graph task) need ≡ true → is_among past need ≡ true
    same : (task : ℕ) → is_among past task ≡ true → shelves task ≡ outcome_of plan shell task (handed_to plan shelves task)

  module _ (past : List ℕ) (task : ℕ) (shelves : Shelves) (ready : IsReady plan.graph past task) (unset : IsUnset past shelves) (so : Fixed past shelves) where
    abbrev shelf : ShelfData
    shelf = outcome_of plan shell task (handed_to plan shelves task)

    fresh : is_among past task ≡ false
    fresh = not-among past task ready.fresh

    ready-met : (need : ℕ) → is_among (needs_of plan.graph task) need ≡ true → is_among past need ≡ true
    ready-met need there = list_any-from_Contains nat_eq_equiv need past (ready.met need (Contains-from_any {eq = nat_eq} eqb-true need (needs_of plan.graph task) there))

    -- what a task needs that was met before is handed in as it was
    handed-still : (other : ℕ) → ((need : ℕ) → is_among (needs_of plan.graph other) need ≡ true → is_among past need ≡ true) → handed_to plan (put shelves task shelf) other ≡ handed_to plan shelves other
    handed-still other all = same-handed shelves task shelf (needs_of plan.graph other) (λ need there. apart past need task (all need there) fresh)

    longer : (other : ℕ) → is_among past other ≡ true → is_among (past ++ task ∷ []) other ≡ true
    longer other there = list_any-append (nat_eq other) past (task ∷ []) ∙ ap (λ b. b || (nat_eq other task || false)) there

    more-met : (other need : ℕ) → is_among (past ++ task ∷ []) other ≡ true → is_among (needs_of plan.graph other) need ≡ true → is_among (past ++ task ∷ []) need ≡ true
    more-met other need there needed = elim (among-last past task other there) [
      | inl before ↦ longer need (so.met other need before needed)
      | inr last ↦ longer need (ready-met need (subst (λ t. is_among (needs_of plan.graph t) need ≡ true) last needed))
    ]

    before-same : (other : ℕ) → is_among past other ≡ true → put shelves task shelf other ≡ outcome_of plan shell other (handed_to plan (put shelves task shelf) other)
    before-same other before =
        ap (λ b. cond b shelf (shelves other)) (apart past other task before fresh)
        ∙ so.same other before
        ∙ sym (ap (outcome_of plan shell other) (handed-still other (λ need needed. so.met other need before needed)))

    last-same : put shelves task shelf task ≡ outcome_of plan shell task (handed_to plan (put shelves task shelf) task)
    last-same = ap (λ b. cond b shelf (shelves task)) (eq-eqb task task refl) ∙ sym (ap (outcome_of plan shell task) (handed-still task ready-met))

    more-same : (other : ℕ) → is_among (past ++ task ∷ []) other ≡ true → put shelves task shelf other ≡ outcome_of plan shell other (handed_to plan (put shelves task shelf) other)
    more-same other there = elim (among-last past task other there) [
      | inl before ↦ before-same other before
      | inr last ↦ subst (λ t. put shelves task shelf t ≡ outcome_of plan shell t (handed_to plan (put shelves task shelf) t)) (sym last) last-same
    ]

    one-more : Fixed (past ++ task ∷ []) (put shelves task shelf)
    one-more = record { met = more-met; same = more-same }

  pub serial_fixed : (task : ℕ) → task < length plan.rows → serial_build plan shell task ≡ outcome_of plan shell task (handed_to plan (serial_build plan shell) task)
  serial_fixed task below =
      (serial_has plan shell is.order Fixed (λ past next shelves ready unset so. one-more past next shelves ready unset so)
      (record { met = λ other need there. absurd (true≢false (sym there)); same = λ other there. absurd (true≢false (sym there)) })).same
      task (list_any-from_Contains nat_eq_equiv task plan.order (is.order.all task (let count = is.count in omega arith)))
