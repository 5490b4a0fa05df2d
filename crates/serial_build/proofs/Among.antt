-- Tasks among tasks.
use Rattle.std.proofs.Common.{ℕ, ◌≡◌, Bool, true, false, ◌||◌, ◌&&◌, nat_eq, List, [], ◌∷◌, ◌++◌, map, flat_map, refl, sym, ap, ◌∙◌, eqb-true}
use Rattle.std.proofs.lemmas.Bool.{true≢false, and_parts}
use Rattle.std.proofs.lemmas.List.Folds.{list_any-append}
use Rattle.task_shelves.specs.Shelf.{ShelfData}
use Rattle.task_shelves.specs.Labels.{is_among, are_among, drawers_on}

-- those that are not among the larger ones are not among the smaller ones
pub not_among : (those tasks : List ℕ) (task : ℕ) → are_among those tasks ≡ true → is_among those task ≡ false → is_among tasks task ≡ false
not_among those [] task all none = refl
not_among those (t ∷ tasks) task all none =
    let parts = and_parts (is_among those t) (are_among those tasks) all in
    by (nat_eq task t) refl ∙ not_among those tasks task parts.1 none
  where
    by : (b : Bool) → nat_eq task t ≡ b → (nat_eq task t || is_among tasks task) ≡ is_among tasks task
    by true same = absurd (true≢false (sym (and_parts (is_among those t) (are_among those tasks) all).0 ∙ ap (is_among those) (sym (eqb-true task t same)) ∙ none))
    by false apart = ap (λ b. b || is_among tasks task) apart

-- each of these is among those
pub are_within : (those more tasks : List ℕ) → ((task : ℕ) → is_among those task ≡ true → is_among more task ≡ true) → are_among those tasks ≡ true → are_among more tasks ≡ true
are_within those more [] wider all = refl
are_within those more (t ∷ tasks) wider all =
    let parts = and_parts (is_among those t) (are_among those tasks) all in
    ap (λ b. b && are_among more tasks) (wider t parts.0) ∙ are_within those more tasks wider parts.1

-- a task that drew nothing on any shelf is not among those that drew something on one
pub none_drew : (shelves : ℕ → ShelfData) (needs : List ℕ) (task : ℕ) → ((need : ℕ) → is_among (drawers_on (shelves need)) task ≡ false) → is_among (flat_map drawers_on (map shelves needs)) task ≡ false
none_drew shelves [] task none = refl
none_drew shelves (need ∷ needs) task none =
    list_any-append (nat_eq task) (drawers_on (shelves need)) (flat_map drawers_on (map shelves needs))
    ∙ ap (λ b. b || is_among (flat_map drawers_on (map shelves needs)) task) (none need) ∙ none_drew shelves needs task none

pub not_last : (tasks : List ℕ) (last task : ℕ) → is_among (tasks ++ last ∷ []) task ≡ false → (is_among tasks task ≡ false) × (nat_eq task last ≡ false)
not_last tasks last task none = by (is_among tasks task) (nat_eq task last) (sym (list_any-append (nat_eq task) tasks (last ∷ [])) ∙ none)
  where
    by : (a b : Bool) → (a || (b || false)) ≡ false → (a ≡ false) × (b ≡ false)
    by true b is = absurd (true≢false is)
    by false true is = absurd (true≢false is)
    by false false is = (refl, refl)

pub and_last : (tasks : List ℕ) (last task : ℕ) → is_among tasks task ≡ false → nat_eq task last ≡ false → is_among (tasks ++ last ∷ []) task ≡ false
and_last tasks last task none apart =
    list_any-append (nat_eq task) tasks (last ∷ []) ∙ ap (λ b. b || (nat_eq task last || false)) none ∙ ap (λ b. b || false) apart
