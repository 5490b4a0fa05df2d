-- The first packages of a plan: their makes are below the next.
use Rattle.std.proofs.Common.{ℕ, suc, zero, ◌+◌, ◌-◌, ◌<◌, ◌≡◌, false, List, [], ◌∷◌, ◌++◌, All, length, get_or, Option, Some, None, refl, sym, ap, subst, ◌∙◌, arith}
use Rattle.std.specs.Prelude.{nat_eq, slice_get}
use Rattle.std.specs.List.{filter_map, cons_option, range_with_len}
use Rattle.std.proofs.lemmas.List.Elements.{filter_map-append, All-push, All-filter, All-map}
use Rattle.std.proofs.lemmas.Bool.{ne_eqb}
use Rattle.std.proofs.lemmas.Option.{slice_get-get_or}
use Rattle.br_path.specs.Path.{Names}
use Rattle.br_path.specs.declared.area.Area.{Area}
use Rattle.plan_rows.specs.Plan.{Planned}
use Rattle.plan_rows.specs.declared.rows.TaskRow.{TaskRow}
use Rattle.task_shelves.specs.Shelf.{ShelfData, Built, Failed, Skipped}
use Rattle.task_shelves.specs.Packages.{packages_left, Left, left_on, left_beside, left_by_row, left_by, wrote}
use Rattle.root_merge.specs.Found.{Makes, is_last, ends_with, all_noted, makes_at, AreWriters, owner_of, owner_in}
use Rattle.root_merge.proofs.Noting.{writers-more}

range-more : (a n : ℕ) → range_with_len a (n + 1) ≡ range_with_len a n ++ (a + n) ∷ []
range-more a zero = ap (λ (m : ℕ). m ∷ []) (let e : a ≡ a + 0 = omega arith in e)
range-more a (suc n) =
    ap (range_with_len a) (let e : suc n + 1 ≡ suc (n + 1) = omega arith in e)
    ∙ ap (λ (l : List ℕ). a ∷ l) (range-more (a + 1) n ∙ ap (λ (m : ℕ). range_with_len (a + 1) n ++ m ∷ []) (let e : (a + 1) + n ≡ a + suc n = omega arith in e))

-- what a function gives of the first numbers, and of one more
abbrev pub first_of : {X : Type 0} → (ℕ → Option X) → ℕ → List X
first_of f n = filter_map f (range_with_len 0 n)

pub first-more : {X : Type 0} (f : ℕ → Option X) (n : ℕ) → first_of f (n + 1) ≡ first_of f n ++ cons_option (f n) []
first-more f n = ap (filter_map f) (range-more 0 n ∙ ap (λ (m : ℕ). range_with_len 0 n ++ m ∷ []) (let e : 0 + n ≡ n = omega arith in e)) ∙ filter_map-append f (range_with_len 0 n) (n ∷ [])

pub first-some : {X : Type 0} (f : ℕ → Option X) (n : ℕ) (x : X) → f n ≡ Some x → first_of f (n + 1) ≡ first_of f n ++ x ∷ []
first-some {X = X} f n x is = first-more f n ∙ ap (λ (o : Option X). first_of f n ++ cons_option o []) is

append_nil : {X : Type 0} (xs : List X) → xs ++ [] ≡ xs
append_nil [] = refl
append_nil {X = X} (x ∷ xs) = ap (λ (l : List X). x ∷ l) (append_nil xs)

pub first-none : {X : Type 0} (f : ℕ → Option X) (n : ℕ) → f n ≡ None → first_of f (n + 1) ≡ first_of f n
first-none {X = X} f n is = first-more f n ∙ ap (λ (o : Option X). first_of f n ++ cons_option o []) is ∙ append_nil (first_of f n)

-- what holds of all that a function gives of numbers below n
pub all_first : {X : Type 0} (f : ℕ → Option X) (P : X → Type 0) (n : ℕ) → ((i : ℕ) (x : X) → i < n → f i ≡ Some x → P x) → All P (first_of f n)
all_first f P zero each = λ k d below. absurd (omega (arith, below))
all_first {X = X} f P (suc n) each =
    subst (λ m. All P (first_of f m)) (let e : n + 1 ≡ suc n = omega arith in e) (by (all_first f P n (λ i x below is. each i x (omega (arith, below)) is)) (f n) refl)
  where
    by : All P (first_of f n) → (o : Option X) → f n ≡ o → All P (first_of f (n + 1))
    by rest (Some x) is = subst (All P) (sym (first-some f n x is)) (All-push P (first_of f n) x rest (each n x (omega arith) is))
    by rest None is = subst (All P) (sym (first-none f n is)) rest

on-task : (task : ℕ) (name : List ℕ) (prep make : ShelfData) (left : Left) → left_on task name prep make ≡ Some left → (left.task ≡ task) × (left.name ≡ name)
on-task task name (Built a b c) (Built d e f) left is = (cc, cc)
on-task task name (Built a b c) (Failed d e f g h) left is = absurd (cc)
on-task task name (Built a b c) (Skipped d) left is = absurd (cc)
on-task task name (Failed d e f g h) make left is = absurd (cc)
on-task task name (Skipped d) make left is = absurd (cc)

row-task : (shelves : ℕ → ShelfData) (task : ℕ) (row : Option TaskRow) (left : Left) → left_by_row shelves task row ≡ Some left → (left.task ≡ task) × (owner_in row ≡ left.name)
row-task shelves task None left is = absurd (cc)
row-task shelves task (Some row) left is = by row.own_prep is
  where
    by : (prep : Option ℕ) → left_beside shelves task row.«package» prep ≡ Some left → (left.task ≡ task) × (row.«package» ≡ left.name)
    by None is = absurd (cc)
    by (Some prep) is = let both = on-task task row.«package» (shelves prep) (shelves task) left is in (both.0, sym both.1)

-- a package that was left is that of its make
pub task-is : (plan : Planned) (shelves : ℕ → ShelfData) (task : ℕ) (left : Left) → left_by plan shelves task ≡ Some left → left.task ≡ task
task-is plan shelves task left is = (row-task shelves task (slice_get plan.rows task) left is).0

-- its name is the one in the row
pub name-is : (plan : Planned) (shelves : ℕ → ShelfData) (task : ℕ) (left : Left) → left_by plan shelves task ≡ Some left → owner_of plan task ≡ left.name
name-is plan shelves task left is = (row-task shelves task (slice_get plan.rows task) left is).1

-- makes of the first tasks don't end in the next
ends-below : (makes : List ℕ) (n : ℕ) → All (λ make. make < n) makes → ends_with makes n ≡ false
ends-below [] n below = refl
ends-below (make ∷ makes) n below =
    let within : length makes < length (make ∷ makes) = omega arith in
    let less : get_or (make ∷ makes) (length makes) make < n = below (length makes) make within in
    ap (is_last n) (ap (slice_get (make ∷ makes)) (let e : length (make ∷ makes) - 1 ≡ length makes = omega arith in e) ∙ slice_get-get_or (make ∷ makes) (length makes) make within)
    ∙ other (get_or (make ∷ makes) (length makes) make) n less
  where
    other : (a b : ℕ) → a < b → nat_eq a b ≡ false
    other a b less = ne_eqb a b (λ same. omega (arith, less, same))

-- what holds of the packages' makes holds of those that wrote a path
pub all_makes : (P : ℕ → Type 0) (area : Area) (packages : List Left) (path : Names) → All (λ left. P left.task) packages → All P (makes_at area packages path)
all_makes P area packages path are = All-map P (λ (left : Left). left.task) _ (All-filter (wrote area path) (λ (left : Left). P left.task) packages are)

makes-below : (plan : Planned) (shelves : ℕ → ShelfData) (n : ℕ) (area : Area) (path : Names) → All (λ make. make < n) (makes_at area (first_of (left_by plan shelves) n) path)
makes-below plan shelves n area path =
    all_makes (λ make. make < n) area (first_of (left_by plan shelves) n) path
    (all_first (left_by plan shelves) (λ left. left.task < n) n (λ i left below is. subst (λ m. m < n) (sym (task-is plan shelves i left is)) below))

-- the makes that wrote a path are tasks of the plan
pub makes-within : (plan : Planned) (shelves : ℕ → ShelfData) (area : Area) (path : Names) (makes : List ℕ) → makes ≡ makes_at area (packages_left plan shelves) path → All (λ make. make < length plan.rows) makes
makes-within plan shelves area path makes are = subst (λ (l : List ℕ). All (λ make. make < length plan.rows) l) (sym are) (makes-below plan shelves (length plan.rows) area path)

next-fresh : (plan : Planned) (shelves : ℕ → ShelfData) (n : ℕ) (area : Area) (path : Names) → ends_with (makes_at area (first_of (left_by plan shelves) n) path) n ≡ false
next-fresh plan shelves n area path = ends-below _ n (makes-below plan shelves n area path)

-- one more task, whose package wrote its paths
pub writers-next : (plan : Planned) (shelves : ℕ → ShelfData) (area : Area) (n : ℕ) (left : Left) (makes next : Makes) → Some left ≡ left_by plan shelves n → next ≡ all_noted area left.task left.written makes
    → AreWriters area (first_of (left_by plan shelves) n) makes → AreWriters area (first_of (left_by plan shelves) (n + 1)) next
writers-next plan shelves area n left makes next is noted are =
    let here : left.task ≡ n = task-is plan shelves n left (sym is) in
    let fresh : (path : Names) → ends_with (makes_at area (first_of (left_by plan shelves) n) path) left.task ≡ false = λ path. ap (ends_with (makes_at area (first_of (left_by plan shelves) n) path)) here ∙ next-fresh plan shelves n area path in
    subst (λ (made : Makes). AreWriters area (first_of (left_by plan shelves) (n + 1)) made) (sym noted)
    (subst (λ (packages : List Left). AreWriters area packages (all_noted area left.task left.written makes)) (sym (first-some (left_by plan shelves) n left (sym is)))
    (writers-more area (first_of (left_by plan shelves) n) left makes fresh are))

-- one more task that left nothing
pub writers-same : (plan : Planned) (shelves : ℕ → ShelfData) (area : Area) (n : ℕ) (makes next : Makes) → None ≡ left_by plan shelves n → next ≡ makes
    → AreWriters area (first_of (left_by plan shelves) n) makes → AreWriters area (first_of (left_by plan shelves) (n + 1)) next
writers-same plan shelves area n makes next is same are =
    subst (λ (made : Makes). AreWriters area (first_of (left_by plan shelves) (n + 1)) made) (sym same)
    (subst (λ (packages : List Left). AreWriters area packages makes) (sym (first-none (left_by plan shelves) n (sym is))) are)
