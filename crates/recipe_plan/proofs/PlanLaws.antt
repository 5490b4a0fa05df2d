-- The rows of the selected packages, what the tasks need and their order make a plan.
use Rattle.std.proofs.Common.{◌≡◌, ℕ, zero, suc, ◌+◌, ◌-◌, ◌*◌, ◌<◌, inl, inr, Bool, true, false, cond, not, List, [], ◌∷◌, get_or, length, map, filter, Ok, Some, refl, sym, ap, subst, ◌∙◌, arith}
use Rattle.std.specs.Prelude.{Contains, slice_get}
use Rattle.std.specs.List.{AllByRecursion}
use Rattle.std.specs.List.Sorted.{IsStrictlySortedBy}
use Rattle.std.specs.Ordering.{nat_cmp}
use Rattle.std.specs.declared.cmp.Ordering.{Ordering}
use Rattle.std.specs.declared.cmp.Ordering.TheVariants.{Less}
use Rattle.std.specs.Cmp.Lexicographic.{slice_cmp}
use Rattle.std.proofs.lemmas.Bool.{cases_Bool}
use Rattle.std.proofs.lemmas.List.Elements.{All-weaker, All-filter, All-contains, All-contains_itself, filter_passes}
use Rattle.std.proofs.lemmas.Option.{slice_get-get_or, slice_get_within}
use Rattle.cycle_walks.proofs.Members.{is_in-from}
use Rattle.dep_graph.specs.Needs.{Needs, needs_of}
use Rattle.dep_graph.specs.Order.{IsOrder}
use Rattle.mk_expand.specs.Vars.{Table}
use Rattle.plan_rows.specs.declared.rows.Part.{Part}
use Rattle.plan_rows.specs.declared.rows.Part.TheVariants.{Prep, Make}
use Rattle.plan_rows.specs.declared.rows.StepRow.{StepRow}
use Rattle.plan_rows.specs.declared.rows.TaskRow.{TaskRow}
use Rattle.plan_rows.specs.Plan.{Planned, HasRow, IsTask, IsRow, IsPlan, part_of, own_prep_of}
use Rattle.plan_rows.specs.Rows.{Uses}
use Rattle.selection.specs.declared.listed.Listed.{Listed}
use Rattle.selection.specs.Selected.{IsSelection}
use Rattle.recipe_plan.specs.Needs.{AreNeeds, task_at}
use Rattle.recipe_plan.specs.Rows.{all_rows, is_make, is_readable, row_of}
use Rattle.recipe_plan.specs.Steps.{task_steps}
use Rattle.recipe_plan.proofs.RowLaws.{rows_are}
use Rattle.recipe_plan.proofs.TextLimits.{bind_ok, steps_fit}

-- ---- lists

Contains-later : {X : Type 0} (x : X) (xs : List X) (y : X) → Contains xs y → Contains (x ∷ xs) y
Contains-later x xs y (k, below, is) = (suc k, omega (arith, below), is)

-- what is kept is there, and passes the test
pub kept : {X : Type 0} (test : X → Bool) (xs : List X) (x : X) → Contains (filter test xs) x → Contains xs x × (test x ≡ true)
kept {X} test xs x inside = (
  All-contains (Contains xs) (filter test xs) x (All-filter test (Contains xs) xs (All-contains_itself xs)) inside,
  All-contains (λ (y : X). test y ≡ true) (filter test xs) x (filter_passes test xs) inside,
)

-- what is there and passes the test is kept
pub keeps : {X : Type 0} (test : X → Bool) (xs : List X) (x : X) → Contains xs x → test x ≡ true → Contains (filter test xs) x
keeps test [] x (k, below, is) passes = absurd (omega (arith, below))
keeps test (y ∷ ys) x (zero, below, is) passes =
    let same : test y ≡ true = ap test is ∙ passes in
    subst (λ b. Contains (cond b (y ∷ filter test ys) (filter test ys)) x) (sym same) (zero, omega arith, is)
keeps test (y ∷ ys) x (suc k, below, is) passes =
    let rest = keeps test ys x (k, omega (arith, below), is) passes in
    elim (test y) as (λ b. Contains (cond b (y ∷ filter test ys) (filter test ys)) x) [
      | true ↦ Contains-later y (filter test ys) x rest
      | false ↦ rest
    ]

-- names that rise: the name of each comes before those of the later ones
rise : {X K : Type 0} (R : K → K → Ordering) (key : X → K) (xs : List X) (place later : ℕ) (x y : X) → IsStrictlySortedBy R (map key xs) → place < later
    → slice_get xs place ≡ Some x → slice_get xs later ≡ Some y → R (key x) (key y) ≡ Less
unfolding IsStrictlySortedBy
rise R key [] place later x y sorted behind at at_later = absurd (cc)
rise R key (z ∷ xs) place zero x y sorted behind at at_later = absurd (omega arith)
rise R key (z ∷ xs) (suc place) (suc later) x y sorted behind at at_later = rise R key xs place later x y sorted.1 (omega arith) at at_later
rise {X} {K} R key (z ∷ xs) zero (suc later) x y sorted behind at at_later =
    let same : z ≡ x = cc in
    subst (λ first. R (key first) (key y) ≡ Less) same (found xs later sorted.0 at_later)
  where
    found : (ys : List X) (n : ℕ) → AllByRecursion (λ k. R (key z) k ≡ Less) (map key ys) → slice_get ys n ≡ Some y → R (key z) (key y) ≡ Less
    found [] n above at = absurd (cc)
    found (w ∷ ys) zero above at = let same : w ≡ y = cc in subst (λ v. R (key z) (key v) ≡ Less) same above.0
    found (w ∷ ys) (suc n) above at = found ys n above.1 at

-- ---- the numbers of tasks

-- a task is one of the package whose place is half its number
pub part_of-task_at : (part : Part) (place : ℕ) → part_of (task_at part place) ≡ part
part_of-task_at Prep place = grind arith
part_of-task_at Make place = grind arith

pub is_make-task_at : (place : ℕ) → is_make (task_at Make place) ≡ true
is_make-task_at place = grind arith

part_of-make : (task : ℕ) → is_make task ≡ true → part_of task ≡ Make
part_of-make task odd = grind arith

part_of-prep : (task : ℕ) → is_make task ≡ false → part_of task ≡ Prep
part_of-prep task even = grind arith

-- a number is that of one task alone
same_task : (part other : Part) (place place' : ℕ) → task_at part place ≡ task_at other place' → (part ≡ other) × (place ≡ place')
same_task Prep Prep place place' is = (refl, omega arith)
same_task Make Make place place' is = (refl, omega arith)
same_task Prep Make place place' is = absurd (omega arith)
same_task Make Prep place place' is = absurd (omega arith)

readable_even : (part : Part) (need : ℕ) → is_readable part need ≡ true → is_make need ≡ false
readable_even Prep need reads = by (is_make need) reads
  where
    by : (b : Bool) → not b ≡ true → b ≡ false
    by false reads = refl
    by true reads = absurd (cc)
readable_even Make need reads = absurd (cc)

-- ---- faults

-- ---- the plan

module _ (vars : Table) (chosen : List Listed) (needs : Needs) (rows : List TaskRow) (order : List ℕ)
    (selection : IsSelection chosen) (are_needs : AreNeeds chosen needs) (made : all_rows vars needs chosen ≡ Ok rows) where
  abbrev plan : Planned
  plan = record { rows = rows; graph = needs; order = order }

  count : length rows ≡ 2 * length chosen
  count = (rows_are vars needs chosen rows made).0

  -- a row is that of a task of a package, with its steps
  record IsOwnRow (task : ℕ) (row : TaskRow) : Type 0 where
    part : Part
    place : ℕ
    item : Listed
    steps : List StepRow
    number : task ≡ task_at part place
    at : slice_get chosen place ≡ Some item
    stepped : task_steps vars item.made part ≡ Ok steps
    is : row ≡ row_of item part task (needs_of needs task) steps

  own_row : (task : ℕ) (row : TaskRow) → HasRow plan task row → IsOwnRow task row
  own_row task row at =
      let of = (rows_are vars needs chosen rows made).1 task row at in
      let (steps, stepped, end) = bind_ok (task_steps vars of.item.made of.part) _ row of.made in
      let same : row_of of.item of.part task (needs_of needs task) steps ≡ row = cc in
      record { part = of.part; place = of.place; item = of.item; steps = steps; number = omega (arith, of.number); at = of.at; stepped = stepped; is = sym same }

  -- the row of a number, where there is one
  row_there : (task : ℕ) (default : TaskRow) → task < length rows → HasRow plan task (get_or rows task default)
  row_there task default inside = slice_get-get_or rows task default inside

  part_is : (task : ℕ) (row : TaskRow) → HasRow plan task row → row.part ≡ part_of task
  part_is task row at =
      let own = own_row task row at in
      ap (λ r. r.part) own.is ∙ sym (ap part_of own.number ∙ part_of-task_at own.part own.place)

  -- what is needed is a task
  need_task : (task need : ℕ) (default : TaskRow) (part : Part) → Contains (needs_of needs task) need → part_of need ≡ part → IsTask plan part need
  need_task task need default part inside is =
      let below : need < length needs = are_needs.rising.graph.closed task need (is_in-from (needs_of needs task) need inside) in
      let there = row_there need default (omega (arith, below, are_needs.count, count)) in
      (get_or rows need default, there, part_is need (get_or rows need default) there ∙ is)

  -- ---- the row of a task

  module _ (place : ℕ) (item : Listed) (at : slice_get chosen place ≡ Some item) where
    abbrev its_row : Part → List StepRow → TaskRow
    its_row part steps = row_of item part (task_at part place) (needs_of needs (task_at part place)) steps

    need_used : (part : Part) (steps : List StepRow) (need : ℕ) → Contains (needs_of needs (task_at part place)) need → Uses (its_row part steps) need
    need_used Prep steps need inside = elim (cases_Bool (is_make need)) [
      | inl odd ↦ inr (inl (keeps is_make (needs_of needs (task_at Prep place)) need inside odd))
      | inr even ↦ inr (inr (keeps (is_readable Prep) (needs_of needs (task_at Prep place)) need inside (ap not even)))
    ]
    need_used Make steps need inside = elim ((are_needs.make place item at need).0 inside) [
      | inl own ↦ let before : task_at Make place - 1 ≡ need = omega (arith, own) in inl (ap Some before)
      | inr other ↦ inr (inl (keeps is_make (needs_of needs (task_at Make place)) need inside (ap is_make other.4 ∙ is_make-task_at other.1)))
    ]

    own_needed : (part : Part) (need : ℕ) → own_prep_of part (task_at part place) ≡ Some need → Contains (needs_of needs (task_at part place)) need
    own_needed Prep need is = absurd (cc)
    own_needed Make need is =
        let before : task_at Make place - 1 ≡ need = cc in
        let own : need ≡ task_at Prep place = omega (arith, before) in
        (are_needs.make place item at need).1 (inl own)

    used_needed : (part : Part) (steps : List StepRow) (need : ℕ) → Uses (its_row part steps) need → Contains (needs_of needs (task_at part place)) need
    used_needed part steps need uses = elim uses [
      | inl own ↦ own_needed part need own
      | inr others ↦ elim others [
        | inl fills ↦ (kept is_make (needs_of needs (task_at part place)) need fills).0
        | inr reads ↦ (kept (is_readable part) (needs_of needs (task_at part place)) need reads).0
      ]
    ]

    row_fits : (part : Part) (steps : List StepRow) → task_steps vars item.made part ≡ Ok steps → IsRow plan (task_at part place) (its_row part steps)
    row_fits part steps stepped =
        let task = task_at part place in
        let fills = filter is_make (needs_of needs task) in
        let reads = filter (is_readable part) (needs_of needs task) in
        let fit = steps_fit vars item.made part steps stepped in
        record {
          part = sym (part_of-task_at part place);
          own_prep = refl;
          fills = All-weaker (Contains fills) (IsTask plan Make)
              (λ need inside. let one = kept is_make (needs_of needs task) need inside in need_task task need (its_row part steps) Make one.0 (part_of-make need one.1)) fills (All-contains_itself fills);
          readable = All-weaker (Contains reads) (IsTask plan Prep)
              (λ need inside. let one = kept (is_readable part) (needs_of needs task) need inside in need_task task need (its_row part steps) Prep one.0 (part_of-prep need (readable_even part need one.1))) reads (All-contains_itself reads);
          needs = λ need. (need_used part steps need, used_needed part steps need);
          lines = fit.0;
          steps = fit.1;
        }

  rows_fit : (task : ℕ) (row : TaskRow) → HasRow plan task row → IsRow plan task row
  rows_fit task row at =
      let own = own_row task row at in
      subst (IsRow plan task) (sym own.is)
      (subst (λ t. IsRow plan t (row_of own.item own.part t (needs_of needs t) own.steps)) (sym own.number) (row_fits own.place own.item own.at own.part own.steps own.stepped))

  -- ---- the rows together

  own_name : (task : ℕ) (row : TaskRow) (own : IsOwnRow task row) → row.package ≡ own.item.made.name
  own_name task row own = ap (λ r. r.package) own.is

  prep_number : (task : ℕ) (row : TaskRow) (own : IsOwnRow task row) → row.part ≡ Prep → task ≡ task_at Prep own.place
  prep_number task row own prep =
      let same : own.part ≡ Prep = sym (ap (λ r. r.part) own.is) ∙ prep in
      own.number ∙ ap (λ part. task_at part own.place) same

  pair : (task : ℕ) (prep : TaskRow) → HasRow plan task prep → prep.part ≡ Prep → (make : TaskRow) × HasRow plan (task + 1) make × (make.package ≡ prep.package)
  pair task prep at is =
      let own = own_row task prep at in
      let number = prep_number task prep own is in
      let there = row_there (task + 1) prep (omega (arith, number, count, slice_get_within chosen own.place own.item own.at)) in
      let make = get_or rows (task + 1) prep in
      let next = own_row (task + 1) make there in
      let behind : task_at next.part next.place ≡ task_at Make own.place = omega (arith, next.number, number) in
      let same = same_task next.part Make next.place own.place behind in
      let found : slice_get chosen own.place ≡ Some next.item = ap (slice_get chosen) (sym same.1) ∙ next.at in
      let one : own.item ≡ next.item = cc in
      (make, there, own_name (task + 1) make next ∙ (ap (λ item. item.made.name) (sym one) ∙ sym (own_name task prep own)))

  rising : (task later : ℕ) (row other : TaskRow) → task < later → HasRow plan task row → HasRow plan later other → row.part ≡ Prep → other.part ≡ Prep
      → slice_cmp nat_cmp row.package other.package ≡ Less
  rising task later row other behind at at_later prep prep_later =
      let own = own_row task row at in
      let next = own_row later other at_later in
      let before : own.place < next.place = omega (arith, prep_number task row own prep, prep_number later other next prep_later) in
      ap (λ name. slice_cmp nat_cmp name other.package) (own_name task row own)
      ∙ (ap (slice_cmp nat_cmp own.item.made.name) (own_name later other next)
      ∙ rise (slice_cmp nat_cmp) (λ item. item.made.name) chosen own.place next.place own.item next.item selection.rising before own.at next.at)

  -- rows, needs and order make a plan
  pub plan_fits : IsOrder needs order → IsPlan plan
  plan_fits in_order = record {
    count = omega (arith, count, are_needs.count);
    few = omega (arith, count, selection.few);
    rows = rows_fit;
    pairs = pair;
    rising = rising;
    order = in_order;
  }
