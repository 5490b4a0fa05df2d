-- The packages of a plan, as members of a list.
use Rattle.std.proofs.Common.{ℕ, ◌≡◌, ◌<◌, List, length, Option, Some, None, refl, sym, ap, subst, arith}
use Rattle.std.specs.List.{range_with_len, slice_get}
use Rattle.std.proofs.lemmas.Option.{same_Some, slice_get_within}
use Rattle.plan_rows.specs.Plan.{Planned}
use Rattle.plan_rows.specs.declared.rows.TaskRow.{TaskRow}
use Rattle.task_shelves.specs.Shelf.{ShelfData, Built, Failed, Skipped}
use Rattle.task_shelves.specs.Packages.{Left, left_on, left_beside, left_by_row, left_by, packages_left, IsLeft}
use Rattle.tree_ops.proofs.Finds.{In}
use Rattle.root_merge.proofs.Members.{in-filter_map, filter_map-in, range-in}

module _ (shelves : ℕ → ShelfData) (task : ℕ) (left : Left) where
  task-on : (name : List ℕ) (prep make : ShelfData) → left_on task name prep make ≡ Some left → left.task ≡ task
  task-on name (Built trees written stamps) (Built own wrote more) is = ap (λ (l : Left). l.task) (sym (same_Some _ _ is))
  task-on name (Built trees written stamps) (Failed step line status reason more) is = cc
  task-on name (Built trees written stamps) (Skipped by_task) is = cc
  task-on name (Failed step line status reason stamps) make is = cc
  task-on name (Skipped by_task) make is = cc

  task-beside : (name : List ℕ) (prep : Option ℕ) → left_beside shelves task name prep ≡ Some left → left.task ≡ task
  task-beside name None is = cc
  task-beside name (Some prep) is = task-on name (shelves prep) (shelves task) is

  task-row : (row : Option TaskRow) → left_by_row shelves task row ≡ Some left → left.task ≡ task
  task-row None is = cc
  task-row (Some row) is = task-beside row.«package» row.own_prep is

module _ (plan : Planned) (shelves : ℕ → ShelfData) where
  -- a package has the number of its make
  left-task : (task : ℕ) (left : Left) → left_by plan shelves task ≡ Some left → left.task ≡ task
  left-task task left is = task-row shelves task left (slice_get plan.rows task) is

  within : (task : ℕ) (left : Left) → left_by plan shelves task ≡ Some left → task < length plan.rows
  within task left is = by (slice_get plan.rows task) refl is
    where
      by : (o : Option TaskRow) → slice_get plan.rows task ≡ o → left_by_row shelves task o ≡ Some left → task < length plan.rows
      by None found is = cc
      by (Some row) found is = slice_get_within plan.rows task row found

  pub in-left : (left : Left) → IsLeft plan shelves left → In left (packages_left plan shelves)
  in-left left is =
      let less = within left.task left is in
      filter_map-in (left_by plan shelves) left left.task (range_with_len 0 (length plan.rows)) (range-in left.task 0 (length plan.rows) (omega arith) (omega arith)) is

  pub left-in : (left : Left) → In left (packages_left plan shelves) → IsLeft plan shelves left
  left-in left there =
      let found = in-filter_map (left_by plan shelves) left (range_with_len 0 (length plan.rows)) there in
      subst (λ (task : ℕ). left_by plan shelves task ≡ Some left) (sym (left-task found.0 left found.2)) found.2

  pub in-range-left : (left : Left) → In left (packages_left plan shelves) → left.task < length plan.rows
  in-range-left left there = within left.task left (left-in left there)
