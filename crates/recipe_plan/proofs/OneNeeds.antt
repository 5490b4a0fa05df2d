-- What selected packages need is fixed: the needs of each task rise, and their members are told.
use Rattle.std.proofs.Common.{ℕ, zero, suc, ◌≡◌, ◌+◌, ◌<◌, ◌⊎◌, ◌↔◌, List, [], length, slice_get, Some, Contains, nat_cmp, Less, inl, inr, refl, sym, subst, ◌∙◌, arith, ext_get_or}
use Rattle.std.specs.Cmp.{ranked}
use Rattle.std.specs.List.Sorted.{IsStrictlyIncreasing}
use Rattle.std.proofs.lemmas.Map.Keys.{sorted_from_strictly_increasing}
use Rattle.std.proofs.lemmas.Option.{slice_get_cases}
use Rattle.dep_graph.specs.Needs.{Needs, needs_of}
use Rattle.plan_rows.specs.declared.rows.Part.TheVariants.{Prep, Make}
use Rattle.recipe_plan.specs.Needs.{AreNeeds, task_at}
use Rattle.recipe_set.proofs.SameLists.{same_lists}
use Rattle.selection.specs.declared.listed.Listed.{Listed}

-- two numbers aren't each below the other
apart : (x y : ℕ) → nat_cmp x y ≡ Less → nat_cmp y x ≡ Less → ⊥
apart x y below above =
    let less : x < y = ranked x y Less (sym below) in
    let more : y < x = ranked y x Less (sym above) in
    omega (arith, less, more)

-- numbers that rise are the same where they have the same members
same_numbers : (xs ys : List ℕ) → IsStrictlyIncreasing xs → IsStrictlyIncreasing ys → ((k : ℕ) → Contains xs k ↔ Contains ys k) → xs ≡ ys
same_numbers xs ys rise rose = same_lists nat_cmp apart xs ys (sorted_from_strictly_increasing xs rise) (sorted_from_strictly_increasing ys rose)

through : {A B C : Type 0} → (A ↔ C) → (B ↔ C) → (A ↔ B)
through one other = (λ a. other.1 (one.0 a), λ b. one.1 (other.0 b))

-- each task is the prep or the make of the package at a place
part_at : (task : ℕ) → ((place : ℕ) × (task ≡ task_at Prep place)) ⊎ ((place : ℕ) × (task ≡ task_at Make place))
part_at zero = inl (0, refl)
part_at (suc task) =
    elim (part_at task) [
      | inl (place, is) ↦ inr (place, omega (arith, is))
      | inr (place, is) ↦ inl (place + 1, omega (arith, is))
    ]

item_at : (chosen : List Listed) (place : ℕ) → place < length chosen → (item : Listed) × (slice_get chosen place ≡ Some item)
item_at chosen place inside =
    elim ((slice_get_cases chosen place).1) [
      | inl (item, within, is, same) ↦ (item, is)
      | inr (past, none) ↦ absurd (omega (arith, past, inside))
    ]

module _ (chosen : List Listed) (a b : Needs) (one : AreNeeds chosen a) (other : AreNeeds chosen b) where
  prep_same : (place : ℕ) → place < length chosen → needs_of a (task_at Prep place) ≡ needs_of b (task_at Prep place)
  prep_same place inside =
      let (item, is) = item_at chosen place inside in
      same_numbers (needs_of a (task_at Prep place)) (needs_of b (task_at Prep place)) (one.rising.rising (task_at Prep place)) (other.rising.rising (task_at Prep place))
      (λ need. through (one.prep place item is need) (other.prep place item is need))

  make_same : (place : ℕ) → place < length chosen → needs_of a (task_at Make place) ≡ needs_of b (task_at Make place)
  make_same place inside =
      let (item, is) = item_at chosen place inside in
      same_numbers (needs_of a (task_at Make place)) (needs_of b (task_at Make place)) (one.rising.rising (task_at Make place)) (other.rising.rising (task_at Make place))
      (λ need. through (one.make place item is need) (other.make place item is need))

  task_same : (task : ℕ) → task < length a → needs_of a task ≡ needs_of b task
  task_same task inside =
      elim (part_at task) [
        | inl (place, is) ↦ subst (λ t. needs_of a t ≡ needs_of b t) (sym is) (prep_same place (omega (arith, is, inside, one.count)))
        | inr (place, is) ↦ subst (λ t. needs_of a t ≡ needs_of b t) (sym is) (make_same place (omega (arith, is, inside, one.count)))
      ]

  pub same_needs : a ≡ b
  same_needs = ext_get_or [] a b (one.count ∙ sym other.count) task_same
