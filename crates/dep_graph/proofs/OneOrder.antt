-- There is one order of the tasks exactly where none is on a cycle.
use Rattle.std.proofs.Common.{ℕ, zero, suc, List, [], ◌∷◌, ◌++◌, ◌≡◌, ◌+◌, ◌<◌, ◌≤◌, length, get_or, take, refl, sym, ap, subst, ◌∙◌, Bool, true, false, ◌&&◌, not, inl, inr, ◌⊎◌, Contains, arith, eqb, add-one}
use Rattle.std.specs.Cmp.{nat_eq_equiv}
use Rattle.std.specs.List.{IsDistinct}
use Rattle.std.proofs.lemmas.Bool.{false≢true, cases_lt, cases_eq, cases_Bool, and_parts, and_from, not-true, not-false, eqb-true, eq-eqb}
use Rattle.std.proofs.lemmas.List.{take_more_same, take_all, get_or_default, length_push}
use Rattle.std.proofs.lemmas.Map.Keys.{IsDistinct-push}
use Rattle.std.proofs.lemmas.Map.Steps.{length-le_from_distinct_below}
use Rattle.cycle_walks.specs.Graph.{is_in, names, IsGraph}
use Rattle.cycle_walks.specs.Order.{IsOrder as IsPlainOrder}
use Rattle.cycle_walks.specs.Walks.{IsLeast, OnCycle}
use Rattle.cycle_walks.proofs.Bottoms.{bottom}
use Rattle.cycle_walks.proofs.Members.{is_in-from, is_in-none, is_in-push_other, Contains-from, none_apart}
use Rattle.cycle_walks.proofs.Ordered.{each_push, no_cycle}
use Rattle.dep_graph.specs.Needs.{Needs, needs_of}
use Rattle.dep_graph.specs.Order.{IsReady, IsOrder}
use Rattle.dep_graph.proofs.Counts.{all_inside, none_outside}
use Rattle.dep_graph.proofs.Takings.{missing}

-- ---- one at most

same_least : (P : ℕ → Type 0) (m n : ℕ) → IsLeast P m → IsLeast P n → m ≡ n
same_least P m n a b = omega (arith, a.below n b.holds, b.below m a.holds)

module _ (needs : Needs) (a b : List ℕ) (x : IsOrder needs a) (y : IsOrder needs b) where
  same_front : (k : ℕ) → k ≤ length a → k ≤ length b → take k a ≡ take k b
  same_front zero in-a in-b = refl
  same_front (suc k) in-a in-b =
      let front = same_front k (omega arith) (omega arith) in
      let here : get_or a k 0 ≡ get_or b k 0 =
      same_least (IsReady needs (take k a)) (get_or a k 0) (get_or b k 0) (x.least k (omega arith)) (subst (λ p. IsLeast (IsReady needs p) (get_or b k 0)) (sym front) (y.least k (omega arith))) in
      rw add-one at (take_more_same a b k 0 (omega arith) (omega arith) front here)

  -- an order that has all tasks doesn't go on
  not_longer : length b ≤ length a
  not_longer =
      elim (cases_lt (length a) (length b)) [
        | inl longer ↦
            let front = same_front (length a) (omega arith) (omega arith) in
            let whole : take (length a) b ≡ a = sym front ∙ take_all (length a) a (omega arith) in
            let next = (y.least (length a) longer).holds in
            absurd (next.fresh (subst (λ p. Contains p (get_or b (length a) 0)) (sym whole) (x.all (get_or b (length a) 0) next.inside)))
        | inr same ↦ same
      ]

pub one_order : (needs : Needs) (a b : List ℕ) → IsOrder needs a → IsOrder needs b → a ≡ b
one_order needs a b x y =
    let same : length a ≡ length b = omega (arith, not_longer needs a b x y, not_longer needs b a y x) in
    sym (take_all (length a) a (omega arith)) ∙ same_front needs a b x y (length a) (omega arith) (omega arith) ∙ take_all (length a) b (omega arith)

-- ---- none where a task is on a cycle

-- each task once, after all that it needs
pub plain_order : (needs : Needs) (order : List ℕ) → IsOrder needs order → IsPlainOrder (length needs) (names needs) order
plain_order needs order is = record {
  nodes = λ t. (
    λ there. subst (λ v. v < length needs) (get_or_default order there.0 0 t there.1 ∙ there.2) (is.least there.0 there.1).holds.inside,
    is.all t,
  );
  in_order = λ i short.
      let ready = (is.least i short).holds in
      record { fresh = ready.fresh; named = λ u named. ready.met u (Contains-from (needs_of needs (get_or order i 0)) u named) };
}

pub no_cycle_from : (needs : Needs) (order : List ℕ) → IsGraph needs → IsOrder needs order → (t : ℕ) → OnCycle (names needs) t → ⊥
no_cycle_from needs order graph is = no_cycle (length needs) (names needs) order graph.closed (plain_order needs order is)

-- ---- one where no task is on a cycle

-- the first number below a bound that passes a test, if any does
first_below : (p : ℕ → Bool) (n : ℕ) → ((k : ℕ) × (k < n) × (p k ≡ true) × ((j : ℕ) → j < k → p j ≡ false)) ⊎ ((k : ℕ) → k < n → p k ≡ false)
first_below p zero = inr (λ k below. absurd (omega arith))
first_below p (suc n) =
    elim (first_below p n) [
      | inl (k, below, passes, before) ↦ inl (k, omega arith, passes, before)
      | inr none ↦ elim (cases_Bool (p n)) [
        | inl passes ↦ inl (n, omega arith, passes, none)
        | inr fails ↦ inr (λ k below. elim (cases_lt k n) [ inl less ↦ none k less | inr more ↦ let last : n ≡ k = omega arith in subst (λ m. p m ≡ false) last fails ])
      ]
    ]

module _ (needs : Needs) (graph : IsGraph needs) (acyclic : (t : ℕ) → OnCycle (names needs) t → ⊥) where
  is_next : List ℕ → ℕ → Bool
  is_next past t = not (is_in past t) && eqb (missing needs past t) 0

  next_ready : (past : List ℕ) (t : ℕ) → t < length needs → is_next past t ≡ true → IsReady needs past t
  unfolding is_next
  next_ready past t inside passes =
      let parts = and_parts (not (is_in past t)) (eqb (missing needs past t) 0) passes in
      record {
        inside = inside;
        fresh = λ there. false≢true (sym (not-true (is_in past t) parts.0) ∙ is_in-from past t there);
        met = λ need there. Contains-from past need (all_inside past (needs_of needs t) (eqb-true (missing needs past t) 0 parts.1) need (is_in-from (needs_of needs t) need there));
      }

  ready_next : (past : List ℕ) (t : ℕ) → IsReady needs past t → is_next past t ≡ true
  unfolding is_next
  ready_next past t ready =
      and_from (not (is_in past t)) (eqb (missing needs past t) 0) (ap not (is_in-none past t ready.fresh))
      (eq-eqb (missing needs past t) 0 (none_outside past (needs_of needs t) (λ need there. is_in-from past need (ready.met need (Contains-from (needs_of needs t) need there)))))

  -- as long as some task isn't taken, there is a least that is ready
  least_ready : (past : List ℕ) (t : ℕ) → t < length needs → is_in past t ≡ false → (u : ℕ) × IsLeast (IsReady needs past) u
  least_ready past t inside off =
      elim (first_below (is_next past) (length needs)) [
        | inl (u, below, passes, before) ↦ (
          u,
          record {
            holds = next_ready past u below passes;
            below = λ v ready. elim (cases_lt v u) [ inl less ↦ absurd (false≢true (sym (before v less) ∙ ready_next past v ready)) | inr more ↦ more ];
          },
        )
        | inr none ↦
            let (u, lowest) = bottom (length needs) (names needs) graph.closed acyclic past t inside off in
            absurd (false≢true (sym (none u lowest.below) ∙ ready_next past u (record {
              inside = lowest.below;
              fresh = λ there. false≢true (sym lowest.off ∙ is_in-from past u there);
              met = λ need there. Contains-from past need (lowest.named need (is_in-from (needs_of needs u) need there));
            })))
      ]

  -- the tasks one after the other, from a list of some
  order_on : (fuel : ℕ) (past : List ℕ) → ((i : ℕ) → i < length past → IsLeast (IsReady needs (take i past)) (get_or past i 0)) → IsDistinct eqb past → ((t : ℕ) → is_in past t ≡ true → t < length needs)
      → length past + fuel ≡ length needs + 1 → (order : List ℕ) × IsOrder needs order
  order_on zero past least apart inside room = absurd (omega (arith, length-le_from_distinct_below past (length needs) apart inside))
  order_on (suc fuel) past least apart inside room =
      elim (first_below (λ t. not (is_in past t)) (length needs)) [
        | inr none ↦ (past, record { all = λ t below. Contains-from past t (not-false (is_in past t) (none t below)); least = least })
        | inl (t, below, off, before) ↦
            let (u, next) = least_ready past t below (not-true (is_in past t) off) in
            order_on fuel (past ++ u ∷ []) (each_push (λ p. IsLeast (IsReady needs p)) past u least next) (IsDistinct-push nat_eq_equiv past u apart (is_in-none past u next.holds.fresh))
            (λ v there. elim (cases_eq v u) [ inl same ↦ subst (λ w. w < length needs) (sym same) next.holds.inside | inr other ↦ inside v (sym (is_in-push_other past u v other) ∙ there) ])
            (omega (arith, length_push past u))
      ]

  pub some_order : (order : List ℕ) × IsOrder needs order
  some_order = order_on (length needs + 1) [] (λ i short. absurd (omega arith)) none_apart (λ t there. absurd (false≢true there)) (omega arith)
