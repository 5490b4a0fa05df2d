-- Where no node is on a cycle, some node names none of those that are left, and so the nodes have an order.
use Rattle.std.proofs.Common.{ℕ, zero, suc, List, [], ◌∷◌, ◌++◌, ◌≡◌, ◌+◌, ◌<◌, length, refl, sym, ap, subst, ◌∙◌, Bool, true, false, ◌&&◌, not, inl, inr, ◌⊎◌, arith, eqb}
use Rattle.std.specs.Cmp.{nat_eq_equiv}
use Rattle.std.specs.List.{IsDistinct}
use Rattle.std.proofs.lemmas.Bool.{false≢true, cases_lt, cases_eq, cases_Bool, and_parts, not-true, not-false}
use Rattle.std.proofs.lemmas.List.{length_push}
use Rattle.std.proofs.lemmas.Map.Keys.{IsDistinct-push}
use Rattle.std.proofs.lemmas.Map.Steps.{length-le_from_distinct_below}
use Rattle.cycle_walks.specs.Graph.{is_in}
use Rattle.cycle_walks.specs.Order.{MayFollow, AreInOrder, IsOrder}
use Rattle.cycle_walks.specs.Walks.{OnCycle}
use Rattle.cycle_walks.specs.Descent.{IsLinked}
use Rattle.cycle_walks.proofs.Cycles.{closed_path}
use Rattle.cycle_walks.proofs.Members.{is_in-from, is_in-other, is_in-push_other, Contains-from, IsDistinct-more, none_apart}
use Rattle.cycle_walks.proofs.Ordered.{AreInOrder-push}

-- a test passes at some number below a bound, or at none
some_below : (p : ℕ → Bool) (n : ℕ) → ((k : ℕ) × (k < n) × (p k ≡ true)) ⊎ ((k : ℕ) → k < n → p k ≡ false)
some_below p zero = inr (λ k below. absurd (omega arith))
some_below p (suc n) =
    elim (cases_Bool (p n)) [
      | inl passes ↦ inl (n, omega arith, passes)
      | inr fails ↦ elim (some_below p n) [
        | inl (k, below, passes) ↦ inl (k, omega arith, passes)
        | inr none ↦ inr (λ k below. elim (cases_lt k n) [
          | inl less ↦ none k less
          | inr more ↦ let last : n ≡ k = omega arith in subst (λ m. p m ≡ false) last fails
        ])
      ]
    ]

-- a node that isn't in a list, as no other that it names
pub record IsBottom (count : ℕ) (names : ℕ → ℕ → Bool) (past : List ℕ) (node : ℕ) : Type 0 where
  pub below : node < count
  pub off : is_in past node ≡ false
  pub named : (other : ℕ) → names node other ≡ true → is_in past other ≡ true

module _ (count : ℕ) (names : ℕ → ℕ → Bool) (closed : (s t : ℕ) → names s t ≡ true → t < count) (acyclic : (t : ℕ) → OnCycle names t → ⊥) where
  -- from the last node of a path, which goes on as long as a node that isn't in the list is named
  bottom_from : (past : List ℕ) (fuel : ℕ) (path : List ℕ) (t : ℕ) → IsLinked names (t ∷ path) → IsDistinct eqb (t ∷ path) → ((q : ℕ) → is_in (t ∷ path) q ≡ true → q < count) → length path + fuel ≡ count → is_in past t ≡ false → t < count
      → (u : ℕ) × IsBottom count names past u
  bottom_from past zero path t linked apart within room off below =
      absurd (omega (arith, length-le_from_distinct_below (t ∷ path) count apart within))
  bottom_from past (suc fuel) path t linked apart within room off below =
      elim (some_below (λ u. names t u && not (is_in past u)) count) [
        | inr none ↦ (
          t,
          record {
            below = below;
            off = off;
            named = λ u named.
                elim (cases_Bool (is_in past u)) [
                  | inl there ↦ there
                  | inr out ↦
                      absurd (false≢true (sym (none u (closed t u named)) ∙ ap (λ b. b && not (is_in past u)) named ∙ ap not out))
                ];
          },
        )
        | inl (u, small, both) ↦
            let parts = and_parts (names t u) (not (is_in past u)) both in
            elim (cases_Bool (is_in (t ∷ path) u)) [
              | inl on ↦ absurd (acyclic u (closed_path names path t [] u linked on (parts.0, tt)))
              | inr out ↦ bottom_from past fuel (t ∷ path) u (parts.0, linked) (IsDistinct-more (t ∷ path) u out apart)
                  (λ q there. elim (cases_eq q u) [ inl is ↦ subst (λ x. x < count) (sym is) small | inr other ↦ within q (sym (is_in-other (t ∷ path) u q other) ∙ there) ])
                  (omega arith) (not-true (is_in past u) parts.1) small
            ]
      ]

  -- as long as some node isn't in a list, there is one that names none such
  pub bottom : (past : List ℕ) (t : ℕ) → t < count → is_in past t ≡ false → (u : ℕ) × IsBottom count names past u
  bottom past t below off =
      bottom_from past count [] t tt (IsDistinct-more [] t refl none_apart) (λ q there. elim (cases_eq q t) [ inl is ↦ subst (λ x. x < count) (sym is) below | inr other ↦ absurd (false≢true (sym (is_in-other [] t q other) ∙ there)) ])
      (omega arith) off below

  -- the nodes one after the other, from a list of some
  order_from : (fuel : ℕ) (past : List ℕ) → AreInOrder names past → IsDistinct eqb past → ((q : ℕ) → is_in past q ≡ true → q < count) → length past + fuel ≡ count + 1 → (order : List ℕ) × IsOrder count names order
  order_from zero past all apart within room = absurd (omega (arith, length-le_from_distinct_below past count apart within))
  order_from (suc fuel) past all apart within room =
      elim (some_below (λ t. not (is_in past t)) count) [
        | inr none ↦ (past, record { nodes = λ t. (λ there. within t (is_in-from past t there), λ below. Contains-from past t (not-false (is_in past t) (none t below))); in_order = all })
        | inl (t, below, off) ↦
            let (u, is) = bottom past t below (not-true (is_in past t) off) in
            let follows : MayFollow names past u = record { fresh = λ there. false≢true (sym is.off ∙ is_in-from past u there); named = λ v named. Contains-from past v (is.named v named) } in
            order_from fuel (past ++ u ∷ []) (AreInOrder-push names past u all follows) (IsDistinct-push nat_eq_equiv past u apart is.off)
            (λ q there. elim (cases_eq q u) [ inl same ↦ subst (λ x. x < count) (sym same) is.below | inr other ↦ within q (sym (is_in-push_other past u q other) ∙ there) ])
            (omega (arith, length_push past u))
      ]

  pub order_of : (order : List ℕ) × IsOrder count names order
  order_of = order_from (count + 1) [] (λ i short. absurd (omega arith)) none_apart (λ q there. absurd (false≢true there)) (omega arith)
