-- What it means that a task is taken.
use Rattle.std.proofs.Common.{ℕ, List, [], ◌∷◌, ◌++◌, ◌≡◌, ◌+◌, ◌-◌, ◌<◌, length, get_or, set, take, refl, sym, ap, subst, ◌∙◌, true, false, not, cond, inl, inr, ◌⊎◌, Some, None, arith, eqb, length-set}
use Rattle.std.specs.Cmp.{nat_eq_equiv}
use Rattle.std.specs.List.{IsDistinct, position, position_or_len, count_by}
use Rattle.std.proofs.lemmas.Bool.{false≢true, cases_lt, cases_eq, cases_Bool, eqb-true, eq-eqb, lt-ltb}
use Rattle.std.proofs.lemmas.List.{get_or-set_same, get_or-set_other, get_or_past, get_or-map, set_past, length-map, length_push}
use Rattle.std.proofs.lemmas.List.Quantifiers.{position-Some}
use Rattle.std.proofs.lemmas.List.Sums.{fails_before_first}
use Rattle.std.proofs.lemmas.Map.Keys.{IsDistinct-push}
use Rattle.std.proofs.lemmas.Map.Steps.{length-le_from_distinct_below}
use Rattle.cycle_walks.specs.Graph.{row, is_in, names}
use Rattle.cycle_walks.specs.Walks.{IsLeast, OnCycle}
use Rattle.cycle_walks.proofs.Bottoms.{bottom}
use Rattle.cycle_walks.proofs.Members.{is_in-from, is_in-none, is_in-push_here, is_in-push_other, Contains-from, none_apart}
use Rattle.cycle_walks.proofs.Ordered.{each_push}
use Rattle.dep_graph.specs.declared.least_first.Stand.{Stand}
use Rattle.dep_graph.specs.declared.least_first.Stand.TheVariants.{Waits, Taken}
use Rattle.dep_graph.specs.Needs.{Needs, needs_of, IsNeeds}
use Rattle.dep_graph.specs.Order.{IsReady, IsOrder}
use Rattle.dep_graph.specs.Waiting.{State, stand_at, is_ready, fewer, fewer_at, nothing_taken, taken_next, count_of, AreUsers}
use Rattle.dep_graph.proofs.Counts.{count_of-here, count_of-other, outside-none, all_inside, none_outside, outside-push}

-- ---- stands

less_by : ℕ → Stand → Stand
less_by count (Waits n) = Waits (n - count)
less_by count Taken = Taken

less_by-none : (s : Stand) → less_by 0 s ≡ s
unfolding less_by
less_by-none (Waits n) = let same : n - 0 ≡ n = omega arith in ap Waits same
less_by-none Taken = refl

less_by-fewer : (count : ℕ) (s : Stand) → less_by count (fewer s) ≡ less_by (1 + count) s
unfolding less_by
less_by-fewer count (Waits n) = let same : n - 1 - count ≡ n - (1 + count) = omega arith in ap Waits same
less_by-fewer count Taken = refl

less_by-taken : (count : ℕ) → less_by count Taken ≡ Taken
unfolding less_by
less_by-taken count = refl

less_by-waits : (count n : ℕ) → less_by count (Waits n) ≡ Waits (n - count)
unfolding less_by
less_by-waits count n = refl

pub length-fewer_at : (stands : List Stand) (us : List ℕ) → length (fewer_at stands us) ≡ length stands
length-fewer_at stands [] = refl
length-fewer_at stands (x ∷ us) = length-fewer_at (set stands x (fewer (stand_at stands x))) us ∙ length-set stands x (fewer (stand_at stands x))

-- each stand is lowered as often as its task stands in the list
stand_at-fewer_at : (stands : List Stand) (us : List ℕ) (u : ℕ) → stand_at (fewer_at stands us) u ≡ less_by (count_of u us) (stand_at stands u)
stand_at-fewer_at stands [] u = sym (less_by-none (stand_at stands u))
stand_at-fewer_at stands (x ∷ us) u =
    let next = set stands x (fewer (stand_at stands x)) in
    let rest = stand_at-fewer_at next us u in
    elim (cases_eq u x) [
      | inl same ↦
          let now : stand_at next u ≡ fewer (stand_at stands u) = subst (λ v. stand_at next v ≡ fewer (stand_at stands v)) (sym same) (elim (cases_lt x (length stands)) [
            | inl inside ↦ get_or-set_same stands x (fewer (stand_at stands x)) Taken inside
            | inr past ↦
                let gone : stand_at stands x ≡ Taken = get_or_past stands x Taken past in
                ap (λ s. stand_at s x) (set_past stands x (fewer (stand_at stands x)) past) ∙ gone ∙ sym (ap fewer gone)
          ]) in
          let count : count_of u (x ∷ us) ≡ 1 + count_of u us = subst (λ v. count_of u (v ∷ us) ≡ 1 + count_of u us) same (count_of-here u us) in
          rest ∙ ap (less_by (count_of u us)) now ∙ less_by-fewer (count_of u us) (stand_at stands u) ∙ ap (λ n. less_by n (stand_at stands u)) (sym count)
      | inr apart ↦
          rest ∙ ap (less_by (count_of u us)) (get_or-set_other stands x u (fewer (stand_at stands x)) Taken apart) ∙ ap (λ n. less_by n (stand_at stands u)) (sym (count_of-other u x us apart))
    ]

-- ---- what a stand tells

-- how many needs of a task aren't among those taken
abbrev pub missing : Needs → List ℕ → ℕ → ℕ
missing needs taken task = count_by (λ need. not (is_in taken need)) (needs_of needs task)

-- each task is taken, or waits for as many of its needs as aren't; at each place of those taken stands the least that was ready there
pub record IsWaiting (needs : Needs) (s : State) : Type 0 where
  pub sized : length s.stands ≡ length needs
  pub stands : (task : ℕ) → task < length needs → stand_at s.stands task ≡ cond (is_in s.taken task) Taken (Waits (missing needs s.taken task))
  pub apart : IsDistinct eqb s.taken
  pub inside : (task : ℕ) → is_in s.taken task ≡ true → task < length needs
  pub least : (i : ℕ) → i < length s.taken → IsLeast (IsReady needs (take i s.taken)) (get_or s.taken i 0)

module _ (needs : Needs) (s : State) (w : IsWaiting needs s) where
  -- a task is taken, or waits for those of its needs that aren't
  stand_cases : (t : ℕ) → t < length needs
      → ((is_in s.taken t ≡ true) × (stand_at s.stands t ≡ Taken)) ⊎ ((is_in s.taken t ≡ false) × (stand_at s.stands t ≡ Waits (missing needs s.taken t)))
  stand_cases t inside =
      elim (cases_Bool (is_in s.taken t)) [
        | inl there ↦ inl (there, w.stands t inside ∙ ap (λ b. cond b Taken (Waits (missing needs s.taken t))) there)
        | inr off ↦ inr (off, w.stands t inside ∙ ap (λ b. cond b Taken (Waits (missing needs s.taken t))) off)
      ]

  -- a task that waits for nothing is ready
  ready_from : (t : ℕ) → t < length needs → is_ready (stand_at s.stands t) ≡ true → IsReady needs s.taken t
  ready_from t inside passes =
      elim (stand_cases t inside) [
        | inl (there, is) ↦ absurd (false≢true (sym (ap is_ready is) ∙ passes))
        | inr (off, is) ↦
            let none : missing needs s.taken t ≡ 0 = eqb-true (missing needs s.taken t) 0 (sym (ap is_ready is) ∙ passes) in
            record {
              inside = inside;
              fresh = λ there. false≢true (sym off ∙ is_in-from s.taken t there);
              met = λ need there. Contains-from s.taken need (all_inside s.taken (needs_of needs t) none need (is_in-from (needs_of needs t) need there));
            }
      ]

  -- a task that is ready waits for nothing
  from_ready : (t : ℕ) → IsReady needs s.taken t → is_ready (stand_at s.stands t) ≡ true
  from_ready t ready =
      elim (stand_cases t ready.inside) [
        | inl (there, is) ↦ absurd (ready.fresh (Contains-from s.taken t there))
        | inr (off, is) ↦
            let none : missing needs s.taken t ≡ 0 = none_outside s.taken (needs_of needs t) (λ need there. is_in-from s.taken need (ready.met need (Contains-from (needs_of needs t) need there))) in
            ap is_ready is ∙ eq-eqb (missing needs s.taken t) 0 none
      ]

  -- the first task that waits for nothing is the least that is ready
  pub least_from : (t : ℕ) → position is_ready s.stands ≡ Some t → IsLeast (IsReady needs s.taken) t
  least_from t is =
      let (inside, passes, before) = position-Some is_ready s.stands t Taken is in
      record {
        holds = ready_from t (omega (arith, w.sized)) passes;
        below = λ other ready. elim (cases_lt other t) [
          | inl less ↦ absurd (false≢true (sym (before other less) ∙ from_ready other ready))
          | inr more ↦ more
        ];
      }

  -- where no task waits for nothing, none is ready
  none_from : position is_ready s.stands ≡ None → (t : ℕ) → IsReady needs s.taken t → ⊥
  none_from is t ready =
      let first = position_or_len is_ready s.stands in
      elim (cases_lt first (length s.stands)) [
        | inl inside ↦
            let found : position is_ready s.stands ≡ Some first = ap (λ b. cond b (Some first) None) (lt-ltb first (length s.stands) inside) in
            let clash : Some first ≡ None = sym found ∙ is in cc
        | inr past ↦ false≢true (sym (fails_before_first is_ready s.stands t Taken (omega (arith, w.sized, ready.inside))) ∙ from_ready t ready)
      ]

  -- where none is ready and no task is on a cycle, all are taken
  pub order_from : IsNeeds needs → ((t : ℕ) → OnCycle (names needs) t → ⊥) → position is_ready s.stands ≡ None → IsOrder needs s.taken
  order_from legal acyclic is = record {
    all = λ t inside. elim (cases_Bool (is_in s.taken t)) [
      | inl there ↦ Contains-from s.taken t there
      | inr off ↦
          let (u, lowest) = bottom (length needs) (names needs) legal.graph.closed acyclic s.taken t inside off in
          absurd (none_from is u (record {
            inside = lowest.below;
            fresh = λ there. false≢true (sym lowest.off ∙ is_in-from s.taken u there);
            met = λ need there. Contains-from s.taken need (lowest.named need (is_in-from (needs_of needs u) need there));
          }))
    ];
    least = w.least;
  }

  -- ---- one task more

  module _ (t : ℕ) (next : IsLeast (IsReady needs s.taken) t) (users : Needs) (turned : AreUsers needs users) where
    taken_off : is_in s.taken t ≡ false
    taken_off = is_in-none s.taken t next.holds.fresh

    taken_stands : (u : ℕ) → u < length needs → stand_at (taken_next s t (row users t)).stands u ≡ cond (is_in (s.taken ++ t ∷ []) u) Taken (Waits (missing needs (s.taken ++ t ∷ []) u))
    taken_stands u inside =
        let mine = set s.stands t Taken in
        let here : stand_at (fewer_at mine (row users t)) u ≡ less_by (count_of t (needs_of needs u)) (stand_at mine u) =
        stand_at-fewer_at mine (row users t) u ∙ ap (λ n. less_by n (stand_at mine u)) (turned t u) in
        elim (cases_eq u t) [
          | inl same ↦
              let gone : stand_at mine u ≡ Taken = ap (stand_at mine) same ∙ get_or-set_same s.stands t Taken Taken (omega (arith, w.sized, next.holds.inside)) in
              here ∙ ap (less_by (count_of t (needs_of needs u))) gone ∙ less_by-taken (count_of t (needs_of needs u))
              ∙ sym (ap (λ b. cond b Taken (Waits (missing needs (s.taken ++ t ∷ []) u))) (ap (is_in (s.taken ++ t ∷ [])) same ∙ is_in-push_here s.taken t))
          | inr apart ↦
              let was : stand_at mine u ≡ stand_at s.stands u = get_or-set_other s.stands t u Taken Taken apart in
              let test = is_in-push_other s.taken t u apart in
              elim (stand_cases u inside) [
                | inl (there, is) ↦
                    here ∙ ap (less_by (count_of t (needs_of needs u))) (was ∙ is) ∙ less_by-taken (count_of t (needs_of needs u))
                    ∙ sym (ap (λ b. cond b Taken (Waits (missing needs (s.taken ++ t ∷ []) u))) (test ∙ there))
                | inr (off, is) ↦
                    let left : missing needs s.taken u - count_of t (needs_of needs u) ≡ missing needs (s.taken ++ t ∷ []) u = omega (arith, outside-push s.taken t (needs_of needs u) taken_off) in
                    here ∙ ap (less_by (count_of t (needs_of needs u))) (was ∙ is) ∙ less_by-waits (count_of t (needs_of needs u)) (missing needs s.taken u) ∙ ap Waits left
                    ∙ sym (ap (λ b. cond b Taken (Waits (missing needs (s.taken ++ t ∷ []) u))) (test ∙ off))
              ]
        ]

    pub taken_waiting : IsWaiting needs (taken_next s t (row users t))
    taken_waiting = record {
      sized = length-fewer_at (set s.stands t Taken) (row users t) ∙ length-set s.stands t Taken ∙ w.sized;
      stands = taken_stands;
      apart = IsDistinct-push nat_eq_equiv s.taken t w.apart taken_off;
      inside = λ u there. elim (cases_eq u t) [
        | inl same ↦ subst (λ v. v < length needs) (sym same) next.holds.inside
        | inr apart ↦ w.inside u (sym (is_in-push_other s.taken t u apart) ∙ there)
      ];
      least = each_push (λ p. IsLeast (IsReady needs p)) s.taken t w.least next;
    }

    -- there are still fewer tasks left
    pub taken_falls : length needs - length (s.taken ++ t ∷ []) < length needs - length s.taken
    taken_falls = omega (arith, length_push s.taken t, length-le_from_distinct_below (s.taken ++ t ∷ []) (length needs) taken_waiting.apart taken_waiting.inside)

-- nothing is taken at first
pub nothing_waiting : (needs : Needs) → IsWaiting needs (nothing_taken needs)
nothing_waiting needs = record {
  sized = length-map needs (λ row. Waits (length row));
  stands = λ t inside. get_or-map (λ row. Waits (length row)) needs t [] Taken inside ∙ ap Waits (sym (outside-none (needs_of needs t)));
  apart = none_apart;
  inside = λ t there. absurd (false≢true there);
  least = λ i short. absurd (omega arith);
}
