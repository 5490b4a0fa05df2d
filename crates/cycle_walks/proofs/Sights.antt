-- What is seen from a node.
use Rattle.std.proofs.Common.{ℕ, List, [], ◌∷◌, ◌++◌, ◌≡◌, ◌≢◌, ◌+◌, ◌<◌, ◌↔◌, length, get_or, set, refl, sym, ap, subst, ◌∙◌, Bool, true, false, not, cond, inl, inr, ◌⊎◌, arith, length-set, replicate, Contains}
use Rattle.std.specs.List.{All, count_by}
use Rattle.std.specs.List.Sorted.{IsStrictlyIncreasing}
use Rattle.std.proofs.lemmas.List.Elements.{Contains-get_or}
use Rattle.std.proofs.lemmas.Bool.{false≢true, cases_lt, cases_eq, cases_Bool}
use Rattle.std.proofs.lemmas.List.{get_or-set_same, get_or-set_other, get_or_past, get_or-replicate, length-replicate, length_push}
use Rattle.std.proofs.lemmas.List.Sums.{sum_by-set}
use Rattle.cycle_walks.specs.Graph.{Rows, row, is_in, names, IsGraph}
use Rattle.cycle_walks.specs.Reach.{Sight, unseen, is_seen, see, see_all, seen_nodes}
use Rattle.cycle_walks.specs.Walks.{IsWalk, Reaches}
use Rattle.cycle_walks.proofs.Cycles.{Reaches-step}
use Rattle.cycle_walks.proofs.Ranges.{below_rise, below_passes}
use Rattle.cycle_walks.proofs.Members.{is_in-from, is_in-here, is_in-other, is_in-kept, is_in-push_here, is_in-push_other}

-- how many rows are still to be looked at, at most
abbrev pub left : Sight → ℕ
left s = length s.todo + count_by not s.seen

-- what is seen is reached, and what a node names is seen where its row was looked at
pub record IsSight (rows : Rows) (start : ℕ) (s : Sight) : Type 0 where
  pub sized : length s.seen ≡ length rows
  pub reached : (node : ℕ) → is_seen s.seen node ≡ true → Reaches (names rows) start node
  pub listed : (node : ℕ) → is_in s.todo node ≡ true → is_seen s.seen node ≡ true
  pub first : (other : ℕ) → names rows start other ≡ true → is_seen s.seen other ≡ true
  pub looked : (node other : ℕ) → is_seen s.seen node ≡ true → is_in s.todo node ≡ false → names rows node other ≡ true → is_seen s.seen other ≡ true

-- a node that is seen is one
seen_below : (seen : List Bool) (t : ℕ) → is_seen seen t ≡ true → t < length seen
seen_below seen t there = elim (cases_lt t (length seen)) [ inl below ↦ below | inr past ↦ absurd (false≢true (sym (get_or_past seen t false past) ∙ there)) ]

-- what one more node that is seen changes, and what nodes seen one after the other do
pub record Sees (old : Sight) (nodes : List ℕ) (new : Sight) : Type 0 where
  pub sized : length new.seen ≡ length old.seen
  pub more : (t : ℕ) → is_seen old.seen t ≡ true → is_seen new.seen t ≡ true
  pub all : (t : ℕ) → is_in nodes t ≡ true → is_seen new.seen t ≡ true
  pub only : (t : ℕ) → is_seen new.seen t ≡ true → (is_seen old.seen t ≡ true) ⊎ ((is_in nodes t ≡ true) × (is_in new.todo t ≡ true))
  pub kept : (t : ℕ) → is_in old.todo t ≡ true → is_in new.todo t ≡ true
  pub put : (t : ℕ) → is_in new.todo t ≡ true → (is_in old.todo t ≡ true) ⊎ (is_seen new.seen t ≡ true)
  pub same : left new ≡ left old

sees_none : (s : Sight) → Sees s [] s
sees_none s = record {
  sized = refl;
  more = λ t there. there;
  all = λ t there. absurd (false≢true there);
  only = λ t there. inl there;
  kept = λ t there. there;
  put = λ t there. inl there;
  same = refl;
}

-- a node that was seen before
sees_again : (s : Sight) (u : ℕ) → is_seen s.seen u ≡ true → Sees s (u ∷ []) s
sees_again s u before = record {
  sized = refl;
  more = λ t there. there;
  all = λ t there. elim (cases_eq t u) [ inl is ↦ subst (λ v. is_seen s.seen v ≡ true) (sym is) before | inr other ↦ absurd (false≢true (sym (is_in-other [] u t other) ∙ there)) ];
  only = λ t there. inl there;
  kept = λ t there. there;
  put = λ t there. inl there;
  same = refl;
}

-- a node that is seen for the first time
sees_first : (seen : List Bool) (todo : List ℕ) (u : ℕ) → u < length seen → is_seen seen u ≡ false → Sees (record { seen = seen; todo = todo }) (u ∷ []) (record { seen = set seen u true; todo = todo ++ u ∷ [] })
sees_first seen todo u below off =
    let here = get_or-set_same seen u true false below in
    let other = λ (t : ℕ) (apart : t ≢ u). get_or-set_other seen u t true false apart in
    record {
      sized = length-set seen u true;
      more = λ t there. elim (cases_eq t u) [ inl is ↦ subst (λ v. is_seen (set seen u true) v ≡ true) (sym is) here | inr apart ↦ other t apart ∙ there ];
      all = λ t there. elim (cases_eq t u) [ inl is ↦ subst (λ v. is_seen (set seen u true) v ≡ true) (sym is) here | inr apart ↦ absurd (false≢true (sym (is_in-other [] u t apart) ∙ there)) ];
      only = λ t there. elim (cases_eq t u) [
        | inl is ↦ subst (λ v. (is_seen seen v ≡ true) ⊎ ((is_in (u ∷ []) v ≡ true) × (is_in (todo ++ u ∷ []) v ≡ true))) (sym is) (inr (is_in-here [] u, is_in-push_here todo u))
        | inr apart ↦ inl (sym (other t apart) ∙ there)
      ];
      kept = λ t there. elim (cases_eq t u) [ inl is ↦ subst (λ v. is_in (todo ++ u ∷ []) v ≡ true) (sym is) (is_in-push_here todo u) | inr apart ↦ is_in-push_other todo u t apart ∙ there ];
      put = λ t there. elim (cases_eq t u) [ inl is ↦ inr (subst (λ v. is_seen (set seen u true) v ≡ true) (sym is) here) | inr apart ↦ inl (sym (is_in-push_other todo u t apart) ∙ there) ];
      same =
          let fewer = sum_by-set (λ b. cond (not b) 1 0) seen u true false below in
          let was : cond {A = ℕ} (not (is_seen seen u)) 1 0 ≡ 1 = ap (λ b. cond {A = ℕ} (not b) 1 0) off in
          omega (arith, length_push todo u, fewer);
    }

sees_one : (s : Sight) (u : ℕ) → u < length s.seen → Sees s (u ∷ []) (see s u)
sees_one s u below =
    elim (is_seen s.seen u) as (λ b. is_seen s.seen u ≡ b → Sees s (u ∷ []) (cond b s (record { seen = set s.seen u true; todo = s.todo ++ u ∷ [] }))) [
      | true ↦ λ is. sees_again s u is
      | false ↦ λ is. sees_first s.seen s.todo u below is
    ] refl

sees_both : (a b c : Sight) (u : ℕ) (us : List ℕ) → Sees a (u ∷ []) b → Sees b us c → Sees a (u ∷ us) c
sees_both a b c u us x y = record {
  sized = y.sized ∙ x.sized;
  more = λ t there. y.more t (x.more t there);
  all = λ t there. elim (cases_eq t u) [
    | inl is ↦ y.more t (x.all t (subst (λ v. is_in (u ∷ []) v ≡ true) (sym is) (is_in-here [] u)))
    | inr apart ↦ y.all t (sym (is_in-other us u t apart) ∙ there)
  ];
  only = λ t there. elim (y.only t there) [
    | inl before ↦ elim (x.only t before) [
      | inl first ↦ inl first
      | inr (here, put) ↦ inr (elim (cases_eq t u) [ inl is ↦ subst (λ v. is_in (u ∷ us) v ≡ true) (sym is) (is_in-here us u) | inr apart ↦ absurd (false≢true (sym (is_in-other [] u t apart) ∙ here)) ], y.kept t put)
    ]
    | inr (here, put) ↦ inr (is_in-kept us u t here, put)
  ];
  kept = λ t there. y.kept t (x.kept t there);
  put = λ t there. elim (y.put t there) [
    | inl before ↦ elim (x.put t before) [ inl first ↦ inl first | inr seen ↦ inr (y.more t seen) ]
    | inr seen ↦ inr seen
  ];
  same = y.same ∙ x.same;
}

pub sees_all : (s : Sight) (us : List ℕ) → ((t : ℕ) → is_in us t ≡ true → t < length s.seen) → Sees s us (see_all s us)
sees_all s [] small = sees_none s
sees_all s (u ∷ us) small =
    let one = sees_one s u (small u (is_in-here us u)) in
    sees_both s (see s u) (see_all (see s u) us) u us one (sees_all (see s u) us (λ t there. omega (arith, one.sized, small t (is_in-kept us u t there))))

-- each node of a row is one
pub row_below : (rows : Rows) → IsGraph rows → (node : ℕ) → All (λ other. other < length rows) (row rows node)
row_below rows graph node k d short = graph.closed node (get_or (row rows node) k d) (is_in-from (row rows node) (get_or (row rows node) k d) (Contains-get_or (row rows node) k d short))

-- ---- whole searches

module _ (rows : Rows) (start : ℕ) where
  -- the start's row is looked at
  pub sight_begun : (new : Sight) → Sees (unseen (length rows)) (row rows start) new → IsSight rows start new
  sight_begun new sees =
      let blank = λ (t : ℕ) (there : is_seen (replicate (length rows) false) t ≡ true). absurd {A = ⊥} (false≢true (sym (get_or-replicate (length rows) t false false (omega (arith, seen_below (replicate (length rows) false) t there, length-replicate (length rows) false))) ∙ there)) in
      record {
        sized = sees.sized ∙ length-replicate (length rows) false;
        reached = λ t there. elim (sees.only t there) [ inl before ↦ absurd (blank t before) | inr (here, put) ↦ ([], (here, tt)) ];
        listed = λ t there. elim (sees.put t there) [ inl before ↦ absurd (false≢true before) | inr seen ↦ seen ];
        first = λ t named. sees.all t named;
        looked = λ t u seen off named. elim (sees.only t seen) [ inl before ↦ absurd (blank t before) | inr (here, put) ↦ absurd (false≢true (sym off ∙ put)) ];
      }

  -- the row of a node that was to be looked at is
  pub sight_more : (seen : List Bool) (rest : List ℕ) (x : ℕ) (new : Sight) → IsSight rows start (record { seen = seen; todo = rest ++ x ∷ [] }) → Sees (record { seen = seen; todo = rest }) (row rows x) new → IsSight rows start new
  sight_more seen rest x new i sees = record {
    sized = sees.sized ∙ i.sized;
    reached = λ t there. elim (sees.only t there) [
      | inl before ↦ i.reached t before
      | inr (here, put) ↦ Reaches-step (names rows) start x t (i.reached x (i.listed x (is_in-push_here rest x))) here
    ];
    listed = λ t there. elim (sees.put t there) [
      | inl before ↦ sees.more t (i.listed t (elim (cases_eq t x) [ inl is ↦ subst (λ v. is_in (rest ++ x ∷ []) v ≡ true) (sym is) (is_in-push_here rest x) | inr apart ↦ is_in-push_other rest x t apart ∙ before ]))
      | inr there ↦ there
    ];
    first = λ t named. sees.more t (i.first t named);
    looked = λ t u there off named. elim (sees.only t there) [
      | inr (here, put) ↦ absurd (false≢true (sym off ∙ put))
      | inl before ↦ elim (cases_eq t x) [
        | inl is ↦ sees.all u (subst (λ v. names rows v u ≡ true) is named)
        | inr apart ↦ sees.more u (i.looked t u before (elim (cases_Bool (is_in rest t)) [
          | inl in-rest ↦ absurd (false≢true (sym off ∙ sees.kept t in-rest))
          | inr out ↦ is_in-push_other rest x t apart ∙ out
        ]) named)
      ]
    ];
  }

  -- with nothing left to look at, what a walk leads to is seen
  seen_along : (seen : List Bool) → IsSight rows start (record { seen = seen; todo = [] }) → (t : ℕ) → is_seen seen t ≡ true → (between : List ℕ) (u : ℕ) → IsWalk (names rows) t (between ++ u ∷ []) → is_seen seen u ≡ true
  seen_along seen i t there [] u walk = i.looked t u there refl walk.0
  seen_along seen i t there (v ∷ vs) u walk = seen_along seen i v (i.looked t v there refl walk.0) vs u walk.1

  seen_from_start : (seen : List Bool) → IsSight rows start (record { seen = seen; todo = [] }) → (between : List ℕ) (u : ℕ) → IsWalk (names rows) start (between ++ u ∷ []) → is_seen seen u ≡ true
  seen_from_start seen i [] u walk = i.first u walk.0
  seen_from_start seen i (v ∷ vs) u walk = seen_along seen i v (i.first v walk.0) vs u walk.1

  pub all_seen : (seen : List Bool) → IsSight rows start (record { seen = seen; todo = [] }) → (t : ℕ) → (is_seen seen t ≡ true) ↔ Reaches (names rows) start t
  all_seen seen i t = (i.reached t, λ reach. seen_from_start seen i reach.0 t reach.1)

module _ (rows : Rows) (graph : IsGraph rows) (start : ℕ) where
  pub look_first : (count : ℕ) (s new : Sight) → count ≡ length rows → s ≡ unseen count → new ≡ see_all s (row rows start) → IsSight rows start new
  look_first count s new same is new-is =
      let blank : s ≡ unseen (length rows) = is ∙ ap unseen same in
      let sees = sees_all (unseen (length rows)) (row rows start) (λ t there. omega (arith, graph.closed start t there, length-replicate (length rows) false)) in
      sight_begun rows start new (subst (Sees (unseen (length rows)) (row rows start)) (sym (new-is ∙ ap (λ x. see_all x (row rows start)) blank)) sees)

  module _ (seen : List Bool) (todo rest : List ℕ) (x : ℕ) (i : IsSight rows start (record { seen = seen; todo = todo })) (is : todo ≡ rest ++ x ∷ []) where
    whole : IsSight rows start (record { seen = seen; todo = rest ++ x ∷ [] })
    whole = subst (λ xs. IsSight rows start (record { seen = seen; todo = xs })) is i

    pub listed_below : x < length rows
    listed_below = omega (arith, whole.sized, seen_below seen x (whole.listed x (is_in-push_here rest x)))

    sees_more : (new : Sight) → new ≡ see_all (record { seen = seen; todo = rest }) (row rows x) → Sees (record { seen = seen; todo = rest }) (row rows x) new
    sees_more new new-is = subst (Sees (record { seen = seen; todo = rest }) (row rows x)) (sym new-is) (sees_all (record { seen = seen; todo = rest }) (row rows x) (λ t there. omega (arith, graph.closed x t there, whole.sized)))

    pub look_more : (new : Sight) → new ≡ see_all (record { seen = seen; todo = rest }) (row rows x) → IsSight rows start new
    look_more new new-is = sight_more rows start seen rest x new whole (sees_more new new-is)

    pub look_falls : (new : Sight) → new ≡ see_all (record { seen = seen; todo = rest }) (row rows x) → left new < left (record { seen = seen; todo = todo })
    look_falls new new-is = omega (arith, (sees_more new new-is).same, ap length is, length_push rest x)

-- ---- the nodes that are seen, in a list

pub nodes_rise : (seen : List Bool) → IsStrictlyIncreasing (seen_nodes seen)
nodes_rise seen = below_rise (is_seen seen) (length seen)

-- the list has exactly the nodes that are seen
pub nodes_seen : (seen : List Bool) (t : ℕ) → Contains (seen_nodes seen) t ↔ (is_seen seen t ≡ true)
nodes_seen seen t = (λ there. ((below_passes (is_seen seen) (length seen) t).0 there).1, λ is. (below_passes (is_seen seen) (length seen) t).1 (seen_below seen t is, is))
