-- What tasks need, as needs are added to it.
use Rattle.std.proofs.Common.{ℕ, ◌≡◌, ◌≢◌, ◌+◌, ◌*◌, ◌<◌, ◌≤◌, ◌↔◌, ◌⊎◌, inl, inr, List, [], ◌∷◌, ◌++◌, length, get_or, take, refl, sym, ap, subst, ◌∙◌, Contains, Some, None, arith, slice_get}
use Rattle.std.proofs.lemmas.Bool.{cases_lt}
use Rattle.std.proofs.lemmas.List.{take_more}
use Rattle.std.proofs.lemmas.List.Elements.{Contains-append_cases, Contains-append_left, Contains-append_right, Contains-push_cases}
use Rattle.std.proofs.lemmas.Option.{slice_get_within}
use Rattle.dep_graph.specs.Needs.{Needs, needs_of, IsNeeds, IsAdded}
use Rattle.plan_rows.specs.declared.rows.Part.{Part}
use Rattle.plan_rows.specs.declared.rows.Part.TheVariants.{Prep, Make}
use Rattle.selection.specs.declared.listed.Listed.{Listed}
use Rattle.recipe_plan.specs.Needs.{AreAdded, AreNeeds, IsTaskOf, MakeNeeds, PrepNeeds, place_of, task_at}

-- ---- tasks of packages by names

no_member : (name : List ℕ) → Contains [] name → ⊥
no_member name (k, short, is) = omega arith

no_task : (chosen : List Listed) (part : Part) (task : ℕ) → IsTaskOf chosen part [] task → ⊥
no_task chosen part task (name, place, there, at, same) = no_member name there

pub IsTaskOf-append : (chosen : List Listed) (part : Part) (front back : List (List ℕ)) (task : ℕ) →
    IsTaskOf chosen part (front ++ back) task ↔ (IsTaskOf chosen part front task ⊎ IsTaskOf chosen part back task)
IsTaskOf-append chosen part front back task = (
  λ (name, place, there, at, same). elim (Contains-append_cases front back name there) [
    | inl before ↦ inl (name, place, before, at, same)
    | inr behind ↦ inr (name, place, behind, at, same)
  ],
  λ either. elim either [
    | inl (name, place, there, at, same) ↦ (name, place, Contains-append_left front back name there, at, same)
    | inr (name, place, there, at, same) ↦ (name, place, Contains-append_right front back name there, at, same)
  ],
)

is_one : (name other : List ℕ) → Contains (name ∷ []) other → name ≡ other
is_one name other there = elim (Contains-push_cases [] name other there) [ inl none ↦ absurd (no_member other none) | inr same ↦ same ]

-- one name, with its place and without
IsTaskOf-one : (chosen : List Listed) (part : Part) (name : List ℕ) (place task : ℕ) → place_of chosen name ≡ Some place →
    IsTaskOf chosen part (name ∷ []) task ↔ (task ≡ task_at part place)
IsTaskOf-one chosen part name place task is = (
  λ (other, found, there, at, same).
      let this : place_of chosen name ≡ place_of chosen other = ap (place_of chosen) (is_one name other there) in
      let here : found ≡ place = cc in
      same ∙ ap (task_at part) here,
  λ same. (name, place, (0, omega arith, refl), is, same),
)

IsTaskOf-unnamed : (chosen : List Listed) (part : Part) (name : List ℕ) (task : ℕ) → place_of chosen name ≡ None → IsTaskOf chosen part (name ∷ []) task → ⊥
IsTaskOf-unnamed chosen part name task is (other, found, there, at, same) =
    let this : place_of chosen name ≡ place_of chosen other = ap (place_of chosen) (is_one name other there) in cc

-- ---- what is added to the needs of a task

pub added_same : (old new : Needs) (task : ℕ) (P Q : ℕ → Type 0) → ((n : ℕ) → P n ↔ Q n) → AreAdded old task P new → AreAdded old task Q new
added_same old new task P Q same added = record {
  count = added.count;
  needs = λ other need. (
    λ there. elim ((added.needs other need).0 there) [ inl before ↦ inl before | inr (at, is) ↦ inr (at, (same need).0 is) ],
    λ either. (added.needs other need).1 (elim either [ inl before ↦ inl before | inr (at, is) ↦ inr (at, (same need).1 is) ]),
  );
}

pub added_one : (old mid new : Needs) (task on : ℕ) (P : ℕ → Type 0) → AreAdded old task P mid → IsAdded mid task on new → AreAdded old task (λ n. P n ⊎ (n ≡ on)) new
added_one old mid new task on P before one = record {
  count = one.count ∙ before.count;
  needs = λ other need. (
    λ there. elim ((one.needs other need).0 there) [
      | inl stays ↦ elim ((before.needs other need).0 stays) [ inl first ↦ inl first | inr (at, is) ↦ inr (at, inl is) ]
      | inr (at, is) ↦ inr (at, inr is)
    ],
    λ either. (one.needs other need).1 (elim either [
      | inl first ↦ inl ((before.needs other need).1 (inl first))
      | inr (at, now) ↦ elim now [ inl is ↦ inl ((before.needs other need).1 (inr (at, is))) | inr is ↦ inr (at, is) ]
    ]),
  );
}

-- ---- name by name

module _ (old mid : Needs) (task : ℕ) (chosen : List Listed) (part : Part) (names : List (List ℕ)) (i : ℕ) (name : List ℕ) (inside : i < length names) (is : get_or names i name ≡ name)
    (before : AreAdded old task (IsTaskOf chosen part (take i names)) mid) where
  more : take (i + 1) names ≡ take i names ++ name ∷ []
  more = take_more names i name inside ∙ ap (λ one. take i names ++ one ∷ []) is

  pub added_named : (new : Needs) (place : ℕ) → place_of chosen name ≡ Some place → IsAdded mid task (task_at part place) new → AreAdded old task (IsTaskOf chosen part (take (i + 1) names)) new
  added_named new place at one =
      subst (λ some. AreAdded old task (IsTaskOf chosen part some) new) (sym more)
      (added_same old new task (λ n. IsTaskOf chosen part (take i names) n ⊎ (n ≡ task_at part place)) (IsTaskOf chosen part (take i names ++ name ∷ []))
      (λ n. let both = IsTaskOf-append chosen part (take i names) (name ∷ []) n in
      let last = IsTaskOf-one chosen part name place n at in (
        λ either. both.1 (elim either [ inl there ↦ inl there | inr same ↦ inr (last.1 same) ]),
        λ there. elim (both.0 there) [ inl first ↦ inl first | inr one ↦ inr (last.0 one) ],
      ))
      (added_one old mid new task (task_at part place) (IsTaskOf chosen part (take i names)) before one))

  pub added_unnamed : place_of chosen name ≡ None → AreAdded old task (IsTaskOf chosen part (take (i + 1) names)) mid
  added_unnamed at =
      subst (λ some. AreAdded old task (IsTaskOf chosen part some) mid) (sym more)
      (added_same old mid task (IsTaskOf chosen part (take i names)) (IsTaskOf chosen part (take i names ++ name ∷ []))
      (λ n. let both = IsTaskOf-append chosen part (take i names) (name ∷ []) n in (
        λ there. both.1 (inl there),
        λ there. elim (both.0 there) [ inl first ↦ first | inr one ↦ absurd (IsTaskOf-unnamed chosen part name n at one) ],
      )) before)

-- ---- the two tasks of a package

-- what a task needs after one addition and another
grown : (old new : Needs) (task : ℕ) (P : ℕ → Type 0) → AreAdded old task P new → (need : ℕ) → Contains (needs_of new task) need ↔ (Contains (needs_of old task) need ⊎ P need)
grown old new task P added need = (
  λ there. elim ((added.needs task need).0 there) [ inl before ↦ inl before | inr (at, is) ↦ inr is ],
  λ either. (added.needs task need).1 (elim either [ inl before ↦ inl before | inr is ↦ inr (refl, is) ]),
)

kept : (old new : Needs) (task : ℕ) (P : ℕ → Type 0) → AreAdded old task P new → (other : ℕ) → other ≢ task → (need : ℕ) → Contains (needs_of new other) need ↔ Contains (needs_of old other) need
kept old new task P added other apart need = (
  λ there. elim ((added.needs other need).0 there) [ inl before ↦ before | inr (at, is) ↦ absurd (apart at) ],
  λ there. (added.needs other need).1 (inl there),
)

one_added : (old new : Needs) (task on : ℕ) → IsAdded old task on new → AreAdded old task (λ n. n ≡ on) new
one_added old new task on added = record { count = added.count; needs = added.needs }

-- the two tasks of a package have got its needs
pub record BothGrown (chosen : List Listed) (item : Listed) (place : ℕ) (old new : Needs) : Type 0 where
  pub prep : (need : ℕ) → Contains (needs_of new (task_at Prep place)) need ↔ (Contains (needs_of old (task_at Prep place)) need ⊎ PrepNeeds chosen item need)
  pub make : (need : ℕ) → Contains (needs_of new (task_at Make place)) need ↔ (Contains (needs_of old (task_at Make place)) need ⊎ MakeNeeds chosen (task_at Prep place) item need)
  pub others : (other : ℕ) → other ≢ task_at Prep place → other ≢ task_at Make place → (need : ℕ) → Contains (needs_of new other) need ↔ Contains (needs_of old other) need

module _ (g0 g1 g2 g3 g4 g5 : Needs) (chosen : List Listed) (item : Listed) (prep make : ℕ) (apart : prep ≢ make)
    (a1 : AreAdded g0 make (λ n. n ≡ prep) g1)
    (a2 : AreAdded g1 prep (IsTaskOf chosen Make item.extract) g2)
    (a3 : AreAdded g2 prep (IsTaskOf chosen Prep item.patch) g3)
    (a4 : AreAdded g3 make (IsTaskOf chosen Make item.depends) g4)
    (a5 : AreAdded g4 make (IsTaskOf chosen Make item.extract) g5) where
  prep_grown : (need : ℕ) → Contains (needs_of g5 prep) need ↔ (Contains (needs_of g0 prep) need ⊎ PrepNeeds chosen item need)
  prep_grown need =
      let k1 = kept g0 g1 make (λ n. n ≡ prep) a1 prep apart need in
      let k2 = grown g1 g2 prep (IsTaskOf chosen Make item.extract) a2 need in
      let k3 = grown g2 g3 prep (IsTaskOf chosen Prep item.patch) a3 need in
      let k4 = kept g3 g4 make (IsTaskOf chosen Make item.depends) a4 prep apart need in
      let k5 = kept g4 g5 make (IsTaskOf chosen Make item.extract) a5 prep apart need in (
        λ there. elim (k3.0 (k4.0 (k5.0 there))) [
          | inl before ↦ elim (k2.0 before) [ inl first ↦ inl (k1.0 first) | inr one ↦ inr (inl one) ]
          | inr two ↦ inr (inr two)
        ],
        λ either. k5.1 (k4.1 (k3.1 (elim either [
          | inl first ↦ inl (k2.1 (inl (k1.1 first)))
          | inr new ↦ elim new [ inl one ↦ inl (k2.1 (inr one)) | inr two ↦ inr two ]
        ]))),
      )

  make_grown : (need : ℕ) → Contains (needs_of g5 make) need ↔ (Contains (needs_of g0 make) need ⊎ MakeNeeds chosen prep item need)
  make_grown need =
      let back : make ≢ prep = λ e. apart (sym e) in
      let k1 = grown g0 g1 make (λ n. n ≡ prep) a1 need in
      let k2 = kept g1 g2 prep (IsTaskOf chosen Make item.extract) a2 make back need in
      let k3 = kept g2 g3 prep (IsTaskOf chosen Prep item.patch) a3 make back need in
      let k4 = grown g3 g4 make (IsTaskOf chosen Make item.depends) a4 need in
      let k5 = grown g4 g5 make (IsTaskOf chosen Make item.extract) a5 need in
      let names = IsTaskOf-append chosen Make item.depends item.extract need in (
        λ there. elim (k5.0 there) [
          | inl before ↦ elim (k4.0 before) [
            | inl early ↦ elim (k1.0 (k2.0 (k3.0 early))) [ inl first ↦ inl first | inr own ↦ inr (inl own) ]
            | inr one ↦ inr (inr (names.1 (inl one)))
          ]
          | inr two ↦ inr (inr (names.1 (inr two)))
        ],
        λ either. elim either [
          | inl first ↦ k5.1 (inl (k4.1 (inl (k3.1 (k2.1 (k1.1 (inl first)))))))
          | inr new ↦ elim new [
            | inl own ↦ k5.1 (inl (k4.1 (inl (k3.1 (k2.1 (k1.1 (inr own)))))))
            | inr some ↦ elim (names.0 some) [ inl one ↦ k5.1 (inl (k4.1 (inr one))) | inr two ↦ k5.1 (inr two) ]
          ]
        ],
      )

  others_kept : (other : ℕ) → other ≢ prep → other ≢ make → (need : ℕ) → Contains (needs_of g5 other) need ↔ Contains (needs_of g0 other) need
  others_kept other off_prep off_make need =
      let k1 = kept g0 g1 make (λ n. n ≡ prep) a1 other off_make need in
      let k2 = kept g1 g2 prep (IsTaskOf chosen Make item.extract) a2 other off_prep need in
      let k3 = kept g2 g3 prep (IsTaskOf chosen Prep item.patch) a3 other off_prep need in
      let k4 = kept g3 g4 make (IsTaskOf chosen Make item.depends) a4 other off_make need in
      let k5 = kept g4 g5 make (IsTaskOf chosen Make item.extract) a5 other off_make need in
      (λ there. k1.0 (k2.0 (k3.0 (k4.0 (k5.0 there)))), λ there. k5.1 (k4.1 (k3.1 (k2.1 (k1.1 there)))))

module _ (g0 g1 g2 g3 g4 g5 : Needs) (chosen : List Listed) (item : Listed) (place : ℕ) where
  pub both_grown : (prep make : ℕ) → prep ≡ task_at Prep place → make ≡ task_at Make place → IsAdded g0 make prep g1 → AreAdded g1 prep (IsTaskOf chosen Make item.extract) g2 →
      AreAdded g2 prep (IsTaskOf chosen Prep item.patch) g3 → AreAdded g3 make (IsTaskOf chosen Make item.depends) g4 → AreAdded g4 make (IsTaskOf chosen Make item.extract) g5 →
      BothGrown chosen item place g0 g5
  both_grown prep make is_prep is_make a1 a2 a3 a4 a5 =
      let apart : prep ≢ make = λ e. omega arith in
      let first = one_added g0 g1 make prep a1 in
      record {
        prep = subst (λ p. (need : ℕ) → Contains (needs_of g5 p) need ↔ (Contains (needs_of g0 p) need ⊎ PrepNeeds chosen item need)) is_prep
            (prep_grown g0 g1 g2 g3 g4 g5 chosen item prep make apart first a2 a3 a4 a5);
        make = subst (λ p. (need : ℕ) → Contains (needs_of g5 (task_at Make place)) need ↔ (Contains (needs_of g0 (task_at Make place)) need ⊎ MakeNeeds chosen p item need)) is_prep
            (subst (λ m. (need : ℕ) → Contains (needs_of g5 m) need ↔ (Contains (needs_of g0 m) need ⊎ MakeNeeds chosen prep item need)) is_make
            (make_grown g0 g1 g2 g3 g4 g5 chosen item prep make apart first a2 a3 a4 a5));
        others = λ other off_prep off_make. others_kept g0 g1 g2 g3 g4 g5 chosen item prep make apart first a2 a3 a4 a5 other (λ e. off_prep (e ∙ is_prep)) (λ e. off_make (e ∙ is_make));
      }

-- ---- package by package

-- the tasks of the packages before a place have their needs, and those from there on none
pub record AreNeedsSoFar (chosen : List Listed) (place : ℕ) (needs : Needs) : Type 0 where
  pub count : length needs ≡ 2 * length chosen
  pub prep : (at : ℕ) (item : Listed) → at < place → slice_get chosen at ≡ Some item →
      (need : ℕ) → Contains (needs_of needs (task_at Prep at)) need ↔ PrepNeeds chosen item need
  pub make : (at : ℕ) (item : Listed) → at < place → slice_get chosen at ≡ Some item →
      (need : ℕ) → Contains (needs_of needs (task_at Make at)) need ↔ MakeNeeds chosen (task_at Prep at) item need
  pub later : (task : ℕ) → 2 * place ≤ task → (need : ℕ) → Contains (needs_of needs task) need → ⊥

pub needs_next : (chosen : List Listed) (place : ℕ) (item : Listed) (old new : Needs) → slice_get chosen place ≡ Some item → AreNeedsSoFar chosen place old →
    length new ≡ length old →
    ((need : ℕ) → Contains (needs_of new (task_at Prep place)) need ↔ (Contains (needs_of old (task_at Prep place)) need ⊎ PrepNeeds chosen item need)) →
    ((need : ℕ) → Contains (needs_of new (task_at Make place)) need ↔ (Contains (needs_of old (task_at Make place)) need ⊎ MakeNeeds chosen (task_at Prep place) item need)) →
    ((other : ℕ) → other ≢ task_at Prep place → other ≢ task_at Make place → (need : ℕ) → Contains (needs_of new other) need ↔ Contains (needs_of old other) need) →
    AreNeedsSoFar chosen (place + 1) new
needs_next chosen place item old new here before sized prep make others = record {
  count = sized ∙ before.count;
  prep = λ at one below is need. elim (cases_lt at place) [
    | inl early ↦
        let same = others (task_at Prep at) (λ e. omega arith) (λ e. omega arith) need in
        let known = before.prep at one early is need in
        (λ there. known.0 (same.0 there), λ some. same.1 (known.1 some))
    | inr late ↦
        let now : at ≡ place = omega arith in
        let this : Some item ≡ Some one = sym here ∙ ap (slice_get chosen) (sym now) ∙ is in
        let own : item ≡ one = cc in
        subst (λ p. Contains (needs_of new (task_at Prep p)) need ↔ PrepNeeds chosen one need) (sym now) (subst (λ i. Contains (needs_of new (task_at Prep place)) need ↔ PrepNeeds chosen i need) own
        (λ there. elim ((prep need).0 there) [ inl first ↦ absurd (before.later (task_at Prep place) (omega arith) need first) | inr some ↦ some ], λ some. (prep need).1 (inr some)))
  ];
  make = λ at one below is need. elim (cases_lt at place) [
    | inl early ↦
        let same = others (task_at Make at) (λ e. omega arith) (λ e. omega arith) need in
        let known = before.make at one early is need in
        (λ there. known.0 (same.0 there), λ some. same.1 (known.1 some))
    | inr late ↦
        let now : at ≡ place = omega arith in
        let this : Some item ≡ Some one = sym here ∙ ap (slice_get chosen) (sym now) ∙ is in
        let own : item ≡ one = cc in
        subst (λ p. Contains (needs_of new (task_at Make p)) need ↔ MakeNeeds chosen (task_at Prep p) one need) (sym now)
        (subst (λ i. Contains (needs_of new (task_at Make place)) need ↔ MakeNeeds chosen (task_at Prep place) i need) own
        (λ there. elim ((make need).0 there) [ inl first ↦ absurd (before.later (task_at Make place) (omega arith) need first) | inr some ↦ some ], λ some. (make need).1 (inr some)))
  ];
  later = λ task from need there. before.later task (omega arith) need ((others task (λ e. omega arith) (λ e. omega arith) need).0 there);
}

pub needs_at_last : (chosen : List Listed) (place : ℕ) (needs : Needs) → length chosen ≤ place → IsNeeds needs → AreNeedsSoFar chosen place needs → AreNeeds chosen needs
needs_at_last chosen place needs end legal all = record {
  rising = legal;
  count = all.count;
  prep = λ at item is. all.prep at item (omega (arith, slice_get_within chosen at item is)) is;
  make = λ at item is. all.make at item (omega (arith, slice_get_within chosen at item is)) is;
}
