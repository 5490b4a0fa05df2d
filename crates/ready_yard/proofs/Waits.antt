-- What tasks wait for, as turns come.
use Rattle.std.proofs.Common.{◌≡◌, ℕ, ◌+◌, ◌-◌, ◌<◌, ◌≤◌, List, [], ◌∷◌, ◌++◌, length, Bool, true, false, ◌&&◌, ◌||◌, not, cond, Some, refl, sym, ap, ◌∙◌, subst, arith, get_or, set, length-set, inl, inr, map, take, zero, suc}
use Rattle.std.specs.List.{list_all, count_by}
use Rattle.std.specs.Prelude.{nat_eq, nat_lt}
use Rattle.std.proofs.lemmas.Bool.{cases_eq, cases_lt, eq-eqb, ne_eqb, eqb-true, lt-ltb, le-ltb}
use Rattle.std.proofs.lemmas.List.{get_or-set_same, get_or-set_other, get_or_past, length-map}
use Rattle.std.proofs.Math.Bool.{or-true, or-false}
use Rattle.std.proofs.Math.Seq.{take-length}
use Rattle.cycle_walks.specs.Graph.{row}
use Rattle.dep_graph.specs.Needs.{Needs, needs_of}
use Rattle.dep_graph.specs.Waiting.{count_of, AreUsers}
use Rattle.dep_graph.proofs.Counts.{count_by-cons, count_by-push, one_if, none_if}
use Rattle.ready_yard.specs.declared.turn.Turn.{Turn}
use Rattle.ready_yard.specs.declared.turn.Turn.TheVariants.{Start, End}
use Rattle.ready_yard.specs.History.{started, ended, runs, is_ready, unmet}
use Rattle.ready_yard.specs.Kept.{IsSound, IsWaiting, IsMet, AreFirstReady}
use Rattle.ready_yard.specs.TaskBits.{has, IsPut, IsPutIf}
use Rattle.ready_yard.proofs.Turns.{true_is_not, started_start, ended_start, started_end, ended_end}

-- ---- counts of what hasn't passed a test

all_met_by : (b r : Bool) (c n : ℕ) → r ≡ nat_eq c 0 → n ≡ cond {A = ℕ} (not b) 1 0 + c → (b && r) ≡ nat_eq n 0
all_met_by true r c n is count = let same : c ≡ n = omega (arith, count) in is ∙ ap (λ m. nat_eq m 0) same
all_met_by false r c n is count = sym (ne_eqb n 0 (λ z. omega (arith, count, z)))

-- all pass where none is counted that doesn't
pub all_met : (e : ℕ → Bool) (xs : List ℕ) → list_all e xs ≡ nat_eq (count_by (λ k. not (e k)) xs) 0
all_met e [] = refl
all_met e (x ∷ xs) = all_met_by (e x) (list_all e xs) (count_by (λ k. not (e k)) xs) (count_by (λ k. not (e k)) (x ∷ xs)) (all_met e xs) (count_by-cons (λ k. not (e k)) x xs)

one_more : (f e b : Bool) → f ≡ (e || b) → (b ≡ true → e ≡ false) → cond {A = ℕ} (not f) 1 0 + cond {A = ℕ} b 1 0 ≡ cond {A = ℕ} (not e) 1 0
one_more f true true is off = absurd (true_is_not (off refl))
one_more f true false is off = rw is refl
one_more f false true is off = rw is refl
one_more f false false is off = rw is refl

-- where one more passes, it is counted no more, as often as it is listed
pub count_more : (e f : ℕ → Bool) (t : ℕ) → ((k : ℕ) → f k ≡ (e k || nat_eq t k)) → e t ≡ false → (xs : List ℕ) → count_by (λ k. not (f k)) xs + count_of t xs ≡ count_by (λ k. not (e k)) xs
count_more e f t more off [] = refl
count_more e f t more off (x ∷ xs) =
    let new = count_by-cons (λ k. not (f k)) x xs in
    let old = count_by-cons (λ k. not (e k)) x xs in
    let of = count_by-cons (nat_eq t) x xs in
    let one = one_more (f x) (e x) (nat_eq t x) (more x) (λ is. subst (λ k. e k ≡ false) (eqb-true t x is) off) in
    omega (arith, new, old, of, one, count_more e f t more off xs)

pub count_same : (e f : ℕ → Bool) → ((k : ℕ) → f k ≡ e k) → (xs : List ℕ) → count_by (λ k. not (f k)) xs ≡ count_by (λ k. not (e k)) xs
count_same e f same [] = refl
count_same e f same (x ∷ xs) =
    let new = count_by-cons (λ k. not (f k)) x xs in
    let old = count_by-cons (λ k. not (e k)) x xs in
    let one : cond {A = ℕ} (not (f x)) 1 0 ≡ cond (not (e x)) 1 0 = ap (λ b. cond {A = ℕ} (not b) 1 0) (same x) in
    omega (arith, new, old, one, count_same e f same xs)

all_counted : (xs : List ℕ) → count_by (λ k. not (ended [] k)) xs ≡ length xs
all_counted [] = refl
all_counted (x ∷ xs) = omega (arith, count_by-cons (λ k. not (ended [] k)) x xs, all_counted xs)

pub unmet_none : (g : Needs) (t : ℕ) → unmet g [] t ≡ length (needs_of g t)
unmet_none g t = all_counted (needs_of g t)

-- a task that is ready, by its count
pub ready_is : (g : Needs) (h : List Turn) (k : ℕ) → is_ready g h k ≡ (nat_lt k (length g) && (not (started h k) && nat_eq (unmet g h k) 0))
ready_is g h k = ap (λ b. nat_lt k (length g) && (not (started h k) && b)) (all_met (ended h) (needs_of g k))

-- ---- before the first turn

empty_past : (g : Needs) (k : ℕ) → length g ≤ k → needs_of g k ≡ []
empty_past g k past = get_or_past g k [] past

pub waiting_open : (g : Needs) (counts words : List ℕ) → length g ≤ 512 → length counts ≡ length g → ((t : ℕ) → get_or counts t 0 ≡ unmet g [] t) → AreFirstReady counts (length counts) words → IsWaiting g [] counts words
waiting_open g counts words few sized are first = record {
  few = few;
  sized = sized;
  counts_are = are;
  ready_are = λ t. first t ∙ ap (λ n. nat_lt t n && nat_eq (get_or counts t 0) 0) sized ∙ ap (λ n. nat_lt t (length g) && nat_eq n 0) (are t) ∙ sym (ready_is g [] t);
}

-- ---- after a start

and_false : (b : Bool) → (b && false) ≡ false
and_false true = refl
and_false false = refl

pub waiting_start : (g : Needs) (h : List Turn) (w t : ℕ) (counts words words_new : List ℕ) → IsWaiting g h counts words → IsPut words t false words_new → IsWaiting g (h ++ Start w t ∷ []) counts words_new
waiting_start g h w t counts words words_new was put =
    let next = h ++ Start w t ∷ [] in
    let same : (k : ℕ) → unmet g next k ≡ unmet g h k = λ k. count_same (ended h) (ended next) (λ j. ended_start h w t j) (needs_of g k) in
    record {
      few = was.few;
      sized = was.sized;
      counts_are = λ k. was.counts_are k ∙ sym (same k);
      ready_are = λ k. elim (cases_eq k t) [
        | inl here ↦
            let on : started next k ≡ true = started_start h w t k ∙ ap (λ b. started h k || b) (eq-eqb t k (sym here)) ∙ or-true (started h k) in
            subst (λ j. has words_new j ≡ false) (sym here) put.here ∙ sym (ready_is g next k ∙ ap (λ b. nat_lt k (length g) && (not b && nat_eq (unmet g next k) 0)) on ∙ and_false (nat_lt k (length g)))
        | inr apart ↦
            let off : started next k ≡ started h k = started_start h w t k ∙ ap (λ b. started h k || b) (ne_eqb t k (λ e. apart (sym e))) ∙ or-false (started h k) in
            put.others k apart ∙ was.ready_are k ∙ ready_is g h k
            ∙ ap (λ b. nat_lt k (length g) && (not b && nat_eq (unmet g h k) 0)) (sym off)
            ∙ ap (λ n. nat_lt k (length g) && (not (started next k) && nat_eq n 0)) (sym (same k))
            ∙ sym (ready_is g next k)
      ];
    }

-- ---- after an end

ready_by : (g : Needs) (h : List Turn) (k : ℕ) → k < length g → started h k ≡ false → is_ready g h k ≡ nat_eq (unmet g h k) 0
ready_by g h k lt off =
    ready_is g h k ∙ ap (λ b. b && (not (started h k) && nat_eq (unmet g h k) 0)) (lt-ltb k (length g) lt) ∙ ap (λ b. not b && nat_eq (unmet g h k) 0) off

not_started : (g : Needs) (n : ℕ) (h : List Turn) (k : ℕ) → IsSound g n h → 0 < unmet g h k → (b : Bool) → started h k ≡ b → b ≡ false
not_started g n h k s some true on =
    let none : unmet g h k ≡ 0 = eqb-true (unmet g h k) 0 (sym (all_met (ended h) (needs_of g k)) ∙ s.met k on) in
    absurd (omega (arith, some, none))
not_started g n h k s some false on = refl

module _ (g users : Needs) (n : ℕ) (h : List Turn) (w t : ℕ) (counts words new words_new : List ℕ) (s : IsSound g n h) (are : AreUsers g users) (mine : runs h w ≡ Some t)
    (was : IsWaiting g h counts words) (met : IsMet counts words (row users t) new words_new) where
  fewer_end : (k : ℕ) → unmet g (h ++ End w t ∷ []) k + count_of k (row users t) ≡ unmet g h k
  fewer_end k =
      let less = count_more (ended h) (ended (h ++ End w t ∷ [])) t (λ j. ended_end h w t j) (s.open_ w t mine).4 (needs_of g k) in
      omega (arith, are t k, less)

  counts_end : (k : ℕ) → get_or new k 0 ≡ unmet g (h ++ End w t ∷ []) k
  counts_end k = omega (arith, met.fewer k, was.counts_are k, fewer_end k)

  untouched_end : (k : ℕ) → count_of k (row users t) ≡ 0 → has words_new k ≡ is_ready g (h ++ End w t ∷ []) k
  untouched_end k none =
      let next = h ++ End w t ∷ [] in
      let same : unmet g h k ≡ unmet g next k = omega (arith, fewer_end k, none) in
      met.kept k (λ some _. omega (arith, some, none)) ∙ was.ready_are k ∙ ready_is g h k
      ∙ ap (λ c. nat_lt k (length g) && (not (started h k) && nat_eq c 0)) same
      ∙ ap (λ b. nat_lt k (length g) && (not b && nat_eq (unmet g next k) 0)) (sym (started_end h w t k))
      ∙ sym (ready_is g next k)

  inside_end : (k : ℕ) → 0 < count_of k (row users t) → k < length g
  inside_end k some = elim (cases_lt k (length g)) [
    | inl lt ↦ lt
    | inr past ↦
        let none : count_of t (needs_of g k) ≡ 0 = ap (count_of t) (empty_past g k past) in
        absurd (omega (arith, some, none, are t k))
  ]

  touched_end : (k : ℕ) → 0 < count_of k (row users t) → has words_new k ≡ is_ready g (h ++ End w t ∷ []) k
  touched_end k some =
      let next = h ++ End w t ∷ [] in
      let lt = inside_end k some in
      let open_needs : 0 < unmet g h k = omega (arith, fewer_end k, some) in
      let off : started h k ≡ false = not_started g n h k s open_needs (started h k) refl in
      let off_next : started next k ≡ false = started_end h w t k ∙ off in
      let now = ready_by g next k lt off_next in
      elim (cases_eq (unmet g next k) 0) [
        | inl none ↦ met.put k some (counts_end k ∙ none) ∙ sym (now ∙ eq-eqb (unmet g next k) 0 none)
        | inr rest ↦
            met.kept k (λ _ z. rest (sym (counts_end k) ∙ z)) ∙ was.ready_are k ∙ ready_by g h k lt off ∙ ne_eqb (unmet g h k) 0 (λ z. omega (arith, z, open_needs))
            ∙ sym (now ∙ ne_eqb (unmet g next k) 0 rest)
      ]

  pub waiting_end : IsWaiting g (h ++ End w t ∷ []) new words_new
  waiting_end = record {
    few = was.few;
    sized = met.sized ∙ was.sized;
    counts_are = counts_end;
    ready_are = λ k. elim (cases_eq (count_of k (row users t)) 0) [
      | inl none ↦ untouched_end k none
      | inr some ↦ touched_end k (omega (arith, some))
    ];
  }

-- ---- the users of a task that ended, one after another

pub met_none : (counts words : List ℕ) → IsMet counts words [] counts words
met_none counts words = record {
  sized = refl;
  fewer = λ t. omega arith;
  put = λ t some. absurd (omega (arith, some));
  kept = λ t off. refl;
}

module _ (counts words users new words_new : List ℕ) (u : ℕ) (words_next : List ℕ) (was : IsMet counts words users new words_new) (lt : u < length new)
    (putting : IsPutIf (get_or new u 0 - 1) words_new u words_next) where
  at_here : (k : ℕ) → k ≡ u → get_or (set new u (get_or new u 0 - 1)) k 0 ≡ get_or new u 0 - 1
  at_here k here = ap (λ j. get_or (set new u (get_or new u 0 - 1)) j 0) here ∙ get_or-set_same new u (get_or new u 0 - 1) 0 lt

  at_other : (k : ℕ) → (k ≡ u → ⊥) → get_or (set new u (get_or new u 0 - 1)) k 0 ≡ get_or new k 0
  at_other k apart = get_or-set_other new u k (get_or new u 0 - 1) 0 apart

  count_here : (k : ℕ) → k ≡ u → count_of k (users ++ u ∷ []) ≡ count_of k users + 1
  count_here k here = let one = one_if (nat_eq k u) (eq-eqb k u here) in omega (arith, count_by-push (nat_eq k) users u, one)

  count_other : (k : ℕ) → (k ≡ u → ⊥) → count_of k (users ++ u ∷ []) ≡ count_of k users
  count_other k apart = let none = none_if (nat_eq k u) (ne_eqb k u apart) in omega (arith, count_by-push (nat_eq k) users u, none)

  words_other : (k : ℕ) → (k ≡ u → ⊥) → has words_next k ≡ has words_new k
  words_other k apart = elim (cases_eq (get_or new u 0 - 1) 0) [
    | inl none ↦ (putting.put none).others k apart
    | inr some ↦ ap (λ ws. has ws k) (putting.kept some)
  ]

  pub met_more : IsMet counts words (users ++ u ∷ []) (set new u (get_or new u 0 - 1)) words_next
  met_more = record {
    sized = length-set new u (get_or new u 0 - 1) ∙ was.sized;
    fewer = λ k. elim (cases_eq k u) [
      | inl here ↦
          let old : get_or new u 0 ≡ get_or counts k 0 - count_of k users = ap (λ j. get_or new j 0) (sym here) ∙ was.fewer k in
          omega (arith, at_here k here, count_here k here, old)
      | inr apart ↦ omega (arith, at_other k apart, count_other k apart, was.fewer k)
    ];
    put = λ k some none. elim (cases_eq k u) [
      | inl here ↦ ap (has words_next) here ∙ (putting.put (sym (at_here k here) ∙ none)).here
      | inr apart ↦ words_other k apart ∙ was.put k (omega (arith, some, count_other k apart)) (sym (at_other k apart) ∙ none)
    ];
    kept = λ k off. elim (cases_eq k u) [
      | inl here ↦
          let rest : get_or new u 0 - 1 ≡ 0 → ⊥ = λ z. off (omega (arith, count_here k here)) (at_here k here ∙ z) in
          let old : get_or new k 0 ≡ 0 → ⊥ = λ z. rest (omega (arith, z, ap (λ j. get_or new j 0) here)) in
          ap (λ ws. has ws k) (putting.kept rest) ∙ was.kept k (λ some z. old z)
      | inr apart ↦ words_other k apart ∙ was.kept k (λ some z. off (omega (arith, some, count_other k apart)) (at_other k apart ∙ z))
    ];
  }

-- ---- what is counted before the first turn

pub lengths_at : (g : Needs) (t : ℕ) → get_or (map length g) t 0 ≡ length (get_or g t [])
lengths_at [] t = refl
lengths_at (x ∷ xs) zero = refl
lengths_at (x ∷ xs) (suc t) = lengths_at xs t

pub counted : (g : Needs) (counts : List ℕ) (n : ℕ) → counts ≡ map length (take n g) → n ≡ length g → counts ≡ map length g
counted g counts n is past = is ∙ ap (λ m. map length (take m g)) past ∙ ap (map length) (take-length g)

pub counted_length : (g : Needs) (counts : List ℕ) (n : ℕ) → counts ≡ map length (take n g) → n ≡ length g → length counts ≡ length g
counted_length g counts n is past = ap (λ xs. length xs) (counted g counts n is past) ∙ length-map g length

pub counted_at : (g : Needs) (counts : List ℕ) (n : ℕ) → counts ≡ map length (take n g) → n ≡ length g → (t : ℕ) → get_or counts t 0 ≡ unmet g [] t
counted_at g counts n is past t = ap (λ xs. get_or xs t 0) (counted g counts n is past) ∙ lengths_at g t ∙ sym (unmet_none g t)

pub first_none : (counts words : List ℕ) → ((t : ℕ) → has words t ≡ false) → AreFirstReady counts 0 words
first_none counts words none t = none t ∙ sym (ap (λ b. b && nat_eq (get_or counts t 0) 0) (le-ltb t 0 (omega arith)))

put_if_other : (n : ℕ) (words : List ℕ) (task : ℕ) (new : List ℕ) (t : ℕ) → IsPutIf n words task new → (t ≡ task → ⊥) → has new t ≡ has words t
put_if_other n words task new t put apart = elim (cases_eq n 0) [
  | inl none ↦ (put.put none).others t apart
  | inr some ↦ ap (λ ws. has ws t) (put.kept some)
]

put_if_here : (n : ℕ) (words : List ℕ) (task : ℕ) (new : List ℕ) → IsPutIf n words task new → has words task ≡ false → has new task ≡ nat_eq n 0
put_if_here n words task new put off = elim (cases_eq n 0) [
  | inl none ↦ (put.put none).here ∙ sym (eq-eqb n 0 none)
  | inr some ↦ ap (λ ws. has ws task) (put.kept some) ∙ off ∙ sym (ne_eqb n 0 some)
]

pub first_more : (counts words : List ℕ) (task n : ℕ) (new : List ℕ) → AreFirstReady counts task words → IsPutIf n words task new → n ≡ get_or counts task 0 → AreFirstReady counts (task + 1) new
first_more counts words task n new before put is t = elim (cases_eq t task) [
  | inl same ↦
      let off : has words task ≡ false = before task ∙ ap (λ b. b && nat_eq (get_or counts task 0) 0) (le-ltb task task (omega arith)) in
      let here : has new t ≡ nat_eq (get_or counts t 0) 0 = ap (has new) same ∙ put_if_here n words task new put off ∙ ap (λ m. nat_eq m 0) (is ∙ ap (λ j. get_or counts j 0) (sym same)) in
      here ∙ sym (ap (λ b. b && nat_eq (get_or counts t 0) 0) (lt-ltb t (task + 1) (omega (arith, same))))
  | inr apart ↦
      let test : nat_lt t task ≡ nat_lt t (task + 1) = elim (cases_lt t task) [
        | inl below ↦ lt-ltb t task below ∙ sym (lt-ltb t (task + 1) (omega (arith, below)))
        | inr past ↦ le-ltb t task past ∙ sym (le-ltb t (task + 1) (omega (arith, past, apart)))
      ] in
      put_if_other n words task new t put apart ∙ before t ∙ ap (λ b. b && nat_eq (get_or counts t 0) 0) test
]
