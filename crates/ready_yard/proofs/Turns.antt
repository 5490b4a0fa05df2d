-- How a turn changes what is known of a history.
use Rattle.std.proofs.Common.{◌≡◌, ℕ, ◌+◌, ◌*◌, ◌<◌, ◌≤◌, List, [], ◌∷◌, ◌++◌, length, Bool, true, false, ◌&&◌, ◌||◌, not, Option, Some, None, if◌then◌else◌, refl, sym, ap, ◌∙◌, subst, arith, get_or, set, append_assoc, append-nil, length-set, length-append, replicate, ◌⊎◌, inl, inr}
use Rattle.std.specs.Prelude.{nat_eq, nat_lt}
use Rattle.std.specs.List.{list_all, sum_by}
use Rattle.std.proofs.lemmas.Grind.{common_steps}
use Rattle.std.proofs.lemmas.Bool.Decides.{nat_tests}
use Rattle.std.proofs.lemmas.List.Folds.{list_any-append}
use Rattle.std.proofs.lemmas.List.Sums.{fold-append, sum_by-set, get_or-le-sum_by}
use Rattle.std.proofs.lemmas.List.{get_or-set_same, get_or-set_other, length-replicate}
use Rattle.std.proofs.lemmas.List.Folds.{sum_by-replicate}
use Rattle.std.proofs.lemmas.Bool.{eq-eqb, eqb-true, eqb-false, and_from}
use Rattle.std.proofs.Math.Bool.{or-true, or-false}
use Rattle.std.specs.Prelude.{unwrap_or}
use Rattle.ready_yard.specs.declared.turn.Turn.{Turn}
use Rattle.ready_yard.specs.declared.turn.Turn.TheVariants.{Start, End}
use Rattle.dep_graph.specs.Needs.{needs_of}
use Rattle.ready_yard.specs.History.{starts, ends, started, ended, runs, runs_after, is_ready, MayFollow, IsLegalFrom, IsLegal, NoneReady, NoneRuns}
use Rattle.ready_yard.specs.Kept.{IsSound, HasRoom, left}

pub started-push : (h : List Turn) (x : Turn) (t : ℕ) → started (h ++ x ∷ []) t ≡ (started h t || starts t x)
started-push h x t = rw (list_any-append (starts t) h (x ∷ [])) (elim (starts t x) as (λ b. (started h t || (b || false)) ≡ (started h t || b)) [ true ↦ refl | false ↦ refl ])

pub ended-push : (h : List Turn) (x : Turn) (t : ℕ) → ended (h ++ x ∷ []) t ≡ (ended h t || ends t x)
ended-push h x t = rw (list_any-append (ends t) h (x ∷ [])) (elim (ends t x) as (λ b. (ended h t || (b || false)) ≡ (ended h t || b)) [ true ↦ refl | false ↦ refl ])

pub runs-push : (h : List Turn) (x : Turn) (w : ℕ) → runs (h ++ x ∷ []) w ≡ runs_after w (runs h w) x
runs-push h x w = fold-append (runs_after w) None h (x ∷ [])

pub legal-push : (g : List (List ℕ)) (n : ℕ) (past xs : List Turn) (x : Turn) → IsLegalFrom g n past xs → MayFollow g n (past ++ xs) x → IsLegalFrom g n past (xs ++ x ∷ [])
legal-push g n past [] x ok may = (subst (λ p. MayFollow g n p x) (append-nil past) may, tt)
legal-push g n past (y ∷ ys) x ok may = (ok.0, legal-push g n (past ++ y ∷ []) ys x ok.1 (subst (λ p. MayFollow g n p x) (sym (append_assoc past (y ∷ []) ys)) may))

pub ready_parts : (g : List (List ℕ)) (h : List Turn) (t : ℕ) → is_ready g h t ≡ true → (t < length g) × (started h t ≡ false) × (list_all (ended h) (needs_of g t) ≡ true)
ready_parts g h t is = (grind (arith, nat_tests), grind (arith, nat_tests), grind (arith, nat_tests))

set_by : (xs : List Bool) (t k : ℕ) (b : Bool) → t < length xs → get_or xs k false ≡ b → (e : Bool) → nat_eq t k ≡ e → get_or (set xs t true) k false ≡ (b || e)
set_by xs t k b lt is true e = let same = eqb-true t k e in subst (λ j. get_or (set xs t true) j false ≡ (b || true)) same (get_or-set_same xs t true false lt ∙ sym (or-true b))
set_by xs t k b lt is false e = get_or-set_other xs t k true false (λ same. eqb-false t k e (sym same)) ∙ is ∙ sym (or-false b)

pub set_is : (xs : List Bool) (t k : ℕ) (b : Bool) → t < length xs → get_or xs k false ≡ b → get_or (set xs t true) k false ≡ (b || nat_eq t k)
set_is xs t k b lt is = set_by xs t k b lt is (nat_eq t k) refl

put_by : (xs : List (Option ℕ)) (w k : ℕ) (v r : Option ℕ) → w < length xs → get_or xs k None ≡ r → (e : Bool) → nat_eq w k ≡ e → get_or (set xs w v) k None ≡ (if e then v else r)
put_by xs w k v r lt is true e = let same = eqb-true w k e in subst (λ j. get_or (set xs w v) j None ≡ v) same (get_or-set_same xs w v None lt)
put_by xs w k v r lt is false e = get_or-set_other xs w k v None (λ same. eqb-false w k e (sym same)) ∙ is

pub put_is : (xs : List (Option ℕ)) (w k : ℕ) (v r : Option ℕ) → w < length xs → get_or xs k None ≡ r → get_or (set xs w v) k None ≡ (if nat_eq w k then v else r)
put_is xs w k v r lt is = put_by xs w k v r lt is (nat_eq w k) refl

pub room_first : (begun : List Bool) (t m n l : ℕ) → t < length begun → get_or begun t false ≡ false → l + (sum_by left begun + m) ≡ n → l < n
room_first begun t m n l lt is count =
    let one : left (get_or begun t false) ≡ 1 = ap left is in
    let some = get_or-le-sum_by left begun t false lt in
    omega arith

pub room_second : (over : List Bool) (t m n l : ℕ) → t < length over → get_or over t false ≡ false → l + (m + sum_by left over) ≡ n → l < n
room_second over t m n l lt is count =
    let one : left (get_or over t false) ≡ 1 = ap left is in
    let some = get_or-le-sum_by left over t false lt in
    omega arith

pub some_is : (x y : ℕ) → Some x ≡ Some y → x ≡ y
some_is x y e = ap (λ o. unwrap_or o 0) e

pub not_some : (x : ℕ) → None ≡ Some x → ⊥
not_some x e = cc

pub true_is_not : true ≡ false → ⊥
true_is_not e = cc

false_from : (a b : Bool) → (a ≡ true → b ≡ true) → b ≡ false → a ≡ false
false_from true b f off = absurd (true_is_not (sym (f refl) ∙ off))
false_from false b f off = refl

pub started_start : (h : List Turn) (w t k : ℕ) → started (h ++ Start w t ∷ []) k ≡ (started h k || nat_eq t k)
started_start h w t k = started-push h (Start w t) k

pub ended_start : (h : List Turn) (w t k : ℕ) → ended (h ++ Start w t ∷ []) k ≡ ended h k
ended_start h w t k = ended-push h (Start w t) k ∙ or-false (ended h k)

pub started_end : (h : List Turn) (w t k : ℕ) → started (h ++ End w t ∷ []) k ≡ started h k
started_end h w t k = started-push h (End w t) k ∙ or-false (started h k)

pub ended_end : (h : List Turn) (w t k : ℕ) → ended (h ++ End w t ∷ []) k ≡ (ended h k || nat_eq t k)
ended_end h w t k = ended-push h (End w t) k

all_kept_by : (a b p q : Bool) → (a ≡ true → b ≡ true) → (p ≡ true → q ≡ true) → (a && p) ≡ true → (b && q) ≡ true
all_kept_by true b p q f r is = and_from b q (f refl) (r is)
all_kept_by false b p q f r is = absurd (true_is_not (sym is))

-- a test that passes all still passes them where it passes no fewer
pub all_kept : (e f : ℕ → Bool) → ((k : ℕ) → e k ≡ true → f k ≡ true) → (xs : List ℕ) → list_all e xs ≡ true → list_all f xs ≡ true
all_kept e f more [] is = refl
all_kept e f more (x ∷ xs) is = all_kept_by (e x) (f x) (list_all e xs) (list_all f xs) (more x) (all_kept e f more xs) is

module _ (g : List (List ℕ)) (n : ℕ) (h : List Turn) (w t : ℕ) (s : IsSound g n h) where
  open_start : 1 ≤ w → w ≤ n → t < length g → started h t ≡ false → (u k : ℕ) (b : Bool) → nat_eq w u ≡ b → (if b then Some t else runs h u) ≡ Some k
      → (1 ≤ u) × (u ≤ n) × (k < length g) × ((started h k || nat_eq t k) ≡ true) × (ended h k ≡ false)
  open_start one le lt none u k true e is =
      let uw : w ≡ u = eqb-true w u e in
      let tk : t ≡ k = some_is t k is in
      let off : started h k ≡ false = ap (started h) (sym tk) ∙ none in (
        omega arith,
        omega arith,
        omega arith,
        ap (λ b. started h k || b) (eq-eqb t k tk) ∙ or-true (started h k),
        false_from (ended h k) (started h k) (s.begun k) off,
      )
  open_start one le lt none u k false e is =
      let old = s.open_ u k is in (old.0, old.1, old.2, ap (λ b. b || nat_eq t k) old.3, old.4)

  alone_start : started h t ≡ false → (u v k : ℕ) (a b : Bool) → nat_eq w u ≡ a → nat_eq w v ≡ b → (if a then Some t else runs h u) ≡ Some k → (if b then Some t else runs h v) ≡ Some k → u ≡ v
  alone_start none u v k true true ea eb ia ib = sym (eqb-true w u ea) ∙ eqb-true w v eb
  alone_start none u v k true false ea eb ia ib = absurd (true_is_not (sym (ap (started h) (some_is t k ia) ∙ (s.open_ v k ib).3) ∙ none))
  alone_start none u v k false true ea eb ia ib = absurd (true_is_not (sym (ap (started h) (some_is t k ib) ∙ (s.open_ u k ia).3) ∙ none))
  alone_start none u v k false false ea eb ia ib = s.alone u v k ia ib

  busy_old : runs h w ≡ None → (k u : ℕ) → runs h u ≡ Some k → (b : Bool) → nat_eq w u ≡ b → (if b then Some t else runs h u) ≡ Some k
  busy_old idle k u is true e = absurd (not_some k (sym idle ∙ ap (runs h) (eqb-true w u e) ∙ is))
  busy_old idle k u is false e = is

  busy_start : runs h w ≡ None → (k : ℕ) (b : Bool) → nat_eq t k ≡ b → (started h k || b) ≡ true → ended h k ≡ false → (u : ℕ) × ((if nat_eq w u then Some t else runs h u) ≡ Some k)
  busy_start idle k true e on off = (w, ap (λ b. if b then Some t else runs h w) (eq-eqb w w refl) ∙ ap (λ j. Some j) (eqb-true t k e))
  busy_start idle k false e on off =
      let old = s.busy k (sym (or-false (started h k)) ∙ on) off in (old.0, busy_old idle k old.0 old.1 (nat_eq w old.0) refl)

  begun_start : (k : ℕ) → ended h k ≡ true → (started h k || nat_eq t k) ≡ true
  begun_start k is = ap (λ b. b || nat_eq t k) (s.begun k is)

  met_start : list_all (ended h) (needs_of g t) ≡ true → (k : ℕ) (b : Bool) → nat_eq t k ≡ b → (started h k || b) ≡ true → list_all (ended h) (needs_of g k) ≡ true
  met_start all k true e on = subst (λ j. list_all (ended h) (needs_of g j) ≡ true) (eqb-true t k e) all
  met_start all k false e on = s.met k (sym (or-false (started h k)) ∙ on)

  pub sound_start : 1 ≤ w → w ≤ n → t < length g → started h t ≡ false → list_all (ended h) (needs_of g t) ≡ true → runs h w ≡ None → IsSound g n (h ++ Start w t ∷ [])
  sound_start one le lt none all idle = record {
    open_ = λ u k is. let p = open_start one le lt none u k (nat_eq w u) refl (sym (runs-push h (Start w t) u) ∙ is) in (p.0, p.1, p.2, started_start h w t k ∙ p.3, ended_start h w t k ∙ p.4);
    alone = λ u v k a b. alone_start none u v k (nat_eq w u) (nat_eq w v) refl refl (sym (runs-push h (Start w t) u) ∙ a) (sym (runs-push h (Start w t) v) ∙ b);
    busy = λ k on off. let p = busy_start idle k (nat_eq t k) refl (sym (started_start h w t k) ∙ on) (sym (ended_start h w t k) ∙ off) in (p.0, runs-push h (Start w t) p.0 ∙ p.1);
    begun = λ k is. started_start h w t k ∙ begun_start k (sym (ended_start h w t k) ∙ is);
    met = λ k on. all_kept (ended h) (ended (h ++ Start w t ∷ [])) (λ j is. ended_start h w t j ∙ is) (needs_of g k) (met_start all k (nat_eq t k) refl (sym (started_start h w t k) ∙ on));
  }

  open_end : runs h w ≡ Some t → (u k : ℕ) (a b : Bool) → nat_eq w u ≡ a → nat_eq t k ≡ b → (if a then None else runs h u) ≡ Some k
      → (1 ≤ u) × (u ≤ n) × (k < length g) × (started h k ≡ true) × ((ended h k || b) ≡ false)
  open_end mine u k true b ea eb is = absurd (not_some k is)
  open_end mine u k false true ea eb is = absurd (eqb-false w u ea (s.alone w u k (mine ∙ ap (λ j. Some j) (eqb-true t k eb)) is))
  open_end mine u k false false ea eb is =
      let old = s.open_ u k is in (old.0, old.1, old.2, old.3, or-false (ended h k) ∙ old.4)

  old_end : (u k : ℕ) (a : Bool) → (if a then None else runs h u) ≡ Some k → runs h u ≡ Some k
  old_end u k true is = absurd (not_some k is)
  old_end u k false is = is

  other_end : runs h w ≡ Some t → (k u : ℕ) → runs h u ≡ Some k → nat_eq t k ≡ false → (a : Bool) → nat_eq w u ≡ a → (if a then None else runs h u) ≡ Some k
  other_end mine k u is apart true e = absurd (eqb-false t k apart (some_is t k (sym mine ∙ ap (runs h) (eqb-true w u e) ∙ is)))
  other_end mine k u is apart false e = is

  busy_end : runs h w ≡ Some t → (k : ℕ) (b : Bool) → nat_eq t k ≡ b → started h k ≡ true → (ended h k || b) ≡ false → (u : ℕ) × ((if nat_eq w u then None else runs h u) ≡ Some k)
  busy_end mine k true e on off = absurd (true_is_not (sym (or-true (ended h k)) ∙ off))
  busy_end mine k false e on off =
      let old = s.busy k on (sym (or-false (ended h k)) ∙ off) in (old.0, other_end mine k old.0 old.1 e (nat_eq w old.0) refl)

  begun_end : runs h w ≡ Some t → (k : ℕ) (b : Bool) → nat_eq t k ≡ b → (ended h k || b) ≡ true → started h k ≡ true
  begun_end mine k true e is = ap (started h) (sym (eqb-true t k e)) ∙ (s.open_ w t mine).3
  begun_end mine k false e is = s.begun k (sym (or-false (ended h k)) ∙ is)

  pub sound_end : runs h w ≡ Some t → IsSound g n (h ++ End w t ∷ [])
  sound_end mine = record {
    open_ = λ u k is. let p = open_end mine u k (nat_eq w u) (nat_eq t k) refl refl (sym (runs-push h (End w t) u) ∙ is) in (p.0, p.1, p.2, started_end h w t k ∙ p.3, ended_end h w t k ∙ p.4);
    alone = λ u v k a b. s.alone u v k (old_end u k (nat_eq w u) (sym (runs-push h (End w t) u) ∙ a)) (old_end v k (nat_eq w v) (sym (runs-push h (End w t) v) ∙ b));
    busy = λ k on off. let p = busy_end mine k (nat_eq t k) refl (sym (started_end h w t k) ∙ on) (sym (ended_end h w t k) ∙ off) in (p.0, runs-push h (End w t) p.0 ∙ p.1);
    begun = λ k is. started_end h w t k ∙ begun_end mine k (nat_eq t k) refl (sym (ended_end h w t k) ∙ is);
    met = λ k on. all_kept (ended h) (ended (h ++ End w t ∷ [])) (λ j is. ended_end h w t j ∙ ap (λ b. b || nat_eq t j) is) (needs_of g k) (s.met k (sym (started_end h w t k) ∙ on));
  }

-- turns have room for a start of a task that never started, and after it
pub spare_start : (g : List (List ℕ)) (h : List Turn) (room t : ℕ) → HasRoom g h room → t < length g → started h t ≡ false → length h < room
spare_start g h room t y lt off =
    let less = room_first y.begun t _ _ _ (omega (arith, y.begun_len, lt)) (y.begun_is t ∙ off) y.count in
    omega (arith, less, y.space)

pub room_start : (g : List (List ℕ)) (h : List Turn) (room w t : ℕ) → HasRoom g h room → t < length g → started h t ≡ false → HasRoom g (h ++ Start w t ∷ []) room
room_start g h room w t y lt off =
    let inside : t < length y.begun = omega (arith, y.begun_len, lt) in
    let was : left (get_or y.begun t false) ≡ 1 = ap left (y.begun_is t ∙ off) in
    record {
      begun = set y.begun t true;
      over = y.over;
      begun_len = length-set y.begun t true ∙ y.begun_len;
      begun_is = λ k. set_is y.begun t k (started h k) inside (y.begun_is k) ∙ sym (started_start h w t k);
      over_len = y.over_len;
      over_is = λ k. y.over_is k ∙ sym (ended_start h w t k);
      count = omega (arith, y.count, length-append h (Start w t ∷ []), sum_by-set left y.begun t true false inside, was);
      space = y.space;
    }

-- and for its end
pub spare_end : (g : List (List ℕ)) (h : List Turn) (room t : ℕ) → HasRoom g h room → t < length g → ended h t ≡ false → length h < room
spare_end g h room t y lt off =
    let less = room_second y.over t _ _ _ (omega (arith, y.over_len, lt)) (y.over_is t ∙ off) y.count in
    omega (arith, less, y.space)

pub room_end : (g : List (List ℕ)) (h : List Turn) (room w t : ℕ) → HasRoom g h room → t < length g → ended h t ≡ false → HasRoom g (h ++ End w t ∷ []) room
room_end g h room w t y lt off =
    let inside : t < length y.over = omega (arith, y.over_len, lt) in
    let was : left (get_or y.over t false) ≡ 1 = ap left (y.over_is t ∙ off) in
    record {
      begun = y.begun;
      over = set y.over t true;
      begun_len = y.begun_len;
      begun_is = λ k. y.begun_is k ∙ sym (started_end h w t k);
      over_len = length-set y.over t true ∙ y.over_len;
      over_is = λ k. set_is y.over t k (ended h k) inside (y.over_is k) ∙ sym (ended_end h w t k);
      count = omega (arith, y.count, length-append h (End w t ∷ []), sum_by-set left y.over t true false inside, was);
      space = y.space;
    }

pub sound_open : (g : List (List ℕ)) (n : ℕ) → IsSound g n []
sound_open g n = record {
  open_ = λ u k is. absurd (not_some k is);
  alone = λ u v k a b. absurd (not_some k a);
  begun = λ k is. absurd (true_is_not (sym is));
  busy = λ k on off. absurd (true_is_not (sym on));
  met = λ k on. absurd (true_is_not (sym on));
}

pub blank : {X : Type 0} (n k : ℕ) (x : X) → get_or (replicate n x) k x ≡ x
blank n k x = grind (arith, common_steps)

pub room_open : (g : List (List ℕ)) (room : ℕ) → 2 * length g ≤ room → HasRoom g [] room
room_open g room space = record {
  begun = replicate (length g) false;
  over = replicate (length g) false;
  begun_len = length-replicate (length g) false;
  begun_is = λ k. blank (length g) k false;
  over_len = length-replicate (length g) false;
  over_is = λ k. blank (length g) k false;
  count = let s = sum_by-replicate left (length g) false in omega arith;
  space = space;
}

turn_sound : (g : List (List ℕ)) (n : ℕ) (h : List Turn) (x : Turn) → IsSound g n h → MayFollow g n h x → IsSound g n (h ++ x ∷ [])
turn_sound g n h (Start w t) s may = let parts = ready_parts g h t may.3.ready in sound_start g n h w t s may.0 may.1 parts.0 parts.1 parts.2 may.2
turn_sound g n h (End w t) s may = sound_end g n h w t s may

sound_from : (g : List (List ℕ)) (n : ℕ) (past xs : List Turn) → IsSound g n past → IsLegalFrom g n past xs → IsSound g n (past ++ xs)
sound_from g n past [] s legal = subst (IsSound g n) (sym (append-nil past)) s
sound_from g n past (x ∷ xs) s legal = subst (IsSound g n) (append_assoc past (x ∷ []) xs) (sound_from g n (past ++ x ∷ []) xs (turn_sound g n past x s legal.0) legal.1)

-- what a legal history keeps
pub sound_of : (g : List (List ℕ)) (n : ℕ) (h : List Turn) → IsLegal g n h → IsSound g n h
sound_of g n h legal = sound_from g n [] h (sound_open g n) legal

not_ready : (b s e : Bool) → b ≡ true → e ≡ true → (b && (not s && e)) ≡ false → s ≡ true
not_ready b true e x y z = refl
not_ready b false e x y z = absurd (true_is_not (sym (rw (x, y) refl) ∙ z))

by_end : (h : List Turn) (t : ℕ) → NoneRuns h → (e : Bool) → ended h t ≡ e → (e ≡ false → (w : ℕ) × (runs h w ≡ Some t)) → ended h t ≡ true
by_end h t idle true is f = is
by_end h t idle false is f = let p = f refl in absurd (not_some t (sym (idle p.0) ∙ p.1))

below_is : (t n : ℕ) → t < n → nat_lt t n ≡ true
below_is t n lt = grind (arith, nat_tests)

-- a task whose needs have ended has ended, where none is ready and none runs
pub ended_of : (g : List (List ℕ)) (n : ℕ) (h : List Turn) → IsLegal g n h → NoneReady g h → NoneRuns h → (t : ℕ) → t < length g → list_all (ended h) (needs_of g t) ≡ true → ended h t ≡ true
ended_of g n h legal ready idle t lt needs =
    let s = sound_of g n h legal in
    let began : started h t ≡ true = not_ready (nat_lt t (length g)) (started h t) (list_all (ended h) (needs_of g t)) (below_is t (length g) lt) needs (ready t) in
    by_end h t idle (ended h t) refl (λ off. s.busy t began off)

idle_by : (b : Bool) (t : ℕ) (r : Option ℕ) → r ≡ None → (if b then None else (if b then Some t else r)) ≡ None
idle_by true t r e = refl
idle_by false t r e = e

-- a worker that starts a task and ends it runs nothing, nor does any other
pub idle_after : (h : List Turn) (w t : ℕ) → NoneRuns h → NoneRuns ((h ++ Start w t ∷ []) ++ End w t ∷ [])
idle_after h w t idle v =
    runs-push (h ++ Start w t ∷ []) (End w t) v ∙ ap (λ r. if nat_eq w v then None else r) (runs-push h (Start w t) v) ∙ idle_by (nat_eq w v) t (runs h v) (idle v)

both_none : (b : Bool) → let none : Option ℕ = None in (if b then none else none) ≡ none
both_none true = refl
both_none false = refl

pub runs_started : (h : List Turn) (w t : ℕ) → runs (h ++ Start w t ∷ []) w ≡ Some t
runs_started h w t = runs-push h (Start w t) w ∙ ap (λ b. if b then Some t else runs h w) (eq-eqb w w refl)

-- after a worker ended its task it runs nothing, and the others run what they ran
pub runs_ended : (h : List Turn) (w t v : ℕ) → runs h v ≡ None ⊎ (w ≡ v) → runs (h ++ End w t ∷ []) v ≡ None
runs_ended h w t v (inl e) = runs-push h (End w t) v ∙ ap (λ r. if nat_eq w v then None else r) e ∙ both_none (nat_eq w v)
runs_ended h w t v (inr e) = runs-push h (End w t) v ∙ ap (λ b. if b then None else runs h v) (eq-eqb w v e)
