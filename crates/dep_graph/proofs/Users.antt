-- Graphs turned round: who needs each task.
use Rattle.std.proofs.Common.{ℕ, List, [], ◌∷◌, ◌++◌, ◌≡◌, ◌+◌, ◌<◌, length, set, refl, sym, ap, ◌∙◌, Bool, true, false, cond, inl, inr, arith, eqb, ltb, replicate, length-set}
use Rattle.std.proofs.lemmas.Bool.{cases_eq, cases_lt, eq-eqb, ne_eqb, lt-ltb, le-ltb}
use Rattle.std.proofs.lemmas.List.{get_or-set_same, get_or-set_other, get_or_past, get_or-replicate, length-replicate}
use Rattle.cycle_walks.specs.Graph.{Rows, row, is_in}
use Rattle.cycle_walks.proofs.Members.{is_in-here, is_in-kept}
use Rattle.dep_graph.specs.Needs.{Needs, needs_of}
use Rattle.dep_graph.specs.Waiting.{count_of, used_by, AreUsers}
use Rattle.dep_graph.proofs.Counts.{count_by-cons, count_by-push, one_if, none_if}

cond_none : (b : Bool) → cond {A = ℕ} b 0 0 ≡ 0
cond_none true = refl
cond_none false = refl

cond_add : (b : Bool) (m n : ℕ) → cond {A = ℕ} b m 0 + cond {A = ℕ} b n 0 ≡ cond {A = ℕ} b (m + n) 0
cond_add true m n = refl
cond_add false m n = omega arith

-- a task becomes a user of one that it needs
used_once : (users : Rows) (task x : ℕ) (t u : ℕ) → x < length users → count_of u (row (set users x (row users x ++ task ∷ [])) t) ≡ count_of u (row users t) + cond (eqb u task) (cond (eqb t x) 1 0) 0
used_once users task x t u inside =
    let new = row users x ++ task ∷ [] in
    elim (cases_eq t x) [
      | inl same ↦
          let at : row (set users x new) t ≡ new = ap (row (set users x new)) same ∙ get_or-set_same users x new [] inside in
          let grown : count_of u (row (set users x new) t) ≡ count_of u (row users x) + cond (eqb u task) 1 0 = ap (count_of u) at ∙ count_by-push (eqb u) (row users x) task in
          let was : count_of u (row users t) ≡ count_of u (row users x) = ap (λ v. count_of u (row users v)) same in
          let one : cond {A = ℕ} (eqb u task) (cond (eqb t x) 1 0) 0 ≡ cond (eqb u task) 1 0 = ap (λ n. cond {A = ℕ} (eqb u task) n 0) (one_if (eqb t x) (eq-eqb t x same)) in
          omega (arith, grown, was, one)
      | inr apart ↦
          let kept : count_of u (row (set users x new) t) ≡ count_of u (row users t) = ap (count_of u) (get_or-set_other users x t new [] apart) in
          let none : cond {A = ℕ} (eqb u task) (cond (eqb t x) 1 0) 0 ≡ 0 = ap (λ n. cond {A = ℕ} (eqb u task) n 0) (none_if (eqb t x) (ne_eqb t x apart)) ∙ cond_none (eqb u task) in
          omega (arith, kept, none)
    ]

pub length-used_by : (users : Rows) (task : ℕ) (needs : List ℕ) → length (used_by users task needs) ≡ length users
length-used_by users task [] = refl
length-used_by users task (x ∷ needs) = length-used_by (set users x (row users x ++ task ∷ [])) task needs ∙ length-set users x (row users x ++ task ∷ [])

-- a task becomes a user of all that it needs
pub count_of-used_by : (users : Rows) (task : ℕ) (needs : List ℕ) (t u : ℕ) → ((q : ℕ) → is_in needs q ≡ true → q < length users)
    → count_of u (row (used_by users task needs) t) ≡ count_of u (row users t) + cond (eqb u task) (count_of t needs) 0
count_of-used_by users task [] t u small =
    let none : cond {A = ℕ} (eqb u task) 0 0 ≡ 0 = cond_none (eqb u task) in
    omega (arith, none)
count_of-used_by users task (x ∷ needs) t u small =
    let inside = small x (is_in-here needs x) in
    let next = set users x (row users x ++ task ∷ []) in
    let rest = count_of-used_by next task needs t u (λ q there. omega (arith, length-set users x (row users x ++ task ∷ []), small q (is_in-kept needs x q there))) in
    let once = used_once users task x t u inside in
    let both = cond_add (eqb u task) (cond {A = ℕ} (eqb t x) 1 0) (count_of t needs) in
    let whole : cond {A = ℕ} (eqb u task) (count_of t (x ∷ needs)) 0 ≡ cond {A = ℕ} (eqb u task) (cond {A = ℕ} (eqb t x) 1 0 + count_of t needs) 0 = ap (λ n. cond {A = ℕ} (eqb u task) n 0) (count_by-cons (eqb t) x needs) in
    omega (arith, rest, once, both, whole)

-- ---- the users that tasks below a bound make

-- a task stands among the users of another as often as that stands among its needs, if it is below a bound, and else not
abbrev pub AreUsersBelow : Needs → ℕ → Needs → Type 0
AreUsersBelow needs bound users = (task user : ℕ) → count_of user (row users task) ≡ cond (ltb user bound) (count_of task (needs_of needs user)) 0

pub users_none : (needs : Needs) (count : ℕ) → AreUsersBelow needs 0 (replicate count [])
users_none needs count t u =
    let empty : row (replicate count []) t ≡ [] = elim (cases_lt t count) [
      | inl below ↦ get_or-replicate count t [] [] below
      | inr past ↦ get_or_past (replicate count []) t [] (omega (arith, length-replicate {A = List ℕ} count []))
    ] in
    ap (count_of u) empty ∙ sym (ap (λ b. cond {A = ℕ} b (count_of t (needs_of needs u)) 0) (le-ltb u 0 (omega arith)))

pub users_more : (needs users : Needs) (task : ℕ) → ((q : ℕ) → is_in (needs_of needs task) q ≡ true → q < length users) → AreUsersBelow needs task users → AreUsersBelow needs (task + 1) (used_by users task (needs_of needs task))
users_more needs users task small before t u =
    let new = count_of-used_by users task (needs_of needs task) t u small in
    let old = before t u in
    let count = count_of t (needs_of needs u) in
    elim (cases_eq u task) [
      | inl same ↦
          let now : cond {A = ℕ} (eqb u task) (count_of t (needs_of needs task)) 0 ≡ count = ap (λ b. cond {A = ℕ} b (count_of t (needs_of needs task)) 0) (eq-eqb u task same) ∙ ap (λ v. count_of t (needs_of needs v)) (sym same) in
          let was : cond {A = ℕ} (ltb u task) count 0 ≡ 0 = ap (λ b. cond {A = ℕ} b count 0) (le-ltb u task (omega arith)) in
          let goal : cond {A = ℕ} (ltb u (task + 1)) count 0 ≡ count = ap (λ b. cond {A = ℕ} b count 0) (lt-ltb u (task + 1) (omega arith)) in
          omega (arith, new, old, now, was, goal)
      | inr apart ↦
          let now : cond {A = ℕ} (eqb u task) (count_of t (needs_of needs task)) 0 ≡ 0 = ap (λ b. cond {A = ℕ} b (count_of t (needs_of needs task)) 0) (ne_eqb u task apart) in
          let test : ltb u (task + 1) ≡ ltb u task = elim (cases_lt u task) [
            | inl below ↦ lt-ltb u (task + 1) (omega arith) ∙ sym (lt-ltb u task below)
            | inr past ↦ le-ltb u (task + 1) (omega arith) ∙ sym (le-ltb u task past)
          ] in
          let kept : cond {A = ℕ} (ltb u (task + 1)) count 0 ≡ cond {A = ℕ} (ltb u task) count 0 = ap (λ b. cond {A = ℕ} b count 0) test in
          omega (arith, new, old, now, kept)
    ]

pub users_all : (needs users : Needs) → AreUsersBelow needs (length needs) users → AreUsers needs users
users_all needs users below t u =
    let count = count_of t (needs_of needs u) in
    elim (cases_lt u (length needs)) [
      | inl inside ↦ below t u ∙ ap (λ b. cond {A = ℕ} b count 0) (lt-ltb u (length needs) inside)
      | inr past ↦ below t u ∙ ap (λ b. cond {A = ℕ} b count 0) (le-ltb u (length needs) past) ∙ sym (ap (count_of t) (get_or_past needs u [] past))
    ]
