-- Which packages depend on which, from what their tasks need.
use Rattle.std.proofs.Common.{ℕ, ◌≡◌, ◌≢◌, ◌+◌, ◌*◌, ◌/◌, ◌%◌, ◌<◌, ◌≤◌, ◌↔◌, ◌⊎◌, inl, inr, Bool, true, false, ◌&&◌, ◌||◌, not, cond, eqb, List, [], ◌∷◌, ◌++◌, length, get_or, take, map, refl, sym, ap, subst, ◌∙◌, Contains, arith}
use Rattle.std.specs.List.{All, filter, list_any}
use Rattle.std.specs.List.Sorted.{IsStrictlyIncreasing}
use Rattle.std.proofs.lemmas.Bool.{false≢true, cases_eq, cases_Bool, and_parts, and_from, not-true, eqb-true, eq-eqb, ne_eqb}
use Rattle.std.proofs.lemmas.List.{take_more, get_or-map, length-map, get_or_default}
use Rattle.std.proofs.lemmas.List.Elements.{All-contains_itself, All-weaker, Contains-push_cases, Contains-append_cases, Contains-append_left, Contains-append_right, Contains-push}
use Rattle.std.proofs.lemmas.List.Folds.{list_any_at}
use Rattle.std.proofs.lemmas.List.Kept.{IsStrictlyIncreasing-filter}
use Rattle.std.proofs.lemmas.Map.Views.{any-filter_same}
use Rattle.std.proofs.lemmas.Option.{slice_get_cases, slice_get_within}
use Rattle.cycle_walks.specs.Graph.{is_in, names}
use Rattle.cycle_walks.specs.Walks.{IsWalk, Reaches}
use Rattle.cycle_walks.proofs.Members.{is_in-from, Contains-from}
use Rattle.dep_graph.specs.Needs.{Needs, needs_of, IsNeeds, IsAdded}
use Rattle.dep_graph.proofs.Additions.{user_below}
use Rattle.plan_rows.specs.declared.rows.Part.TheVariants.{Prep, Make}
use Rattle.plan_rows.specs.Plan.{Planned, IsTask, IsPlan, part_of}
use Rattle.recipe_plan.specs.Needs.{AreAdded, task_at}
use Rattle.recipe_plan.specs.Packages.{ArePackages, depends_on, place_of_task}
use Rattle.recipe_plan.proofs.NeedLaws.{added_one, added_same}

-- ---- members of lists of numbers

any_member : (p : ℕ → Bool) (xs : List ℕ) (x : ℕ) → Contains xs x → p x ≡ true → list_any p xs ≡ true
any_member p xs x (k, short, is) passes = list_any_at p xs k x short (ap p is ∙ passes)

member_any : (p : ℕ → Bool) (xs : List ℕ) → list_any p xs ≡ true → (x : ℕ) × Contains xs x × (p x ≡ true)
member_any p [] there = absurd (false≢true there)
member_any p (x ∷ xs) there = elim (cases_Bool (p x)) [
  | inl passes ↦ (x, (0, omega arith, refl), passes)
  | inr fails ↦
      let rest : list_any p xs ≡ true = sym (ap (λ b. b || list_any p xs) fails) ∙ there in
      let (y, inside, passes) = member_any p xs rest in
      (y, Contains-append_right (x ∷ []) xs y inside, passes)
]

-- ---- what the package of a task is put to need

-- a package that isn't a task's own is that of one of these tasks
abbrev pub IsOther : ℕ → List ℕ → ℕ → Type 0
IsOther task needs other = (need : ℕ) × Contains needs need × (place_of_task need ≡ other) × (other ≢ place_of_task task)

module _ (old mid : Needs) (task : ℕ) (needs : List ℕ) (i need : ℕ) (inside : i < length needs) (is : get_or needs i need ≡ need)
    (before : AreAdded old (place_of_task task) (IsOther task (take i needs)) mid) where
  more : take (i + 1) needs ≡ take i needs ++ need ∷ []
  more = take_more needs i need inside ∙ ap (λ one. take i needs ++ one ∷ []) is

  kept_other : (other : ℕ) → IsOther task (take i needs) other → IsOther task (take i needs ++ need ∷ []) other
  kept_other other (one, there, same, apart) = (one, Contains-append_left (take i needs) (need ∷ []) one there, same, apart)

  pub added_other : (new : Needs) → place_of_task need ≢ place_of_task task → IsAdded mid (place_of_task task) (place_of_task need) new →
      AreAdded old (place_of_task task) (IsOther task (take (i + 1) needs)) new
  added_other new apart one =
      subst (λ some. AreAdded old (place_of_task task) (IsOther task some) new) (sym more)
      (added_same old new (place_of_task task) (λ n. IsOther task (take i needs) n ⊎ (n ≡ place_of_task need)) (IsOther task (take i needs ++ need ∷ []))
      (λ n. (
        λ either. elim either [
          | inl first ↦ kept_other n first
          | inr same ↦ (need, Contains-push (take i needs) need, sym same, λ e. apart (sym same ∙ e))
        ],
        λ (one, there, same, off). elim (Contains-push_cases (take i needs) need one there) [
          | inl first ↦ inl (one, first, same, off)
          | inr last ↦ inr (sym same ∙ ap place_of_task (sym last))
        ],
      ))
      (added_one old mid new (place_of_task task) (place_of_task need) (IsOther task (take i needs)) before one))

  pub added_own : place_of_task need ≡ place_of_task task → AreAdded old (place_of_task task) (IsOther task (take (i + 1) needs)) mid
  added_own own =
      subst (λ some. AreAdded old (place_of_task task) (IsOther task some) mid) (sym more)
      (added_same old mid (place_of_task task) (IsOther task (take i needs)) (IsOther task (take i needs ++ need ∷ []))
      (λ n. (
        kept_other n,
        λ (one, there, same, off). elim (Contains-push_cases (take i needs) need one there) [
          | inl first ↦ (one, first, same, off)
          | inr last ↦ absurd (off (sym same ∙ ap place_of_task (sym last) ∙ own))
        ],
      )) before)

-- ---- task by task

-- a package depends on another by a task below a bound
abbrev pub DependsBelow : Needs → ℕ → ℕ → ℕ → Type 0
DependsBelow needs bound place other = (task : ℕ) × (task < bound) × (place_of_task task ≡ place) × IsOther task (needs_of needs task) other

-- a graph of packages has what the tasks below a bound need
pub record HasPackages (needs : Needs) (bound size : ℕ) (graph : Needs) : Type 0 where
  pub count : length graph ≡ size
  pub named : (place other : ℕ) → Contains (needs_of graph place) other ↔ DependsBelow needs bound place other

pub packages_next : (needs : Needs) (task count : ℕ) (old new : Needs) → HasPackages needs task count old → AreAdded old (place_of_task task) (IsOther task (needs_of needs task)) new →
    HasPackages needs (task + 1) count new
packages_next needs task count old new before added = record {
  count = added.count ∙ before.count;
  named = λ place other. (
    λ there. elim ((added.needs place other).0 there) [
      | inl first ↦ let (one, below, at, is) = (before.named place other).0 first in (one, omega arith, at, is)
      | inr (at, is) ↦ (task, omega arith, sym at, is)
    ],
    λ (one, below, at, is). (added.needs place other).1 (elim (cases_eq one task) [
      | inl same ↦ inr (sym at ∙ ap place_of_task same, subst (λ t. IsOther t (needs_of needs t) other) same is)
      | inr apart ↦ inl ((before.named place other).1 (one, omega arith, at, is))
    ]),
  );
}

-- ---- all tasks

same_Bool : (a b : Bool) → (a ≡ true → b ≡ true) → (b ≡ true → a ≡ true) → a ≡ b
same_Bool true b one other = sym (one refl)
same_Bool false true one other = other refl
same_Bool false false one other = refl

-- what a package depends on, as a proposition
abbrev DependsOn : Needs → ℕ → ℕ → Type 0
DependsOn needs place other = (other ≢ place) × ((need : ℕ) × Contains (needs_of needs (task_at Prep place) ++ needs_of needs (task_at Make place)) need × (place_of_task need ≡ other))

depends_from : (needs : Needs) (place other : ℕ) → DependsOn needs place other → depends_on needs place other ≡ true
depends_from needs place other (apart, (need, there, is)) =
    let all = needs_of needs (task_at Prep place) ++ needs_of needs (task_at Make place) in
    and_from (not (eqb other place)) (list_any (λ need. eqb (place_of_task need) other) all) (ap not (ne_eqb other place apart))
    (any_member (λ need. eqb (place_of_task need) other) all need there (eq-eqb (place_of_task need) other is))

depends_parts : (needs : Needs) (place other : ℕ) → depends_on needs place other ≡ true → DependsOn needs place other
depends_parts needs place other is =
    let all = needs_of needs (task_at Prep place) ++ needs_of needs (task_at Make place) in
    let parts = and_parts (not (eqb other place)) (list_any (λ need. eqb (place_of_task need) other) all) is in
    let (need, there, passes) = member_any (λ need. eqb (place_of_task need) other) all parts.1 in
    (λ same. false≢true (sym (not-true (eqb other place) parts.0) ∙ eq-eqb other place same), (need, there, eqb-true (place_of_task need) other passes))

below_from : (needs : Needs) (bound place other : ℕ) → length needs ≤ bound → DependsOn needs place other → DependsBelow needs bound place other
below_from needs bound place other all (apart, (need, there, is)) =
    elim (Contains-append_cases (needs_of needs (task_at Prep place)) (needs_of needs (task_at Make place)) need there) [
      | inl prep ↦
          let below = user_below needs (task_at Prep place) need (is_in-from (needs_of needs (task_at Prep place)) need prep) in
          let own : place_of_task (task_at Prep place) ≡ place = omega arith in
          (task_at Prep place, omega arith, own, (need, prep, is, λ e. apart (e ∙ own)))
      | inr make ↦
          let below = user_below needs (task_at Make place) need (is_in-from (needs_of needs (task_at Make place)) need make) in
          let own : place_of_task (task_at Make place) ≡ place = omega arith in
          (task_at Make place, omega arith, own, (need, make, is, λ e. apart (e ∙ own)))
    ]

from_below : (needs : Needs) (bound place other : ℕ) → DependsBelow needs bound place other → DependsOn needs place other
from_below needs bound place other (task, below, at, (need, there, is, apart)) =
    let prep = needs_of needs (task_at Prep place) in
    let make = needs_of needs (task_at Make place) in (
      λ same. apart (same ∙ sym at),
      (
        need,
        elim (cases_eq task (task_at Prep place)) [
          | inl same ↦ Contains-append_left prep make need (subst (λ t. Contains (needs_of needs t) need) same there)
          | inr other_one ↦
              let same : task ≡ task_at Make place = omega arith in
              Contains-append_right prep make need (subst (λ t. Contains (needs_of needs t) need) same there)
        ],
        is,
      ),
    )

pub packages_at_last : (needs : Needs) (bound count : ℕ) (graph : Needs) → length needs ≤ bound → HasPackages needs bound count graph → (place other : ℕ) → names graph place other ≡ depends_on needs place other
packages_at_last needs bound count graph all has place other =
    same_Bool (names graph place other) (depends_on needs place other)
    (λ there. depends_from needs place other (from_below needs bound place other ((has.named place other).0 (Contains-from (needs_of graph place) other there))))
    (λ is. is_in-from (needs_of graph place) other ((has.named place other).1 (below_from needs bound place other all (depends_parts needs place other is))))

-- ---- the rows of a plan

part_at : (task : ℕ) → task % 2 ≡ 0 → part_of task ≡ Prep
part_at task even = ap (λ k. cond (eqb k 0) Prep Make) even

-- an even number below that of the rows is that of a prep
pub prep_at : (plan : Planned) (place : ℕ) → IsPlan plan → task_at Prep place < length plan.rows → IsTask plan Prep (task_at Prep place)
prep_at plan place legal below =
    elim (slice_get_cases plan.rows (task_at Prep place)).1 [
      | inl (row, inside, at, read) ↦ (row, at, (legal.rows (task_at Prep place) row at).part ∙ part_at (task_at Prep place) (omega arith))
      | inr (past, none) ↦ absurd (omega arith)
    ]

-- rows come in pairs
pub rows_even : (plan : Planned) → IsPlan plan → length plan.rows % 2 ≡ 0
rows_even plan legal =
    let count = length plan.rows in
    elim (cases_eq (count % 2) 0) [
      | inl even ↦ even
      | inr odd ↦
          let place = count / 2 in
          let last : task_at Prep place + 1 ≡ count = omega arith in
          let (row, at, is) = prep_at plan place legal (omega arith) in
          let (make, behind, same) = legal.pairs (task_at Prep place) row at is in
          let below = slice_get_within plan.rows (task_at Prep place + 1) make behind in
          absurd (omega arith)
    ]

-- half as many packages as rows
pub rows_halved : (plan : Planned) (graph : Needs) (count : ℕ) → IsPlan plan → count ≡ length plan.rows → length graph ≡ count / 2 → 2 * length graph ≡ length plan.rows
rows_halved plan graph count legal all half = omega (arith, rows_even plan legal)

-- ---- walks

same_walk : (one other : ℕ → ℕ → Bool) → ((node next : ℕ) → one node next ≡ other node next) → (node : ℕ) (walk : List ℕ) → IsWalk one node walk → IsWalk other node walk
same_walk one other same node [] steps = tt
same_walk one other same node (next ∷ rest) (step, steps) = (sym (same node next) ∙ step, same_walk one other same next rest steps)

-- what is reached is named by something
reached_named : (one : ℕ → ℕ → Bool) (node end : ℕ) (between : List ℕ) → IsWalk one node (between ++ end ∷ []) → (last : ℕ) × (one last end ≡ true)
reached_named one node end [] (step, steps) = (node, step)
reached_named one node end (next ∷ rest) (step, steps) = reached_named one next end rest steps

-- ---- prep tasks of places

-- the prep tasks of the packages at places, except for one
abbrev pub preps_of : ℕ → List ℕ → List ℕ
preps_of own places = map (λ place. 2 * place) (filter (λ place. not (eqb (2 * place) own)) places)

pub preps_rise : (own : ℕ) (places : List ℕ) → IsStrictlyIncreasing places → IsStrictlyIncreasing (preps_of own places)
preps_rise own places rises k short =
    let kept = filter (λ place. not (eqb (2 * place) own)) places in
    let long : k + 1 < length kept = omega (arith, length-map kept (λ (place : ℕ). 2 * place)) in
    let up = IsStrictlyIncreasing-filter (λ place. not (eqb (2 * place) own)) places rises k long in
    omega (arith, get_or-map (λ (place : ℕ). 2 * place) kept k 0 0 (omega arith), get_or-map (λ (place : ℕ). 2 * place) kept (k + 1) 0 0 long)

is_in-filter : (p : ℕ → Bool) (xs : List ℕ) (t : ℕ) → is_in (filter p xs) t ≡ (p t && is_in xs t)
is_in-filter p xs t = any-filter_same (eqb t) p (p t) (λ k same. ap p (sym (eqb-true t k same))) xs

pub preps_are : (own : ℕ) (places : List ℕ) (task : ℕ) → Contains (preps_of own places) task ↔ ((place : ℕ) × Contains places place × (task ≡ task_at Prep place) × (task ≢ own))
preps_are own places task =
    let passes = λ (place : ℕ). not (eqb (2 * place) own) in
    let twice = λ (place : ℕ). 2 * place in
    let kept = filter passes places in (
      λ (k, short, is).
          let inside : k < length kept = omega (arith, length-map kept twice) in
          let place = get_or kept k 0 in
          let same : task ≡ task_at Prep place = sym is ∙ get_or-map twice kept k 0 task inside in
          let there = is_in-from kept place (k, inside, get_or_default kept k place 0 inside) in
          let parts = and_parts (passes place) (is_in places place) (sym (is_in-filter passes places place) ∙ there) in
          (place, Contains-from places place parts.1, same, λ e. false≢true (sym (not-true (eqb (2 * place) own) parts.0) ∙ eq-eqb (2 * place) own (sym same ∙ e))),
      λ (place, there, same, apart).
          let fails : eqb (2 * place) own ≡ false = ne_eqb (2 * place) own (λ e. apart (same ∙ e)) in
          let (k, inside, is) = Contains-from kept place (is_in-filter passes places place ∙ and_from (passes place) (is_in places place) (ap not fails) (is_in-from places place there)) in
          (k, omega (arith, length-map kept twice), get_or-map twice kept k place task inside ∙ ap twice is ∙ sym same),
    )

-- tasks are the prep tasks of the packages at places, except for one
abbrev pub ArePreps : ℕ → List ℕ → List ℕ → Type 0
ArePreps own places tasks = (task : ℕ) → Contains tasks task ↔ ((place : ℕ) × Contains places place × (task ≡ task_at Prep place) × (task ≢ own))

-- a prep task is one of those exactly where its place is one of the places
preps_at : (tasks places : List ℕ) (own : ℕ) → ArePreps own places tasks → (place other : ℕ) → own ≡ task_at Prep place → Contains tasks (task_at Prep other) ↔ (Contains places other × (other ≢ place))
preps_at tasks places own are place other is = (
  λ there.
      let (at, inside, same, apart) = (are (task_at Prep other)).0 there in
      let here : at ≡ other = omega arith in
      (subst (Contains places) here inside, λ e. apart (ap (task_at Prep) e ∙ sym is)),
  λ (inside, apart). (are (task_at Prep other)).1 (other, inside, refl, λ e. apart (omega arith)),
)

-- where the places are those in a relation to a package, their prep tasks are those of its packages
pub packages_from : (Related : ℕ → ℕ → Type 0) (tasks places : List ℕ) (own : ℕ) → ArePreps own places tasks →
    ((other : ℕ) → Contains places other ↔ Related (place_of_task own) other) → ArePackages own tasks Related
packages_from Related tasks places own are related place other is =
    let at = preps_at tasks places own are place other is in
    let here : place_of_task own ≡ place = omega arith in
    let both = related other in (
      λ there. let (inside, apart) = at.0 there in (subst (λ p. Related p other) here (both.0 inside), apart),
      λ (known, apart). at.1 (both.1 (subst (λ p. Related p other) (sym here) known), apart),
    )

-- the tasks of places are tasks of the plan
pub preps_within : (plan : Planned) (graph : Needs) (tasks places : List ℕ) (own : ℕ) → IsPlan plan → 2 * length graph ≡ length plan.rows → ArePreps own places tasks →
    ((place : ℕ) → Contains places place → place < length graph) → All (IsTask plan Prep) tasks
preps_within plan graph tasks places own legal count are within =
    All-weaker (Contains tasks) (IsTask plan Prep)
    (λ task there.
    let (place, inside, same, apart) = (are task).0 there in
    let below = within place inside in
    subst (IsTask plan Prep) (sym same) (prep_at plan place legal (omega arith)))
    tasks (All-contains_itself tasks)

-- there are few places
pub places_few : (plan : Planned) (graph : Needs) (places : List ℕ) → IsPlan plan → 2 * length graph ≡ length plan.rows →
    ((place : ℕ) → Contains places place → place < length graph) → All (λ place. place < 256) places
places_few plan graph places legal count within =
    All-weaker (Contains places) (λ place. place < 256) (λ place there. omega (arith, within place there, legal.few)) places (All-contains_itself places)

-- ---- the three relations, by the graph of the packages

module _ (graph needs : Needs) (same : (place other : ℕ) → names graph place other ≡ depends_on needs place other) where
  pub named_depends : (place other : ℕ) → Contains (needs_of graph place) other ↔ (depends_on needs place other ≡ true)
  named_depends place other = (
    λ there. sym (same place other) ∙ is_in-from (needs_of graph place) other there,
    λ is. Contains-from (needs_of graph place) other (same place other ∙ is),
  )

  pub reached_depends : (place other : ℕ) → Reaches (names graph) place other ↔ Reaches (depends_on needs) place other
  reached_depends place other = (
    λ (between, walk). (between, same_walk (names graph) (depends_on needs) same place (between ++ other ∷ []) walk),
    λ (between, walk). (between, same_walk (depends_on needs) (names graph) (λ node next. sym (same node next)) place (between ++ other ∷ []) walk),
  )

-- what is reached is a node
pub reached_below : (graph : Needs) (place other : ℕ) → IsNeeds graph → Reaches (names graph) place other → other < length graph
reached_below graph place other legal (between, walk) = let (last, is) = reached_named (names graph) place other between walk in legal.graph.closed last other is

-- what needs something is a node
pub needing_below : (graph : Needs) (task need : ℕ) → Contains (needs_of graph task) need → task < length graph
needing_below graph task need there = user_below graph task need (is_in-from (needs_of graph task) need there)
