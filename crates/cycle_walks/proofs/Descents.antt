-- What each step of the search in depth keeps.
use Rattle.std.proofs.Common.{ℕ, zero, suc, List, [], ◌∷◌, ◌++◌, ◌≡◌, ◌≢◌, ◌+◌, ◌-◌, ◌<◌, ◌≤◌, length, get_or, set, refl, sym, ap, subst, ◌∙◌, Bool, true, false, cond, inl, inr, ◌⊎◌, Some, None, arith, eqb, length-set, replicate}
use Rattle.std.specs.List.{slice_get}
use Rattle.std.specs.Option.{option_map}
use Rattle.std.proofs.lemmas.Bool.{false≢true, cases_lt, cases_eq, ne_eqb, eq-eqb}
use Rattle.std.proofs.lemmas.List.{get_or-set_same, get_or-set_other, get_or_past, get_or_default, get_or-replicate, length-replicate}
use Rattle.std.proofs.lemmas.Map.Keys.{IsDistinct-tail}
use Rattle.std.proofs.lemmas.Option.{slice_get-get_or}
use Rattle.cycle_walks.specs.declared.depth_first.Mark.{Mark}
use Rattle.cycle_walks.specs.declared.depth_first.Mark.TheVariants.{Unmet, Open, Done}
use Rattle.cycle_walks.specs.Graph.{Rows, row, is_in, names, IsGraph}
use Rattle.cycle_walks.specs.Order.{MayFollow, IsOrder}
use Rattle.cycle_walks.specs.Descent.{State, unmet, mark_at, is_open, is_done, met, passed, finished, top_of, next_in, IsLinked, IsDescent, KeepsMet, left_with, left, Steps}
use Rattle.cycle_walks.specs.Walks.{OnCycle}
use Rattle.cycle_walks.proofs.Cycles.{closed_path}
use Rattle.cycle_walks.proofs.Members.{is_in-from, Contains-from, is_in-here, is_in-other, is_in-push_here, is_in-push_other, IsDistinct-more, IsDistinct-first, none_apart}
use Rattle.cycle_walks.proofs.Ordered.{AreInOrder-push}

-- ---- marks

-- a node with another mark than at first is marked
marked_below : (marks : List Mark) (t : ℕ) → (mark_at marks t ≡ Unmet → ⊥) → t < length marks
marked_below marks t known = elim (cases_lt t (length marks)) [ inl below ↦ below | inr past ↦ absurd (known (get_or_past marks t Unmet past)) ]

-- after a node got a mark, it has that one, and any other has its own
mark_cases : (marks : List Mark) (t : ℕ) (m : Mark) (u : ℕ) → t < length marks
    → ((u ≡ t) × (mark_at (set marks t m) u ≡ m)) ⊎ ((u ≡ t → ⊥) × (mark_at (set marks t m) u ≡ mark_at marks u))
mark_cases marks t m u below =
    elim (cases_eq u t) [
      | inl same ↦ inl (same, subst (λ v. mark_at (set marks t m) v ≡ m) (sym same) (get_or-set_same marks t m Unmet below))
      | inr other ↦ inr (other, get_or-set_other marks t u m Unmet other)
    ]

-- what is done stays so where another node gets a mark
stays_done : (marks : List Mark) (t : ℕ) (m : Mark) (v : ℕ) → is_done (mark_at marks t) ≡ false → is_done (mark_at marks v) ≡ true → is_done (mark_at (set marks t m) v) ≡ true
stays_done marks t m v off done =
    let other : v ≢ t = λ same. false≢true (sym off ∙ ap (λ x. is_done (mark_at marks x)) (sym same) ∙ done) in
    ap is_done (get_or-set_other marks t v m Unmet other) ∙ done

-- a mark that says that a node is met makes none unmet
keeps_met : (marks : List Mark) (t : ℕ) (m : Mark) → t < length marks → (m ≡ Unmet → ⊥) → KeepsMet marks (set marks t m)
keeps_met marks t m below known u unmet-is =
    elim (mark_cases marks t m u below) [ inl (same, is) ↦ absurd (known (sym is ∙ unmet-is)) | inr (other, is) ↦ sym is ∙ unmet-is ]

-- what is left changes with the one mark
left_set : (rows : Rows) (marks : List Mark) (t : ℕ) (m : Mark) → length marks ≡ length rows → t < length rows
    → left rows (set marks t m) + left_with (length (row rows t)) (mark_at marks t) ≡ left rows marks + left_with (length (row rows t)) m
left_set [] marks t m same below = absurd (omega arith)
left_set (r ∷ rows) [] t m same below = absurd (omega arith)
left_set (r ∷ rows) (x ∷ marks) zero m same below = omega arith
left_set (r ∷ rows) (x ∷ marks) (suc t) m same below = omega (arith, left_set rows marks t m (omega arith) (omega arith))

-- all marks as at first
get_or-replicate_all : (count t : ℕ) → mark_at (replicate count Unmet) t ≡ Unmet
get_or-replicate_all count t =
    elim (cases_lt t count) [
      | inl below ↦ get_or-replicate count t Unmet Unmet below
      | inr past ↦ get_or_past (replicate count Unmet) t Unmet (omega (arith, length-replicate count Unmet))
    ]

-- ---- the next place of a row

next_None : (row : List ℕ) (count : ℕ) → count ≤ length row → next_in row (Open count) ≡ None → count ≡ 0
next_None row count within is =
    elim (cases_eq count 0) [
      | inl none ↦ none
      | inr some ↦
          let there = slice_get-get_or row (count - 1) 0 (omega arith) in
          let e : next_in row (Open count) ≡ Some (count - 1, get_or row (count - 1) 0) =
          ap (λ b. cond b None (option_map (λ node. (count - 1, node)) (slice_get row (count - 1)))) (ne_eqb count 0 some) ∙ ap (option_map (λ node. (count - 1, node))) there in
          absurd (let clash : Some (count - 1, get_or row (count - 1) 0) ≡ None = sym e ∙ is in cc)
    ]

next_Some : (row : List ℕ) (count place node : ℕ) → count ≤ length row → next_in row (Open count) ≡ Some (place, node) → (count ≡ place + 1) × (place < length row) × (get_or row place 0 ≡ node)
next_Some row count place node within is =
    elim (cases_eq count 0) [
      | inl none ↦ absurd (let clash : None ≡ Some (place, node) = sym (ap (λ b. cond b None (option_map (λ node. (count - 1, node)) (slice_get row (count - 1)))) (eq-eqb count 0 none)) ∙ is in cc)
      | inr some ↦
          let there = slice_get-get_or row (count - 1) 0 (omega arith) in
          let e : next_in row (Open count) ≡ Some (count - 1, get_or row (count - 1) 0) =
          ap (λ b. cond b None (option_map (λ node. (count - 1, node)) (slice_get row (count - 1)))) (ne_eqb count 0 some) ∙ ap (option_map (λ node. (count - 1, node))) there in
          let found : ℕ × ℕ = (count - 1, get_or row (count - 1) 0) in
          let asked : ℕ × ℕ = (place, node) in
          let both : Some found ≡ Some asked = sym e ∙ is in
          let pair : found ≡ asked = cc in
          let first : count - 1 ≡ place = ap (λ p. p.0) pair in
          let second : get_or row (count - 1) 0 ≡ node = ap (λ p. p.1) pair in
          (omega arith, omega arith, subst (λ k. get_or row k 0 ≡ node) first second)
    ]

-- ---- steps

IsLinked-rest : (names : ℕ → ℕ → Bool) (top : ℕ) (rest : List ℕ) → IsLinked names (top ∷ rest) → IsLinked names rest
IsLinked-rest names top [] linked = tt
IsLinked-rest names top (before ∷ rest) linked = linked.1

abbrev state : List Mark → List ℕ → List ℕ → State
state marks path order = record { marks = marks; path = path; order = order }

module _ (rows : Rows) (marks : List Mark) (order : List ℕ) where
  -- a node is met
  met_descent : (path : List ℕ) (t : ℕ) → IsDescent rows (state marks path order) → t < length rows → mark_at marks t ≡ Unmet → IsLinked (names rows) (t ∷ path) → IsDescent rows (met (state marks path order) t (length (row rows t)))
  met_descent path t d below mark linked =
      let m = Open (length (row rows t)) in
      let inside : t < length marks = omega (arith, d.marked) in
      let cases = mark_cases marks t m in
      record {
        marked = length-set marks t m ∙ d.marked;
        open_is = λ u. elim (cases u inside) [
          | inl (same, is) ↦ subst (λ v. is_in (t ∷ path) v ≡ true) (sym same) (is_in-here path t) ∙ sym (ap is_open is)
          | inr (other, is) ↦ is_in-other path t u other ∙ d.open_is u ∙ sym (ap is_open is)
        ];
        apart = IsDistinct-more path t (d.open_is t ∙ ap is_open mark) d.apart;
        linked = linked;
        within = λ u count open-is. elim (cases u inside) [
          | inl (same, is) ↦
              let e : Open (length (row rows t)) ≡ Open count = sym is ∙ open-is in
              let n : length (row rows t) ≡ count = cc in
              let l : length (row rows u) ≡ length (row rows t) = ap (λ v. length (row rows v)) same in
              omega arith
          | inr (other, is) ↦ d.within u count (sym is ∙ open-is)
        ];
        looked = λ u count place open-is from to. elim (cases u inside) [
          | inl (same, is) ↦
              let e : Open (length (row rows t)) ≡ Open count = sym is ∙ open-is in
              let n : length (row rows t) ≡ count = cc in
              let l : length (row rows u) ≡ length (row rows t) = ap (λ v. length (row rows v)) same in
              absurd (omega arith)
          | inr (other, is) ↦ stays_done marks t m (get_or (row rows u) place 0) (ap is_done mark) (d.looked u count place (sym is ∙ open-is) from to)
        ];
        done_is = λ u. elim (cases u inside) [
          | inl (same, is) ↦ ap (is_in order) same ∙ d.done_is t ∙ ap is_done mark ∙ sym (ap is_done is)
          | inr (other, is) ↦ d.done_is u ∙ sym (ap is_done is)
        ];
        in_order = d.in_order;
      }

  module _ (top : ℕ) (rest : List ℕ) (d : IsDescent rows (state marks (top ∷ rest) order)) where
    -- the last node of the path is open
    top_open : (count : ℕ) × (mark_at marks top ≡ Open count)
    top_open =
        let is : is_open (mark_at marks top) ≡ true = sym (d.open_is top) ∙ is_in-here rest top in
        elim (mark_at marks top) as (λ m. is_open m ≡ true → (count : ℕ) × (m ≡ Open count)) [
          | Unmet ↦ λ e. absurd (false≢true e)
          | Open count ↦ λ e. (count, refl)
          | Done ↦ λ e. absurd (false≢true e)
        ] is

    top_inside : (count : ℕ) → mark_at marks top ≡ Open count → top < length marks
    top_inside count mark = marked_below marks top (λ e. let clash : Open count ≡ Unmet = sym mark ∙ e in cc)

    -- a place is passed
    passed_descent : (place : ℕ) → mark_at marks top ≡ Open (place + 1) → is_done (mark_at marks (get_or (row rows top) place 0)) ≡ true → IsDescent rows (passed (state marks (top ∷ rest) order) top place)
    passed_descent place mark done =
        let m = Open place in
        let inside = top_inside (place + 1) mark in
        let cases = mark_cases marks top m in
        record {
          marked = length-set marks top m ∙ d.marked;
          open_is = λ u. elim (cases u inside) [
            | inl (same, is) ↦ ap (is_in (top ∷ rest)) same ∙ is_in-here rest top ∙ sym (ap is_open is)
            | inr (other, is) ↦ d.open_is u ∙ sym (ap is_open is)
          ];
          apart = d.apart;
          linked = d.linked;
          within = λ u count open-is. elim (cases u inside) [
            | inl (same, is) ↦
                let e : Open place ≡ Open count = sym is ∙ open-is in
                let n : place ≡ count = cc in
                let old = d.within top (place + 1) mark in
                let l : length (row rows u) ≡ length (row rows top) = ap (λ v. length (row rows v)) same in
                omega arith
            | inr (other, is) ↦ d.within u count (sym is ∙ open-is)
          ];
          looked = λ u count at open-is from to. stays_done marks top m (get_or (row rows u) at 0) (ap is_done mark) (elim (cases u inside) [
            | inl (same, is) ↦
                let e : Open place ≡ Open count = sym is ∙ open-is in
                let n : place ≡ count = cc in
                let l : length (row rows u) ≡ length (row rows top) = ap (λ v. length (row rows v)) same in
                subst (λ v. is_done (mark_at marks (get_or (row rows v) at 0)) ≡ true) (sym same) (elim (cases_eq at place) [
                  | inl here ↦ subst (λ k. is_done (mark_at marks (get_or (row rows top) k 0)) ≡ true) (sym here) done
                  | inr later ↦ d.looked top (place + 1) at mark (omega arith) (omega arith)
                ])
            | inr (other, is) ↦ d.looked u count at (sym is ∙ open-is) from to
          ]);
          done_is = λ u. elim (cases u inside) [
            | inl (same, is) ↦ ap (is_in order) same ∙ d.done_is top ∙ ap is_done mark ∙ sym (ap is_done is)
            | inr (other, is) ↦ d.done_is u ∙ sym (ap is_done is)
          ];
          in_order = d.in_order;
        }

    -- the last node of the path may stand after the order where its row is looked through
    top_follows : mark_at marks top ≡ Open 0 → MayFollow (names rows) order top
    top_follows mark = record {
      fresh = λ there. false≢true (sym (d.done_is top ∙ ap is_done mark) ∙ is_in-from order top there);
      named = λ u named.
          let (place, short, is) = Contains-from (row rows top) u named in
          let here : get_or (row rows top) place 0 ≡ u = get_or_default (row rows top) place 0 u short ∙ is in
          Contains-from order u (d.done_is u ∙ subst (λ v. is_done (mark_at marks v) ≡ true) here (d.looked top 0 place mark (omega arith) short));
    }

    -- the last node of the path is done
    finished_descent : mark_at marks top ≡ Open 0 → IsDescent rows (finished (state marks (top ∷ rest) order) top)
    finished_descent mark =
        let inside = top_inside 0 mark in
        let cases = mark_cases marks top Done in
        record {
          marked = length-set marks top Done ∙ d.marked;
          open_is = λ u. elim (cases u inside) [
            | inl (same, is) ↦ ap (is_in rest) same ∙ IsDistinct-first rest top d.apart ∙ sym (ap is_open is)
            | inr (other, is) ↦ sym (is_in-other rest top u other) ∙ d.open_is u ∙ sym (ap is_open is)
          ];
          apart = IsDistinct-tail eqb top rest d.apart;
          linked = IsLinked-rest (names rows) top rest d.linked;
          within = λ u count open-is. elim (cases u inside) [
            | inl (same, is) ↦ absurd (let clash : Done ≡ Open count = sym is ∙ open-is in cc)
            | inr (other, is) ↦ d.within u count (sym is ∙ open-is)
          ];
          looked = λ u count at open-is from to. stays_done marks top Done (get_or (row rows u) at 0) (ap is_done mark) (elim (cases u inside) [
            | inl (same, is) ↦ absurd (let clash : Done ≡ Open count = sym is ∙ open-is in cc)
            | inr (other, is) ↦ d.looked u count at (sym is ∙ open-is) from to
          ]);
          done_is = λ u. elim (cases u inside) [
            | inl (same, is) ↦ ap (is_in (order ++ top ∷ [])) same ∙ is_in-push_here order top ∙ sym (ap is_done is)
            | inr (other, is) ↦ is_in-push_other order top u other ∙ d.done_is u ∙ sym (ap is_done is)
          ];
          in_order = AreInOrder-push (names rows) order top d.in_order (top_follows mark);
        }

-- ---- the steps as they are taken: at any path, by the next place of its last node

left_falls : (rows : Rows) (marks : List Mark) (t : ℕ) (m : Mark) → length marks ≡ length rows → t < length rows → left_with (length (row rows t)) m < left_with (length (row rows t)) (mark_at marks t)
    → left rows (set marks t m) < left rows marks
left_falls rows marks t m same below less = omega (arith, left_set rows marks t m same below)

-- a path with a last node
split_top : (path : List ℕ) (top : ℕ) → top_of path ≡ Some top → (rest : List ℕ) × (path ≡ top ∷ rest)
split_top [] top is = absurd (let clash : None ≡ Some top = is in cc)
split_top (x ∷ rest) top is = let same : x ≡ top = cc in (rest, ap (λ y. y ∷ rest) same)

-- the node at the next place of an open node's row
record IsNext (rows : Rows) (marks : List Mark) (top place node : ℕ) : Type 0 where
  marked : mark_at marks top ≡ Open (place + 1)
  short : place < length (row rows top)
  here : get_or (row rows top) place 0 ≡ node
  named : names rows top node ≡ true

next_of : (rows : Rows) (marks : List Mark) (order : List ℕ) (top : ℕ) (rest : List ℕ) (place node : ℕ) → IsDescent rows (state marks (top ∷ rest) order) → next_in (row rows top) (mark_at marks top) ≡ Some (place, node)
    → IsNext rows marks top place node
next_of rows marks order top rest place node d is =
    let (count, mark) = top_open rows marks order top rest d in
    let next : next_in (row rows top) (Open count) ≡ Some (place, node) = subst (λ m. next_in (row rows top) m ≡ Some (place, node)) mark is in
    let (one, short, here) = next_Some (row rows top) count place node (d.within top count mark) next in
    record {
      marked = subst (λ n. mark_at marks top ≡ Open n) one mark;
      short = short;
      here = here;
      named = is_in-from (row rows top) node (place, short, get_or_default (row rows top) place node 0 short ∙ here);
    }

module _ (rows : Rows) (graph : IsGraph rows) (marks : List Mark) (order : List ℕ) (top : ℕ) (rest : List ℕ) (d : IsDescent rows (state marks (top ∷ rest) order)) where
  finish_here : next_in (row rows top) (mark_at marks top) ≡ None → Steps rows (state marks (top ∷ rest) order) None (finished (state marks (top ∷ rest) order) top)
  finish_here none =
      let (count, mark) = top_open rows marks order top rest d in
      let zero-is = next_None (row rows top) count (d.within top count mark) (subst (λ m. next_in (row rows top) m ≡ None) mark none) in
      let at-zero : mark_at marks top ≡ Open 0 = subst (λ n. mark_at marks top ≡ Open n) zero-is mark in
      let inside = top_inside rows marks order top rest d 0 at-zero in
      let before : left_with (length (row rows top)) (mark_at marks top) ≡ 1 = ap (left_with (length (row rows top))) at-zero in
      (finished_descent rows marks order top rest d at-zero, keeps_met marks top Done inside (λ e. cc), left_falls rows marks top Done d.marked (omega (arith, d.marked)) (omega arith))

  meet_here : (place node : ℕ) → IsNext rows marks top place node → mark_at marks node ≡ Unmet → Steps rows (state marks (top ∷ rest) order) None (met (state marks (top ∷ rest) order) node (length (row rows node)))
  meet_here place node next mark =
      let below = graph.closed top node next.named in
      let before : left_with (length (row rows node)) (mark_at marks node) ≡ length (row rows node) + 2 = ap (left_with (length (row rows node))) mark in
      (met_descent rows marks order (top ∷ rest) node d below mark (next.named, d.linked), keeps_met marks node (Open (length (row rows node))) (omega (arith, d.marked)) (λ e. cc), left_falls rows marks node (Open (length (row rows node))) d.marked below (omega arith))

  pass_here : (place node : ℕ) → IsNext rows marks top place node → mark_at marks node ≡ Done → Steps rows (state marks (top ∷ rest) order) None (passed (state marks (top ∷ rest) order) top place)
  pass_here place node next mark =
      let inside = top_inside rows marks order top rest d (place + 1) next.marked in
      let before : left_with (length (row rows top)) (mark_at marks top) ≡ (place + 1) + 1 = ap (left_with (length (row rows top))) next.marked in (
        passed_descent rows marks order top rest d place next.marked (ap (λ v. is_done (mark_at marks v)) next.here ∙ ap is_done mark),
        keeps_met marks top (Open place) inside (λ e. cc),
        left_falls rows marks top (Open place) d.marked (omega (arith, d.marked)) (omega arith),
      )

  cycle_here : (place node count : ℕ) → IsNext rows marks top place node → mark_at marks node ≡ Open count → (node < length rows) × OnCycle (names rows) node
  cycle_here place node count next mark =
      (graph.closed top node next.named, closed_path (names rows) rest top [] node d.linked (d.open_is node ∙ ap is_open mark) (next.named, tt))

-- the same at any path that has a last node
module _ (rows : Rows) (graph : IsGraph rows) (s : State) (top : ℕ) (d : IsDescent rows s) (last : top_of s.path ≡ Some top) where
  with_top : (rest : List ℕ) × (s.path ≡ top ∷ rest) × IsDescent rows (state s.marks (top ∷ rest) s.order)
  with_top =
      let (rest, is) = split_top s.path top last in
      (rest, is, subst (λ p. IsDescent rows (state s.marks p s.order)) is d)

  pub top_below : top < length s.marks
  top_below =
      let (rest, is, whole) = with_top in
      let (count, mark) = top_open rows s.marks s.order top rest whole in
      top_inside rows s.marks s.order top rest whole count mark

  pub next_below : (place node : ℕ) → next_in (row rows top) (mark_at s.marks top) ≡ Some (place, node) → node < length s.marks
  next_below place node found =
      let (rest, is, whole) = with_top in
      omega (arith, d.marked, graph.closed top node (next_of rows s.marks s.order top rest place node whole found).named)

  pub step_finish : next_in (row rows top) (mark_at s.marks top) ≡ None → Steps rows s None (finished s top)
  step_finish none =
      let (rest, is, whole) = with_top in
      subst (λ p. Steps rows (state s.marks p s.order) None (finished (state s.marks p s.order) top)) (sym is) (finish_here rows graph s.marks s.order top rest whole none)

  pub step_meet : (place node : ℕ) → next_in (row rows top) (mark_at s.marks top) ≡ Some (place, node) → mark_at s.marks node ≡ Unmet → Steps rows s None (met s node (length (row rows node)))
  step_meet place node found mark =
      let (rest, is, whole) = with_top in
      subst (λ p. Steps rows (state s.marks p s.order) None (met (state s.marks p s.order) node (length (row rows node)))) (sym is)
      (meet_here rows graph s.marks s.order top rest whole place node (next_of rows s.marks s.order top rest place node whole found) mark)

  pub step_pass : (place node : ℕ) → next_in (row rows top) (mark_at s.marks top) ≡ Some (place, node) → mark_at s.marks node ≡ Done → Steps rows s None (passed s top place)
  step_pass place node found mark =
      let (rest, is, whole) = with_top in
      subst (λ p. Steps rows (state s.marks p s.order) None (passed (state s.marks p s.order) top place)) (sym is)
      (pass_here rows graph s.marks s.order top rest whole place node (next_of rows s.marks s.order top rest place node whole found) mark)

  pub step_cycle : (place node count : ℕ) → next_in (row rows top) (mark_at s.marks top) ≡ Some (place, node) → mark_at s.marks node ≡ Open count → (node < length rows) × OnCycle (names rows) node
  step_cycle place node count found mark =
      let (rest, is, whole) = with_top in
      cycle_here rows graph s.marks s.order top rest whole place node count (next_of rows s.marks s.order top rest place node whole found) mark

-- ---- whole searches

-- a search from a node that isn't met begins with an empty path
pub search_begun : (rows : Rows) (s : State) (t : ℕ) (new : State) → IsDescent rows s → s.path ≡ [] → t < length rows → mark_at s.marks t ≡ Unmet → new ≡ met s t (length (row rows t))
    → IsDescent rows new × KeepsMet s.marks new.marks × (mark_at new.marks t ≡ Unmet → ⊥)
search_begun rows s t new d none below mark is =
    let inside : t < length s.marks = omega (arith, d.marked) in
    let m = Open (length (row rows t)) in
    let begun = subst (λ p. IsDescent rows (state s.marks p s.order) → IsLinked (names rows) (t ∷ p) → IsDescent rows (met (state s.marks p s.order) t (length (row rows t)))) (sym none)
    (λ whole linked. met_descent rows s.marks s.order [] t whole below mark linked) d (subst (λ p. IsLinked (names rows) (t ∷ p)) (sym none) tt) in
    subst (λ n. IsDescent rows n × KeepsMet s.marks n.marks × (mark_at n.marks t ≡ Unmet → ⊥)) (sym is)
    (begun, keeps_met s.marks t m inside (λ e. cc), λ e. let clash : m ≡ Unmet = sym (get_or-set_same s.marks t m Unmet inside) ∙ e in cc)

-- with no node open, each is unmet or done
done_from : (rows : Rows) (s : State) (t : ℕ) → IsDescent rows s → s.path ≡ [] → (mark_at s.marks t ≡ Unmet → ⊥) → is_done (mark_at s.marks t) ≡ true
done_from rows s t d none known =
    let shut : is_open (mark_at s.marks t) ≡ false = sym (d.open_is t) ∙ ap (λ p. is_in p t) none in
    elim (mark_at s.marks t) as (λ m. (m ≡ Unmet → ⊥) → is_open m ≡ false → is_done m ≡ true) [
      | Unmet ↦ λ k o. absurd (k refl)
      | Open count ↦ λ k o. absurd (false≢true (sym o))
      | Done ↦ λ k o. refl
    ] known shut

-- the search is through with all nodes
pub order_found : (rows : Rows) (s : State) → IsDescent rows s → s.path ≡ [] → ((t : ℕ) → t < length rows → mark_at s.marks t ≡ Unmet → ⊥) → IsOrder (length rows) (names rows) s.order
order_found rows s d none known = record {
  nodes = λ t. (
    λ there. omega (arith, d.marked, marked_below s.marks t (λ e. false≢true (sym (d.done_is t ∙ ap is_done e) ∙ is_in-from s.order t there))),
    λ below. Contains-from s.order t (d.done_is t ∙ done_from rows s t d none (known t below)),
  );
  in_order = d.in_order;
}

-- nothing is met yet
pub nothing_met : (rows : Rows) → IsDescent rows (unmet (length rows))
nothing_met rows =
    let blank = λ (t : ℕ). get_or-replicate_all (length rows) t in
    record {
      marked = length-replicate (length rows) Unmet;
      open_is = λ t. sym (ap is_open (blank t));
      apart = none_apart;
      linked = tt;
      within = λ t count is. absurd (let clash : Unmet ≡ Open count = sym (blank t) ∙ is in cc);
      looked = λ t count place is from to. absurd (let clash : Unmet ≡ Open count = sym (blank t) ∙ is in cc);
      done_is = λ t. sym (ap is_done (blank t));
      in_order = λ i short. absurd (omega arith);
    }
