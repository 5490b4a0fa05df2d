-- What stands where after a move.
use Rattle.std.proofs.Common.{ℕ, ◌≡◌, ◌≢◌, ◌⊎◌, inl, inr, Bool, true, false, cond, List, [], ◌∷◌, ◌++◌, length, drop, Option, Some, None, Ok, refl, sym, ap, subst, ◌∙◌}
use Rattle.std.proofs.lemmas.Bool.{true≢false}
use Rattle.std.proofs.lemmas.List.{append-nil}
use Rattle.std.proofs.Math.Seq.{drop-append_seam}
use Rattle.br_path.specs.Path.{Names}
use Rattle.br_path.proofs.Paths.{names_decide}
use Rattle.tree_ops.specs.declared.entry.Node.{Node}
use Rattle.tree_ops.specs.Tree.{Tree, IsTree, node_at}
use Rattle.tree_ops.specs.Change.{Rename, State, changed, moved, moved_path, dropped_unused, label_of, is_path, is_at_or_below}
use Rattle.tree_ops.specs.Laws.{IsMoved}
use Rattle.tree_ops.proofs.Heads.{rows, rest-of_head, head-of_rest, moved_path-below, moved_path-other}
use Rattle.tree_ops.proofs.Kept.{move-renamed}
use Rattle.tree_ops.proofs.Moving.{IsMove, after_move, stay-moved, came-moved, apart-old, not_at, labels-moved}
use Rattle.tree_ops.proofs.Outcomes.{after-changed}
use Rattle.tree_ops.proofs.Sound.{IsSound, sound-of}

-- of two heads of one path one begins the other
comparable : (a b r s : Names) → a ++ r ≡ b ++ s → ((x : Names) × (a ≡ b ++ x)) ⊎ ((name : List ℕ) × (x : Names) × (b ≡ a ++ name ∷ x))
comparable [] [] r s is = inl ([], refl)
comparable [] (y ∷ b) r s is = inr (y, b, refl)
comparable (x ∷ a) [] r s is = inl (x ∷ a, refl)
comparable (x ∷ a) (y ∷ b) r s is =
    let first : x ≡ y = cc in
    let others : a ++ r ≡ b ++ s = cc in
    elim (comparable a b r s others) [
      | inl found ↦ inl (found.0, λ i. first i ∷ found.1 i)
      | inr found ↦ inr (found.0, found.1, λ i. sym first i ∷ found.2 i)
    ]

same_nodes : (a b : Option Node) → ((n : Node) → a ≡ Some n → b ≡ Some n) → ((n : Node) → b ≡ Some n → a ≡ Some n) → a ≡ b
same_nodes None None to from = refl
same_nodes None (Some n) to from = from n refl
same_nodes (Some n) b to from = sym (to n refl)

no_node : (a : Option Node) → ((n : Node) → a ≡ Some n → ⊥) → a ≡ None
no_node None never = refl
no_node (Some n) never = absurd (never n refl)

module _ (tree : Tree) (old at : Names) (sound : IsSound tree) (move : IsMove tree old at) where
  abbrev after : Tree
  after = after_move tree old at

  moved-below : (rest : Names) → node_at after (at ++ rest) ≡ node_at tree (old ++ rest)
  moved-below rest = same_nodes (node_at after (at ++ rest)) (node_at tree (old ++ rest))
      (λ n there. let from = came-moved tree old at sound move (at ++ rest) n there in by n from.0 from.1 from.2 from.3 (is_at_or_below old from.0) refl)
      (λ n there. ap (node_at after) (sym (moved_path-below old at rest)) ∙ stay-moved tree old at sound move (old ++ rest) n there (apart-old tree old at sound move rest))
    where
      by : (n : Node) (p : Names) → node_at tree p ≡ Some n → (p ≡ at → ⊥) → moved_path old at p ≡ at ++ rest → (b : Bool) → is_at_or_below old p ≡ b → node_at tree (old ++ rest) ≡ Some n
      by n p there apart leads true is =
          let r = rest-of_head old p is in
          let ends : at ++ r.0 ≡ at ++ rest = sym (ap (moved_path old at) r.1 ∙ moved_path-below old at r.0) ∙ leads in
          let rests : r.0 ≡ rest = sym (drop-append_seam at r.0) ∙ ap (drop (length at)) ends ∙ drop-append_seam at rest in
          ap (node_at tree) (sym (r.1 ∙ ap (λ (l : Names). old ++ l) rests)) ∙ there
      by n p there apart leads false is = absurd (not_at tree old at sound move rest p n there apart (sym leads ∙ moved_path-other old at p is))

  nothing-left : (q : Names) → is_at_or_below old q ≡ true → node_at after q ≡ None
  nothing-left q below = no_node (node_at after q) (λ n there. let from = came-moved tree old at sound move q n there in by n from.0 from.1 from.3 (is_at_or_below old from.0) refl)
    where
      meets : (n : Node) (r s : Names) → node_at tree (old ++ r) ≡ Some n → at ++ r ≡ old ++ s → ⊥
      meets n r s there same = elim (comparable at old r s same) [
        | inl above ↦ true≢false (sym (head-of_rest old above.0) ∙ ap (is_at_or_below old) (sym above.1) ∙ move.outside)
        | inr under ↦ move.bare under.0 (under.1 ++ r) n (ap (node_at tree) (sym (ap (λ (l : Names). l ++ r) under.2 ∙ rows at (under.0 ∷ under.1) r)) ∙ there)
      ]

      by : (n : Node) (p : Names) → node_at tree p ≡ Some n → moved_path old at p ≡ q → (b : Bool) → is_at_or_below old p ≡ b → ⊥
      by n p there leads true is =
          let r = rest-of_head old p is in
          let s = rest-of_head old q below in
          meets n r.0 s.0 (ap (node_at tree) (sym r.1) ∙ there) (sym (ap (moved_path old at) r.1 ∙ moved_path-below old at r.0) ∙ leads ∙ s.1)
      by n p there leads false is = true≢false (sym below ∙ ap (is_at_or_below old) (sym leads ∙ moved_path-other old at p is) ∙ is)

  others-stay : (q : Names) → is_at_or_below old q ≡ false → is_at_or_below at q ≡ false → node_at after q ≡ node_at tree q
  others-stay q not_old not_new = same_nodes (node_at after q) (node_at tree q)
      (λ n there. let from = came-moved tree old at sound move q n there in by n from.0 from.1 from.3 (is_at_or_below old from.0) refl)
      (λ n there. ap (node_at after) (sym (moved_path-other old at q not_old)) ∙ stay-moved tree old at sound move q n there itself)
    where
      itself : q ≡ at → ⊥
      itself same = true≢false (sym (head-of_rest at []) ∙ ap (is_at_or_below at) (append-nil at ∙ sym same) ∙ not_new)

      by : (n : Node) (p : Names) → node_at tree p ≡ Some n → moved_path old at p ≡ q → (b : Bool) → is_at_or_below old p ≡ b → node_at tree q ≡ Some n
      by n p there leads true is =
          let r = rest-of_head old p is in
          absurd (true≢false (sym (head-of_rest at r.0) ∙ ap (is_at_or_below at) (sym (ap (moved_path old at) r.1 ∙ moved_path-below old at r.0) ∙ leads) ∙ not_new))
      by n p there leads false is = ap (node_at tree) (sym (sym (moved_path-other old at p is) ∙ leads)) ∙ there

  all-moved : IsMoved old at tree after
  all-moved = record {
    moved = moved-below;
    left = nothing-left;
    others = others-stay;
    contents = labels-moved tree old at sound move;
  }

not_same : (a b : Names) → a ≢ b → is_path a b ≡ false
not_same a b other = by (is_path a b) refl
  where
    by : (same : Bool) → is_path a b ≡ same → is_path a b ≡ false
    by true same = absurd (other ((names_decide a b).0 same))
    by false apart = apart

abbrev by_test : Tree → Names → Names → Bool → Tree
by_test tree old at same = cond same tree (record { names = moved tree.names old at; labels = dropped_unused (moved tree.names old at) (label_of (node_at tree at)) tree.labels })

-- a move leaves what it says
pub moved-whole : (first at : Names) (old new : State) → IsTree old.0 → first ≢ at → changed (Rename first at) old ≡ Ok new → IsMoved first at old.0 new.0
moved-whole first at old new tree apart is =
    let done = after-changed (Rename first at) old new is in
    let sound = sound-of old.0 tree in
    let other = not_same first at apart in
    subst (IsMoved first at old.0) (sym (ap (by_test old.0 first at) other) ∙ ap (λ (s : State). s.0) done.2) (all-moved old.0 first at sound (move-renamed old.0 sound first at done.0 other))

pub moved-nowhere : (at : Names) (old new : State) → changed (Rename at at) old ≡ Ok new → new.0 ≡ old.0
moved-nowhere at old new is = sym (ap (λ (s : State). s.0) (after-changed (Rename at at) old new is).2) ∙ ap (by_test old.0 at at) ((names_decide at at).1 refl)
