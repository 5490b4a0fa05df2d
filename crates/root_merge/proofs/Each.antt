-- Whichever of its writers decides what stands at a path, it is the same.
use Rattle.std.proofs.Common.{ℕ, suc, ◌≡◌, ◌⊎◌, inl, inr, Bool, true, false, cond, List, [], ◌∷◌, ◌++◌, length, Option, Some, None, sym, ap, ◌∙◌, arith}
use Rattle.std.specs.Prelude.{nat_le, flat_map}
use Rattle.std.specs.FinMap as fin
use Rattle.std.specs.FinMap.{find}
use Rattle.std.specs.Ordering.{eq_by_cmp}
use Rattle.std.proofs.lemmas.Bool.{true≢false, eqb-true, le-leb}
use Rattle.std.proofs.lemmas.Option.{same_Some}
use Rattle.br_path.specs.Path.{Names, path_cmp}
use Rattle.br_path.specs.declared.area.Area.TheVariants.{Host, Staging, Target}
use Rattle.br_path.proofs.PathOrder.{path_total, path_same}
use Rattle.plan_rows.specs.Plan.{Planned}
use Rattle.tree_ops.specs.declared.entry.Node.{Node}
use Rattle.tree_ops.specs.declared.entry.Node.TheVariants.{Dir, Link, File}
use Rattle.tree_ops.specs.Tree.{node_at}
use Rattle.tree_ops.proofs.Finds.{In, in-find}
use Rattle.tree_worlds.specs.World.{tree_in}
use Rattle.task_shelves.specs.Packages.{Left, packages_left, IsLeft, wrote}
use Rattle.task_shelves.specs.Shelf.{ShelfData}
use Rattle.root_merge.specs.Overwrites.{writers, nodes_left, is_folder_of, are_one_folder, is_overwritten_by, overwrites_in, overwrites_of}
use Rattle.root_merge.specs.Roots.{Standing, standing, entries_of, first_root, root_of}
use Rattle.root_merge.proofs.Lefts.{in-left, left-in}
use Rattle.root_merge.proofs.Members.{in-flat_map, flat_map-in, filter-in, all-in, map-in, in-some, append-nils}
use Rattle.root_merge.proofs.Unions.{entry-of, of-entry, few_or_one, origin, left_apart}

dir-is : (mode : ℕ) (o : Option Node) → is_folder_of mode o ≡ true → o ≡ Some (Dir mode)
dir-is mode None is = absurd (true≢false (sym is))
dir-is mode (Some (Dir other)) is = ap (λ m. Some (Dir m)) (eqb-true other mode is)
dir-is mode (Some (Link text)) is = absurd (true≢false (sym is))
dir-is mode (Some (File label)) is = absurd (true≢false (sym is))

-- folders of one mode
same-folder : (o p : Option Node) (os : List (Option Node)) → are_one_folder os ≡ true → In o os → In p os → (mode : ℕ) × (o ≡ Some (Dir mode)) × (p ≡ Some (Dir mode))
same-folder o p [] one first second = absurd first
same-folder o p (None ∷ os) one first second = absurd (true≢false (sym one))
same-folder o p (Some (Link text) ∷ os) one first second = absurd (true≢false (sym one))
same-folder o p (Some (File label) ∷ os) one first second = absurd (true≢false (sym one))
same-folder o p (Some (Dir mode) ∷ os) one first second = (mode, each o first, each p second)
  where
    each : (q : Option Node) → In q (Some (Dir mode) ∷ os) → q ≡ Some (Dir mode)
    each q (inl same) = sym same
    each q (inr there) = dir-is mode q (all-in (is_folder_of mode) q os one there)

-- what stands at the path in a tree of each of them, with its contents
same-left : (path : Names) (w v : Left) (one two : Node) → w ≡ v → node_at w.trees.target path ≡ Some one → node_at v.trees.target path ≡ Some two → standing w.trees.target one ≡ standing v.trees.target two
same-left path w v one two same first second =
    let node : one ≡ two = same_Some one two (sym first ∙ ap (λ (u : Left). node_at u.trees.target path) same ∙ second) in
    λ i. standing (same i).trees.target (node i)

same-dir : (w v : Left) (one two : Node) (mode : ℕ) → one ≡ Dir mode → two ≡ Dir mode → standing w.trees.target one ≡ standing v.trees.target two
same-dir w v one two mode first second = ap (standing w.trees.target) first ∙ sym (ap (standing v.trees.target) second)

one-standing : (path : Names) (ws : List Left) → is_overwritten_by Target path ws ≡ false → (w v : Left) (one two : Node) → In w ws → In v ws → node_at w.trees.target path ≡ Some one → node_at v.trees.target path ≡ Some two
    → standing w.trees.target one ≡ standing v.trees.target two
one-standing path [] apart w v one two first second stands other = absurd first
one-standing path (x ∷ []) apart w v one two (inl first) (inl second) stands other = same-left path w v one two (sym first ∙ second) stands other
one-standing path (x ∷ []) apart w v one two (inr first) second stands other = absurd first
one-standing path (x ∷ []) apart w v one two (inl first) (inr second) stands other = absurd second
one-standing path (x ∷ y ∷ ws) apart w v one two first second stands other = elim (few_or_one (nat_le 2 (length (x ∷ y ∷ ws))) (are_one_folder (nodes_left Target path (x ∷ y ∷ ws))) apart) [
  | inl few ↦ absurd (true≢false (sym (two-at-least (length ws)) ∙ few))
  | inr same ↦
      let node = λ (left : Left). node_at (tree_in left.trees Target) path in
      let both = same-folder (node w) (node v) (nodes_left Target path (x ∷ y ∷ ws)) same (map-in node w (x ∷ y ∷ ws) first) (map-in node v (x ∷ y ∷ ws) second) in
      same-dir w v one two both.0 (same_Some one (Dir both.0) (sym stands ∙ both.1)) (same_Some two (Dir both.0) (sym other ∙ both.2))
]
  where
    two-at-least : (n : ℕ) → nat_le 2 (suc (suc n)) ≡ true
    two-at-least n = le-leb 2 (suc (suc n)) (omega arith)

-- what is found in a list is found where more stands after it
find-front : (q : Names) (v : Standing) (xs ys : List (Names × Standing)) → find path_cmp q xs ≡ Some v → find path_cmp q (xs ++ ys) ≡ Some v
find-front q v [] ys is = let none : ◌≡◌ {A = Option Standing} None (Some v) = is in cc
find-front q v (x ∷ xs) ys is = by (eq_by_cmp path_cmp q x.0) (find-front q v xs ys) is
  where
    by : (b : Bool) → (find path_cmp q xs ≡ Some v → find path_cmp q (xs ++ ys) ≡ Some v) → cond b (Some x.1) (find path_cmp q xs) ≡ Some v → cond b (Some x.1) (find path_cmp q (xs ++ ys)) ≡ Some v
    by true rest is = is
    by false rest is = rest is

module _ (plan : Planned) (shelves : ℕ → ShelfData) where
  abbrev packages : List Left
  packages = packages_left plan shelves

  apart-in : overwrites_of plan shelves ≡ [] → overwrites_in Target packages ≡ []
  apart-in apart = (append-nils (overwrites_in Host packages ++ overwrites_in Staging packages) (overwrites_in Target packages) apart).1

  pub each_heard : overwrites_of plan shelves ≡ [] → (left : Left) → IsLeft plan shelves left → (path : Names) (node : Node) → wrote Target path left ≡ true → node_at left.trees.target path ≡ Some node
      → fin.get (root_of plan shelves) path ≡ Some (standing left.trees.target node)
  each_heard apart left is path node it stands =
      let there = in-left plan shelves left is in
      let front = flat_map entries_of packages in
      let own = standing left.trees.target node in
      let found = in-some path_total (path, own) front (flat_map-in entries_of (path, own) left packages there (of-entry left path node it stands)) in
      let from = in-flat_map entries_of (path, found.0) packages (in-find path_total path_same path found.0 front found.1) in
      let of = entry-of from.0 path found.0 from.2 in
      let same = one-standing path (writers Target path packages) (left_apart packages (apart-in apart) left there path it) from.0 left of.node node
      (filter-in (wrote Target path) from.0 packages from.1 of.wrote_it) (filter-in (wrote Target path) left packages there it) of.there stands in
      fin.get-from_entries path_total (front ++ first_root ∷ []) path ∙ find-front path found.0 front (first_root ∷ []) found.1 ∙ ap Some (of.is ∙ same)

  pub all_heard : (path : Names) (s : Standing) → fin.get (root_of plan shelves) path ≡ Some s
      → ((left : Left) × IsLeft plan shelves left × (wrote Target path left ≡ true) × (node : Node) × (node_at left.trees.target path ≡ Some node) × (s ≡ standing left.trees.target node)) ⊎ ((path ≡ []) × (s ≡ first_root.1))
  all_heard path s is = elim (origin packages path s is) [
    | inl own ↦ let of = own.2 in inl (own.0, left-in plan shelves own.0 own.1, of.wrote_it, of.node, of.there, of.is)
    | inr first ↦ inr first
  ]
