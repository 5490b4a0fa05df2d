-- What stands at the paths of all owners is what the packages left.
use Rattle.std.proofs.Common.{ℕ, ◌≡◌, Bool, true, false, cond, List, [], ◌∷◌, ◌++◌, map, Option, Some, None, Ordering, Less, Equal, Greater, refl, sym, ap, ◌∙◌}
use Rattle.std.specs.Prelude.{is_some, flat_map, ◌&&◌}
use Rattle.std.specs.List.{filter_map, range_with_len, cons_option}
use Rattle.std.specs.Option.{option_map}
use Rattle.std.specs.FinMap as fin
use Rattle.std.specs.FinMap.{IsAntisymmetric}
use Rattle.std.specs.FinMap.Entries.{put, by_order}
use Rattle.std.specs.Cmp.{IsTotalOrder}
use Rattle.std.proofs.lemmas.List.{nil_from_length, map-append}
use Rattle.br_path.specs.Path.{Names, path_cmp}
use Rattle.br_path.specs.declared.area.Area.{Area}
use Rattle.br_path.specs.declared.area.Area.TheVariants.{Target}
use Rattle.br_path.proofs.PathOrder.{path_total, path_same}
use Rattle.tree_ops.specs.declared.entry.Node.{Node}
use Rattle.tree_ops.specs.Tree.{Tree, node_at}
use Rattle.task_shelves.specs.Packages.{Left, is_area}
use Rattle.root_merge.specs.Roots.{Standing, standing, entry_at, entries_of, first_root, root_among}
use Rattle.root_merge.specs.Owners.{Owners, standing_at, standing_in, standing_by, standings, all_owners}
use Rattle.root_merge.proofs.Gathering.{owned_in, owned_by, owned_among, owned, all-gathered}

-- values that their keys say
module _ {K X Y : Type 0} {R : K → K → Ordering} (o : IsTotalOrder R) (same : IsAntisymmetric R) (g : K → X → Y) where
  abbrev pub shown : List (K × X) → List (K × Y)
  shown es = map (λ e. (e.0, g e.0 e.1)) es

  put-shown : (k : K) (v : X) (es : List (K × X)) → put R k (g k v) (shown es) ≡ shown (put R k v es)
  put-shown k v [] = refl
  put-shown k v (e ∷ es) = by (put-shown k v es) (R k e.0) refl
    where
      by : put R k (g k v) (shown es) ≡ shown (put R k v es) → (r : Ordering) → R k e.0 ≡ r
          → by_order r ((k, g k v) ∷ shown (e ∷ es)) ((e.0, g k v) ∷ shown es) ((e.0, g e.0 e.1) ∷ put R k (g k v) (shown es)) ≡ shown (by_order r ((k, v) ∷ e ∷ es) ((e.0, v) ∷ es) (e ∷ put R k v es))
      by rest Less is = refl
      by rest Equal is = ap (λ (k : K). (e.0, g k v) ∷ shown es) (same k e.0 is)
      by rest Greater is = ap (λ (l : List (K × Y)). (e.0, g e.0 e.1) ∷ l) rest

  no-entries : {Z : Type 0} → fin.entries (fin.empty {X = Z} {R = R}) ≡ []
  no-entries {Z = Z} = nil_from_length _ (sym (fin.len-entries fin.empty) ∙ fin.len-empty R Z)

  pub entries-shown : (es : List (K × X)) → fin.entries (fin.from_entries {R = R} (shown es)) ≡ shown (fin.entries (fin.from_entries {R = R} es))
  entries-shown [] = no-entries ∙ ap shown (sym no-entries)
  entries-shown (e ∷ es) =
      fin.entries-insert o (fin.from_entries (shown es)) e.0 (g e.0 e.1) ∙ ap (put R e.0 (g e.0 e.1)) (entries-shown es)
      ∙ put-shown e.0 e.1 (fin.entries (fin.from_entries es)) ∙ ap shown (sym (fin.entries-insert o (fin.from_entries es) e.0 e.1))

-- an entry of a tree, by what stands there
abbrev entry_of : Tree → Names → Option Node → Bool → Option (Names × Standing)
entry_of tree path o true = option_map (λ node. (path, standing tree node)) o
entry_of tree path o false = None

entry-of : (tree : Tree) (path : Names) (b : Bool) → entry_of tree path (node_at tree path) b ≡ entry_at tree path b
entry-of tree path true = refl
entry-of tree path false = refl

left-standings : (lefts : ℕ → Option Left) (task : ℕ) (left : Left) (written : List (Area × Names)) → lefts task ≡ Some left
    → standings lefts (owned_in left.trees.target task written) ≡ filter_map (λ pair. entry_at left.trees.target pair.1 (is_area pair.0 Target)) written
left-standings lefts task left [] is = refl
left-standings lefts task left (pair ∷ written) is = by (left-standings lefts task left written is) (is_area pair.0 Target) (node_at left.trees.target pair.1) refl
    ∙ ap (λ (o : Option (Names × Standing)). cons_option o (filter_map (λ pair. entry_at left.trees.target pair.1 (is_area pair.0 Target)) written)) (entry-of left.trees.target pair.1 (is_area pair.0 Target))
  where
    by : standings lefts (owned_in left.trees.target task written) ≡ filter_map (λ pair. entry_at left.trees.target pair.1 (is_area pair.0 Target)) written
        → (b : Bool) (o : Option Node) → node_at left.trees.target pair.1 ≡ o
        → standings lefts (cons_option (cond (b && is_some o) (Some (pair.1, Some task)) None) (owned_in left.trees.target task written))
        ≡ cons_option (entry_of left.trees.target pair.1 o b) (filter_map (λ pair. entry_at left.trees.target pair.1 (is_area pair.0 Target)) written)
    by rest false o found = rest
    by rest true None found = rest
    by rest true (Some node) found = λ i. (pair.1, there i) ∷ rest i
      where
        there : standing_in pair.1 (lefts task) ≡ standing left.trees.target node
        there = ap (standing_in pair.1) is ∙ ap (standing_at left.trees.target) found

all-standings : (lefts : ℕ → Option Left) (tasks : List ℕ) → standings lefts (owned_among lefts tasks) ≡ flat_map entries_of (filter_map lefts tasks)
all-standings lefts [] = refl
all-standings lefts (task ∷ tasks) =
    map-append (λ entry. (entry.0, standing_by lefts entry.0 entry.1)) (owned_by task (lefts task)) (owned_among lefts tasks) ∙ by (lefts task) refl (all-standings lefts tasks)
  where
    by : (o : Option Left) → lefts task ≡ o → standings lefts (owned_among lefts tasks) ≡ flat_map entries_of (filter_map lefts tasks)
        → standings lefts (owned_by task o) ++ standings lefts (owned_among lefts tasks) ≡ flat_map entries_of (cons_option o (filter_map lefts tasks))
    by None is rest = rest
    by (Some left) is rest = λ i. left-standings lefts task left left.written is i ++ rest i

-- what stands at the paths of all owners, in their order, are the entries of the root
pub standings-root : (lefts : ℕ → Option Left) (count : ℕ) → standings lefts (fin.entries (all_owners lefts count)) ≡ fin.entries (root_among (filter_map lefts (range_with_len 0 count)))
standings-root lefts count =
    let tasks = range_with_len 0 count in
    ap (λ (m : Owners). standings lefts (fin.entries m)) (all-gathered lefts count)
    ∙ sym (entries-shown path_total path_same (standing_by lefts) (owned lefts count))
    ∙ ap (λ (es : List (Names × Standing)). fin.entries (fin.from_entries {R = path_cmp} es))
    (map-append (λ entry. (entry.0, standing_by lefts entry.0 entry.1)) (owned_among lefts tasks) (([], None) ∷ []) ∙ ap (λ (es : List (Names × Standing)). es ++ first_root ∷ []) (all-standings lefts tasks))
