-- Where nothing is overwritten, what the packages wrote is a root: each folder of it stands there.
use Rattle.std.proofs.Common.{ℕ, suc, ◌≡◌, ◌≢◌, ◌≤◌, ◌⊎◌, inl, inr, Bool, true, false, List, [], ◌∷◌, ◌++◌, length, Option, Some, None, refl, sym, ap, subst, ◌∙◌, arith}
use Rattle.std.specs.Prelude.{is_some, not, ◌&&◌, nat_le, flat_map, filter}
use Rattle.std.specs.Option.{option_map}
use Rattle.std.specs.FinMap as fin
use Rattle.std.specs.FinMap.{FinMap}
use Rattle.std.specs.Cmp.{Equal-is}
use Rattle.std.specs.Ordering.{eq_by_cmp}
use Rattle.std.proofs.lemmas.Bool.{true≢false, and_parts, le-leb}
use Rattle.std.proofs.lemmas.List.Elements.{All-nil}
use Rattle.std.proofs.lemmas.Option.{same_Some}
use Rattle.br_path.specs.Path.{Names, IsPath, path_cmp}
use Rattle.br_path.specs.declared.area.Area.{Area}
use Rattle.br_path.specs.declared.area.Area.TheVariants.{Target}
use Rattle.br_path.proofs.PathOrder.{path_total, path_same}
use Rattle.br_path.proofs.Paths.{names_decide}
use Rattle.tree_ops.specs.declared.entry.Contents.{Contents}
use Rattle.tree_ops.specs.declared.entry.Node.{Node}
use Rattle.tree_ops.specs.declared.entry.Node.TheVariants.{Dir, Link, File}
use Rattle.tree_ops.specs.Change.{is_path}
use Rattle.tree_ops.specs.Tree.{Tree, IsTree, IsLinkText, node_at, contents_of, is_dir}
use Rattle.tree_ops.proofs.Finds.{In, any-in, in-any, in-find}
use Rattle.tree_ops.proofs.Heads.{parent_of-last}
use Rattle.tree_ops.proofs.Sound.{sound-of}
use Rattle.tree_worlds.specs.World.{tree_in}
use Rattle.task_shelves.specs.Packages.{Left, is_area, wrote}
use Rattle.root_merge.specs.Overwrites.{writers, nodes_left, is_folder_of, are_one_folder, is_overwritten_by, is_overwritten, path_in, paths_of, paths_written, overwrite_at, overwrites_in}
use Rattle.root_merge.specs.Roots.{Standing, standing, entry_at, entries_of, first_root, root_among}
use Rattle.root_merge.proofs.Members.{in-append, in-back, in-front, in-flat_map, flat_map-in, in-filter_map, filter_map-in, none-filter, filter-in, map-nil, all-in, map-in, in-some}

-- an entry that a package wrote, of what stands in its target tree
pub record IsOf (path : Names) (s : Standing) (left : Left) : Type 0 where
  pub node : Node
  pub there : node_at left.trees.target path ≡ Some node
  pub is : s ≡ standing left.trees.target node
  pub wrote_it : wrote Target path left ≡ true

pub entry-of : (left : Left) (path : Names) (s : Standing) → In (path, s) (entries_of left) → IsOf path s left
entry-of left path s there =
    let found = in-filter_map (λ pair. entry_at left.trees.target pair.1 (is_area pair.0 Target)) (path, s) left.written there in
    by found.0 found.1 (is_area found.0.0 Target) refl (node_at left.trees.target found.0.1) refl found.2
  where
    by : (pair : Area × Names) → In pair left.written → (b : Bool) → is_area pair.0 Target ≡ b → (o : Option Node) → node_at left.trees.target pair.1 ≡ o
        → entry_at left.trees.target pair.1 b ≡ Some (path, s) → IsOf path s left
    by pair listed false other o found is = cc
    by pair listed true target None found is = let none = sym (ap (option_map (λ node. (pair.1, standing left.trees.target node))) found) ∙ is in cc
    by pair listed true target (Some node) found is =
        let same : ◌≡◌ {A = Names × Standing} (pair.1, standing left.trees.target node) (path, s) = same_Some _ _ (sym (ap (option_map (λ node. (pair.1, standing left.trees.target node))) found) ∙ is) in
        let here : pair.1 ≡ path = ap (λ (e : Names × Standing). e.0) same in
        record {
          node = node;
          there = ap (node_at left.trees.target) (sym here) ∙ found;
          is = ap (λ (e : Names × Standing). e.1) (sym same);
          wrote_it = any-in (λ pair. is_area pair.0 Target && is_path pair.1 path) pair left.written listed (ap (λ b. b && is_path pair.1 path) target ∙ (names_decide pair.1 path).1 here);
        }

-- a pair of the written list, where a package wrote a path
listed : (left : Left) (path : Names) → wrote Target path left ≡ true → (pair : Area × Names) × In pair left.written × (is_area pair.0 Target ≡ true) × (pair.1 ≡ path)
listed left path is =
    let found = in-any (λ pair. is_area pair.0 Target && is_path pair.1 path) left.written is in
    let parts = and_parts (is_area found.0.0 Target) (is_path found.0.1 path) found.2 in
    (found.0, found.1, parts.0, (names_decide found.0.1 path).0 parts.1)

pub of-entry : (left : Left) (path : Names) (node : Node) → wrote Target path left ≡ true → node_at left.trees.target path ≡ Some node → In (path, standing left.trees.target node) (entries_of left)
of-entry left path node is there =
    let found = listed left path is in
    filter_map-in (λ pair. entry_at left.trees.target pair.1 (is_area pair.0 Target)) (path, standing left.trees.target node) found.0 left.written found.1
    (ap (entry_at left.trees.target found.0.1) found.2
    ∙ ap (λ (p : Names). option_map (λ node. (p, standing left.trees.target node)) (node_at left.trees.target p)) found.3
    ∙ ap (option_map (λ node. (path, standing left.trees.target node))) there)

path-in : (left : Left) (path : Names) → wrote Target path left ≡ true → In (path, tt) (paths_of Target left)
path-in left path is =
    let found = listed left path is in
    filter_map-in (λ pair. path_in (is_area pair.0 Target) pair.1) (path, tt) found.0 left.written found.1 (ap (λ b. path_in b found.0.1) found.2 ∙ ap (path_in true) found.3)

dir_of : (mode : ℕ) (o : Option Node) → is_folder_of mode o ≡ true → is_dir o ≡ true
dir_of mode None is = cc
dir_of mode (Some (Dir other)) is = refl
dir_of mode (Some (Link text)) is = cc
dir_of mode (Some (File label)) is = cc

-- of folders of one mode each is a folder
one_folder : (o : Option Node) (os : List (Option Node)) → are_one_folder os ≡ true → In o os → is_dir o ≡ true
one_folder o [] one there = absurd there
one_folder o (None ∷ os) one there = cc
one_folder o (Some (Link text) ∷ os) one there = cc
one_folder o (Some (File label) ∷ os) one there = cc
one_folder o (Some (Dir mode) ∷ os) one (inl same) = ap is_dir (sym same)
one_folder o (Some (Dir mode) ∷ os) one (inr there) = dir_of mode o (all-in (is_folder_of mode) o os one there)

pub few_or_one : (few one : Bool) → (few && not one) ≡ false → (few ≡ false) ⊎ (one ≡ true)
few_or_one true true is = inr refl
few_or_one true false is = absurd (true≢false is)
few_or_one false one is = inl refl

-- where one of the writers left a folder, each of them did
all_folders : (path : Names) (ws : List Left) → is_overwritten_by Target path ws ≡ false → (w v : Left) → In w ws → In v ws → is_dir (node_at w.trees.target path) ≡ true → is_dir (node_at v.trees.target path) ≡ true
all_folders path [] apart w v one other is = absurd one
all_folders path (x ∷ []) apart w v (inl one) (inl other) is = subst (λ (u : Left). is_dir (node_at u.trees.target path) ≡ true) (sym one ∙ other) is
all_folders path (x ∷ []) apart w v (inr one) other is = absurd one
all_folders path (x ∷ []) apart w v (inl one) (inr other) is = absurd other
all_folders path (x ∷ y ∷ ws) apart w v one other is = elim (few_or_one (nat_le 2 (length (x ∷ y ∷ ws))) (are_one_folder (nodes_left Target path (x ∷ y ∷ ws))) apart) [
  | inl few ↦ absurd (true≢false (sym (two (length ws)) ∙ few))
  | inr same ↦ one_folder (node_at v.trees.target path) (nodes_left Target path (x ∷ y ∷ ws)) same (map-in (λ left. node_at (tree_in left.trees Target) path) v (x ∷ y ∷ ws) other)
]
  where
    two : (n : ℕ) → nat_le 2 (suc (suc n)) ≡ true
    two n = le-leb 2 (suc (suc n)) (omega arith)

-- what the packages hold, and how they fit together
pub record AreFit (packages : List Left) : Type 0 where
  pub trees : (left : Left) → In left packages → IsTree left.trees.target
  pub grounded : (left : Left) → In left packages → (path : Names) (node : Node) → path ≢ [] → node_at left.trees.target path ≡ Some node
      → (writer : Left) × In writer packages × (wrote Target path writer ≡ true) × (node_at writer.trees.target path ≡ Some node)
  pub apart : overwrites_in Target packages ≡ []

-- what holds of the paths of a root
pub record IsUnion (m : FinMap path_cmp Standing) : Type 0 where
  pub root : (t : Standing) × (fin.get m [] ≡ Some t) × (is_dir (Some t.node) ≡ true)
  pub paths : (path : Names) (s : Standing) → fin.get m path ≡ Some s → IsPath path
  pub parents : (at : Names) (name : List ℕ) (s : Standing) → fin.get m (at ++ name ∷ []) ≡ Some s → (t : Standing) × (fin.get m at ≡ Some t) × (is_dir (Some t.node) ≡ true)
  pub dirs : (path : Names) (s : Standing) (mode : ℕ) → fin.get m path ≡ Some s → s.node ≡ Dir mode → mode ≤ 4095
  pub links : (path : Names) (s : Standing) (text : List ℕ) → fin.get m path ≡ Some s → s.node ≡ Link text → IsLinkText text
  pub files : (path : Names) (s : Standing) (contents : Contents) → fin.get m path ≡ Some s → s.contents ≡ Some contents → contents.mode ≤ 4095

module _ (packages : List Left) where
  abbrev all : List (Names × Standing)
  all = flat_map entries_of packages ++ first_root ∷ []

  -- what stands at a path was written by a package, or is the first root
  from : (path : Names) (s : Standing) → In (path, s) all → ((left : Left) × In left packages × IsOf path s left) ⊎ ((path ≡ []) × (s ≡ first_root.1))
  from path s there = elim (in-append (path, s) (flat_map entries_of packages) (first_root ∷ []) there) [
    | inl front ↦ let found = in-flat_map entries_of (path, s) packages front in inl (found.0, found.1, entry-of found.0 path s found.2)
    | inr back ↦ inr (last back)
  ]
    where
      last : In (path, s) (first_root ∷ []) → (path ≡ []) × (s ≡ first_root.1)
      last (inl same) = (ap (λ (e : Names × Standing). e.0) (sym same), ap (λ (e : Names × Standing). e.1) (sym same))
      last (inr none) = absurd none

  pub origin : (path : Names) (s : Standing) → fin.get (root_among packages) path ≡ Some s → ((left : Left) × In left packages × IsOf path s left) ⊎ ((path ≡ []) × (s ≡ first_root.1))
  origin path s is = from path s (in-find path_total path_same path s all (sym (fin.get-from_entries path_total all path) ∙ is))

  -- what is written is there
  some_there : (path : Names) (s : Standing) → In (path, s) all → (t : Standing) × (fin.get (root_among packages) path ≡ Some t)
  some_there path s there = let found = in-some path_total (path, s) all there in (found.0, fin.get-from_entries path_total all path ∙ found.1)

  -- a path that a package wrote isn't overwritten
  pub left_apart : overwrites_in Target packages ≡ [] → (left : Left) → In left packages → (path : Names) → wrote Target path left ≡ true → is_overwritten Target packages path ≡ false
  left_apart apart left there path is =
      let pairs = flat_map (paths_of Target) packages in
      let found = in-some path_total (path, tt) pairs (flat_map-in (paths_of Target) (path, tt) left packages there (path-in left path is)) in
      let key = sym (fin.contains_key-keys (fin.from_entries {R = path_cmp} pairs) path) ∙ ap is_some (fin.get-from_entries path_total pairs path ∙ found.1) in
      let member = in-any (eq_by_cmp path_cmp path) (paths_written Target packages) key in
      let same : path ≡ member.0 = path_same path member.0 ((Equal-is (path_cmp path member.0)).0 member.2) in
      none-filter (is_overwritten Target packages) path (paths_written Target packages)
      (map-nil (overwrite_at Target packages) (filter (is_overwritten Target packages) (paths_written Target packages)) apart)
      (subst (λ (p : Names). In p (paths_written Target packages)) (sym same) member.1)

module _ (packages : List Left) (fit : AreFit packages) where
  -- a folder that some package wrote stands there as one
  folder_there : (writer : Left) → In writer packages → (path : Names) (node : Node) → wrote Target path writer ≡ true → node_at writer.trees.target path ≡ Some node → is_dir (Some node) ≡ true
      → (t : Standing) × (fin.get (root_among packages) path ≡ Some t) × (is_dir (Some t.node) ≡ true)
  folder_there writer there path node is stands folder =
      let found = some_there packages path (standing writer.trees.target node)
      (in-front (path, standing writer.trees.target node) (flat_map entries_of packages) (first_root ∷ []) (flat_map-in entries_of (path, standing writer.trees.target node) writer packages there (of-entry writer path node is stands))) in
      (found.0, found.1, by found.0 (origin packages path found.0 found.1))
    where
      by : (t : Standing) → ((left : Left) × In left packages × IsOf path t left) ⊎ ((path ≡ []) × (t ≡ first_root.1)) → is_dir (Some t.node) ≡ true
      by t (inl own) =
          let left = own.0 in
          let of = own.2 in
          let dir = all_folders path (writers Target path packages) (left_apart packages fit.apart writer there path is) writer left
          (filter-in (wrote Target path) writer packages there is) (filter-in (wrote Target path) left packages own.1 of.wrote_it) (ap is_dir stands ∙ folder) in
          ap (λ (s : Standing). is_dir (Some s.node)) of.is ∙ ap is_dir (sym of.there) ∙ dir
      by t (inr first) = ap (λ (s : Standing). is_dir (Some s.node)) first.1

  root-there : (t : Standing) × (fin.get (root_among packages) [] ≡ Some t) × (is_dir (Some t.node) ≡ true)
  root-there =
      let found = some_there packages [] first_root.1 (in-back first_root (flat_map entries_of packages) (first_root ∷ []) (inl refl)) in
      (found.0, found.1, by found.0 (origin packages [] found.0 found.1))
    where
      by : (t : Standing) → ((left : Left) × In left packages × IsOf [] t left) ⊎ (◌≡◌ {A = Names} [] [] × (t ≡ first_root.1)) → is_dir (Some t.node) ≡ true
      by t (inl own) = let of = own.2 in ap (λ (s : Standing). is_dir (Some s.node)) of.is ∙ ap is_dir (sym of.there) ∙ (fit.trees own.0 own.1).root
      by t (inr first) = ap (λ (s : Standing). is_dir (Some s.node)) first.1

  parent-there : (at : Names) (name : List ℕ) (s : Standing) → fin.get (root_among packages) (at ++ name ∷ []) ≡ Some s → (t : Standing) × (fin.get (root_among packages) at ≡ Some t) × (is_dir (Some t.node) ≡ true)
  parent-there at name s is = by at refl (origin packages (at ++ name ∷ []) s is)
    where
      none : (at : Names) → at ++ name ∷ [] ≡ [] → ⊥
      none [] same = cc
      none (x ∷ xs) same = cc

      some : (o : Option Node) → is_dir o ≡ true → (node : Node) × (o ≡ Some node)
      some None is = cc
      some (Some node) is = (node, refl)

      by : (q : Names) → at ≡ q → ((left : Left) × In left packages × IsOf (at ++ name ∷ []) s left) ⊎ ((at ++ name ∷ [] ≡ []) × (s ≡ first_root.1)) → (t : Standing) × (fin.get (root_among packages) at ≡ Some t) × (is_dir (Some t.node) ≡ true)
      by q same (inr first) = absurd (none at first.0)
      by [] same (inl own) = subst (λ (p : Names). (t : Standing) × (fin.get (root_among packages) p ≡ Some t) × (is_dir (Some t.node) ≡ true)) (sym same) root-there
      by (x ∷ xs) same (inl own) =
          let tree = fit.trees own.0 own.1 in
          let of = own.2 in
          let dir = tree.parents (at ++ name ∷ []) at (ap is_some of.there) (parent_of-last at name) in
          let node = some (node_at own.0.trees.target at) dir in
          let writer = fit.grounded own.0 own.1 at node.0 (λ empty. let never = sym same ∙ empty in cc) node.1 in
          folder_there writer.0 writer.1 at node.0 writer.2 writer.3 (ap is_dir (sym node.1) ∙ dir)

  contents-mode : (tree : Tree) → IsTree tree → (node : Node) (contents : Contents) → contents_of tree node ≡ Some contents → contents.mode ≤ 4095
  contents-mode tree is (Dir mode) contents own = cc
  contents-mode tree is (Link text) contents own = cc
  contents-mode tree is (File label) contents own = (sound-of tree is).files label contents own

  legal : (path : Names) (s : Standing) → ((left : Left) × In left packages × IsOf path s left) ⊎ ((path ≡ []) × (s ≡ first_root.1)) → IsPath path
  legal path s (inl own) = let of = own.2 in (sound-of own.0.trees.target (fit.trees own.0 own.1)).paths path of.node of.there
  legal path s (inr first) = subst IsPath (sym first.0) (record { legal = All-nil _; short = omega arith })

  dir-mode : (path : Names) (s : Standing) (mode : ℕ) → s.node ≡ Dir mode → ((left : Left) × In left packages × IsOf path s left) ⊎ ((path ≡ []) × (s ≡ first_root.1)) → mode ≤ 4095
  dir-mode path s mode is (inl own) =
      let of = own.2 in
      (sound-of own.0.trees.target (fit.trees own.0 own.1)).dirs path mode (of.there ∙ ap Some (ap (λ (t : Standing). t.node) (sym of.is) ∙ is))
  dir-mode path s mode is (inr first) = let same : Dir 493 ≡ Dir mode = ap (λ (t : Standing). t.node) (sym first.1) ∙ is in let equal : 493 ≡ mode = cc in omega arith

  link-text : (path : Names) (s : Standing) (text : List ℕ) → s.node ≡ Link text → ((left : Left) × In left packages × IsOf path s left) ⊎ ((path ≡ []) × (s ≡ first_root.1)) → IsLinkText text
  link-text path s text is (inl own) =
      let of = own.2 in
      (fit.trees own.0 own.1).links path text (of.there ∙ ap Some (ap (λ (t : Standing). t.node) (sym of.is) ∙ is))
  link-text path s text is (inr first) = let same : Dir 493 ≡ Link text = ap (λ (t : Standing). t.node) (sym first.1) ∙ is in cc

  file-mode : (path : Names) (s : Standing) (contents : Contents) → s.contents ≡ Some contents → ((left : Left) × In left packages × IsOf path s left) ⊎ ((path ≡ []) × (s ≡ first_root.1)) → contents.mode ≤ 4095
  file-mode path s contents is (inl own) =
      let of = own.2 in
      contents-mode own.0.trees.target (fit.trees own.0 own.1) of.node contents (ap (λ (t : Standing). t.contents) (sym of.is) ∙ is)
  file-mode path s contents is (inr first) = let none = ap (λ (t : Standing). t.contents) (sym first.1) ∙ is in cc

  pub is-union : IsUnion (root_among packages)
  is-union = record {
    root = root-there;
    paths = λ path s is. legal path s (origin packages path s is);
    parents = parent-there;
    dirs = λ path s mode is own. dir-mode path s mode own (origin packages path s is);
    links = λ path s text is own. link-text path s text own (origin packages path s is);
    files = λ path s contents is own. file-mode path s contents own (origin packages path s is);
  }
