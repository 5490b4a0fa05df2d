-- What stands below a path stands at a name directly below it, or below that.
use Rattle.std.proofs.Common.{ℕ, ◌+◌, ◌-◌, ◌≤◌, ◌<◌, ◌≡◌, Bool, true, false, cond, ◌&&◌, ◌||◌, List, [], ◌∷◌, ◌++◌, length, take, get_or, Option, Some, None, refl, sym, ap, subst, ◌∙◌, arith}
use Rattle.std.specs.Prelude.{is_some, IsSome, nat_eq}
use Rattle.std.specs.List.{list_any, Contains}
use Rattle.std.proofs.lemmas.List.{length-append}
use Rattle.std.proofs.lemmas.List.Folds.{list_any_more}
use Rattle.std.proofs.lemmas.Bool.{true≢false}
use Rattle.br_path.specs.Path.{Names, IsPath, path_text, path_cmp}
use Rattle.br_path.proofs.Paths.{names_decide}
use Rattle.tree_ops.specs.declared.entry.Node.{Node}
use Rattle.tree_ops.specs.Tree.{Tree, IsTree, node_at, is_dir, laid, names_below}
use Rattle.tree_ops.specs.Change.{is_path, is_below, is_at_or_below}
use Rattle.tree_ops.proofs.Finds.{any-in, in-any, get-laid}
use Rattle.br_path.proofs.PathOrder.{path_total, path_same}
use Rattle.std.specs.FinMap as fin
use Rattle.std.specs.Option.{option_or}
use Rattle.tree_ops.proofs.Heads.{rows, rest-of_head, head-of_rest, rest-of_below, below-of_rest}
use Rattle.tree_ops.proofs.Listing.{exactly-below}
use Rattle.std.specs.Cmp.Lexicographic.{pointwise, bytes_decides, nat_list_eq_equiv, lists_ties, texts_ties, slice_cmp}
use Rattle.std.specs.Ordering.{nat_cmp}
use Rattle.std.specs.BTreeMap.{is_at}
use Rattle.std.proofs.lemmas.Map.Views.{list_any-from_Contains}
use Rattle.tree_ops.proofs.Sound.{sound-of, dir-above, same_tests}

-- a path is at or below one of the names directly below another
abbrev pub is_below_one : Names → Names → Names → Bool
is_below_one at names path = list_any (λ name. is_at_or_below (at ++ name ∷ []) path) names

folder_there : (node : Option Node) → is_dir node ≡ true → (n : Node) × (node ≡ Some n)
folder_there None is = absurd (true≢false (sym is))
folder_there (Some n) is = (n, refl)

some_there : (node : Option Node) → is_some node ≡ true → (n : Node) × (node ≡ Some n)
some_there None is = absurd (true≢false (sym is))
some_there (Some n) is = (n, refl)

-- what stands at the end of a path, or above it, stands
first_there : (tree : Tree) → IsTree tree → (at : Names) (name : List ℕ) (rest : Names) (node : Node) → node_at tree (at ++ name ∷ rest) ≡ Some node → (n : Node) × (node_at tree (at ++ name ∷ []) ≡ Some n)
first_there tree is at name [] node there = (node, there)
first_there tree is at name (other ∷ rest) node there =
    folder_there (node_at tree (at ++ name ∷ [])) (dir-above tree (sound-of tree is) (at ++ name ∷ []) other rest node (ap (node_at tree) (rows at (name ∷ []) (other ∷ rest)) ∙ there))

one-below : (at : Names) (names : Names) (path : Names) → is_below_one at names path ≡ true → is_below at path ≡ true
one-below at names path one =
    let found = in-any (λ name. is_at_or_below (at ++ name ∷ []) path) names one in
    let rest = rest-of_head (at ++ found.0 ∷ []) path found.2 in
    subst (λ (p : Names). is_below at p ≡ true) (sym (rest.1 ∙ rows at (found.0 ∷ []) rest.0)) (below-of_rest at found.0 rest.0)

below-one : (tree : Tree) → IsTree tree → (at path : Names) (node : Node) → node_at tree path ≡ Some node → is_below at path ≡ true → is_below_one at (names_below tree at) path ≡ true
below-one tree is at path node there below =
    let parts = rest-of_below at path below in
    let name = parts.0 in
    let rest = parts.1 in
    let first = first_there tree is at name rest node (ap (node_at tree) (sym parts.2) ∙ there) in
    let listed = in-any (pointwise nat_eq name) (names_below tree at) (list_any-from_Contains nat_list_eq_equiv name (names_below tree at) ((exactly-below tree at name).1 (ap is_some first.1))) in
    any-in (λ name. is_at_or_below (at ++ name ∷ []) path) listed.0 (names_below tree at) listed.1
    (subst (λ (n : List ℕ). is_at_or_below (at ++ n ∷ []) path ≡ true) ((bytes_decides name listed.0).0 listed.2) (subst (λ (p : Names). is_at_or_below (at ++ name ∷ []) p ≡ true) (rows at (name ∷ []) rest ∙ sym parts.2) (head-of_rest (at ++ name ∷ []) rest)))

-- in a tree a path stands below another just where it is at or below one of the names there
pub below-is : (tree : Tree) → IsTree tree → (at path : Names) → (is_below_one at (names_below tree at) path && is_some (node_at tree path)) ≡ (is_below at path && is_some (node_at tree path))
below-is tree is at path = by (is_some (node_at tree path)) refl
  where
    by : (b : Bool) → is_some (node_at tree path) ≡ b → (is_below_one at (names_below tree at) path && b) ≡ (is_below at path && b)
    by true there =
        let node = some_there (node_at tree path) there in
        ap (λ b. b && true) (same_tests _ _ (one-below at (names_below tree at) path) (below-one tree is at path node.0 node.1))
    by false none = no_more (is_below_one at (names_below tree at) path) ∙ sym (no_more (is_below at path))
      where
        no_more : (b : Bool) → (b && false) ≡ false
        no_more true = refl
        no_more false = refl

-- a name that stands directly below a path stands there
pub child_there : (tree : Tree) (at : Names) (names : Names) (name : List ℕ) (below : Names) → names ≡ names_below tree at → Contains names name → below ≡ at ++ name ∷ [] → IsSome (node_at tree below)
child_there tree at names name below is found same =
    subst (λ (p : Names). IsSome (node_at tree p)) (sym same) ((exactly-below tree at name).0 (subst (λ (ns : Names). Contains ns name) is found))

-- a path has fewer names than bytes
few_names : (names : Names) → length names ≤ length (path_text names) + 1
few_names [] = omega arith
few_names (x ∷ []) = omega arith
few_names (x ∷ y ∷ ys) =
    let rest = few_names (y ∷ ys) in
    let all : length (path_text (x ∷ y ∷ ys)) ≡ length x + length (47 ∷ path_text (y ∷ ys)) = length-append x (47 ∷ path_text (y ∷ ys)) in
    omega arith

-- each step down leaves fewer steps to go
pub fewer_left : (at : Names) (name : List ℕ) (below : Names) → below ≡ at ++ name ∷ [] → IsPath below → 1025 - length below < 1025 - length at
fewer_left at name below same path =
    let few = few_names below in
    let short = path.short in
    let longer : length below ≡ length at + 1 = ap length same ∙ length-append at (name ∷ []) in
    omega arith

-- one more of the names directly below, as at a step of a loop
pub one_more : (at path : Names) (names : Names) (i : ℕ) (name : List ℕ) (there before : Bool) → i < length names → get_or names i name ≡ name → (is_at_or_below (at ++ name ∷ []) path && there || (is_below_one at (take i names) path && there || before)) ≡ (is_below_one at (take (i + 1) names) path && there || before)
one_more at path names i name there before within is =
    by (is_below_one at (take i names) path) (is_at_or_below (at ++ name ∷ []) path)
    ∙ ap (λ b. b && there || before) (sym (list_any_more (λ n. is_at_or_below (at ++ n ∷ []) path) names i name within ∙ ap (λ (n : List ℕ). is_below_one at (take i names) path || is_at_or_below (at ++ n ∷ []) path) is))
  where
    by : (some this : Bool) → (this && there || (some && there || before)) ≡ ((some || this) && there || before)
    by true true = both there before
      where
        both : (t b : Bool) → (t || (t || b)) ≡ (t || b)
        both true b = refl
        both false b = refl
    by true false = refl
    by false true = refl
    by false false = refl

-- the path itself, and what stands at or below the names there, are what stands at the path or below it
pub all_there : (tree : Tree) → IsTree tree → (at path : Names) (before : Bool) → IsSome (node_at tree at) → cond (is_at (path_cmp at) path) true (is_below_one at (names_below tree at) path && is_some (node_at tree path) || before) ≡ (is_at_or_below at path && is_some (node_at tree path) || before)
all_there tree is at path before here =
    ap (λ b. cond b true (is_below_one at (names_below tree at) path && is_some (node_at tree path) || before)) (sym (lists_ties (slice_cmp nat_cmp) texts_ties at path))
    ∙ by (is_path at path) refl
  where
    by : (b : Bool) → is_path at path ≡ b → cond b true (is_below_one at (names_below tree at) path && is_some (node_at tree path) || before) ≡ ((b || is_below at path) && is_some (node_at tree path) || before)
    by true same = sym (ap (λ b. b || before) (subst (λ (p : Names). is_some (node_at tree p) ≡ true) ((names_decide at path).0 same) here))
    by false other = ap (λ b. b || before) (below-is tree is at path)

-- a set that takes the names of two trees one after the other has the keys of one laid over the other
pub both_there : (before after : Tree) (none first second : Names → Bool) (path : Names) → none path ≡ false
    → first path ≡ (is_at_or_below [] path && is_some (node_at before path) || none path)
    → second path ≡ (is_at_or_below [] path && is_some (node_at after path) || first path)
    → second path ≡ fin.contains_key (laid before.names after.names) path
both_there before after none first second path empty one two =
    two ∙ ap (λ b. is_at_or_below [] path && is_some (node_at after path) || b) (one ∙ ap (λ b. is_at_or_below [] path && is_some (node_at before path) || b) empty)
    ∙ ap (λ b. b && is_some (node_at after path) || (b && is_some (node_at before path) || false)) (head-of_rest [] path)
    ∙ by (node_at after path) (node_at before path)
    ∙ sym (ap is_some (get-laid path_total path_same before.names after.names path))
  where
    by : (high low : Option Node) → (is_some high || (is_some low || false)) ≡ is_some (option_or high low)
    by None None = refl
    by None (Some low) = refl
    by (Some high) low = refl
