-- Steps of the code on its maps, and turns of its loops.
use Rattle.std.proofs.Common.{ℕ, suc, ◌+◌, ◌-◌, ◌≡◌, ◌≤◌, ◌<◌, Bool, true, false, cond, List, [], ◌∷◌, ◌++◌, Option, Some, None, nat_lt, refl, sym, ap, subst, ◌∙◌, arith}
use Rattle.std.specs.Prelude.{is_some, IfSome, All}
use Rattle.std.specs.List.{range_with_len}
use Rattle.std.specs.Option.{option_map}
use Rattle.std.specs.FinMap as fin
use Rattle.std.specs.BTreeMap as tree
use Rattle.std.specs.BTreeMap.{BTreeMap, is_at}
use Rattle.std.proofs.lemmas.Bool.{ltb-true, ltb-false}
use Rattle.std.proofs.lemmas.List.Elements.{All-head, All-tail, All-nil, All-push}
use Rattle.std.proofs.lemmas.Option.{same_Some}
use Rattle.br_path.specs.Path.{Names, path_cmp}
use Rattle.br_path.proofs.Maps.{get-entries_of, map-insert, entries-of}
use Rattle.br_path.proofs.PathOrder.{path_total, path_same}
use Rattle.tree_ops.specs.declared.entry.Label.{Label}
use Rattle.tree_ops.specs.Tree.{Tree, IsTree, label_cmp}
use Rattle.tree_ops.proofs.Finds.{In, find-in}
use Rattle.tree_ops.proofs.Heads.{rows}
use Rattle.tree_ops.proofs.Orders.{label_total, label_same}
use Rattle.root_image.specs.declared.root.RootEntry.{RootEntry}
use Rattle.root_image.specs.Lines.{Entries}
use Rattle.task_shelves.specs.Packages.{Left}
use Rattle.task_shelves.specs.Sealed.{AreSealed}
use Rattle.root_merge.specs.declared.packages.Left.{Left as Lent}
use Rattle.root_merge.specs.Found.{left_data}
use Rattle.root_merge.specs.Owners.{Owners, owners_in, with_owner, with_left, with_tasks, standing_by, standings}
use Rattle.root_merge.specs.Firsts.{Firsts, firsts_in, with_first, node_entry, firsts_on, entries_on}
use Rattle.root_merge.proofs.Members.{all-of}

-- a path that has an owner keeps it
pub owner-stays : (m : BTreeMap Names (Option ℕ)) (path : Names) (owner : Option ℕ) (has : Bool) → has ≡ is_some (tree.get path_cmp m path) → has ≡ true → owners_in m ≡ with_owner path owner (owners_in m)
owner-stays m path owner has told is =
    ap (λ b. cond b (owners_in m) (fin.insert (owners_in m) path owner)) (sym is ∙ told ∙ sym (ap is_some (get-entries_of path_total m path)))

pub owner-put : (m n : BTreeMap Names (Option ℕ)) (key path : Names) (owner : Option ℕ) (has : Bool) → key ≡ path → ((q : Names) → tree.get path_cmp n q ≡ cond (is_at (path_cmp key) q) (Some owner) (tree.get path_cmp m q))
    → has ≡ is_some (tree.get path_cmp m path) → has ≡ false → owners_in n ≡ with_owner path owner (owners_in m)
owner-put m n key path owner has same updates told is =
    map-insert path_total path_same m n key owner updates
    ∙ ap (λ (k : Names). fin.insert (owners_in m) k owner) same
    ∙ ap (λ b. cond b (owners_in m) (fin.insert (owners_in m) path owner)) (sym is ∙ told ∙ sym (ap is_some (get-entries_of path_total m path)))

-- the first name of a file, as it is looked up
pub first-found : (m : BTreeMap Label Names) (label : Label) (first : Option Names) → first ≡ tree.get label_cmp m label → first ≡ fin.get (firsts_in m) label
first-found m label first told = told ∙ sym (get-entries_of label_total m label)

pub first-put : (m n : BTreeMap Label Names) (label : Label) (key path : Names) → key ≡ path → ((q : Label) → tree.get label_cmp n q ≡ cond (is_at (label_cmp label) q) (Some key) (tree.get label_cmp m q))
    → None ≡ tree.get label_cmp m label → firsts_in n ≡ with_first (fin.get (firsts_in m) label) label path (firsts_in m)
first-put m n label key path same updates none =
    map-insert label_total label_same m n label key updates
    ∙ ap (λ (p : Names). fin.insert (firsts_in m) label p) same
    ∙ ap (λ (o : Option Names). with_first o label path (firsts_in m)) (first-found m label None none)

-- the package that is lent has a tree
pub left-tree : {T : Type 0} (tree_of : T → Tree) (sealed : T → Label → Bool) (lent : Option (Lent T)) (own : Option Left) → option_map (left_data tree_of) lent ≡ own → IfSome lent (λ left. AreSealed tree_of sealed left.trees.now)
    → (left : Left) → own ≡ Some left → IsTree left.trees.target
left-tree tree_of sealed None own told sound left is = let never = told ∙ is in cc
left-tree tree_of sealed (Some lent) own told sound left is =
    subst (λ (l : Left). IsTree l.trees.target) (same_Some (left_data tree_of lent) left (told ∙ is)) sound.target.sound

range-turn : (a n : ℕ) → a < n → range_with_len a (n - a) ≡ a ∷ range_with_len (a + 1) (n - (a + 1))
range-turn a n less = let more : n - a ≡ suc (n - (a + 1)) = omega arith in ap (range_with_len a) more

pub tasks-start : (lefts : ℕ → Option Left) (n : ℕ) (m : BTreeMap Names (Option ℕ)) → m.entries ≡ [] → with_tasks lefts (range_with_len 0 (n - 0)) (owners_in m) ≡ with_tasks lefts (range_with_len 0 n) fin.empty
tasks-start lefts n m none = let all : n - 0 ≡ n = omega arith in λ i. with_tasks lefts (range_with_len 0 (all i)) (fin.from_entries {R = path_cmp} (none i))

pub tasks-turn : (lefts : ℕ → Option Left) (a n : ℕ) (old new all : Owners) → a < n → new ≡ with_left a (lefts a) old → with_tasks lefts (range_with_len a (n - a)) old ≡ all → with_tasks lefts (range_with_len (a + 1) (n - (a + 1))) new ≡ all
tasks-turn lefts a n old new all less put so_far =
    ap (with_tasks lefts (range_with_len (a + 1) (n - (a + 1)))) put ∙ sym (ap (λ (tasks : List ℕ). with_tasks lefts tasks old) (range-turn a n less)) ∙ so_far

pub tasks-end : (lefts : ℕ → Option Left) (a n : ℕ) (owners all : Owners) → n ≤ a → with_tasks lefts (range_with_len a (n - a)) owners ≡ all → owners ≡ all
tasks-end lefts a n owners all past so_far = let none : n - a ≡ 0 = omega arith in sym (ap (λ k. with_tasks lefts (range_with_len a k) owners) none) ∙ so_far

pub trees-turn : (lefts : ℕ → Option Left) (a : ℕ) → ((task : ℕ) (left : Left) → task < a → lefts task ≡ Some left → IsTree left.trees.target) → ((left : Left) → lefts a ≡ Some left → IsTree left.trees.target)
    → (task : ℕ) (left : Left) → task < a + 1 → lefts task ≡ Some left → IsTree left.trees.target
trees-turn lefts a before here task left less is = by (nat_lt task a) refl
  where
    by : (b : Bool) → nat_lt task a ≡ b → IsTree left.trees.target
    by true below = before task left (ltb-true task a below) is
    by false above =
        let most = ltb-false task a above in
        let same : a ≡ task = omega arith in
        here left (ap lefts same ∙ is)

-- what is to come is owned, as the map is
pub all-owned : (P : Names → Option ℕ → Type 0) (m : BTreeMap Names (Option ℕ)) (items : List (Names × Option ℕ)) → items ≡ m.entries → tree.IsOrdered path_cmp m → ((path : Names) (owner : Option ℕ) → fin.get (owners_in m) path ≡ Some owner → P path owner)
    → All (λ e. P e.0 e.1) items
all-owned P m items same rises owned =
    let ours = entries-of path_total m rises in
    all-of (λ e. P e.0 e.1) items (λ e there. owned e.0 e.1 (fin.get-entries (owners_in m) e.0 ∙ find-in path_total path_same e (fin.entries (owners_in m)) (fin.entries_sorted (owners_in m)) (subst (In e) (same ∙ sym ours) there)))

-- one entry more of a root
pub entries-turn : (lefts : ℕ → Option Left) (old new all : Entries) (firsts more : Firsts) (path : Names) (owner : Option ℕ) (entry : RootEntry) (items rest : List (Names × Option ℕ)) → new ≡ old ++ (path, entry) ∷ []
    → entry ≡ node_entry firsts (standing_by lefts path owner).contents (standing_by lefts path owner).node → more ≡ firsts_on firsts path (standing_by lefts path owner).node → items ≡ (path, owner) ∷ rest
    → old ++ entries_on firsts (standings lefts items) ≡ all → new ++ entries_on more (standings lefts rest) ≡ all
entries-turn lefts old new all firsts more path owner entry items rest pushed is put steps so_far =
    ap (λ (es : Entries). es ++ entries_on more (standings lefts rest)) pushed
    ∙ rows old ((path, entry) ∷ []) (entries_on more (standings lefts rest))
    ∙ (λ i. old ++ (path, is i) ∷ entries_on (put i) (standings lefts rest))
    ∙ sym (ap (λ (l : List (Names × Option ℕ)). old ++ entries_on firsts (standings lefts l)) steps)
    ∙ so_far

-- what holds of all that is to come holds of the next, and of the others
pub all-parts : {E : Type 0} (P : E → Type 0) (items rest : List E) (e : E) → items ≡ e ∷ rest → All P items → P e × All P rest
all-parts P items rest e steps all = let here = subst (All P) steps all in (All-head P e rest here, All-tail P e rest here)

pub all-pushed : {E : Type 0} (P : E → Type 0) (old new : List E) (e : E) → new ≡ old ++ e ∷ [] → All P old → P e → All P new
all-pushed P old new e pushed all here = subst (All P) (sym pushed) (All-push P old e all here)

pub all-none : {E : Type 0} (P : E → Type 0) (items : List E) → items ≡ [] → All P items
all-none P items none = subst (All P) (sym none) (All-nil P)
