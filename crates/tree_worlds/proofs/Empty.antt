-- A tree with the root alone.
use Rattle.std.proofs.Common.{ℕ, ◌+◌, ◌≡◌, ◌≤◌, length, Bool, true, false, cond, All, List, [], ◌∷◌, ◌++◌, Some, refl, sym, ap, subst, ◌∙◌, arith}
use Rattle.std.specs.FinMap as fin
use Rattle.std.specs.List.{sum_by}
use Rattle.std.specs.Ordering.{eq_by_cmp}
use Rattle.std.specs.Option.{is_some}
use Rattle.std.specs.Cmp.{Equal-is}
use Rattle.std.proofs.lemmas.Bool.{true≢false}
use Rattle.std.proofs.lemmas.List.Elements.{All-nil, All-cons, All-append}
use Rattle.std.proofs.lemmas.Option.{same_Some}
use Rattle.br_path.specs.Path.{Names, IsName, IsPath, path_cmp, rooted_text}
use Rattle.br_path.proofs.PathOrder.{path_total, path_same}
use Rattle.br_path.proofs.Reading.{append-nonempty}
use Rattle.tree_ops.specs.declared.entry.Label.{Label}
use Rattle.tree_ops.specs.declared.entry.Contents.{Contents}
use Rattle.tree_ops.specs.declared.entry.Node.{Node}
use Rattle.tree_ops.specs.declared.entry.Node.TheVariants.{Dir, Link, File}
use Rattle.tree_ops.specs.Pen.{Counts, counts_of}
use Rattle.tree_ops.specs.Tree.{Tree, IsTree, label_cmp, node_at, is_dir, empty_tree}
use Rattle.tree_ops.specs.Change.{text_bytes}
use Rattle.tree_ops.specs.Held.{IsHeld, IsSealed}
use Rattle.tree_ops.proofs.Inserts.{sum_by-entries_insert, len-insert_new}
use Rattle.tree_ops.proofs.Sound.{IsSound, of-sound}
use Rattle.tree_worlds.specs.declared.world.World.{World}
use Rattle.tree_worlds.specs.World.{AreaTrees, trees_data, empty_trees}
use Rattle.tree_worlds.specs.HeldWorld.{IsHeldWorld, IsReadable, names_in, texts_in}
use Rattle.tree_worlds.specs.declared.world.ShownTree.{ShownTree}

root_alone : (at : Names) (node : Node) → node_at empty_tree at ≡ Some node → (at ≡ []) × (node ≡ Dir 493)
root_alone at node there = by (eq_by_cmp path_cmp at []) refl (sym (fin.get-insert path_total fin.empty [] (Dir 493) at) ∙ there)
  where
    by : (b : Bool) → eq_by_cmp path_cmp at [] ≡ b → cond b (Some (Dir 493)) (fin.get {R = path_cmp} fin.empty at) ≡ Some node → (at ≡ []) × (node ≡ Dir 493)
    by true tied is = (path_same at [] ((Equal-is (path_cmp at [])).0 tied), sym (same_Some (Dir 493) node is))
    by false other is = let none = sym (fin.get-empty path_cmp at) ∙ is in cc

no_label : (label : Label) → is_some (fin.get empty_tree.labels label) ≡ true → ⊥
no_label label there = true≢false (sym there ∙ ap is_some (fin.get-empty label_cmp label))

no_contents : (label : Label) (contents : Contents) → fin.get empty_tree.labels label ≡ Some contents → ⊥
no_contents label contents there = no_label label (ap is_some there)

no_file : (label : Label) → File label ≡ Dir 493 → ⊥
no_file label is = cc

no_link : (text : List ℕ) → Link text ≡ Dir 493 → ⊥
no_link text is = cc

abbrev mode_in : Node → ℕ
mode_in (Dir mode) = mode
mode_in (Link text) = 0
mode_in (File label) = 0

root_mode : (mode : ℕ) → Dir mode ≡ Dir 493 → mode ≤ 4095
root_mode mode is = let same : mode ≡ 493 = ap mode_in is in omega arith

root_path : IsPath []
root_path = record { legal = All-nil IsName; short = omega arith }

sound : IsSound empty_tree
sound = record {
  paths = λ at node there. subst IsPath (sym (root_alone at node there).0) root_path;
  root = ap is_dir (fin.get-insert path_total fin.empty [] (Dir 493) []);
  parents = λ at name node there. absurd (append-nonempty at name [] (root_alone (at ++ name ∷ []) node there).0);
  stands = λ at label there. absurd (no_file label (root_alone at (File label) there).1);
  named = λ label contents there. absurd (no_contents label contents there);
  dirs = λ at mode there. root_mode mode (root_alone at (Dir mode) there).1;
  files = λ label contents there. absurd (no_contents label contents there);
  links = λ at text there. absurd (no_link text (root_alone at (Link text) there).1);
}

-- each pen holds it
pub IsHeld-empty : (tree : Tree) (sealed : Label → Bool) (pen : Counts) → tree ≡ empty_tree → IsHeld tree sealed pen
IsHeld-empty tree sealed pen is = subst (λ (t : Tree). IsHeld t sealed pen) (sym is) (record {
  sound = of-sound empty_tree sound;
  own = λ label there. absurd (no_label label there);
  fresh = λ label there own. absurd (no_label label there);
})

-- it has one name, whose text has no bytes
root-len : fin.len empty_tree.names ≡ 1
root-len = len-insert_new path_total (fin.empty {R = path_cmp}) [] (Dir 493) (fin.get-empty path_cmp []) ∙ ap (λ n. n + 1) (fin.len-empty path_cmp Node)

root-text : text_bytes empty_tree ≡ 0
root-text =
    sum_by-entries_insert path_total (λ entry. length (rooted_text entry.0)) (fin.empty {R = path_cmp}) [] (Dir 493) (fin.get-empty path_cmp [])
    ∙ ap (λ (es : List (Names × Node)). 0 + sum_by (λ entry. length (rooted_text entry.0)) es) no_entries
  where
    no_entries : fin.entries (fin.empty {X = Node} {R = path_cmp}) ≡ []
    no_entries = none (fin.entries (fin.empty {X = Node} {R = path_cmp})) (sym (fin.len-entries (fin.empty {X = Node} {R = path_cmp})) ∙ fin.len-empty path_cmp Node)
      where
        none : (es : List (Names × Node)) → length es ≡ 0 → es ≡ []
        none [] is = refl
        none (e ∷ es) is = absurd (omega arith)

-- the pen of a world holds its trees if all are empty
pub IsHeldWorld-empty : {T : Type 0} (tree : T → Tree) (sealed : T → Label → Bool) (world : World T) → trees_data tree world.trees ≡ empty_trees → world.shown ≡ [] → world.pen.names ≡ 0 → world.pen.path_bytes ≡ 0
    → IsHeldWorld tree sealed world
IsHeldWorld-empty tree sealed world is none unnamed untold = record {
  build = IsHeld-empty _ (sealed world.trees.build) (counts_of world.pen) (ap (λ (t : AreaTrees). t.build) is);
  host = IsHeld-empty _ (sealed world.trees.host) (counts_of world.pen) (ap (λ (t : AreaTrees). t.host) is);
  staging = IsHeld-empty _ (sealed world.trees.staging) (counts_of world.pen) (ap (λ (t : AreaTrees). t.staging) is);
  target = IsHeld-empty _ (sealed world.trees.target) (counts_of world.pen) (ap (λ (t : AreaTrees). t.target) is);
  shown = subst (All (IsReadable tree sealed)) (sym none) (All-nil (IsReadable tree sealed));
  names = ap names_in is ∙ (let one = root-len in let four : names_in empty_trees ≡ world.pen.names + 4 = omega arith in four);
  path_bytes = ap texts_in is ∙ (let zero = root-text in let all : texts_in empty_trees ≡ world.pen.path_bytes = omega arith in all);
}

-- one more readable tree
pub IsReadable-more : {T : Type 0} (tree : T → Tree) (sealed : T → Label → Bool) (old new : List (ShownTree T)) (more : ShownTree T) → All (IsReadable tree sealed) old → IsTree (tree more.tree)
    → IsSealed (tree more.tree) (sealed more.tree) → new ≡ old ++ more ∷ [] → All (IsReadable tree sealed) new
IsReadable-more tree sealed old new more all sound whole is =
    subst (All (IsReadable tree sealed)) (sym is)
    (All-append (IsReadable tree sealed) old (more ∷ []) all (All-cons (IsReadable tree sealed) more [] (record { sound = sound; whole = whole }) (All-nil (IsReadable tree sealed))))
