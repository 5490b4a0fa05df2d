-- The counts of a pen move as those of the tree do.
use Rattle.std.proofs.Common.{ℕ, ◌+◌, ◌-◌, ◌≤◌, ◌≡◌, true, List, [], ◌∷◌, length, Option, None, Result, Ok, Err, refl, sym, ap, subst, ◌∙◌, arith}
use Rattle.std.specs.FinMap as fin
use Rattle.std.specs.FinMap.{FinMap}
use Rattle.std.proofs.lemmas.Bool.{true≢false}
use Rattle.br_path.specs.Path.{Names, path_cmp}
use Rattle.tree_ops.specs.declared.change.ChangeFault.{ChangeFault}
use Rattle.tree_ops.specs.declared.change.ChangeFault.TheVariants.{Memory}
use Rattle.tree_ops.specs.declared.entry.Node.{Node}
use Rattle.tree_ops.specs.declared.pen.Pen.{Pen}
use Rattle.tree_ops.specs.Tree.{Tree, IsTree, node_at, is_dir}
use Rattle.tree_ops.specs.Change.{Change, State, changed, tree_after, text_bytes, seen, IsChange}
use Rattle.tree_ops.proofs.Outcomes.{after-changed}

-- the names of the tree and those that stand elsewhere are what the pen counts, roots left out
pub names-changed : (change : Change) (old new : State) (rest roots : ℕ) → changed change old ≡ Ok new → roots ≤ fin.len new.0.names + rest
    → fin.len old.0.names + rest ≡ old.1.names + roots → fin.len new.0.names + rest ≡ new.1.names + roots
names-changed change old new rest roots is enough was =
    let done = after-changed change old new is in
    let names : old.1.names + fin.len (tree_after change old).names - fin.len old.0.names ≡ new.1.names = ap (λ (s : State). s.1.names) done.2 in
    let tree : fin.len (tree_after change old).names ≡ fin.len new.0.names = ap (λ (s : State). fin.len s.0.names) done.2 in
    omega arith

-- and so are the bytes of their texts
pub texts-changed : (change : Change) (old new : State) (rest : ℕ) → changed change old ≡ Ok new → text_bytes old.0 + rest ≡ old.1.path_bytes → text_bytes new.0 + rest ≡ new.1.path_bytes
texts-changed change old new rest is was =
    let done = after-changed change old new is in
    let texts : old.1.path_bytes + text_bytes (tree_after change old) - text_bytes old.0 ≡ new.1.path_bytes = ap (λ (s : State). s.1.path_bytes) done.2 in
    let tree : text_bytes (tree_after change old) ≡ text_bytes new.0 = ap (λ (s : State). text_bytes s.0) done.2 in
    omega arith

-- whatever a call answers
pub names-IsChange : (copying : ℕ → ℕ → ℕ) (change : Change) (old new : Tree × Pen) (result : Result (Unit {0}) ChangeFault) (rest roots : ℕ) → IsChange copying change old result new → roots ≤ fin.len new.0.names + rest
    → fin.len old.0.names + rest ≡ old.1.names + roots → fin.len new.0.names + rest ≡ new.1.names + roots
names-IsChange copying change old new (Ok done) rest roots is enough was = names-changed change (seen old) (seen new) rest roots is.0 enough was
names-IsChange copying change old new (Err Memory) rest roots is enough was = subst (λ (s : Tree × Pen). fin.len s.0.names + rest ≡ s.1.names + roots) (sym is) was
names-IsChange copying change old new (Err fault) rest roots is enough was = subst (λ (s : Tree × Pen). fin.len s.0.names + rest ≡ s.1.names + roots) (sym is.1) was

pub texts-IsChange : (copying : ℕ → ℕ → ℕ) (change : Change) (old new : Tree × Pen) (result : Result (Unit {0}) ChangeFault) (rest : ℕ) → IsChange copying change old result new
    → text_bytes old.0 + rest ≡ old.1.path_bytes → text_bytes new.0 + rest ≡ new.1.path_bytes
texts-IsChange copying change old new (Ok done) rest is was = texts-changed change (seen old) (seen new) rest is.0 was
texts-IsChange copying change old new (Err Memory) rest is was = subst (λ (s : Tree × Pen). text_bytes s.0 + rest ≡ s.1.path_bytes) (sym is) was
texts-IsChange copying change old new (Err fault) rest is was = subst (λ (s : Tree × Pen). text_bytes s.0 + rest ≡ s.1.path_bytes) (sym is.1) was

-- a tree has at least its root
pub root-counts : (tree : Tree) → IsTree tree → 1 ≤ fin.len tree.names
root-counts tree is = by (fin.entries tree.names) refl
  where
    no_root : (node : Option Node) → node ≡ None → is_dir node ≡ true → ⊥
    no_root node none root = true≢false (sym root ∙ ap is_dir none)

    by : (es : List (Names × Node)) → fin.entries tree.names ≡ es → 1 ≤ fin.len tree.names
    by [] none =
        let empty : fin.len tree.names ≡ 0 = fin.len-entries tree.names ∙ ap length none in
        absurd (no_root (node_at tree []) (ap (λ (names : FinMap path_cmp Node). fin.get names []) (fin.empty_of_len tree.names empty) ∙ fin.get-empty path_cmp []) is.root)
    by (e ∷ es) some = let more : fin.len tree.names ≡ length (e ∷ es) = fin.len-entries tree.names ∙ ap length some in omega arith
