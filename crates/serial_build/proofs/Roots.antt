-- Each change leaves the root in its place.
use Rattle.std.proofs.Common.{ℕ, ◌≡◌, Bool, true, false, not, cond, ◌||◌, List, [], ◌∷◌, map, Option, Some, None, Ordering, Result, Ok, Err, is_some, is_eq, refl, sym, ap, subst, ◌∙◌, inl, inr}
use Rattle.std.specs.Cmp.{IsTotalOrder}
use Rattle.std.specs.FinMap as fin
use Rattle.std.specs.FinMap.{FinMap, find}
use Rattle.std.specs.Option.{option_or, option_map}
use Rattle.std.specs.Ordering.{eq_by_cmp}
use Rattle.std.proofs.lemmas.Bool.{true≢false, or_parts}
use Rattle.std.proofs.lemmas.Cmp.{tied_itself}
use Rattle.br_path.specs.Path.{Names, path_cmp}
use Rattle.br_path.specs.declared.area.Area.{Area}
use Rattle.br_path.specs.declared.area.Area.TheVariants.{Build, Host, Staging, Target}
use Rattle.br_path.proofs.PathOrder.{path_total, path_same}
use Rattle.tree_ops.specs.declared.change.ChangeFault.{ChangeFault}
use Rattle.tree_ops.specs.declared.change.ChangeFault.TheVariants.{ReadOnly, Outside}
use Rattle.tree_ops.specs.declared.entry.Contents.{Contents}
use Rattle.tree_ops.specs.declared.entry.Label.{Label}
use Rattle.tree_ops.specs.declared.entry.Node.{Node}
use Rattle.tree_ops.specs.declared.entry.Node.TheVariants.{Dir, Link, File}
use Rattle.tree_ops.specs.Tree.{Tree, node_at, is_hidden, over}
use Rattle.tree_ops.specs.Change.{Change, MakeFile, Write, Append, SetMode, AddName, MakeLink, MakeDir, Remove, Rename, Populate, State, changed, fault_of, fault_if, tree_after, is_own, is_path, is_at_or_below, next_label, with_contents, contents_at, written, with_bytes, with_more, with_mode, mode_set, named_again, relabelled, relabelled_node, moved, moved_path, renamed}
use Rattle.tree_ops.proofs.Finds.{In, in-find, get-left}
use Rattle.tree_ops.proofs.Growing.{get-relabelled}
use Rattle.tree_ops.proofs.Heads.{moved_path-other}
use Rattle.tree_ops.proofs.Inserts.{get-insert_cases}
use Rattle.tree_ops.proofs.Laying.{get-over}
use Rattle.tree_ops.proofs.Outcomes.{after-changed}
use Rattle.tree_worlds.specs.declared.reason.Reason.TheVariants.{Operand, Change as for_change}
use Rattle.tree_worlds.specs.Kept.{IsKept, left_by}
use Rattle.tree_worlds.specs.Program.{Program, run}
use Rattle.tree_worlds.specs.World.{WorldData, may_change, is_asked, state_in, with_state, both_mapped}
use Rattle.tree_worlds.proofs.Programs.{kept_by_run}
use Rattle.serial_build.specs.Roots.{KeepsRoot}

abbrev pub HasRoot : FinMap path_cmp Node → Type 0
HasRoot names = is_some (fin.get names []) ≡ true

root-inserted : (names : FinMap path_cmp Node) (at : Names) (node : Node) → HasRoot names → HasRoot (fin.insert names at node)
root-inserted names at node there = elim (get-insert_cases path_total path_same names at node []) [
  | inl found ↦ ap is_some found.1
  | inr same ↦ ap is_some same ∙ there
]

root-relabelled : (from to : Label) (names : FinMap path_cmp Node) → HasRoot names → HasRoot (relabelled from to names)
root-relabelled from to names there = ap is_some (get-relabelled from to names []) ∙ by (fin.get names []) there
  where
    by : (node : Option Node) → is_some node ≡ true → is_some (option_map (relabelled_node from to) node) ≡ true
    by None there = there
    by (Some node) there = refl

root-if : (own : Bool) (one other : Tree) → HasRoot one.names → HasRoot other.names → HasRoot (cond own one other).names
root-if true one other first second = first
root-if false one other first second = second

root-contents : (old : State) (label : Label) (contents : Contents) → HasRoot old.0.names → HasRoot (with_contents old label contents).names
root-contents old label contents there =
    root-if (is_own old.1 label) (record old.0 { labels = fin.insert old.0.labels label contents })
    (record { names = relabelled label (next_label old.1) old.0.names; labels = fin.remove (fin.insert old.0.labels (next_label old.1) contents) label })
    there (root-relabelled label (next_label old.1) old.0.names there)

root-written : (old : State) (f : Contents → Contents) (node : Option Node) → HasRoot old.0.names → HasRoot (written old f node).names
root-written old f None there = there
root-written old f (Some (Dir mode)) there = there
root-written old f (Some (Link text)) there = there
root-written old f (Some (File label)) there = root-contents old label (f (contents_at old.0 label)) there

root-mode : (old : State) (at : Names) (mode : ℕ) (node : Option Node) → HasRoot old.0.names → HasRoot (mode_set old at mode node).names
root-mode old at mode None there = there
root-mode old at mode (Some (Dir other)) there = root-inserted old.0.names at (Dir mode) there
root-mode old at mode (Some (Link text)) there = there
root-mode old at mode (Some (File label)) there = root-contents old label (with_mode mode (contents_at old.0 label)) there

root-named : (tree : Tree) (at : Names) (node : Option Node) → HasRoot tree.names → HasRoot (named_again tree at node).names
root-named tree at None there = there
root-named tree at (Some node) there = root-inserted tree.names at node there

-- a change that isn't refused
no-first : {A : Type 0} (a b : Option A) → option_or a b ≡ None → a ≡ None
no-first None b is = refl
no-first (Some x) b is = cc

no-fault : (b : Bool) (fault : ChangeFault) → fault_if b fault ≡ None → b ≡ false
no-fault true fault is = cc
no-fault false fault is = refl

not-root : (at : Names) → is_path at [] ≡ false → [] ≡ at → ⊥
not-root at apart same = true≢false (ap (λ (path : Names). is_path path []) same ∙ apart)

root-removed : (names : FinMap path_cmp Node) (at : Names) → is_path at [] ≡ false → HasRoot names → HasRoot (fin.remove names at)
root-removed names at apart there = ap is_some (get-left path_total path_same names at [] (not-root at apart)) ∙ there

-- some value is found where an entry goes
module _ {K X : Type 0} {R : K → K → Ordering} (o : IsTotalOrder R) (f : K → K) where
  some-moved : (e : K × X) (es : List (K × X)) → In e es → is_some (find R (f e.0) (map (λ (entry : K × X). (f entry.0, entry.1)) es)) ≡ true
  some-moved e [] there = absurd there
  some-moved e (x ∷ xs) there = by (some-moved e xs) (eq_by_cmp R (f e.0) (f x.0)) refl there
    where
      by : (In e xs → is_some (find R (f e.0) (map (λ (entry : K × X). (f entry.0, entry.1)) xs)) ≡ true) → (b : Bool) → eq_by_cmp R (f e.0) (f x.0) ≡ b → In e (x ∷ xs)
          → is_some (find R (f e.0) (map (λ (entry : K × X). (f entry.0, entry.1)) (x ∷ xs))) ≡ true
      by rest true tied there = ap (λ b. is_some (cond b (Some x.1) (find R (f e.0) (map (λ (entry : K × X). (f entry.0, entry.1)) xs)))) tied
      by rest false other (inl is) = absurd (true≢false (sym (ap is_eq (tied_itself o (f e.0))) ∙ ap (λ (e' : K × X). eq_by_cmp R (f e.0) (f e'.0)) (sym is) ∙ other))
      by rest false other (inr there) = ap (λ b. is_some (cond b (Some x.1) (find R (f e.0) (map (λ (entry : K × X). (f entry.0, entry.1)) xs)))) other ∙ rest there

some-is : {A : Type 0} (o : Option A) → is_some o ≡ true → (x : A) × (o ≡ Some x)
some-is None there = absurd (true≢false (sym there))
some-is (Some x) there = (x, refl)

-- the root stands below no other path
root-apart : (old : Names) → is_path old [] ≡ false → is_at_or_below old [] ≡ false
root-apart [] apart = absurd (true≢false apart)
root-apart (name ∷ names) apart = refl

root-moved : (names : FinMap path_cmp Node) (old at : Names) → is_path old [] ≡ false → is_path at [] ≡ false → HasRoot names → HasRoot (moved names old at)
root-moved names old at not_old not_at there =
    let left = fin.remove names at in
    let lead = λ (path : Names). moved_path old at path in
    let es = fin.entries left in
    let node = some-is (fin.get left []) (root-removed names at not_at there) in
    let entry : In ([], node.0) es = in-find path_total path_same [] node.0 es (sym (fin.get-entries left []) ∙ node.1) in
    let stays : lead [] ≡ [] = moved_path-other old at [] (root-apart old not_old) in
    ap is_some (fin.get-from_entries path_total (map (λ (e : Names × Node). (lead e.0, e.1)) es) [])
    ∙ subst (λ (path : Names). is_some (find path_cmp path (map (λ (e : Names × Node). (lead e.0, e.1)) es)) ≡ true) stays (some-moved path_total lead ([], node.0) es entry)

root-renamed : (tree : Tree) (old at : Names) → is_path old [] ≡ false → is_path at [] ≡ false → HasRoot tree.names → HasRoot (renamed tree old at).names
root-renamed tree old at not_old not_at there = root-if (is_path old at) tree _ there (root-moved tree.names old at not_old not_at there)

pub root-over : (low high : Tree) → HasRoot low.names → HasRoot (over low high).names
root-over low high there = ap is_some (get-over low high []) ∙ by (node_at high []) (node_at low []) there
  where
    by : (above below : Option Node) → is_some below ≡ true → is_some (option_or above (cond (not (is_hidden high [])) below None)) ≡ true
    by None below there = there
    by (Some node) below there = refl

root-after : (change : Change) (old : State) → fault_of change old.0 ≡ None → HasRoot old.0.names → HasRoot (tree_after change old).names
root-after (MakeFile at mode bytes) old fine there = root-inserted old.0.names at (File (next_label old.1)) there
root-after (Write at bytes) old fine there = root-written old (with_bytes bytes) (node_at old.0 at) there
root-after (Append at bytes) old fine there = root-written old (with_more bytes) (node_at old.0 at) there
root-after (SetMode at mode) old fine there = root-mode old at mode (node_at old.0 at) there
root-after (AddName first at) old fine there = root-named old.0 at (node_at old.0 first) there
root-after (MakeLink at text) old fine there = root-inserted old.0.names at (Link text) there
root-after (MakeDir at mode) old fine there = root-inserted old.0.names at (Dir mode) there
root-after (Remove at) old fine there = root-removed old.0.names at (no-fault (is_path at []) Outside (no-first (fault_if (is_path at []) Outside) _ fine)) there
root-after (Rename first at) old fine there =
    let apart = or_parts (is_path first []) (is_path at []) (no-fault (is_path first [] || is_path at []) Outside (no-first (fault_if (is_path first [] || is_path at []) Outside) _ fine)) in
    root-renamed old.0 first at apart.0 apart.1 there
root-after (Populate from) old fine there = root-over old.0 from there

pub root-changed : (change : Change) (old new : State) → changed change old ≡ Ok new → HasRoot old.0.names → HasRoot new.0.names
root-changed change old new is there =
    let done = after-changed change old new is in
    subst (λ (state : State). HasRoot state.0.names) done.2 (root-after change old done.0 there)

-- an answer after two tests passed both
pub guarded : {W S F E : Type 0} (put : S → W) (lift : F → E) (first second : E) (new : W) (may is : Bool) (outcome : Result S F)
    → cond {A = Result W E} (not may) (Err first) (cond (not is) (Err second) (both_mapped put lift outcome)) ≡ Ok new
    → (state : S) × (outcome ≡ Ok state) × (put state ≡ new)
guarded put lift first second new false is outcome same = cc
guarded put lift first second new true false outcome same = cc
guarded put lift first second new true true (Ok state) same = (state, refl, cc)
guarded put lift first second new true true (Err fault) same = cc

root-state : (area : Area) (change : Change) (old : WorldData) (state : State) → changed change (state_in old area) ≡ Ok state → KeepsRoot old (with_state old area state)
root-state Build change old state is there = there
root-state Host change old state is there = there
root-state Staging change old state is there = there
root-state Target change old state is there = root-changed change (state_in old Target) state is there

pub IsKept-KeepsRoot : IsKept KeepsRoot
IsKept-KeepsRoot = record {
  same = λ world there. there;
  chain = λ first next last one two there. two (one there);
  act = λ area change old new is.
      let done = guarded (with_state old area) for_change (for_change ReadOnly) Operand new (may_change old area) (is_asked change) (changed change (state_in old area)) is in
      subst (KeepsRoot old) done.2 (root-state area change old done.0 done.1);
}

-- every program keeps it, wherever it ends
pub KeepsRoot-run : {A : Type 0} (program : Program A) (world : WorldData) → KeepsRoot world (left_by (run program world))
KeepsRoot-run program world = kept_by_run KeepsRoot IsKept-KeepsRoot program world
