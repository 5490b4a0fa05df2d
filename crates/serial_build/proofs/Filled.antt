-- What a task's world has where it begins.
use Rattle.std.proofs.Common.{ℕ, ◌≡◌, ◌⊎◌, Bool, true, false, not, cond, List, [], ◌∷◌, Option, Some, None, Result, Ok, Err, is_some, refl, sym, ap, subst, ◌∙◌, inl, inr}
use Rattle.std.specs.FinMap as fin
use Rattle.std.specs.Option.{option_or}
use Rattle.br_path.specs.Path.{Names, path_cmp}
use Rattle.br_path.specs.declared.area.Area.{Area}
use Rattle.br_path.specs.declared.area.Area.TheVariants.{Build, Host, Staging, Target}
use Rattle.br_path.proofs.PathOrder.{path_total, path_same}
use Rattle.plan_rows.specs.declared.rows.TaskRow.{TaskRow}
use Rattle.tree_ops.specs.declared.change.ChangeFault.{ChangeFault}
use Rattle.tree_ops.specs.declared.change.ChangeFault.TheVariants.{NoSpace}
use Rattle.tree_ops.specs.declared.entry.Contents.{Contents}
use Rattle.tree_ops.specs.declared.entry.Label.{Label}
use Rattle.tree_ops.specs.declared.entry.Node.{Node}
use Rattle.tree_ops.specs.declared.entry.Node.TheVariants.{Dir}
use Rattle.tree_ops.specs.Pen.{Counts, is_within_limits}
use Rattle.tree_ops.specs.Tree.{Tree, label_cmp, node_at, is_hidden, is_used, over, empty_tree}
use Rattle.tree_ops.specs.Change.{State, Populate, pen_after}
use Rattle.tree_ops.proofs.Inserts.{get-insert_cases, get-insert_same}
use Rattle.tree_ops.proofs.Laying.{get-over, label-over, chosen}
use Rattle.tree_worlds.specs.declared.reason.Reason.{Reason}
use Rattle.tree_worlds.specs.declared.reason.Reason.TheVariants.{Change as for_change}
use Rattle.tree_worlds.specs.World.{WorldData, AreaTrees, tree_in, with_tree, with_state, both_mapped, empty_trees, shown_too, readable}
use Rattle.task_shelves.specs.Labels.{is_among}
use Rattle.task_shelves.specs.Shelf.{ShelfData, Built, Failed, Skipped}
use Rattle.pkg_steps.specs.Filling.{Handed, is_own_prep, fill, ◌>->◌, given_by, filled, begun}
use Rattle.serial_build.proofs.Fillings.{OfWorld, filled-kept}
use Rattle.serial_build.proofs.Origins.{IsBuiltSo, IsHandedIn, HasNode, HasContents, HasRoot}
use Rattle.serial_build.proofs.Roots.{root-over}

-- ---- one tree laid over another

-- of a tree that is laid over another, what holds is had of one of them
abbrev pub IsFromOne : (Tree → Type 0) → Type 0
IsFromOne is = (low high : Tree) → is (over low high) → is low ⊎ is high

first-of : {A : Type 0} (a b : Option A) (x : A) → option_or a b ≡ Some x → (a ≡ Some x) ⊎ (b ≡ Some x)
first-of None b x is = inr is
first-of (Some y) b x is = inl is

-- so it is of what stands at a path, and of what a label stands for
node-over : (path : Names) (node : Node) → IsFromOne (λ tree. node_at tree path ≡ Some node)
node-over path node low high is = elim (first-of (node_at high path) (cond (not (is_hidden high path)) (node_at low path) None) node (sym (get-over low high path) ∙ is)) [
  | inl above ↦ inr above
  | inr below ↦ inl (chosen (not (is_hidden high path)) (node_at low path) node below).1
]

contents-over : (label : Label) (contents : Contents) → IsFromOne (λ tree. fin.get tree.labels label ≡ Some contents)
contents-over label contents low high is =
    let kept = chosen (is_used (over low high).names label) (option_or (fin.get high.labels label) (fin.get low.labels label)) contents (sym (label-over low high label) ∙ is) in
    elim (first-of (fin.get high.labels label) (fin.get low.labels label) contents kept.1) [
      | inl above ↦ inr above
      | inr below ↦ inl below
    ]

-- the first tree has the root alone
pub node-empty : (path : Names) (node : Node) → node_at empty_tree path ≡ Some node → (path ≡ []) × (node ≡ Dir 493)
node-empty path node is = elim (get-insert_cases path_total path_same fin.empty [] (Dir 493) path) [
  | inl found ↦ (found.0, let both : Some node ≡ Some (Dir 493) = sym is ∙ found.1 in cc)
  | inr found ↦ let none : Some node ≡ None = sym is ∙ found ∙ fin.get-empty path_cmp path in cc
]

pub root-empty : is_some (node_at empty_tree []) ≡ true
root-empty = ap is_some (get-insert_same path_total fin.empty [] (Dir 493))

pub contents-empty : (label : Label) (contents : Contents) → fin.get empty_tree.labels label ≡ Some contents → ⊥
contents-empty label contents is = let none : Some contents ≡ None = sym is ∙ fin.get-empty label_cmp label in cc

-- ---- what is had of fillings

-- a filling gave a world, and an area's tree of it is so
abbrev Holds : (Tree → Type 0) → Area → Result WorldData Reason → Type 0
Holds is area (Ok world) = is (tree_in world.trees area)
Holds is area (Err reason) = ⊥

module _ (is : Tree → Type 0) (law : IsFromOne is) where
  laid_on : (area other : Area) (trees : AreaTrees) (from : Tree) → is (tree_in (with_tree trees area (over (tree_in trees area) from)) other) → is (tree_in trees other) ⊎ ((area ≡ other) × is from)
  laid_on Build Build trees from h = elim (law trees.build from h) [ inl low ↦ inl low | inr high ↦ inr (refl, high) ]
  laid_on Build Host trees from h = inl h
  laid_on Build Staging trees from h = inl h
  laid_on Build Target trees from h = inl h
  laid_on Host Build trees from h = inl h
  laid_on Host Host trees from h = elim (law trees.host from h) [ inl low ↦ inl low | inr high ↦ inr (refl, high) ]
  laid_on Host Staging trees from h = inl h
  laid_on Host Target trees from h = inl h
  laid_on Staging Build trees from h = inl h
  laid_on Staging Host trees from h = inl h
  laid_on Staging Staging trees from h = elim (law trees.staging from h) [ inl low ↦ inl low | inr high ↦ inr (refl, high) ]
  laid_on Staging Target trees from h = inl h
  laid_on Target Build trees from h = inl h
  laid_on Target Host trees from h = inl h
  laid_on Target Staging trees from h = inl h
  laid_on Target Target trees from h = elim (law trees.target from h) [ inl low ↦ inl low | inr high ↦ inr (refl, high) ]

  fill-by : (fits : Bool) (area other : Area) (from : Tree) (world : WorldData) (pen : Counts)
      → Holds is other (both_mapped (with_state world area) for_change (cond {A = Result State ChangeFault} fits (Ok (over (tree_in world.trees area) from, pen)) (Err NoSpace)))
      → is (tree_in world.trees other) ⊎ ((area ≡ other) × is from)
  fill-by true area other from world pen h = laid_on area other world.trees from h
  fill-by false area other from world pen h = absurd h

  fill-from : (area other : Area) (from : Tree) (world : WorldData) → Holds is other (fill area from world) → is (tree_in world.trees other) ⊎ ((area ≡ other) × is from)
  fill-from area other from world h =
      fill-by (is_within_limits (pen_after (Populate from) (tree_in world.trees area, world.pen))) area other from world (pen_after (Populate from) (tree_in world.trees area, world.pen)) h

  -- the same where the tree is one of a shelf's
  fill-shelf : (area other : Area) (trees : AreaTrees) (world : WorldData) → Holds is other (fill area (tree_in trees area) world) → is (tree_in world.trees other) ⊎ is (tree_in trees other)
  fill-shelf area other trees world h = elim (fill-from area other (tree_in trees area) world h) [
    | inl before ↦ inl before
    | inr from ↦ inr (subst (λ a. is (tree_in trees a)) from.0 from.1)
  ]

  then-from : (X : Type 0) (area : Area) (first : Result WorldData Reason) (next : WorldData → Result WorldData Reason)
      → ((world : WorldData) → Holds is area (next world) → is (tree_in world.trees area) ⊎ X) → Holds is area (first >-> next) → Holds is area first ⊎ X
  then-from X area (Ok world) next each h = each world h
  then-from X area (Err reason) next each h = absurd h

  given-built : (owner : ℕ → List ℕ) (task : ℕ) (trees : AreaTrees) (world : WorldData) (area : Area) (own fills reads : Bool)
      → Holds is area (cond own (fill Build trees.build world) (cond fills (fill Host trees.host world >-> fill Staging trees.staging >-> fill Target trees.target)
      (cond reads (Ok (shown_too world (readable task (owner task) trees.build))) (Ok world))))
      → is (tree_in world.trees area) ⊎ is (tree_in trees area)
  given-built owner task trees world area true fills reads h = fill-shelf Build area trees world h
  given-built owner task trees world area false true reads h =
      elim (then-from (is (tree_in trees area)) area (fill Host trees.host world >-> fill Staging trees.staging) (fill Target trees.target) (λ w. fill-shelf Target area trees w) h) [
        | inr there ↦ inr there
        | inl h2 ↦ elim (then-from (is (tree_in trees area)) area (fill Host trees.host world) (fill Staging trees.staging) (λ w. fill-shelf Staging area trees w) h2) [
          | inr there ↦ inr there
          | inl h3 ↦ fill-shelf Host area trees world h3
        ]
      ]
  given-built owner task trees world area false false true h = inl h
  given-built owner task trees world area false false false h = inl h

  given-from : (row : TaskRow) (owner : ℕ → List ℕ) (task : ℕ) (shelf : ShelfData) (world : WorldData) (area : Area)
      → Holds is area (given_by row owner task shelf world) → is (tree_in world.trees area) ⊎ IsBuiltSo (λ trees. is (tree_in trees area)) shelf
  given-from row owner task (Built trees written stamps) world area h = given-built owner task trees world area (is_own_prep row.own_prep task) (is_among row.fills task) (is_among row.readable task) h
  given-from row owner task (Failed step line status reason stamps) world area h = inl h
  given-from row owner task (Skipped by) world area h = inl h

  all-from : (row : TaskRow) (owner : ℕ → List ℕ) (handed : Handed) (world : WorldData) (area : Area)
      → Holds is area (filled row owner handed world) → is (tree_in world.trees area) ⊎ IsHandedIn (λ trees. is (tree_in trees area)) handed
  all-from row owner [] world area h = inl h
  all-from row owner ((task, shelf) ∷ more) world area h =
      elim (then-from (IsHandedIn (λ trees. is (tree_in trees area)) more) area (given_by row owner task shelf world) (filled row owner more) (λ w. all-from row owner more w area) h) [
        | inr later ↦ inr (inr later)
        | inl here ↦ elim (given-from row owner task shelf world area here) [
          | inl before ↦ inl before
          | inr there ↦ inr (inl there)
        ]
      ]

-- ---- the pen of a world that was filled is the task's, and its target tree has a root

module _ (number : ℕ) where
  abbrev IsOwn : WorldData → Type 0
  IsOwn world = (world.pen.task ≡ number) × HasRoot world.trees

  root-with : (area : Area) (trees : AreaTrees) (from : Tree) → HasRoot trees → HasRoot (with_tree trees area (over (tree_in trees area) from))
  root-with Build trees from there = there
  root-with Host trees from there = there
  root-with Staging trees from there = there
  root-with Target trees from there = root-over trees.target from there

  own-by : (fits : Bool) (area : Area) (from : Tree) (world : WorldData) (pen : Counts) → pen.task ≡ world.pen.task → IsOwn world
      → OfWorld IsOwn (both_mapped (with_state world area) for_change (cond {A = Result State ChangeFault} fits (Ok (over (tree_in world.trees area) from, pen)) (Err NoSpace)))
  own-by true area from world pen same is = (same ∙ is.0, root-with area world.trees from is.1)
  own-by false area from world pen same is = tt

  own-fill : (area : Area) (from : Tree) (world : WorldData) → IsOwn world → OfWorld IsOwn (fill area from world)
  own-fill area from world is =
      own-by (is_within_limits (pen_after (Populate from) (tree_in world.trees area, world.pen))) area from world (pen_after (Populate from) (tree_in world.trees area, world.pen)) refl is

  own-all : (row : TaskRow) (owner : ℕ → List ℕ) (handed : Handed) (world : WorldData) → IsOwn world → OfWorld IsOwn (filled row owner handed world)
  own-all row owner handed world is = filled-kept IsOwn own-fill (λ old more was. was) row owner handed world is

-- ---- where a task begins

-- what a task's world has where it begins: in the target tree the first root, or what stood on a shelf that was handed in; labels of
-- such shelves alone; its own pen; and a root
pub record Starts (task : ℕ) (handed : Handed) (world : WorldData) : Type 0 where
  pub entries : (path : Names) (node : Node) → node_at world.trees.target path ≡ Some node → ((path ≡ []) × (node ≡ Dir 493)) ⊎ IsHandedIn (HasNode path node) handed
  pub drawn : (area : Area) (label : Label) (contents : Contents) → HasContents area label contents world.trees → IsHandedIn (HasContents area label contents) handed
  pub pen : world.pen.task ≡ task
  pub root : HasRoot world.trees

empty_in : (is : Tree → Type 0) (area : Area) → is (tree_in empty_trees area) → is empty_tree
empty_in is Build h = h
empty_in is Host h = h
empty_in is Staging h = h
empty_in is Target h = h

module _ (row : TaskRow) (owner : ℕ → List ℕ) (task : ℕ) (handed : Handed) where
  pub Starts-all : (world : WorldData) → filled row owner handed (begun row task) ≡ Ok world → Starts task handed world
  Starts-all world is =
      let own : IsOwn task world = subst (OfWorld (IsOwn task)) is (own-all task row owner handed (begun row task) (refl, root-empty)) in
      record {
        entries = λ path node there.
            let of = λ (tree : Tree). node_at tree path ≡ Some node in
            elim (all-from of (node-over path node) row owner handed (begun row task) Target (subst (Holds of Target) (sym is) there)) [
              | inl first ↦ inl (node-empty path node first)
              | inr later ↦ inr later
            ];
        drawn = λ area label contents there.
            let of = λ (tree : Tree). fin.get tree.labels label ≡ Some contents in
            elim (all-from of (contents-over label contents) row owner handed (begun row task) area (subst (Holds of area) (sym is) there)) [
              | inl first ↦ absurd (contents-empty label contents (empty_in of area first))
              | inr later ↦ later
            ];
        pen = own.0;
        root = own.1;
      }
