-- The shelves of the serial build are grounded.
use Rattle.std.proofs.Common.{ℕ, ◌≡◌, ◌≢◌, ◌<◌, ◌-◌, ◌⊎◌, true, List, [], ◌∷◌, map, length, slice_get, Option, Some, None, is_some, refl, sym, ap, subst, ◌∙◌, inl, inr, true≢false, arith}
use Rattle.std.specs.FinMap as fin
use Rattle.std.proofs.lemmas.Option.{same_Some, slice_get_within}
use Rattle.br_path.specs.Path.{Names}
use Rattle.br_path.specs.declared.area.Area.{Area}
use Rattle.br_path.specs.declared.area.Area.TheVariants.{Target}
use Rattle.dep_graph.specs.Needs.{needs_of}
use Rattle.plan_rows.specs.Plan.{Planned, IsPlan, HasRow, IsTask, own_prep_of}
use Rattle.plan_rows.specs.declared.rows.TaskRow.{TaskRow}
use Rattle.plan_rows.specs.declared.rows.Part.TheVariants.{Make}
use Rattle.tree_ops.specs.declared.entry.Contents.{Contents}
use Rattle.tree_ops.specs.declared.entry.Label.{Label}
use Rattle.tree_ops.specs.declared.entry.Node.{Node}
use Rattle.tree_ops.specs.declared.entry.Node.TheVariants.{Dir}
use Rattle.tree_ops.specs.Tree.{node_at}
use Rattle.tree_worlds.specs.Kept.{Keeps}
use Rattle.tree_worlds.specs.World.{AreaTrees}
use Rattle.task_shelves.specs.declared.shelf.Stamp.{Stamp}
use Rattle.task_shelves.specs.Grounded.{IsBuilt, IsWriter, AreGrounded}
use Rattle.task_shelves.specs.Packages.{Left, left_on, left_beside, left_by_row, IsLeft, has_written}
use Rattle.task_shelves.specs.Shelf.{ShelfData, Built, Failed, Skipped, no_shelf}
use Rattle.pkg_steps.specs.Filling.{Handed, numbered, owner_of}
use Rattle.pkg_steps.specs.Lines.{Shell}
use Rattle.pkg_steps.specs.Origins.{KeepsEach}
use Rattle.pkg_steps.specs.Outcome.{outcome_in, outcome_of}
use Rattle.serial_build.specs.Roots.{KeepsRoot}
use Rattle.serial_build.specs.Serial.{Shelves, put, handed_to, serial_build}
use Rattle.serial_build.proofs.Growing.{outcome_grows}
use Rattle.serial_build.proofs.Origins.{IfBuilt, IsBuiltSo, IsHandedIn, HasNode, HasContents, HasRoot, Grows, Stands, IsGrown}
use Rattle.serial_build.proofs.Turns.{put-cases, not-among, serial_has}

-- ---- shelves that stand

stands-so : (is : AreaTrees → Type 0) (shelves : Shelves) (task : ℕ) (shelf : ShelfData) → shelves task ≡ shelf → IsBuiltSo is shelf → Stands shelves task (λ trees written. is trees)
stands-so is shelves task (Built trees written stamps) same h = (trees, written, stamps, same, h)
stands-so is shelves task (Failed step line status reason stamps) same h = absurd h
stands-so is shelves task (Skipped by) same h = absurd h

-- what was handed in stands on a shelf
handed-stands : (is : AreaTrees → Type 0) (shelves : Shelves) (needs : List ℕ) → IsHandedIn is (numbered needs (map shelves needs)) → (need : ℕ) × Stands shelves need (λ trees written. is trees)
handed-stands is shelves [] h = absurd h
handed-stands is shelves (need ∷ needs) (inl here) = (need, stands-so is shelves need (shelves need) refl here)
handed-stands is shelves (need ∷ needs) (inr later) = handed-stands is shelves needs later

-- a task that has no shelf yet isn't built
unset-stands : (shelves : Shelves) (task other : ℕ) (is : AreaTrees → List (Area × Names) → Type 0) → shelves task ≡ no_shelf → Stands shelves other is → other ≢ task
unset-stands shelves task other is none (trees, written, stamps, same, h) equal =
    let clash : Built trees written stamps ≡ Skipped 0 = sym same ∙ ap shelves equal ∙ none in cc

-- what stood before stands on
stay : (shelves : Shelves) (task : ℕ) (shelf : ShelfData) (other : ℕ) (is : AreaTrees → List (Area × Names) → Type 0) → shelves task ≡ no_shelf → Stands shelves other is → Stands (put shelves task shelf) other is
stay shelves task shelf other is none stands = elim (put-cases shelves task other shelf) [
  | inl here ↦ absurd (unset-stands shelves task other is none stands here.0)
  | inr same ↦ (stands.0, stands.1, stands.2, same ∙ stands.3, stands.4)
]

if-built : (one two : AreaTrees → List (Area × Names) → Type 0) (shelf : ShelfData) → ((trees : AreaTrees) (written : List (Area × Names)) → one trees written → two trees written) → IfBuilt one shelf → IfBuilt two shelf
if-built one two (Built trees written stamps) leads h = leads trees written h
if-built one two (Failed step line status reason stamps) leads h = tt
if-built one two (Skipped by) leads h = tt

-- a label stands for one thing on one shelf
same-contents : (shelves : Shelves) (label : Label) (one two : Contents) → Stands shelves label.task (λ trees written. HasContents Target label one trees)
    → Stands shelves label.task (λ trees written. HasContents Target label two trees) → one ≡ two
same-contents shelves label one two (trees, written, stamps, same, there) (others, paths, more, equal, here) =
    let shelves-agree : Built trees written stamps ≡ Built others paths more = sym same ∙ equal in
    let trees-agree : trees ≡ others = cc in
    same_Some one two (sym there ∙ ap (λ (t : AreaTrees). fin.get t.target.labels label) trees-agree ∙ here)

same-mode : (mode : ℕ) → Dir mode ≡ Dir 493 → mode ≡ 493
same-mode mode is = cc

-- ---- one task more

module _ (plan : Planned) (shell : Shell) (each : KeepsEach Keeps shell) (roots : KeepsEach KeepsRoot shell) where
  abbrev GrowsOf : ℕ → Handed → AreaTrees → List (Area × Names) → Type 0
  GrowsOf task handed trees written = (row : TaskRow) × HasRow plan task row × Grows task row.part handed trees written

  outcome-grows : (task : ℕ) (shelves : List ShelfData) (found : Option TaskRow) → slice_get plan.rows task ≡ found
      → IfBuilt (GrowsOf task (numbered (needs_of plan.graph task) shelves)) (outcome_in plan shell task shelves found)
  outcome-grows task shelves None is = tt
  outcome-grows task shelves (Some row) is =
      let handed = numbered (needs_of plan.graph task) shelves in
      if-built (Grows task row.part handed) (GrowsOf task handed) (outcome_in plan shell task shelves (Some row)) (λ trees written grows. (row, is, grows))
      (outcome_grows shell each roots task handed row (owner_of plan))

  module _ (shelves : Shelves) (grown : IsGrown plan shelves) (task : ℕ) (none : shelves task ≡ no_shelf) where
    abbrev shelf : ShelfData
    shelf = outcome_of plan shell task (handed_to plan shelves task)

    abbrev next : Shelves
    next = put shelves task shelf

    abbrev handed : Handed
    handed = numbered (needs_of plan.graph task) (handed_to plan shelves task)

    grows : IfBuilt (GrowsOf task handed) shelf
    grows = outcome-grows task (handed_to plan shelves task) (slice_get plan.rows task) refl

    -- a shelf that stands afterwards is the new one, or stood before
    after : (other : ℕ) (is : AreaTrees → List (Area × Names) → Type 0) (stands : Stands next other is) → ((other ≡ task) × GrowsOf task handed stands.0 stands.1) ⊎ Stands shelves other is
    after other is (trees, written, stamps, same, h) = elim (put-cases shelves task other shelf) [
      | inl here ↦ inl (here.0, subst (IfBuilt (GrowsOf task handed)) (sym here.1 ∙ same) grows)
      | inr before ↦ inr (trees, written, stamps, sym before ∙ same, h)
    ]

    goes-on : (other : ℕ) (is : AreaTrees → List (Area × Names) → Type 0) → Stands shelves other is → Stands next other is
    goes-on other is stands = stay shelves task shelf other is none stands

    abbrev Wrote : Names → Node → AreaTrees → List (Area × Names) → Type 0
    Wrote path node trees written = (has_written Target path written ≡ true) × HasNode path node trees

    from-before : (other : ℕ) (path : Names) (node : Node) → Stands shelves other (λ trees written. HasNode path node trees)
        → ((path ≡ []) × (node ≡ Dir 493)) ⊎ ((writer : ℕ) × IsTask plan Make writer × Stands next writer (Wrote path node))
    from-before other path node stands = elim (grown.entries other path node stands) [
      | inl first ↦ inl first
      | inr by ↦ inr (by.0, by.1, goes-on by.0 (Wrote path node) by.2)
    ]

    pub IsGrown-next : IsGrown plan next
    IsGrown-next = record {
      entries = λ other path node stands. elim (after other (λ trees written. HasNode path node trees) stands) [
        | inr before ↦ from-before other path node before
        | inl here ↦ elim (here.1.2.entries path node stands.4) [
          | inl first ↦ inl first
          | inr (inl own) ↦ inr (other, (here.1.0, subst (λ t. HasRow plan t here.1.0) (sym here.0) here.1.1, own.0), (stands.0, stands.1, stands.2, stands.3, (own.1, stands.4)))
          | inr (inr given) ↦ let from = handed-stands (HasNode path node) shelves (needs_of plan.graph task) given in from-before from.0 path node from.1
        ]
      ];
      removed = λ other path below stands. elim (after other (λ trees written. (has_written Target path written ≡ true) × (node_at trees.target path ≡ None)) stands) [
        | inr before ↦ let by = grown.removed other path below before in (by.0, by.1, by.2, goes-on by.0 (λ trees written. has_written Target path written ≡ true) by.3)
        | inl here ↦ elim (here.1.2.removed path stands.4.0 stands.4.1) [
          | inl first ↦ absurd (below first)
          | inr given ↦
              let from = handed-stands (HasNode path given.0) shelves (needs_of plan.graph task) given.1 in
              elim (grown.entries from.0 path given.0 from.1) [
                | inl first ↦ absurd (below first.0)
                | inr by ↦ (
                  by.0,
                  (λ equal. unset-stands shelves task by.0 (Wrote path given.0) none by.2 (equal ∙ here.0)),
                  by.1,
                  goes-on by.0 (λ trees written. has_written Target path written ≡ true) (by.2.0, by.2.1, by.2.2, by.2.3, by.2.4.0),
                )
              ]
        ]
      ];
      drawn = λ other area label contents stands. elim (after other (λ trees written. HasContents area label contents trees) stands) [
        | inr before ↦ goes-on label.task (λ trees written. HasContents area label contents trees) (grown.drawn other area label contents before)
        | inl here ↦ elim (here.1.2.drawn area label contents stands.4) [
          | inl own ↦ subst (λ t. Stands next t (λ trees written. HasContents area label contents trees)) (here.0 ∙ sym own) stands
          | inr given ↦
              let from = handed-stands (HasContents area label contents) shelves (needs_of plan.graph task) given in
              goes-on label.task (λ trees written. HasContents area label contents trees) (grown.drawn from.0 area label contents from.1)
        ]
      ];
      roots = λ other. elim (put-cases shelves task other shelf) [
        | inl here ↦ subst (IfBuilt (λ trees written. HasRoot trees)) (sym here.1) (if-built (GrowsOf task handed) (λ trees written. HasRoot trees) shelf (λ trees written grows. grows.2.root) grows)
        | inr same ↦ subst (IfBuilt (λ trees written. HasRoot trees)) (sym same) (grown.roots other)
      ];
    }

  IsGrown-none : IsGrown plan (λ task. no_shelf)
  IsGrown-none = record {
    entries = λ other path node stands. let clash : Built stands.0 stands.1 stands.2 ≡ Skipped 0 = sym stands.3 in cc;
    removed = λ other path below stands. let clash : Built stands.0 stands.1 stands.2 ≡ Skipped 0 = sym stands.3 in cc;
    drawn = λ other area label contents stands. let clash : Built stands.0 stands.1 stands.2 ≡ Skipped 0 = sym stands.3 in cc;
    roots = λ other. tt;
  }

  pub IsGrown-serial : IsPlan plan → IsGrown plan (serial_build plan shell)
  IsGrown-serial is =
      serial_has plan shell is.order (λ past shelves. IsGrown plan shelves)
      (λ past task shelves ready unset grown. IsGrown-next shelves grown task (unset task (not-among past task ready.fresh))) IsGrown-none

-- ---- the packages that were left

-- what a package left stands on its make's shelf
module _ (shelves : Shelves) (task : ℕ) (name : List ℕ) (left : Left) where
  abbrev IsOnShelf : ShelfData → Type 0
  IsOnShelf shelf = (stamps : List Stamp) × (shelf ≡ Built left.trees left.written stamps)

  on-shelf : (prep make : ShelfData) → left_on task name prep make ≡ Some left → IsOnShelf make
  on-shelf (Built trees written stamps) (Built own wrote more) is =
      let same : record { task = task; name = name; trees = own; written = wrote } ≡ left = same_Some _ left is in
      (more, λ i. Built (same i).trees (same i).written more)
  on-shelf (Built trees written stamps) (Failed step line status reason more) is = cc
  on-shelf (Built trees written stamps) (Skipped by) is = cc
  on-shelf (Failed step line status reason stamps) make is = cc
  on-shelf (Skipped by) make is = cc

  beside-shelf : (prep : Option ℕ) → left_beside shelves task name prep ≡ Some left → IsOnShelf (shelves task)
  beside-shelf None is = cc
  beside-shelf (Some prep) is = on-shelf (shelves prep) (shelves task) is

row-shelf : (shelves : Shelves) (task : ℕ) (left : Left) (row : Option TaskRow) → left_by_row shelves task row ≡ Some left → (stamps : List Stamp) × (shelves task ≡ Built left.trees left.written stamps)
row-shelf shelves task left None is = cc
row-shelf shelves task left (Some row) is = beside-shelf shelves task row.«package» left row.own_prep is

built-stands : (shelves : Shelves) (task : ℕ) (shelf : ShelfData) → shelves task ≡ shelf → IsBuilt shelf → Stands shelves task (λ trees written. Unit {0})
built-stands shelves task (Built trees written stamps) same is = (trees, written, stamps, same, tt)
built-stands shelves task (Failed step line status reason stamps) same is = absurd is
built-stands shelves task (Skipped by) same is = absurd is

module _ (plan : Planned) (is_plan : IsPlan plan) (shelves : Shelves) (built : (task : ℕ) → task < length plan.rows → IsBuilt (shelves task)) where
  of-left : (left : Left) → IsLeft plan shelves left → (is : AreaTrees → List (Area × Names) → Type 0) → is left.trees left.written → Stands shelves left.task is
  of-left left leaves is h = let shelf = row-shelf shelves left.task left (slice_get plan.rows left.task) leaves in (left.trees, left.written, shelf.0, shelf.1, h)

  -- a make that stands leaves a package
  make-left : (task : ℕ) → IsTask plan Make task → (is : AreaTrees → List (Area × Names) → Type 0) → Stands shelves task is
      → (left : Left) × IsLeft plan shelves left × (left.task ≡ task) × is left.trees left.written
  make-left task (row, has, make) is (trees, written, stamps, same, h) =
      let own : row.own_prep ≡ Some (task - 1) = (is_plan.rows task row has).own_prep ∙ ap (λ part. own_prep_of part task) make in
      let inside = slice_get_within plan.rows task row has in
      let prep = built-stands shelves (task - 1) (shelves (task - 1)) refl (built (task - 1) (omega arith)) in
      let left : Left = record { task = task; name = row.«package»; trees = trees; written = written } in (
        left,
        (ap (left_by_row shelves task) has ∙ ap (left_beside shelves task row.«package») own ∙ (λ i. left_on task row.«package» (prep.3 i) (same i))),
        refl,
        h,
      )

  -- a package wrote a path, and left this there
  writer-of : (path : Names) (node : Node) (task : ℕ) → IsTask plan Make task → Stands shelves task (λ trees written. (has_written Target path written ≡ true) × HasNode path node trees)
      → (writer : Left) × IsWriter plan shelves path node writer
  writer-of path node task make stands =
      let left = make-left task make (λ trees written. (has_written Target path written ≡ true) × HasNode path node trees) stands in
      (left.0, record { left = left.1; wrote = left.3.0; there = left.3.1 })

  module _ (grown : IsGrown plan shelves) where
    not-gone : (left : Left) → IsLeft plan shelves left → node_at left.trees.target [] ≡ None → ⊥
    not-gone left leaves gone =
        let shelf = row-shelf shelves left.task left (slice_get plan.rows left.task) leaves in
        let root : HasRoot left.trees = subst (IfBuilt (λ trees written. HasRoot trees)) shelf.1 (grown.roots left.task) in
        true≢false (sym root ∙ ap is_some gone)

    pub grown_grounded : AreGrounded plan shelves
    grown_grounded = record {
      built = built;
      entries = λ left leaves path node below there. elim (grown.entries left.task path node (of-left left leaves (λ trees written. HasNode path node trees) there)) [
        | inl first ↦ absurd (below first.0)
        | inr by ↦ writer-of path node by.0 by.1 by.2
      ];
      removed = λ left leaves path wrote gone.
          let below : path ≢ [] = λ root. not-gone left leaves (ap (node_at left.trees.target) (sym root) ∙ gone) in
          let by = grown.removed left.task path below (of-left left leaves (λ trees written. (has_written Target path written ≡ true) × (node_at trees.target path ≡ None)) (wrote, gone)) in
          let other = make-left by.0 by.2 (λ trees written. has_written Target path written ≡ true) by.3 in
          (other.0, other.1, (λ same. by.1 (sym other.2 ∙ same)), other.3);
      contents = λ left right one two label first second here there.
          same-contents shelves label first second
          (grown.drawn left.task Target label first (of-left left one (λ trees written. HasContents Target label first trees) here))
          (grown.drawn right.task Target label second (of-left right two (λ trees written. HasContents Target label second trees) there));
      root = λ left leaves mode unwritten there. elim (grown.entries left.task [] (Dir mode) (of-left left leaves (λ trees written. HasNode [] (Dir mode) trees) there)) [
        | inl first ↦ inl (same-mode mode first.1)
        | inr by ↦ inr (writer-of [] (Dir mode) by.0 by.1 by.2)
      ];
    }

pub serial_grounded : (plan : Planned) (shell : Shell) → IsPlan plan → KeepsEach Keeps shell → KeepsEach KeepsRoot shell
    → ((task : ℕ) → task < length plan.rows → IsBuilt (serial_build plan shell task)) → AreGrounded plan (serial_build plan shell)
serial_grounded plan shell is_plan each roots built = grown_grounded plan is_plan (serial_build plan shell) built (IsGrown-serial plan shell each roots is_plan)
