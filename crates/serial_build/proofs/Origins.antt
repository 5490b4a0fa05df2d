-- Where the entries and labels of a task's shelf come from: what holds while tasks are run.
use Rattle.std.proofs.Common.{ℕ, ◌≡◌, ◌≢◌, ◌⊎◌, true, List, [], ◌∷◌, Some, None, is_some}
use Rattle.std.specs.FinMap as fin
use Rattle.br_path.specs.Path.{Names}
use Rattle.br_path.specs.declared.area.Area.{Area}
use Rattle.br_path.specs.declared.area.Area.TheVariants.{Target}
use Rattle.plan_rows.specs.Plan.{Planned, IsTask}
use Rattle.plan_rows.specs.declared.rows.Part.{Part}
use Rattle.plan_rows.specs.declared.rows.Part.TheVariants.{Make}
use Rattle.tree_ops.specs.declared.entry.Contents.{Contents}
use Rattle.tree_ops.specs.declared.entry.Label.{Label}
use Rattle.tree_ops.specs.declared.entry.Node.{Node}
use Rattle.tree_ops.specs.declared.entry.Node.TheVariants.{Dir}
use Rattle.tree_ops.specs.Tree.{node_at}
use Rattle.tree_worlds.specs.World.{AreaTrees, tree_in}
use Rattle.task_shelves.specs.declared.shelf.Stamp.{Stamp}
use Rattle.task_shelves.specs.Packages.{has_written}
use Rattle.task_shelves.specs.Shelf.{ShelfData, Built, Failed, Skipped}
use Rattle.pkg_steps.specs.Filling.{Handed}
use Rattle.serial_build.specs.Serial.{Shelves}

-- what a shelf says where it is built
abbrev pub IfBuilt : (AreaTrees → List (Area × Names) → Type 0) → ShelfData → Type 0
IfBuilt is (Built trees written stamps) = is trees written
IfBuilt is (Failed step line status reason stamps) = Unit {0}
IfBuilt is (Skipped by) = Unit {0}

-- a shelf is built, and so
abbrev pub IsBuiltSo : (AreaTrees → Type 0) → ShelfData → Type 0
IsBuiltSo is (Built trees written stamps) = is trees
IsBuiltSo is (Failed step line status reason stamps) = ⊥
IsBuiltSo is (Skipped by) = ⊥

-- one of the shelves that are handed in is built, and so
abbrev pub IsHandedIn : (AreaTrees → Type 0) → Handed → Type 0
IsHandedIn is [] = ⊥
IsHandedIn is (handed ∷ more) = IsBuiltSo is handed.1 ⊎ IsHandedIn is more

abbrev pub HasNode : Names → Node → AreaTrees → Type 0
HasNode path node trees = node_at trees.target path ≡ Some node

abbrev pub HasContents : Area → Label → Contents → AreaTrees → Type 0
HasContents area label contents trees = fin.get (tree_in trees area).labels label ≡ Some contents

abbrev pub HasRoot : AreaTrees → Type 0
HasRoot trees = is_some (node_at trees.target []) ≡ true

-- what stands on a built shelf: an entry of the target tree is the first root, or was written by this make, or stood on a shelf that was
-- handed in; a path that was removed stood on such a shelf; a label with its contents is the task's own, or stood there; and there is a root
pub record Grows (task : ℕ) (part : Part) (handed : Handed) (trees : AreaTrees) (written : List (Area × Names)) : Type 0 where
  pub entries : (path : Names) (node : Node) → HasNode path node trees
      → ((path ≡ []) × (node ≡ Dir 493)) ⊎ ((part ≡ Make) × (has_written Target path written ≡ true)) ⊎ IsHandedIn (HasNode path node) handed
  pub removed : (path : Names) → has_written Target path written ≡ true → node_at trees.target path ≡ None
      → (path ≡ []) ⊎ ((node : Node) × IsHandedIn (HasNode path node) handed)
  pub drawn : (area : Area) (label : Label) (contents : Contents) → HasContents area label contents trees
      → (label.task ≡ task) ⊎ IsHandedIn (HasContents area label contents) handed
  pub root : HasRoot trees

-- the shelf of a task is built, with such trees and written paths
abbrev pub Stands : Shelves → ℕ → (AreaTrees → List (Area × Names) → Type 0) → Type 0
Stands shelves task is = (trees : AreaTrees) × (written : List (Area × Names)) × (stamps : List Stamp) × (shelves task ≡ Built trees written stamps) × is trees written

-- what holds while tasks are run one after another, of each built shelf: its entries come from writers; a path other than the root
-- that it removed was written by another; each of its labels stands with the same contents on the shelf of the task that drew it; and
-- its target tree has a root
pub record IsGrown (plan : Planned) (shelves : Shelves) : Type 0 where
  pub entries : (task : ℕ) (path : Names) (node : Node) → Stands shelves task (λ trees written. HasNode path node trees)
      → ((path ≡ []) × (node ≡ Dir 493)) ⊎ ((writer : ℕ) × IsTask plan Make writer × Stands shelves writer (λ trees written. (has_written Target path written ≡ true) × HasNode path node trees))
  pub removed : (task : ℕ) (path : Names) → path ≢ [] → Stands shelves task (λ trees written. (has_written Target path written ≡ true) × (node_at trees.target path ≡ None))
      → (other : ℕ) × (other ≢ task) × IsTask plan Make other × Stands shelves other (λ trees written. has_written Target path written ≡ true)
  pub drawn : (task : ℕ) (area : Area) (label : Label) (contents : Contents) → Stands shelves task (λ trees written. HasContents area label contents trees)
      → Stands shelves label.task (λ trees written. HasContents area label contents trees)
  pub roots : (task : ℕ) → IfBuilt (λ trees written. HasRoot trees) (shelves task)
