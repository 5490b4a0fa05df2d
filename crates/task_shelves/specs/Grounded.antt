-- Grounded shelves: all that stands in a target tree was written by some package.
use Rattle.std.specs.Prelude.{◌≡◌, ◌≢◌, ℕ, ◌<◌, ◌⊎◌, true, false, [], length, Some, None}
use Rattle.std.specs.FinMap as fin
use Rattle.br_path.specs.Path.{Names}
use Rattle.br_path.specs.declared.area.Area.TheVariants.{Target}
use Rattle.plan_rows.specs.Plan.{Planned}
use Rattle.tree_ops.specs.declared.entry.Contents.{Contents}
use Rattle.tree_ops.specs.declared.entry.Label.{Label}
use Rattle.tree_ops.specs.declared.entry.Node.{Node}
use Rattle.tree_ops.specs.declared.entry.Node.TheVariants.{Dir}
use Rattle.tree_ops.specs.Tree.{node_at}
use Rattle.task_shelves.specs.Shelf.{ShelfData, Built, Failed, Skipped}
use Rattle.task_shelves.specs.Packages.{Left, IsLeft, wrote}

abbrev pub IsBuilt : ShelfData → Type 0
IsBuilt (Built trees written stamps) = Unit {0}
IsBuilt (Failed step line status reason stamps) = ⊥
IsBuilt (Skipped by) = ⊥

-- a package wrote a path of its target tree, and left this there
pub record IsWriter (plan : Planned) (shelves : ℕ → ShelfData) (path : Names) (node : Node) (writer : Left) : Type 0 where
  pub left : IsLeft plan shelves writer
  pub wrote : wrote Target path writer ≡ true
  pub there : node_at writer.trees.target path ≡ Some node

-- all tasks are built; each entry of a target tree but the root was left there by a package that wrote it; a path that a package removed
-- was written by another too; a label has one mode and one content in all target trees; and a root that its package didn't write has the
-- mode 0755, or one that some package left by writing it
pub record AreGrounded (plan : Planned) (shelves : ℕ → ShelfData) : Type 0 where
  pub built : (task : ℕ) → task < length plan.rows → IsBuilt (shelves task)
  pub entries : (left : Left) → IsLeft plan shelves left → (path : Names) (node : Node) → path ≢ [] → node_at left.trees.target path ≡ Some node
      → (writer : Left) × IsWriter plan shelves path node writer
  pub removed : (left : Left) → IsLeft plan shelves left → (path : Names) → wrote Target path left ≡ true → node_at left.trees.target path ≡ None
      → (other : Left) × IsLeft plan shelves other × (other.task ≢ left.task) × (wrote Target path other ≡ true)
  pub contents : (left right : Left) → IsLeft plan shelves left → IsLeft plan shelves right → (label : Label) (one two : Contents)
      → fin.get left.trees.target.labels label ≡ Some one → fin.get right.trees.target.labels label ≡ Some two → one ≡ two
  pub root : (left : Left) → IsLeft plan shelves left → (mode : ℕ) → wrote Target [] left ≡ false → node_at left.trees.target [] ≡ Some (Dir mode)
      → (mode ≡ 493) ⊎ ((writer : Left) × IsWriter plan shelves [] (Dir mode) writer)
