-- The world of one task as data: its trees, its pen, its rights, and the build trees that it may read.
use Rattle.std.specs.Prelude.{ℕ, Bool, true, false, not, ◌==◌, List, [], ◌∷◌, ◌++◌, map, Option, Some, None, Result, Ok, Err, nat_le, ◌&&◌, if◌then◌else◌}
use Rattle.br_path.specs.Path.{Names}
use Rattle.br_path.specs.declared.area.Area.{Area}
use Rattle.br_path.specs.declared.area.Area.TheVariants.{Build, Host, Staging, Target}
use Rattle.tree_ops.specs.Pen.{Counts, counts_of, new_pen}
use Rattle.tree_ops.specs.declared.change.ChangeFault.{ChangeFault}
use Rattle.tree_ops.specs.declared.change.ChangeFault.TheVariants.{ReadOnly}
use Rattle.tree_ops.specs.Tree.{Tree, empty_tree}
use Rattle.tree_ops.specs.Change.{Change, MakeFile, SetMode, MakeDir, Populate, State, changed}
use Rattle.tree_worlds.specs.declared.reason.Reason.{Reason}
use Rattle.tree_worlds.specs.declared.reason.Reason.TheVariants.{Operand, Change as for_change}
use Rattle.tree_worlds.specs.declared.world.Trees.{Trees}
use Rattle.tree_worlds.specs.declared.world.World.{World}
use Rattle.tree_worlds.specs.declared.world.ShownTree.{ShownTree}

-- one tree for each area
pub record AreaTrees : Type 0 where
  pub build : Tree
  pub host : Tree
  pub staging : Tree
  pub target : Tree

abbrev pub tree_in : AreaTrees → Area → Tree
tree_in trees Build = trees.build
tree_in trees Host = trees.host
tree_in trees Staging = trees.staging
tree_in trees Target = trees.target

abbrev pub with_tree : AreaTrees → Area → Tree → AreaTrees
with_tree trees Build tree = record trees { build = tree }
with_tree trees Host tree = record trees { host = tree }
with_tree trees Staging tree = record trees { staging = tree }
with_tree trees Target tree = record trees { target = tree }

abbrev pub empty_trees : AreaTrees
empty_trees = record { build = empty_tree; host = empty_tree; staging = empty_tree; target = empty_tree }

-- the build tree of a patch dependency, as its prep left it
pub record ReadableTree : Type 0 where
  pub task : ℕ
  pub owner : List ℕ
  pub tree : Tree

pub record WorldData : Type 0 where
  pub trees : AreaTrees
  pub pen : Counts
  pub owner : List ℕ
  pub folder : Names
  pub host : Bool
  pub prep : Bool
  pub shown : List ReadableTree

-- a prep task may change its build tree alone, a host package's make also its host tree, a target package's also staging and target
abbrev pub may_change : WorldData → Area → Bool
may_change world Build = true
may_change world Host = not world.prep && world.host
may_change world Staging = not world.prep && not world.host
may_change world Target = not world.prep && not world.host

-- a change that can be asked for: its modes are at most 07777
abbrev pub is_asked : Change → Bool
is_asked (MakeFile at mode bytes) = nat_le mode 4095
is_asked (SetMode at mode) = nat_le mode 4095
is_asked (MakeDir at mode) = nat_le mode 4095
is_asked (Populate from) = false
is_asked other = true

-- the tree of an area, with the counts of the pen
abbrev pub state_in : WorldData → Area → State
state_in world area = (tree_in world.trees area, world.pen)

abbrev pub with_state : WorldData → Area → State → WorldData
with_state world area (tree, pen) = record world { trees = with_tree world.trees area tree; pen = pen }

-- an outcome with its value and its fault read otherwise
abbrev pub both_mapped : {A B E F : Type 0} → (A → B) → (E → F) → Result A E → Result B F
both_mapped f g (Ok value) = Ok (f value)
both_mapped f g (Err fault) = Err (g fault)

abbrev pub put_back : WorldData → Area → Result State ChangeFault → Result WorldData Reason
put_back world area outcome = both_mapped (with_state world area) for_change outcome

-- one change of an area's tree by the task, within its rights
abbrev pub acted : Area → Change → WorldData → Result WorldData Reason
acted area change world =
    if not (may_change world area) then Err (for_change ReadOnly) else
    if not (is_asked change) then Err Operand else
    put_back world area (changed change (state_in world area))

-- what the code's world stands for, by what its trees stand for
abbrev pub trees_data : {T : Type 0} → (T → Tree) → Trees T → AreaTrees
trees_data tree trees = record { build = tree trees.build; host = tree trees.host; staging = tree trees.staging; target = tree trees.target }

abbrev pub readable_data : {T : Type 0} → (T → Tree) → ShownTree T → ReadableTree
readable_data tree shown = record { task = shown.task; owner = shown.«package»; tree = tree shown.tree }

abbrev pub world_data : {T : Type 0} → (T → Tree) → World T → WorldData
world_data tree world = record {
  trees = trees_data tree world.trees;
  pen = counts_of world.pen;
  owner = world.«package»;
  folder = world.folder;
  host = world.host;
  prep = world.prep;
  shown = map (readable_data tree) world.shown;
}

-- the world of a task that has done nothing yet: empty trees, counts of 0, and nothing to read
abbrev pub new_world : ℕ → List ℕ → Names → Bool → Bool → WorldData
new_world task owner folder host prep = record { trees = empty_trees; pen = counts_of (new_pen task); owner = owner; folder = folder; host = host; prep = prep; shown = [] }

abbrev pub readable : ℕ → List ℕ → Tree → ReadableTree
readable task owner tree = record { task = task; owner = owner; tree = tree }

-- one more readable build tree, after the others
abbrev pub shown_too : WorldData → ReadableTree → WorldData
shown_too world more = record world { shown = world.shown ++ more ∷ [] }

-- the readable build tree of a task
abbrev pub shown_tree : List ReadableTree → ℕ → Option Tree
shown_tree [] task = None
shown_tree (shown ∷ more) task = if shown.task == task then Some shown.tree else shown_tree more task
