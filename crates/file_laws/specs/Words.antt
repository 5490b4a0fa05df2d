-- What happens to the trees of a world, in words of single places.
use Rattle.std.specs.Prelude.{◌≡◌, ◌≢◌, ℕ, ◌<◌, ◌≤◌, true, false, List, ◌++◌, Option, Some, None, is_some, Ok}
use Rattle.std.specs.FinMap as fin
use Rattle.br_path.specs.Path.{Names}
use Rattle.br_path.specs.Files.{FileMap}
use Rattle.br_path.specs.declared.area.Area.{Area}
use Rattle.tree_ops.specs.declared.entry.Label.{Label}
use Rattle.tree_ops.specs.declared.entry.Contents.{Contents}
use Rattle.tree_ops.specs.declared.entry.Node.{Node}
use Rattle.tree_ops.specs.declared.entry.Node.TheVariants.{Dir, Link, File}
use Rattle.tree_ops.specs.Tree.{Tree, IsTree, node_at, is_dir}
use Rattle.tree_ops.specs.Change.{next_label, is_own, is_at_or_below}
use Rattle.tree_ops.specs.Walk.{resolved}
use Rattle.tree_ops.specs.Laws.{IsMoved}
use Rattle.tree_worlds.specs.World.{WorldData, tree_in}
use Rattle.tree_worlds.specs.Program.{Program, run}
use Rattle.sh_places.specs.declared.spot.Site.{Site}
use Rattle.sh_places.specs.declared.spot.Site.TheVariants.{Tree as in_tree}
use Rattle.sh_places.specs.declared.spot.Spot.{Spot}
use Rattle.sh_places.specs.declared.kind.Kind.{Kind}
use Rattle.sh_places.specs.declared.kind.Kind.TheVariants as kinds
use Rattle.sh_places.specs.Looks.{tree_of, kind_at, bytes_at, mode_at, text_at}
use Rattle.sh_places.specs.Finding.{spot}

-- a program goes through in a world, and leaves another
abbrev pub GoesThrough : {A : Type 0} → Program A → WorldData → WorldData → Type 0
GoesThrough {A} program old new = (value : A) × (run program old ≡ Ok (value, new))

-- what stands at a path in the tree of an area
abbrev pub stands : WorldData → Area → Names → Option Node
stands world area path = node_at (tree_in world.trees area) path

-- all that stood anywhere stands there as it was
abbrev pub KeepsAll : WorldData → WorldData → Type 0
KeepsAll old new = (area : Area) (path : Names) (node : Node) → stands old area path ≡ Some node → stands new area path ≡ Some node

-- something stands where something stood, and nowhere else
abbrev pub KeepsNames : WorldData → WorldData → Type 0
KeepsNames old new = (area : Area) (path : Names) → is_some (stands new area path) ≡ is_some (stands old area path)

-- what a label stands for in the tree of an area
abbrev pub contents_of : WorldData → Area → Label → Option Contents
contents_of world area label = fin.get (tree_in world.trees area).labels label

-- the trees of all other areas are as they were
abbrev pub KeepsOthers : Area → WorldData → WorldData → Type 0
KeepsOthers area old new = (other : Area) → other ≢ area → tree_in new.trees other ≡ tree_in old.trees other

-- one name more stands at a path, and all else is as it was
pub record AddsName (area : Area) (at : Names) (node : Node) (old new : WorldData) : Type 0 where
  pub made : stands new area at ≡ Some node
  pub others : (path : Names) → path ≢ at → stands new area path ≡ stands old area path
  pub contents : (label : Label) → contents_of new area label ≡ contents_of old area label
  pub areas : KeepsOthers area old new

-- a file of its own stands at a path: its label is the task's next, with these bytes and this mode; all else stands as it was, and
-- the files that have other names have what they had
pub record MakesFile (area : Area) (at : Names) (mode : ℕ) (bytes : List ℕ) (old new : WorldData) : Type 0 where
  pub made : stands new area at ≡ Some (File (next_label old.pen))
  pub contents : contents_of new area (next_label old.pen) ≡ Some (record { mode = mode; bytes = bytes })
  pub others : (path : Names) → path ≢ at → stands new area path ≡ stands old area path
  pub files : (path : Names) (label : Label) → path ≢ at → label ≢ next_label old.pen → stands old area path ≡ Some (File label) → contents_of new area label ≡ contents_of old area label
  pub areas : KeepsOthers area old new

-- the same at a place, which is in one of the task's trees
abbrev pub MakesFileAt : Spot → ℕ → List ℕ → WorldData → WorldData → Type 0
MakesFileAt place mode bytes old new = (area : Area) × (place.site ≡ in_tree area) × MakesFile area place.path mode bytes old new

-- a file at one place of a tree gets one name more at another
abbrev pub NamesAgain : Spot → Spot → Label → WorldData → WorldData → Type 0
NamesAgain source place label old new =
    (area : Area) × (source.site ≡ in_tree area) × (place.site ≡ in_tree area) × (stands old area source.path ≡ Some (File label)) × AddsName area place.path (File label) old new

-- what stood at or below one place of a tree stands likewise at another
abbrev pub MovesTo : Spot → Spot → WorldData → WorldData → Type 0
MovesTo source place old new =
    (area : Area) × (source.site ≡ in_tree area) × (place.site ≡ in_tree area) × IsMoved source.path place.path (tree_in old.trees area) (tree_in new.trees area) × KeepsOthers area old new

-- nothing is left at or below a path, and all else stands as it was
pub record Removes (area : Area) (at : Names) (old new : WorldData) : Type 0 where
  pub gone : (path : Names) → is_at_or_below at path ≡ true → stands new area path ≡ None
  pub others : (path : Names) → is_at_or_below at path ≡ false → stands new area path ≡ stands old area path
  pub areas : KeepsOthers area old new

-- the same at a place, which is in one of the task's trees
abbrev pub RemovesAt : Spot → WorldData → WorldData → Type 0
RemovesAt place old new = (area : Area) × (place.site ≡ in_tree area) × Removes area place.path old new

-- a walk, followed, ends at a folder
abbrev pub LeadsToFolder : WorldData → Area → List ℕ → Type 0
LeadsToFolder world area walk = (path : Names) × (resolved (tree_in world.trees area) walk true ≡ Ok path) × (is_dir (stands world area path) ≡ true)

-- what holds of each world that a task reaches: its trees are trees, those that it may read too, and of its own labels only those that it
-- has drawn stand for something
pub record IsReachedWorld (world : WorldData) : Type 0 where
  pub trees : (site : Site) (tree : Tree) → tree_of world site ≡ Some tree → IsTree tree
  pub drawn : (area : Area) (label : Label) (had : Contents) → contents_of world area label ≡ Some had → is_own world.pen label ≡ true → label.number < world.pen.next

-- a label is one that the task drew on the way from one world to another
pub record IsDrawn (label : Label) (old new : WorldData) : Type 0 where
  pub task : label.task ≡ old.pen.task
  pub after : old.pen.next ≤ label.number
  pub before : label.number < new.pen.next

-- a file of its own stands at a path, with this mode and these bytes
pub record IsOwnFile (area : Area) (at : Names) (mode : ℕ) (bytes : List ℕ) (old new : WorldData) : Type 0 where
  pub label : Label
  pub drawn : IsDrawn label old new
  pub stands_there : stands new area at ≡ Some (File label)
  pub contents : contents_of new area label ≡ Some (record { mode = mode; bytes = bytes })

-- what stands at a path of an area's tree is a copy of what stood at the source, by its kind: nothing of nothing, a folder of a folder,
-- a link with the same text of a link, a file of its own with the same bytes of a file; `made` gives the modes of copies
abbrev pub IsCopyOf : FileMap → (ℕ → ℕ) → Spot → Area → Names → WorldData → WorldData → Option Kind → Type 0
IsCopyOf files made source area at old new None = stands new area at ≡ None
IsCopyOf files made source area at old new (Some (kinds.Dir mode)) = stands new area at ≡ Some (Dir (made mode))
IsCopyOf files made source area at old new (Some kinds.Link) = stands new area at ≡ Some (Link (text_at old source))
IsCopyOf files made source area at old new (Some (kinds.File label)) = IsOwnFile area at (made (mode_at old source)) (bytes_at old files source) old new

abbrev pub IsCopied : FileMap → (ℕ → ℕ) → Spot → Area → Names → WorldData → WorldData → Type 0
IsCopied files made source area at old new = IsCopyOf files made source area at old new (kind_at old files source)

-- what stood at or below a source is copied to a path and below it; all else stands as it was, and each label stands for what it stood for
pub record Copies (files : FileMap) (made : ℕ → ℕ) (source : Spot) (area : Area) (at : Names) (old new : WorldData) : Type 0 where
  pub copied : (below : Names) → IsCopied files made (spot source.site (source.path ++ below)) area (at ++ below) old new
  pub others : (path : Names) → is_at_or_below at path ≡ false → stands new area path ≡ stands old area path
  pub contents : (label : Label) (had : Contents) → contents_of old area label ≡ Some had → contents_of new area label ≡ Some had
  pub areas : KeepsOthers area old new

-- the same to a place, which is in one of the task's trees
abbrev pub CopiesTo : FileMap → (ℕ → ℕ) → Spot → Spot → WorldData → WorldData → Type 0
CopiesTo files made source place old new = (area : Area) × (place.site ≡ in_tree area) × Copies files made source area place.path old new
