-- A world that a task holds is one that it reaches.
use Rattle.std.proofs.Common.{ℕ, ◌≡◌, ◌<◌, Bool, true, false, List, [], ◌∷◌, map, Option, Some, None, ap, subst}
use Rattle.std.specs.FinMap as fin
use Rattle.std.specs.Option.{is_some}
use Rattle.std.specs.Prelude.{All, ◌==◌, if◌then◌else◌}
use Rattle.std.proofs.lemmas.List.Elements.{All-head, All-tail}
use Rattle.br_path.specs.declared.area.Area.{Area}
use Rattle.br_path.specs.declared.area.Area.TheVariants.{Build, Host, Staging, Target}
use Rattle.tree_ops.specs.declared.entry.Label.{Label}
use Rattle.tree_ops.specs.Change.{is_own}
use Rattle.tree_ops.specs.Pen.{counts_of}
use Rattle.tree_ops.specs.Tree.{Tree, IsTree}
use Rattle.tree_worlds.specs.declared.world.ShownTree.{ShownTree}
use Rattle.tree_worlds.specs.declared.world.World.{World}
use Rattle.tree_worlds.specs.HeldWorld.{IsHeldWorld, IsReadable}
use Rattle.tree_worlds.specs.World.{readable_data, shown_tree, tree_in, trees_data, world_data}
use Rattle.sh_places.specs.declared.spot.Site.{Site}
use Rattle.sh_places.specs.declared.spot.Site.TheVariants.{Tree as in_tree, Readable as in_readable, Input as in_input}
use Rattle.sh_places.specs.Looks.{tree_of}
use Rattle.file_laws.specs.Words.{IsReachedWorld}

module _ {T : Type 0} (tree : T → Tree) (sealed : T → Label → Bool) where
  readable-sound : (shown : List (ShownTree T)) (task : ℕ) (found : Tree) → All (IsReadable tree sealed) shown → shown_tree (map (readable_data tree) shown) task ≡ Some found → IsTree found
  readable-sound [] task found all is = cc
  readable-sound (first ∷ more) task found all is =
      by (first.task == task) (All-head (IsReadable tree sealed) first more all).sound (readable-sound more task found (All-tail (IsReadable tree sealed) first more all)) is
    where
      by : (same : Bool) → IsTree (tree first.tree) → (shown_tree (map (readable_data tree) more) task ≡ Some found → IsTree found)
          → (if same then Some (tree first.tree) else shown_tree (map (readable_data tree) more) task) ≡ Some found → IsTree found
      by true sound later is = let same : tree first.tree ≡ found = cc in subst IsTree same sound
      by false sound later is = later is

  module _ (world : World T) (held : IsHeldWorld tree sealed world) where
    sound-in : (area : Area) → IsTree (tree_in (trees_data tree world.trees) area)
    sound-in Build = held.build.sound
    sound-in Host = held.host.sound
    sound-in Staging = held.staging.sound
    sound-in Target = held.target.sound

    fresh-in : (area : Area) (label : Label) → fin.contains_key (tree_in (trees_data tree world.trees) area).labels label ≡ true → is_own (counts_of world.pen) label ≡ true → label.number < world.pen.next
    fresh-in Build = held.build.fresh
    fresh-in Host = held.host.fresh
    fresh-in Staging = held.staging.fresh
    fresh-in Target = held.target.fresh

    site-sound : (site : Site) (found : Tree) → tree_of (world_data tree world) site ≡ Some found → IsTree found
    site-sound (in_tree area) found is = let same : tree_in (trees_data tree world.trees) area ≡ found = cc in subst IsTree same (sound-in area)
    site-sound (in_readable task) found is = readable-sound world.shown task found held.shown is
    site-sound in_input found is = cc

    pub held_reached : IsReachedWorld (world_data tree world)
    held_reached = record { trees = site-sound; drawn = λ area label had there own. fresh-in area label (ap is_some there) own }
