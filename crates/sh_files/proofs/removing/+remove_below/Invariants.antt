use Rattle.std.proofs.Common.{◌≡◌, ◌-◌, ◌∷◌, ◌++◌, [], All, drop}
use Rattle.br_path.specs.Path.{IsPath}
use Rattle.tree_worlds.specs.World.{world_data}
use Rattle.tree_worlds.specs.Program.{run}
use Rattle.tree_worlds.specs.HeldWorld.{IsHeldWorld}
use Rattle.sh_places.specs.Finding.{spot}
use Rattle.sh_places.specs.Parts.{each}
use Rattle.sh_files.specs.Removing.{remove_entry, remove_below}
use Rattle.sh_files.proofs.removing.+remove_below.Given as goal

abbrev pub decreases-remove_below : goal.decreases-remove_below
decreases-remove_below g l = l.depth

-- what is left to do from here is what was to do at first
abbrev pub invariant-loop-name : goal.invariant-loop-name
invariant-loop-name g l = record {
  left : run (each (λ name. remove_entry (remove_below (l.depth - 1) l.files) (spot l.place.site (l.place.path ++ name ∷ []))) (drop l.name-index l.name-items)) (world_data g.T.TreeOps.tree l.world)
      ≡ run (remove_below l.depth l.files l.place) (world_data g.T.TreeOps.tree l.fn.world);
  paths : All (λ name. IsPath (l.place.path ++ name ∷ [])) l.name-items;
  held : IsHeldWorld g.T.TreeOps.tree g.T.TreeOps.sealed l.world;
}
