use Rattle.std.proofs.Common.{◌≡◌, ◌+◌, ◌-◌, ◌*◌, ◌∷◌, ◌++◌, [], All, drop}
use Rattle.br_path.specs.Path.{IsPath}
use Rattle.tree_worlds.specs.World.{world_data}
use Rattle.tree_worlds.specs.Program.{run}
use Rattle.tree_worlds.specs.HeldWorld.{IsHeldWorld}
use Rattle.sh_places.specs.Finding.{spot}
use Rattle.sh_places.specs.Parts.{each}
use Rattle.sh_files.specs.ChangingModes.{change_at, change_below}
use Rattle.sh_files.proofs.changing_modes.+change.Given as goal

abbrev pub decreases-change_at : goal.decreases-change_at
decreases-change_at g l = 2 * l.depth + 1

abbrev pub decreases-change_below : goal.decreases-change_below
decreases-change_below g l = 2 * l.depth

-- what is left to do from here is what was to do at first
abbrev pub invariant-change_below-loop-name : goal.invariant-change_below-loop-name
invariant-change_below-loop-name g l = record {
  left : run (each (λ name. change_at (change_below (l.depth - 1) l.files l.change) l.files l.change (spot l.place.site (l.place.path ++ name ∷ []))) (drop l.name-index l.name-items)) (world_data g.T.TreeOps.tree l.world)
      ≡ run (change_below l.depth l.files l.change l.place) (world_data g.T.TreeOps.tree l.fn.world);
  paths : All (λ name. IsPath (l.place.path ++ name ∷ [])) l.name-items;
  held : IsHeldWorld g.T.TreeOps.tree g.T.TreeOps.sealed l.world;
}
