use Rattle.std.proofs.Common.{rules, ◌≡◌, ℕ, ◌-◌, List, ◌∷◌, ◌++◌, [], reverse, ap, ◌∙◌}
use Rattle.std.specs.Prelude.{◌≢◌}
use Rattle.br_path.specs.Path.{Names}
use Rattle.tree_worlds.specs.World.{world_data}
use Rattle.tree_worlds.specs.Program.{run}
use Rattle.sh_places.specs.Finding.{spot}
use Rattle.sh_places.specs.Looks.{names_at}
use Rattle.sh_places.specs.Parts.{each}
use Rattle.sh_files.specs.Removing.{remove_entry, remove_below}
use Rattle.sh_files.proofs.Depths.{remove_more}
use Rattle.sh_files.proofs.removing.+remove_below.Goals as goal

pub loop-name-init : goal.loop-name-init
loop-name-init g t c =
    let world = world_data g.T.TreeOps.tree c.args.world.now in
    let place = c.args.place.now in
    let one = λ (name : List ℕ). remove_entry (remove_below (c.args.depth - 1) c.args.files.now) (spot place.site (place.path ++ name ∷ [])) in
    let some : c.args.depth ≢ 0 = search rules in
    let items : c.deref-name-items.result.now ≡ reverse (names_at world c.args.files.now place) =
    c.deref-name-items.ensures.value ∙ c.reverse.ensures.items ∙ ap reverse (c.names.view_is ∙ c.in_ok-names.ensures.names) in
    record {
      left = ap (λ (names : Names). run (each one names) world) items ∙ remove_more c.args.depth c.args.files.now place world some;
      paths = search rules;
      held = c.requires.held;
    }
