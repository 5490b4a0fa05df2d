use Rattle.std.proofs.Common.{◌≡◌, Some, sym, ◌∙◌}
use Rattle.tree_ops.specs.Tree.{entry_at}
use Rattle.tree_worlds.specs.World.{world_data}
use Rattle.sh_places.proofs.Sound.{site-sound, kind-modest, kind-elsewhere}
use Rattle.sh_places.proofs.looks.kind_at.Goals as goal

pub returns-in_ok-entry-in_default : goal.returns-in_ok-entry-in_default
returns-in_ok-entry-in_default g c =
    let tree = g.T.TreeOps.tree c.in_ok-tree_of-in_default.field-0.now in
    let there : Some c.in_ok-entry-in_default.entry ≡ entry_at tree c.args.spot.now.path = sym c.in_ok-entry-in_default.was ∙ c.lookup.ensures in
    record {
      kind = kind-elsewhere (world_data g.T.TreeOps.tree c.args.world.now) c.args.files.now c.args.spot.now tree c.in_ok-entry-in_default.entry c.kind_of.result c.in_default.not-Input c.in_ok-tree_of-in_default.ensures there c.kind_of.ensures;
      modest = kind-modest tree c.args.spot.now.path c.in_ok-entry-in_default.entry c.kind_of.result
          (site-sound g.T.TreeOps.tree g.T.TreeOps.sealed c.args.world.now c.args.spot.now.site tree c.requires.held c.in_ok-tree_of-in_default.ensures) there c.kind_of.ensures;
    }
