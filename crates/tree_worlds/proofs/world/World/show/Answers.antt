use Rattle.std.proofs.Common.{sym, subst}
use Rattle.tree_worlds.specs.HeldWorld.{IsHeldWorld}
use Rattle.tree_worlds.proofs.Empty.{IsReadable-more}
use Rattle.tree_worlds.proofs.world.World.show.Goals as goal

pub returns-clause-held : goal.returns-clause-held
returns-clause-held g c =
    let held = subst (IsHeldWorld g.T.TreeOps.tree g.T.TreeOps.sealed) (sym c.self.view_is) c.requires.held in
    record {
      build = held.build;
      host = held.host;
      staging = held.staging;
      target = held.target;
      shown = IsReadable-more g.T.TreeOps.tree g.T.TreeOps.sealed _ c.push.new.self.items _ held.shown c.requires.sound c.requires.sealed c.in_ok-push.ensures.items;
      names = held.names;
      path_bytes = held.path_bytes;
    }
