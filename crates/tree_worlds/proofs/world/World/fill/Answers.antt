use Rattle.std.proofs.Common.{refl}
use Rattle.br_path.specs.declared.area.Area.TheVariants.{Build, Host, Staging, Target}
use Rattle.tree_ops.specs.Change.{Populate}
use Rattle.tree_worlds.specs.World.{world_data}
use Rattle.tree_worlds.proofs.Putting.{IsPut-at}
use Rattle.tree_worlds.proofs.Replacing.{held-replaced, refused-replaced}
use Rattle.tree_worlds.proofs.world.World.fill.Goals as goal

pub returns-in-Build : goal.returns-in-Build
returns-in-Build g c = record {
  put = IsPut-at g.T.TreeOps.copying (Populate (g.T.TreeOps.tree c.args.from.now)) (world_data g.T.TreeOps.tree c.args.self.now) c.args.self.now.pen c.args.area Build c.populate.result (g.T.TreeOps.tree c.populate.new.self, c.populate.new.pen) c.in-Build.is refl c.populate.ensures.change;
  held = held-replaced g.T.TreeOps.tree g.T.TreeOps.sealed g.T.TreeOps.copying (Populate (g.T.TreeOps.tree c.args.from.now)) c.args.self.now c.populate.new.self c.populate.new.pen Build c.populate.result c.requires.held c.populate.ensures.held c.populate.ensures.change;
  refused = refused-replaced g.T.TreeOps.tree g.T.TreeOps.sealed g.T.TreeOps.copying (Populate (g.T.TreeOps.tree c.args.from.now)) c.args.self.now c.populate.new.self c.populate.new.pen Build c.populate.result c.populate.ensures.change;
}

pub returns-in-Host : goal.returns-in-Host
returns-in-Host g c = record {
  put = IsPut-at g.T.TreeOps.copying (Populate (g.T.TreeOps.tree c.args.from.now)) (world_data g.T.TreeOps.tree c.args.self.now) c.args.self.now.pen c.args.area Host c.populate-in-Host.result (g.T.TreeOps.tree c.populate-in-Host.new.self, c.populate-in-Host.new.pen) c.in-Host.is refl c.populate-in-Host.ensures.change;
  held = held-replaced g.T.TreeOps.tree g.T.TreeOps.sealed g.T.TreeOps.copying (Populate (g.T.TreeOps.tree c.args.from.now)) c.args.self.now c.populate-in-Host.new.self c.populate-in-Host.new.pen Host c.populate-in-Host.result c.requires.held c.populate-in-Host.ensures.held c.populate-in-Host.ensures.change;
  refused = refused-replaced g.T.TreeOps.tree g.T.TreeOps.sealed g.T.TreeOps.copying (Populate (g.T.TreeOps.tree c.args.from.now)) c.args.self.now c.populate-in-Host.new.self c.populate-in-Host.new.pen Host c.populate-in-Host.result c.populate-in-Host.ensures.change;
}

pub returns-in-Staging : goal.returns-in-Staging
returns-in-Staging g c = record {
  put = IsPut-at g.T.TreeOps.copying (Populate (g.T.TreeOps.tree c.args.from.now)) (world_data g.T.TreeOps.tree c.args.self.now) c.args.self.now.pen c.args.area Staging c.populate-in-Staging.result (g.T.TreeOps.tree c.populate-in-Staging.new.self, c.populate-in-Staging.new.pen) c.in-Staging.is refl c.populate-in-Staging.ensures.change;
  held = held-replaced g.T.TreeOps.tree g.T.TreeOps.sealed g.T.TreeOps.copying (Populate (g.T.TreeOps.tree c.args.from.now)) c.args.self.now c.populate-in-Staging.new.self c.populate-in-Staging.new.pen Staging c.populate-in-Staging.result c.requires.held c.populate-in-Staging.ensures.held c.populate-in-Staging.ensures.change;
  refused = refused-replaced g.T.TreeOps.tree g.T.TreeOps.sealed g.T.TreeOps.copying (Populate (g.T.TreeOps.tree c.args.from.now)) c.args.self.now c.populate-in-Staging.new.self c.populate-in-Staging.new.pen Staging c.populate-in-Staging.result c.populate-in-Staging.ensures.change;
}

pub returns-in-Target : goal.returns-in-Target
returns-in-Target g c = record {
  put = IsPut-at g.T.TreeOps.copying (Populate (g.T.TreeOps.tree c.args.from.now)) (world_data g.T.TreeOps.tree c.args.self.now) c.args.self.now.pen c.args.area Target c.populate-in-Target.result (g.T.TreeOps.tree c.populate-in-Target.new.self, c.populate-in-Target.new.pen) c.in-Target.is refl c.populate-in-Target.ensures.change;
  held = held-replaced g.T.TreeOps.tree g.T.TreeOps.sealed g.T.TreeOps.copying (Populate (g.T.TreeOps.tree c.args.from.now)) c.args.self.now c.populate-in-Target.new.self c.populate-in-Target.new.pen Target c.populate-in-Target.result c.requires.held c.populate-in-Target.ensures.held c.populate-in-Target.ensures.change;
  refused = refused-replaced g.T.TreeOps.tree g.T.TreeOps.sealed g.T.TreeOps.copying (Populate (g.T.TreeOps.tree c.args.from.now)) c.args.self.now c.populate-in-Target.new.self c.populate-in-Target.new.pen Target c.populate-in-Target.result c.populate-in-Target.ensures.change;
}
