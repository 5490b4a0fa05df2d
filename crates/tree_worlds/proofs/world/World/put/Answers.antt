use Rattle.std.proofs.Common.{refl}
use Rattle.br_path.specs.declared.area.Area.TheVariants.{Build, Host, Staging, Target}
use Rattle.tree_worlds.specs.World.{world_data}
use Rattle.tree_worlds.specs.Steps.{change_of}
use Rattle.tree_worlds.proofs.Putting.{IsPut-at}
use Rattle.tree_worlds.proofs.Replacing.{held-replaced, refused-replaced}
use Rattle.tree_worlds.proofs.world.World.put.Goals as goal

pub returns-in-Build : goal.returns-in-Build
returns-in-Build g c = record {
  put = IsPut-at g.T.TreeOps.copying (change_of c.args.step) (world_data g.T.TreeOps.tree c.args.self.now) c.args.self.now.pen c.args.area Build c.apply.result (g.T.TreeOps.tree c.apply.new.tree, c.apply.new.pen) c.in-Build.is refl c.apply.ensures.change;
  held = held-replaced g.T.TreeOps.tree g.T.TreeOps.sealed g.T.TreeOps.copying (change_of c.args.step) c.args.self.now c.apply.new.tree c.apply.new.pen Build c.apply.result c.requires.held c.apply.ensures.held c.apply.ensures.change;
  refused = refused-replaced g.T.TreeOps.tree g.T.TreeOps.sealed g.T.TreeOps.copying (change_of c.args.step) c.args.self.now c.apply.new.tree c.apply.new.pen Build c.apply.result c.apply.ensures.change;
}

pub returns-in-Host : goal.returns-in-Host
returns-in-Host g c = record {
  put = IsPut-at g.T.TreeOps.copying (change_of c.args.step) (world_data g.T.TreeOps.tree c.args.self.now) c.args.self.now.pen c.args.area Host c.apply-in-Host.result (g.T.TreeOps.tree c.apply-in-Host.new.tree, c.apply-in-Host.new.pen) c.in-Host.is refl c.apply-in-Host.ensures.change;
  held = held-replaced g.T.TreeOps.tree g.T.TreeOps.sealed g.T.TreeOps.copying (change_of c.args.step) c.args.self.now c.apply-in-Host.new.tree c.apply-in-Host.new.pen Host c.apply-in-Host.result c.requires.held c.apply-in-Host.ensures.held c.apply-in-Host.ensures.change;
  refused = refused-replaced g.T.TreeOps.tree g.T.TreeOps.sealed g.T.TreeOps.copying (change_of c.args.step) c.args.self.now c.apply-in-Host.new.tree c.apply-in-Host.new.pen Host c.apply-in-Host.result c.apply-in-Host.ensures.change;
}

pub returns-in-Staging : goal.returns-in-Staging
returns-in-Staging g c = record {
  put = IsPut-at g.T.TreeOps.copying (change_of c.args.step) (world_data g.T.TreeOps.tree c.args.self.now) c.args.self.now.pen c.args.area Staging c.apply-in-Staging.result (g.T.TreeOps.tree c.apply-in-Staging.new.tree, c.apply-in-Staging.new.pen) c.in-Staging.is refl c.apply-in-Staging.ensures.change;
  held = held-replaced g.T.TreeOps.tree g.T.TreeOps.sealed g.T.TreeOps.copying (change_of c.args.step) c.args.self.now c.apply-in-Staging.new.tree c.apply-in-Staging.new.pen Staging c.apply-in-Staging.result c.requires.held c.apply-in-Staging.ensures.held c.apply-in-Staging.ensures.change;
  refused = refused-replaced g.T.TreeOps.tree g.T.TreeOps.sealed g.T.TreeOps.copying (change_of c.args.step) c.args.self.now c.apply-in-Staging.new.tree c.apply-in-Staging.new.pen Staging c.apply-in-Staging.result c.apply-in-Staging.ensures.change;
}

pub returns-in-Target : goal.returns-in-Target
returns-in-Target g c = record {
  put = IsPut-at g.T.TreeOps.copying (change_of c.args.step) (world_data g.T.TreeOps.tree c.args.self.now) c.args.self.now.pen c.args.area Target c.apply-in-Target.result (g.T.TreeOps.tree c.apply-in-Target.new.tree, c.apply-in-Target.new.pen) c.in-Target.is refl c.apply-in-Target.ensures.change;
  held = held-replaced g.T.TreeOps.tree g.T.TreeOps.sealed g.T.TreeOps.copying (change_of c.args.step) c.args.self.now c.apply-in-Target.new.tree c.apply-in-Target.new.pen Target c.apply-in-Target.result c.requires.held c.apply-in-Target.ensures.held c.apply-in-Target.ensures.change;
  refused = refused-replaced g.T.TreeOps.tree g.T.TreeOps.sealed g.T.TreeOps.copying (change_of c.args.step) c.args.self.now c.apply-in-Target.new.tree c.apply-in-Target.new.pen Target c.apply-in-Target.result c.apply-in-Target.ensures.change;
}
