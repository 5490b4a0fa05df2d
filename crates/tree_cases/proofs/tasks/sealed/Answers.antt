use Rattle.br_path.specs.declared.area.Area.TheVariants.{Build, Host, Staging, Target}
use Rattle.tree_cases.proofs.Ages.{left-sealed}
use Rattle.tree_cases.proofs.tasks.sealed.Goals as goal

pub returns : goal.returns
returns g c limit are = record {
  build = left-sealed g.T.TreeOps.tree g.T.TreeOps.sealed limit c.args.trees.build c.in_ok-seal.field-0 (are.sound Build) (are.older Build) c.in_ok-seal.ensures.tree c.in_ok-seal.ensures.sealed;
  host = left-sealed g.T.TreeOps.tree g.T.TreeOps.sealed limit c.args.trees.host c.in_ok-seal-2.field-0 (are.sound Host) (are.older Host) c.in_ok-seal-2.ensures.tree c.in_ok-seal-2.ensures.sealed;
  staging = left-sealed g.T.TreeOps.tree g.T.TreeOps.sealed limit c.args.trees.staging c.in_ok-seal-3.field-0 (are.sound Staging) (are.older Staging) c.in_ok-seal-3.ensures.tree c.in_ok-seal-3.ensures.sealed;
  target = left-sealed g.T.TreeOps.tree g.T.TreeOps.sealed limit c.args.trees.target c.in_ok-seal-4.field-0 (are.sound Target) (are.older Target) c.in_ok-seal-4.ensures.tree c.in_ok-seal-4.ensures.sealed;
}
