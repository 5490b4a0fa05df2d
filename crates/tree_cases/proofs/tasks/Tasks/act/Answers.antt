use Rattle.tree_worlds.specs.Steps.{change_of}
use Rattle.tree_cases.proofs.Ages.{AreTasks-act}
use Rattle.tree_cases.proofs.tasks.Tasks.act.Goals as goal

pub invariant_of-self : goal.invariant_of-self
invariant_of-self g c =
    AreTasks-act g.T.TreeOps.tree g.T.TreeOps.sealed c.args.area (change_of c.args.step) c.self.inside.world c.act.new.self c.self.inside.ended.items c.act.result
    c.act.ensures.ran c.act.ensures.refused c.act.ensures.held c.self.invariant
