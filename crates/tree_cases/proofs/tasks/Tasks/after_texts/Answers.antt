use Rattle.std.proofs.Common.{rules, ◌≡◌, Err, subst}
use Rattle.tree_worlds.specs.Kept.{KeepsUnlessMemory}
use Rattle.tree_worlds.specs.World.{world_data}
use Rattle.tree_worlds.specs.declared.reason.CommandError.TheVariants.{Failed}
use Rattle.tree_cases.proofs.Ages.{AreTasks-keeps}
use Rattle.tree_cases.proofs.tasks.Tasks.after_texts.Goals as goal
use Rattle.tree_cases.proofs.tasks.Tasks.after_texts.Goals.{in-Ok, in-Err-Failed}

pub invariant_of-tasks : goal.invariant_of-tasks
invariant_of-tasks g c = elim c.match-run.branch [
  | in-Ok w ↦ AreTasks-keeps g.T.TreeOps.tree g.T.TreeOps.sealed c.self.inside.world c.run.new.world c.self.inside.ended.items w.in-Ok.ensures.keeps c.run.ensures.held c.self.invariant
  | in-Err-Failed w ↦
      let is : c.run.result ≡ Err (Failed w.in-Err-Failed.reason) = search rules in
      AreTasks-keeps g.T.TreeOps.tree g.T.TreeOps.sealed c.self.inside.world c.run.new.world c.self.inside.ended.items
      (subst (λ result. KeepsUnlessMemory (world_data g.T.TreeOps.tree c.self.inside.world) result (world_data g.T.TreeOps.tree c.run.new.world)) is c.run.ensures.keeps) c.run.ensures.held c.self.invariant
]
