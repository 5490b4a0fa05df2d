use Rattle.std.proofs.Common.{ℕ, List, sym, ap, ◌∙◌}
use Rattle.std.specs.Option.{option_copied}
use Rattle.tree_worlds.specs.World.{world_data}
use Rattle.tree_worlds.specs.Program.{run}
use Rattle.sh_places.proofs.Ran.{ran_same}
use Rattle.sh_files.specs.Goals as goals
use Rattle.sh_files.proofs.goal.goal_by.Goals as goal

pub returns-in-Some-last-clause-ran : goal.returns-in-Some-last-clause-ran
returns-in-Some-last-clause-ran g c =
    let world = world_data g.T.TreeOps.tree c.args.world.now in
    ran_same (run (goals.last_goal c.args.files.now c.args.make c.args.sources c.as_slice.result.now) world)
    (run (goals.goal_by c.args.files.now c.args.make c.args.sources (option_copied c.args.named) (option_copied c.args.last)) world) c.last_goal.result (world_data g.T.TreeOps.tree c.last_goal.new.world)
    (ap (λ (word : List ℕ). run (goals.last_goal c.args.files.now c.args.make c.args.sources word) world) c.as_slice.ensures
    ∙ sym (λ i. run (goals.goal_by c.args.files.now c.args.make c.args.sources (option_copied (c.in-None.is i)) (option_copied (c.in-Some-last.is i))) world))
    c.last_goal.ensures.ran
