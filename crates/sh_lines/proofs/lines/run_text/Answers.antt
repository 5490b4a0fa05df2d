use Rattle.tree_worlds.specs.Program.{run}
use Rattle.tree_worlds.specs.World.{world_data}
use Rattle.sh_places.specs.Parts.{attempt}
use Rattle.sh_places.proofs.Ran.{ran_err, ran_on}
use Rattle.sh_lines.specs.Lines.{words_of, does}
use Rattle.sh_lines.proofs.lines.run_text.Goals as goal

pub returns-in-Err-clause-ran : goal.returns-in-Err-clause-ran
returns-in-Err-clause-ran g c =
    let world = world_data g.T.TreeOps.tree c.args.world.now in
    ran_err (run (attempt (words_of c.args.text.now)) world) (λ line x. run (does c.args.files.now line line.words) x) c.in-Err.error world (c.in-Err.ensures.read world)

pub returns-in-Ok-clause-ran : goal.returns-in-Ok-clause-ran
returns-in-Ok-clause-ran g c =
    let world = world_data g.T.TreeOps.tree c.args.world.now in
    ran_on (run (attempt (words_of c.args.text.now)) world) (λ line x. run (does c.args.files.now line line.words) x) c.in-Ok.line world (world_data g.T.TreeOps.tree c.run_line.new.world) c.run_line.result
    (c.in-Ok.ensures.read world) c.run_line.ensures.ran
