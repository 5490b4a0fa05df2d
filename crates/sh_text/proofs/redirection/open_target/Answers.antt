use Rattle.std.proofs.Common.{◌≡◌, ℕ, List, Ok, subst}
use Rattle.tree_worlds.specs.World.{world_data}
use Rattle.tree_worlds.specs.Program.{run}
use Rattle.tree_worlds.specs.declared.operand.Operand.{Operand}
use Rattle.sh_places.specs.Parts.{read}
use Rattle.sh_places.proofs.Ran.{ran_on}
use Rattle.sh_text.specs.Redirection.{open_operand}
use Rattle.sh_text.proofs.redirection.open_target.Goals as goal

pub returns-clause-ran : goal.returns-clause-ran
returns-clause-ran g c =
    let old = world_data g.T.TreeOps.tree c.args.world.now in
    let new = world_data g.T.TreeOps.tree c.open_operand.new.world in
    let operand = c.in_ok-operand.operand in
    ran_on (run (read c.args.files.now c.args.target.now.word) old) (λ (o : Operand). run (open_operand c.args.files.now c.args.target.now.append o)) operand old new c.open_operand.result
    (subst (λ (word : List ℕ). run (read c.args.files.now word) old ≡ Ok (operand, old)) c.as_slice.ensures c.in_ok-operand.ensures.ran) c.open_operand.ensures.ran
