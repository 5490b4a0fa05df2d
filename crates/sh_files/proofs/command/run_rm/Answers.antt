use Rattle.std.proofs.Common.{rules, ◌≡◌, [], Ok}
use Rattle.std.specs.Prelude.{codes}
use Rattle.opt_table.specs.Given.{Read, has}
use Rattle.opt_table.specs.Table.{rows_of}
use Rattle.tree_worlds.specs.World.{world_data}
use Rattle.tree_worlds.specs.Program.{run, Ran}
use Rattle.sh_places.specs.Parts.{told}
use Rattle.sh_files.specs.Commands.{read_by, either}
use Rattle.sh_files.specs.Removing.{rm}
use Rattle.sh_files.proofs.Optioned.{read_on}
use Rattle.sh_files.proofs.command.run_rm.Goals as goal

pub returns-clause-ran : goal.returns-clause-ran
returns-clause-ran g c =
    let old = world_data g.T.TreeOps.tree c.args.world.now in
    let new = world_data g.T.TreeOps.tree c.rm.new.world in
    let outcome = read_by (rows_of (codes "Rfrv") []) c.args.words.now in
    let next = λ (read : Read). rm c.args.files.now (has read 102) (either read 114 82) read.operands in
    let options = c.in_ok-options.options in
    let says : told outcome ≡ Ok options = search rules in
    let then : Ran (run (rm c.args.files.now (has c.in_ok-options.options 102) (either c.in_ok-options.options 114 82) c.in_ok-options.options.operands) old) c.rm.result new = search rules in
    read_on outcome next options old new c.rm.result says then
