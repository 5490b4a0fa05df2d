use Rattle.std.proofs.Common.{rules, ◌≡◌, ℕ, List, Ok, Err, subst}
use Rattle.std.proofs.lemmas.Result.{err_from_is_err_and}
use Rattle.std.specs.Prelude.{codes}
use Rattle.opt_table.specs.Given.{Read, value_of}
use Rattle.std.specs.Prelude.{◌≢◌, Option}
use Rattle.std.specs.Option.{option_copied}
use Rattle.br_path.specs.Path.{Names}
use Rattle.tree_worlds.specs.declared.reason.CommandError.TheVariants.{Memory as no_memory}
use Rattle.sh_files.specs.declared.copying.Manner.{Manner}
use Rattle.opt_table.specs.Table.{Rows, rows_of}
use Rattle.tree_worlds.specs.World.{world_data}
use Rattle.tree_worlds.specs.Program.{run, Ran}
use Rattle.sh_places.specs.Parts.{told}
use Rattle.sh_files.specs.Commands.{read_by, manner_of}
use Rattle.sh_files.specs.Copying.{cp}
use Rattle.sh_files.proofs.Optioned.{read_on, read_err}
use Rattle.sh_files.proofs.command.run_cp.Goals as goal

pub returns-clause-ran : goal.returns-clause-ran
returns-clause-ran g c =
    let old = world_data g.T.TreeOps.tree c.args.world.now in
    let new = world_data g.T.TreeOps.tree c.cp.new.world in
    let outcome = read_by (rows_of (codes "PRadfprv") (codes "t")) c.args.words.now in
    let next = λ (read : Read). cp c.args.files.now (manner_of read) (value_of read 116) read.operands in
    let options = c.in_ok-options.options in
    let same : c.letters-table.result ≡ rows_of (codes "PRadfprv") (codes "t") = search rules in
    let says : told outcome ≡ Ok options = subst (λ (rows : Rows). told (read_by rows c.args.words.now) ≡ Ok options) same c.in_ok-options.ensures in
    let m : c.manner_of.result ≡ manner_of options = search rules in
    let v : option_copied c.value.result ≡ value_of options 116 = search rules in
    let o : c.operands.result.now ≡ options.operands = search rules in
    let then : Ran (run (next options) old) c.cp.result new =
    subst (λ (m : Manner). Ran (run (cp c.args.files.now m (value_of options 116) options.operands) old) c.cp.result new) m
    (subst (λ (v : Option (List ℕ)). Ran (run (cp c.args.files.now c.manner_of.result v options.operands) old) c.cp.result new) v
    (subst (λ (o : Names). Ran (run (cp c.args.files.now c.manner_of.result (option_copied c.value.result) o) old) c.cp.result new) o c.cp.ensures.ran)) in
    read_on outcome next options old new c.cp.result says then

pub returns-in_err-options-clause-ran : goal.returns-in_err-options-clause-ran
returns-in_err-options-clause-ran g c =
    let outcome = read_by (rows_of (codes "PRadfprv") (codes "t")) c.args.words.now in
    let next = λ (read : Read). cp c.args.files.now (manner_of read) (value_of read 116) read.operands in
    let given = err_from_is_err_and c.from_residual.result c.from_residual.ensures.1 in
    let same : c.letters-table.result ≡ rows_of (codes "PRadfprv") (codes "t") = search rules in
    let error = c.in_err-options.field-0.0 in
    let says : error ≢ no_memory → told outcome ≡ Err error = subst (λ (rows : Rows). error ≢ no_memory → told (read_by rows c.args.words.now) ≡ Err error) same c.in_err-options.ensures in
    rw (given.1, given.2) (read_err outcome next error (world_data g.T.TreeOps.tree c.args.world.now) says)
