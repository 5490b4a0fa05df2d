use Rattle.std.proofs.lemmas.Result.{err_from_is_err_and}
use Rattle.opt_table.specs.Given.{Read}
use Rattle.tree_worlds.specs.World.{world_data}
use Rattle.tree_worlds.specs.Program.{run}
use Rattle.sh_places.specs.Parts.{attempt}
use Rattle.sh_places.proofs.Ran.{ran_err}
use Rattle.sh_text.specs.Sed.{options, sed_with}
use Rattle.sh_text.proofs.sed.sed.Goals as goal

pub returns-in_err-options-clause-ran : goal.returns-in_err-options-clause-ran
returns-in_err-options-clause-ran g c =
    let old = world_data g.T.TreeOps.tree c.args.world.now in
    let given = err_from_is_err_and c.from_residual.result c.from_residual.ensures.1 in
    rw (given.1, given.2) (
    ran_err (run (attempt (options c.args.words.now)) old) (λ (read : Read). run (sed_with c.args.files.now c.args.into.now read)) c.in_err-options.field-0.0 old (c.in_err-options.ensures old)
    )
