use Rattle.std.proofs.Common.{[]}
use Rattle.std.proofs.lemmas.Result.{err_from_is_err_and}
use Rattle.tree_worlds.specs.World.{world_data}
use Rattle.tree_worlds.specs.Program.{run, ◌>>=◌}
use Rattle.sh_places.specs.Parts.{attempt}
use Rattle.sh_places.proofs.Ran.{ran_err}
use Rattle.sh_text.specs.declared.script.Script.{Script}
use Rattle.sh_text.specs.Redirection.{put_output}
use Rattle.sh_text.specs.Sed.{script_for, edited_files, file_words}
use Rattle.sh_text.proofs.sed.put_edited.Goals as goal

pub returns-in_err-script-clause-ran : goal.returns-in_err-script-clause-ran
returns-in_err-script-clause-ran g c =
    let old = world_data g.T.TreeOps.tree c.args.world.now in
    let given = err_from_is_err_and c.from_residual.result c.from_residual.ensures.1 in
    rw (given.1, given.2) (
    ran_err (run (attempt (script_for c.args.options.now)) old) (λ (script : Script). run (edited_files c.args.files.now script [] (file_words c.args.options.now) >>= λ output. put_output c.args.place.now output)) c.in_err-script.field-0.0 old (c.in_err-script.ensures old)
    )
