use Rattle.std.proofs.Common.{List, ℕ, Err}
use Rattle.std.specs.Prelude.{Option}
use Rattle.std.proofs.lemmas.Result.{err_from_is_err_and}
use Rattle.tree_worlds.specs.World.{world_data}
use Rattle.tree_worlds.specs.Program.{run, ◌>>=◌}
use Rattle.sh_places.specs.declared.spot.Spot.{Spot}
use Rattle.sh_places.specs.Parts.{attempt}
use Rattle.sh_places.proofs.Ran.{ran_on, ran_err}
use Rattle.sh_text.specs.Printing.{echoed}
use Rattle.sh_text.specs.Redirection.{open_into, put_output}
use Rattle.sh_text.proofs.command.run_echo.Goals as goal

pub returns-in_err-output-clause-ran : goal.returns-in_err-output-clause-ran
returns-in_err-output-clause-ran g c =
    let old = world_data g.T.TreeOps.tree c.args.world.now in
    let new = world_data g.T.TreeOps.tree c.open_into.new.world in
    let given = err_from_is_err_and c.from_residual-in_err-output.result c.from_residual-in_err-output.ensures.1 in
    rw (given.1, given.2) (
    ran_on (run (open_into c.args.files.now c.args.into.now) old) (λ (place : Option Spot). run (attempt (echoed c.args.words.now) >>= λ output. put_output place output)) c.in_ok-place.place new new (Err c.in_err-output.field-0.0) c.in_ok-place.ensures.ran
    (ran_err (run (attempt (echoed c.args.words.now)) new) (λ (output : List ℕ). run (put_output c.in_ok-place.place output)) c.in_err-output.field-0.0 new (c.in_err-output.ensures new))
    )
