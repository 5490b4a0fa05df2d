use Rattle.std.proofs.lemmas.Result.{err_from_is_err_and}
use Rattle.tree_worlds.specs.Program.{run}
use Rattle.sh_places.specs.Parts.{attempt}
use Rattle.sh_places.proofs.Ran.{ran_err}
use Rattle.sh_files.specs.Goals.{place_for}
use Rattle.sh_files.specs.Linking.{within}
use Rattle.sh_files.proofs.linking.place_within.Goals as goal

pub returns-in_err-within : goal.returns-in_err-within
returns-in_err-within c world =
    let given = err_from_is_err_and c.from_residual.result c.from_residual.ensures.1 in
    rw (given.1, given.2) (
    ran_err (run (attempt (within c.args.site c.args.goal.now)) world) (λ _. run (attempt (place_for c.args.goal.now c.args.base.now))) c.in_err-within.field-0.0 world (c.in_err-within.ensures world)
    )
