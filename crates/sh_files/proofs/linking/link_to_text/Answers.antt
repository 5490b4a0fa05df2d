use Rattle.std.proofs.Common.{ℕ, ◌≡◌, List, Result, Ok, Err, subst}
use Rattle.std.proofs.lemmas.Result.{err_from_is_err_and}
use Rattle.tree_worlds.specs.World.{world_data}
use Rattle.tree_worlds.specs.Program.{run, ◌>>=◌}
use Rattle.tree_worlds.specs.declared.reason.CommandError.{CommandError}
use Rattle.sh_places.specs.declared.spot.Spot.{Spot}
use Rattle.sh_places.specs.Parts.{attempt, told}
use Rattle.sh_places.proofs.Ran.{ran_err, ran_on}
use Rattle.sh_files.specs.Goals.{base_for, place_for}
use Rattle.sh_files.specs.Linking.{link_text, put_link}
use Rattle.sh_files.proofs.Attempts.{gives_on}
use Rattle.sh_files.proofs.linking.link_to_text.Goals as goal

pub returns-in_err-link_text-clause-ran : goal.returns-in_err-link_text-clause-ran
returns-in_err-link_text-clause-ran g c =
    let world = world_data g.T.TreeOps.tree c.args.world.now in
    let given = err_from_is_err_and c.from_residual-in_err-link_text.result c.from_residual-in_err-link_text.ensures.1 in
    rw (given.1, given.2) (
    gives_on (base_for c.args.goal.now c.args.word.now) (λ base. attempt (link_text c.args.word.now) >>= λ _. attempt (place_for c.args.goal.now base) >>= put_link c.args.files.now c.args.force c.args.word.now)
    c.in_ok-base.base world world (Err c.in_err-link_text.field-0.0) c.in_ok-base.ensures.base
    (ran_err (run (attempt (link_text c.args.word.now)) world) _ c.in_err-link_text.field-0.0 world (c.in_err-link_text.ensures.ran world))
    )

pub returns-clause-ran : goal.returns-clause-ran
returns-clause-ran g c =
    let world = world_data g.T.TreeOps.tree c.args.world.now in
    let new = world_data g.T.TreeOps.tree c.put_link.new.world in
    gives_on (base_for c.args.goal.now c.args.word.now) (λ base. attempt (link_text c.args.word.now) >>= λ _. attempt (place_for c.args.goal.now base) >>= put_link c.args.files.now c.args.force c.args.word.now)
    c.in_ok-base.base world new c.put_link.result c.in_ok-base.ensures.base
    (ran_on (run (attempt (link_text c.args.word.now)) world) (λ _. run (attempt (place_for c.args.goal.now c.in_ok-base.base) >>= put_link c.args.files.now c.args.force c.args.word.now)) c.in_ok-link_text.field-0 world new c.put_link.result (c.in_ok-link_text.ensures.ran world)
    (gives_on (place_for c.args.goal.now c.in_ok-base.base) (put_link c.args.files.now c.args.force c.args.word.now) c.in_ok-place.place world new c.put_link.result
    (subst (λ (base : List ℕ). ◌≡◌ {A = Result Spot CommandError} (told (place_for c.args.goal.now base)) (Ok c.in_ok-place.place)) c.as_slice.ensures c.in_ok-place.ensures)
    c.put_link.ensures.ran))
