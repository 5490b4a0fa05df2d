use Rattle.std.proofs.Common.{Option, Ok, Err, subst}
use Rattle.std.proofs.lemmas.Result.{err_from_is_err_and}
use Rattle.tree_worlds.specs.World.{world_data}
use Rattle.tree_worlds.specs.Program.{Ran, run}
use Rattle.sh_places.specs.declared.kind.Kind.{Kind}
use Rattle.sh_places.specs.Looks.{kind_at}
use Rattle.sh_places.specs.Parts.{attempt}
use Rattle.sh_places.proofs.Ran.{ran_err, ran_on}
use Rattle.sh_files.specs.Linking.{linkable, place_within}
use Rattle.sh_files.proofs.linking.link_from.Goals as goal

pub returns-in_err-kind-clause-ran : goal.returns-in_err-kind-clause-ran
returns-in_err-kind-clause-ran g c =
    let world = world_data g.T.TreeOps.tree c.args.world.now in
    let given = err_from_is_err_and c.from_residual.result c.from_residual.ensures.1 in
    rw (given.1, given.2) (
    ran_err (run (attempt (linkable (kind_at world c.args.files.now c.args.source.now))) world) _ c.in_err-kind.field-0.0 world
    (subst (λ (kind : Option Kind). Ran (run (attempt (linkable kind)) world) (Err c.in_err-kind.field-0.0) world) c.kind_at.ensures.kind (c.in_err-kind.ensures.ran world))
    )

pub returns-in_err-place-clause-ran : goal.returns-in_err-place-clause-ran
returns-in_err-place-clause-ran g c =
    let world = world_data g.T.TreeOps.tree c.args.world.now in
    let given = err_from_is_err_and c.from_residual-in_err-place.result c.from_residual-in_err-place.ensures.1 in
    rw (given.1, given.2) (
    ran_on (run (attempt (linkable (kind_at world c.args.files.now c.args.source.now))) world) _ c.in_ok-kind.kind world world (Err c.in_err-place.field-0.0)
    (subst (λ (kind : Option Kind). Ran (run (attempt (linkable kind)) world) (Ok c.in_ok-kind.kind) world) c.kind_at.ensures.kind (c.in_ok-kind.ensures.ran world))
    (ran_err (run (place_within c.args.source.now.site c.args.goal.now c.args.base.now) world) _ c.in_err-place.field-0.0 world (c.in_err-place.ensures world))
    )
