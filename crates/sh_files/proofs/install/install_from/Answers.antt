use Rattle.std.proofs.Common.{Option, Err, subst}
use Rattle.std.proofs.lemmas.Result.{err_from_is_err_and}
use Rattle.tree_worlds.specs.World.{world_data}
use Rattle.tree_worlds.specs.Program.{Ran, run}
use Rattle.sh_places.specs.declared.kind.Kind.{Kind}
use Rattle.sh_places.specs.Looks.{kind_at}
use Rattle.sh_places.specs.Parts.{attempt}
use Rattle.sh_places.proofs.Ran.{ran_err}
use Rattle.sh_files.specs.Install.{file_label}
use Rattle.sh_files.proofs.install.install_from.Goals as goal

pub returns-in_err-label-clause-ran : goal.returns-in_err-label-clause-ran
returns-in_err-label-clause-ran g c =
    let world = world_data g.T.TreeOps.tree c.args.world.now in
    let given = err_from_is_err_and c.from_residual.result c.from_residual.ensures.1 in
    rw (given.1, given.2) (
    ran_err (run (attempt (file_label (kind_at world c.args.files.now c.args.source.now))) world) _ c.in_err-label.field-0.0 world
    (subst (λ (kind : Option Kind). Ran (run (attempt (file_label kind)) world) (Err c.in_err-label.field-0.0) world) c.kind_at.ensures.kind (c.in_err-label.ensures world))
    )
