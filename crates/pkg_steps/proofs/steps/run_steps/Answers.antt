use Rattle.std.proofs.lemmas.List.{drop_more}
use Rattle.std.proofs.Common.{rules, length, get_or, ◌<◌, ◌≡◌, ◌∷◌, ◌+◌, drop, ap, ◌∙◌}
use Rattle.tree_worlds.specs.World.{world_data}
use Rattle.pkg_steps.specs.Lines.{steps_run, Runs}
use Rattle.pkg_steps.proofs.Going.{stepped_err}
use Rattle.pkg_steps.proofs.steps.run_steps.Goals as goal

pub returns-in-Err-clause-stepped : goal.returns-in-Err-clause-stepped
returns-in-Err-clause-stepped g c =
    let items = c.args.rows.now in
    let index = c.loop-row.row-index in
    let dropped : drop index items ≡ c.row-item.result ∷ drop (index + 1) items =
    let inside : index < length items = search rules in
    let item : get_or items index c.row-item.result ≡ c.row-item.result = search rules in
    drop_more items index c.row-item.result inside ∙ ap (λ x. x ∷ drop (index + 1) items) item in
    let all = steps_run (g.C.Commands.shell c.args.commands.now) items (Runs (world_data g.T.TreeOps.tree c.args.world.now) c.args.stamps.now) in
    stepped_err (g.C.Commands.shell c.args.commands.now) (drop index items) (drop (index + 1) items) c.row-item.result (world_data g.T.TreeOps.tree c.loop-row.world) (world_data g.T.TreeOps.tree c.run_step.new.world)
    c.loop-row.stamps c.in-Err.fault all c.failed_at.result dropped c.in-Err.ensures.progress c.loop-row.invariant.0 c.failed_at.ensures
