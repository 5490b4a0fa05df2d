use Rattle.std.proofs.Common.{true, sym, ◌∙◌}
use Rattle.br_run.specs.Built.{build_answer}
use Rattle.br_run.proofs.Builds.{answered, answer_where_failed}
use Rattle.br_run.proofs.build.answer_shelves.Goals as goal

pub returns-then-failed : goal.returns-then-failed
returns-then-failed g c =
    let plan = c.args.planning.now.plan in
    let shelves = g.S.Shelves.shelves c.args.shelves.now in
    answered _ (build_answer plan shelves c.args.planning.now.forced) c.answer_imageless.result (answer_where_failed plan shelves c.args.planning.now.forced (sym c.requires.failed ∙ c.if-failed.true)) c.answer_imageless.ensures
