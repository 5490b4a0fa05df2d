use Rattle.br_run.proofs.Builds.{built_answer, built_grounded}
use Rattle.br_run.proofs.build.answer_planned.Goals as goal

pub answer_shelves-requires-clause-grounded : goal.answer_shelves-requires-clause-grounded
answer_shelves-requires-clause-grounded c = built_grounded c.args.files.now c.args.planning.now.plan _ c.some_failed-failed.ensures.plan c.in_ok-shelves.ensures.shelves

pub returns : goal.returns
returns c = built_answer c.args.files.now c.args.planning.now.plan c.args.planning.now.forced _ c.answer_shelves.result c.requires c.in_ok-shelves.ensures.shelves c.answer_shelves.ensures
