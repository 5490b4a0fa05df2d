use Rattle.br_run.proofs.planning.plan_of.Goals as goal

pub returns-in-Ok-clause-plan : goal.returns-in-Ok-clause-plan
returns-in-Ok-clause-plan c = record { forced = c.in-Ok.planning.forced; planned = c.in-Ok.ensures.plan }
