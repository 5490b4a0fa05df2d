use Rattle.br_run.specs.Planned.{unplanned}
use Rattle.br_run.proofs.Told.{plan_line}
use Rattle.br_run.proofs.planning.no_plan.Goals as goal

pub returns-in-Ok-clause-fault : goal.returns-in-Ok-clause-fault
returns-in-Ok-clause-fault c = unplanned c.args.fault (c.requires.first c.in-Ok.ensures.memory) c.in-Ok.ensures.memory c.in-Ok.ensures.names

pub returns-in-Ok-clause-line : goal.returns-in-Ok-clause-line
returns-in-Ok-clause-line c =
    plan_line c.args.files.now c.args.values.now c.args.fault _ (c.requires.first c.in-Ok.ensures.memory) c.in-Ok.ensures.memory c.requires.held c.in-Ok.ensures.names
