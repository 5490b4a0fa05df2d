use Rattle.br_run.specs.Configured.{IsConfigFault}
use Rattle.br_run.specs.Planned.{IsInputFault, IsPlanFault, of_configuration, of_plan}
use Rattle.br_run.proofs.Told.{Tells-map}
use Rattle.br_run.proofs.planning.planning_of.Goals as goal

pub returns-in-Err-clause-fault : goal.returns-in-Err-clause-fault
returns-in-Err-clause-fault c =
    Tells-map (IsConfigFault c.args.files.now) (IsInputFault c.args.files.now) _ (λ fault names is. of_configuration is) c.in-Err.ensures.fault

pub returns-in-Err-plan_at-clause-fault : goal.returns-in-Err-plan_at-clause-fault
returns-in-Err-plan_at-clause-fault c =
    let one = c.in-Ok.configuration in
    Tells-map (IsPlanFault c.args.files.now one.values) (IsInputFault c.args.files.now) _ (λ told names. of_plan one c.in-Ok.ensures.configuration) c.in-Err-plan_at.ensures.fault
