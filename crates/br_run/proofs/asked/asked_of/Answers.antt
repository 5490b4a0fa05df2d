use Rattle.std.proofs.Common.{refl}
use Rattle.build_report.specs.declared.fault.InputFault.TheVariants.{NoPackage}
use Rattle.br_run.specs.Planned.{IsInputFault}
use Rattle.br_run.specs.Shown.{IsShowFault, no_plan, no_package}
use Rattle.br_run.proofs.Told.{Tells-map, told}
use Rattle.br_run.proofs.asked.asked_of.Goals as goal

pub returns-in-Err-clause-fault : goal.returns-in-Err-clause-fault
returns-in-Err-clause-fault c =
    Tells-map (IsInputFault c.args.files.now) (IsShowFault c.args.files.now c.args.name.now) _ (λ fault names is. no_plan is) c.in-Err.ensures.fault

pub returns-in_ok-name-in-None-clause-fault : goal.returns-in_ok-name-in-None-clause-fault
returns-in_ok-name-in-None-clause-fault c =
    told (IsShowFault c.args.files.now c.args.name.now) _ (NoPackage c.args.name.now) (no_package _ c.in-Ok.ensures.plan (c.in-None.ensures.none.0 refl)) (rw c.in_ok-name-in-None.ensures at c.of.ensures)
