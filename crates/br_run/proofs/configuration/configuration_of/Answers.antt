use Rattle.br_run.specs.Configured.{HasNoSolution, IsConfigFault, no_menu, no_solution}
use Rattle.br_run.proofs.Told.{Tells-map, told}
use Rattle.build_report.specs.declared.fault.InputFault.TheVariants.{Menu}
use Rattle.std.proofs.Common.{subst}
use Rattle.br_run.proofs.configuration.configuration_of.Goals as goal

pub returns-in-Fault-clause-fault : goal.returns-in-Fault-clause-fault
returns-in-Fault-clause-fault c =
    told (IsConfigFault c.args.files.now) _ (Menu c.in-Fault.fault) (no_menu c.in-Fault.fault (rw c.in-Fault.is at c.in-Err.ensures.fault)) c.of.ensures

pub returns-in-Err-solution_of-clause-fault : goal.returns-in-Err-solution_of-clause-fault
returns-in-Err-solution_of-clause-fault c =
    Tells-map (HasNoSolution c.in-Ok.menu c.in_ok-text.text.now) (IsConfigFault c.args.files.now) _
    (λ fault names none. no_solution c.in-Ok.menu c.in-Ok.ensures.menu (subst (λ text. HasNoSolution c.in-Ok.menu text fault names) c.in_ok-text.ensures.text none))
    c.in-Err-solution_of.ensures.fault
