use Rattle.br_run.specs.Answer.{IsBuildAnswer, no_build}
use Rattle.br_run.specs.Planned.{IsInputFault}
use Rattle.br_run.proofs.Told.{fault_answered}
use Rattle.br_run.proofs.build.answer_build.Goals as goal

pub returns-in-Err : goal.returns-in-Err
returns-in-Err c = fault_answered (IsBuildAnswer c.args.files.now) (IsInputFault c.args.files.now) _ _ no_build c.in-Err.ensures.fault c.answer_fault.ensures
