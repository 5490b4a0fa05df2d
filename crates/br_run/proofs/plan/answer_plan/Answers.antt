use Rattle.std.proofs.Common.{sym, ap, ◌∙◌, subst}
use Rattle.br_run.specs.Answer.{IsPlanAnswer, no_tasks, tasks, written}
use Rattle.br_run.specs.Planned.{IsInputFault}
use Rattle.br_run.proofs.Told.{fault_answered}
use Rattle.br_run.proofs.plan.answer_plan.Goals as goal

pub returns-in-Err : goal.returns-in-Err
returns-in-Err c = fault_answered (IsPlanAnswer c.args.files.now) (IsInputFault c.args.files.now) _ _ no_tasks c.in-Err.ensures.fault c.answer_fault.ensures

pub returns : goal.returns
returns c = subst (IsPlanAnswer c.args.files.now) (sym (c.answer_text.ensures ∙ ap written c.in_ok-plan_text.ensures)) (tasks _ c.in-Ok.ensures.plan)
