use Rattle.std.proofs.Common.{sym, ap, ◌∙◌, subst}
use Rattle.br_run.specs.Answer.{IsConfigAnswer, no_values, values, written}
use Rattle.br_run.specs.Configured.{IsConfigFault}
use Rattle.br_run.proofs.Told.{fault_answered}
use Rattle.br_run.proofs.config.answer_config.Goals as goal

pub returns-in-Err : goal.returns-in-Err
returns-in-Err c = fault_answered (IsConfigAnswer c.args.files.now) (IsConfigFault c.args.files.now) _ _ no_values c.in-Err.ensures.fault c.answer_fault.ensures

pub returns : goal.returns
returns c = subst (IsConfigAnswer c.args.files.now) (sym (c.answer_text.ensures ∙ ap written c.in_ok-lines.ensures)) (values _ c.in-Ok.ensures.configuration)
