use Rattle.br_run.specs.Answer.{IsShowAnswer, no_packages}
use Rattle.br_run.specs.Shown.{IsShowFault, relation_of}
use Rattle.br_run.proofs.Told.{fault_answered, tasks_within, packages_answered}
use Rattle.br_run.proofs.show.answer_show.Goals as goal

pub returns-in-Err : goal.returns-in-Err
returns-in-Err c =
    fault_answered (IsShowAnswer (relation_of c.args.show) c.args.name.now c.args.files.now) (IsShowFault c.args.files.now c.args.name.now) _ _ no_packages c.in-Err.ensures.fault c.answer_fault.ensures

pub names_text-requires : goal.names_text-requires
names_text-requires c = tasks_within c.in-Ok.asked.plan _ c.in_ok-tasks.ensures.preps

pub returns : goal.returns
returns c =
    let found = c.in_ok-tasks.ensures in
    packages_answered (relation_of c.args.show) _ _ _ _ _ _ _ c.in-Ok.ensures.plan c.in-Ok.ensures.prep (record { rising = found.rising; preps = found.preps; packages = found.packages })
    c.in_ok-names_text.ensures c.answer_text.ensures
