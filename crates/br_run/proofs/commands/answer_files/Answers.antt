use Rattle.br_run.proofs.commands.answer_files.Goals as goal

pub returns-in-Config : goal.returns-in-Config
returns-in-Config c = rw c.in-Config.is c.answer_config.ensures

pub returns-in-Plan : goal.returns-in-Plan
returns-in-Plan c = rw c.in-Plan.is c.answer_plan.ensures

pub returns-in-ShowDepends : goal.returns-in-ShowDepends
returns-in-ShowDepends c = rw c.in-ShowDepends.is (rw c.as_slice.ensures at c.answer_show.ensures)

pub returns-in-ShowRecursive : goal.returns-in-ShowRecursive
returns-in-ShowRecursive c = rw c.in-ShowRecursive.is (rw c.as_slice-in-ShowRecursive.ensures at c.answer_show-in-ShowRecursive.ensures)

pub returns-in-ShowRdepends : goal.returns-in-ShowRdepends
returns-in-ShowRdepends c = rw c.in-ShowRdepends.is (rw c.as_slice-in-ShowRdepends.ensures at c.answer_show-in-ShowRdepends.ensures)

pub returns-in-Build : goal.returns-in-Build
returns-in-Build c = rw c.in-Build.is c.answer_build.ensures
