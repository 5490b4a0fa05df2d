use Rattle.std.proofs.Common.{ap}
use Rattle.br_run.proofs.FilesAnswers.{IsOfFiles-answered}
use Rattle.br_run.proofs.SmallFiles.{faultless_small}
use Rattle.br_run.proofs.commands.answer_list.Goals as goal

pub answer_files-requires : goal.answer_files-requires
answer_files-requires g c = let list = c.in-Ok.ensures.limits in faultless_small list.0 _ list.1 list.2

pub returns-clause-possible : goal.returns-clause-possible
returns-clause-possible g c = IsOfFiles-answered _ _ _ _ (λ answer is. is.possible) c.answer_files.ensures

pub returns-clause-report : goal.returns-clause-report
returns-clause-report g c = λ other. IsOfFiles-answered _ _ _ _ (λ answer is. is.report other) c.answer_files.ensures

pub returns-clause-fits : goal.returns-clause-fits
returns-clause-fits g c = IsOfFiles-answered _ _ _ _ (λ answer is. is.words) c.answer_files.ensures

pub returns-clause-cause : goal.returns-clause-cause
returns-clause-cause g c = IsOfFiles-answered _ _ _ _ (λ answer is failed. absurd (is.feed (ap (λ a. a.status) failed))) c.answer_files.ensures
