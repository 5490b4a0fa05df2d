use Rattle.br_run.proofs.Answers.{Gives-IsAnswer, EndsEarly-IsAnswer, IsRun-IsAnswer}
use Rattle.br_run.proofs.still.run_still.Goals as goal

pub returns-in-Ok-put_answer-clause-answers : goal.returns-in-Ok-put_answer-clause-answers
returns-in-Ok-put_answer-clause-answers g c =
    λ list left feed out image memory. Gives-IsAnswer _ _ _ (c.in-Ok.ensures.told list left) (λ failed. feed (c.in-Ok.ensures.cause failed)) c.in-Ok-put_answer.ensures.puts

pub returns-in-Ok-put_answer-clause-told : goal.returns-in-Ok-put_answer-clause-told
returns-in-Ok-put_answer-clause-told g c = λ list left. IsRun-IsAnswer _ _ _ _ _ (c.in-Ok.ensures.told list left) c.in-Ok.ensures.possible c.in-Ok-put_answer.ensures.puts

pub returns-clause-told : goal.returns-clause-told
returns-clause-told g c = λ list left. EndsEarly-IsAnswer _ _ _ _ _ (c.in-Ok.ensures.told list left) c.in-Ok.ensures.cause c.in-Ok.ensures.always c.in-Err.ensures.puts
