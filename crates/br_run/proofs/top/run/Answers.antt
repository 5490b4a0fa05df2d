use Rattle.std.proofs.Common.{ap, subst}
use Rattle.feed_io.specs.Sink.{Appended}
use Rattle.br_run.proofs.Answers.{Gives-IsAnswer, EndsEarly-IsAnswer, IsRun-IsAnswer}
use Rattle.br_run.proofs.top.run.Goals as goal

pub returns-in-Ok-put_answer-clause-answers : goal.returns-in-Ok-put_answer-clause-answers
returns-in-Ok-put_answer-clause-answers g c =
    λ list left feed out image memory. Gives-IsAnswer _ _ _ (c.in-Ok.ensures.told list left) (λ failed. feed (c.in-Ok.ensures.cause failed)) c.in-Ok-put_answer.ensures.puts

pub returns-in-Ok-put_answer-clause-told : goal.returns-in-Ok-put_answer-clause-told
returns-in-Ok-put_answer-clause-told g c = λ list left. IsRun-IsAnswer _ _ _ _ _ (c.in-Ok.ensures.told list left) c.in-Ok.ensures.possible c.in-Ok-put_answer.ensures.puts

pub returns-in-Ok-put_answer-clause-bad_words : goal.returns-in-Ok-put_answer-clause-bad_words
returns-in-Ok-put_answer-clause-bad_words g c = λ is.
    let found = c.in-Ok.ensures.fits is in
    (found.0, found.1, subst (λ text. Appended (g.O.Sink.held c.args.out.now) text (g.O.Sink.held c.put_answer.new.out)) (ap (λ answer. answer.report) (c.in-Ok.ensures.misfit found.0 found.1)) c.in-Ok-put_answer.ensures.puts.report)

pub returns-clause-told : goal.returns-clause-told
returns-clause-told g c = λ list left. EndsEarly-IsAnswer _ _ _ _ _ (c.in-Ok.ensures.told list left) c.in-Ok.ensures.cause c.in-Ok.ensures.always c.in-Err.ensures.puts
