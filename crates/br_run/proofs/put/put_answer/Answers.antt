use Rattle.br_run.proofs.Puts.{IsWritten-or-IsCutShort}
use Rattle.br_run.proofs.put.put_answer.Goals as goal

pub returns-clause-puts : goal.returns-clause-puts
returns-clause-puts g c = IsWritten-or-IsCutShort _ _ _ _ _ _ (rw (← c.image_bytes.ensures) c.in_ok-put_all.ensures.puts) (rw (← c.as_slice.ensures) c.put_all-2.ensures.puts)
