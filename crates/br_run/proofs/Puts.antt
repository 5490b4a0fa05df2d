-- One put after another.
use Rattle.std.proofs.Common.{ℕ, ◌≡◌, ◌+◌, ◌<◌, List, ◌++◌, length, take, drop, Option, Some, Result, Ok, Err, append_assoc, arith, sym, ap, ◌∙◌}
use Rattle.std.proofs.Math.Seq.{take-add, take-length}
use Rattle.std.specs.Prelude.{MatchResult}
use Rattle.feed_io.specs.Sink.{Appended}
use Rattle.feed_io.specs.declared.sink.SinkError.{SinkError}
use Rattle.br_run.specs.declared.answer.Answer.{Answer}
use Rattle.br_run.specs.Sinks.{image_bytes, sinks, IsWritten, IsCutShort}

-- what two puts append, one after the other
pub Appended-more : {before now after : Option (List ℕ)} (text rest : List ℕ) (count more : ℕ) → rest ≡ drop count text
    → Appended before (take count text) now → Appended now (take more rest) after → Appended before (take (count + more) text) after
Appended-more text rest count more left first second old is =
    second (old ++ take count text) (first old is)
    ∙ ap Some (append_assoc old (take count text) (take more rest)
    ∙ ap (λ t. old ++ t) (ap (λ r. take count text ++ take more r) left ∙ sym (take-add count more text)))

-- the whole image, and then the report or a front of it
pub IsWritten-or-IsCutShort : (image_before image_after out_before out_after : Option (List ℕ)) (answer : Answer) (result : Result (Unit {0}) SinkError)
    → Appended image_before (image_bytes answer) image_after
    → MatchResult result (λ _. Appended out_before answer.report out_after) (λ _. (count : ℕ) × (count < length answer.report) × Appended out_before (take count answer.report) out_after)
    → MatchResult result (λ _. IsWritten answer (sinks image_before image_after out_before out_after)) (λ _. IsCutShort answer (sinks image_before image_after out_before out_after))
IsWritten-or-IsCutShort _ _ _ _ answer (Ok done) image report = record { image = image; report = report }
IsWritten-or-IsCutShort _ _ _ _ answer (Err error) image report = record {
  image_count = length (image_bytes answer);
  report_count = report.0;
  image = rw (take-length (image_bytes answer)) image;
  report = report.2;
  image_first = λ less. absurd (omega arith);
}
