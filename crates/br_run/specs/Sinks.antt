-- What two sinks hold after the texts of an answer were put.
use Rattle.std.specs.Prelude.{◌≡◌, ℕ, ◌<◌, List, [], length, take, Option, unwrap_or}
use Rattle.feed_io.specs.Sink.{Appended}
use Rattle.br_run.specs.declared.answer.Answer.{Answer}

-- the bytes of an answer's image, none where it has no image
abbrev pub image_bytes : Answer → List ℕ
image_bytes answer = unwrap_or answer.image []

-- what two sinks held before and hold after
pub record Sinks : Type 0 where
  pub image_before : Option (List ℕ)
  pub image_after : Option (List ℕ)
  pub out_before : Option (List ℕ)
  pub out_after : Option (List ℕ)

abbrev pub sinks : Option (List ℕ) → Option (List ℕ) → Option (List ℕ) → Option (List ℕ) → Sinks
sinks image_before image_after out_before out_after =
    record { image_before = image_before; image_after = image_after; out_before = out_before; out_after = out_after }

-- both texts of an answer were put
pub record IsWritten (answer : Answer) (sinks : Sinks) : Type 0 where
  pub image : Appended sinks.image_before (image_bytes answer) sinks.image_after
  pub report : Appended sinks.out_before answer.report sinks.out_after

-- a front of each text was put, and nothing of the report where the image isn't whole
pub record IsCutShort (answer : Answer) (sinks : Sinks) : Type 0 where
  pub image_count : ℕ
  pub report_count : ℕ
  pub image : Appended sinks.image_before (take image_count (image_bytes answer)) sinks.image_after
  pub report : Appended sinks.out_before (take report_count answer.report) sinks.out_after
  pub image_first : image_count < length (image_bytes answer) → report_count ≡ 0
