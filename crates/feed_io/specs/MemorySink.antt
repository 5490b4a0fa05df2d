-- What a sink in memory is to its callers.
use Rattle.std.specs.Prelude.{ℕ, List, length, min}

-- the bytes held, the room left, the most that one put takes, the calls that fail, counted from 1, and the counts of calls
-- and of faults, which stand still at their end
pub record SinkState : Type 0 where
  pub held : List ℕ
  pub room : ℕ
  pub step : ℕ
  pub fails : List ℕ
  pub calls : ℕ
  pub faults : ℕ

-- how many bytes of a piece a put takes that doesn't fail
abbrev pub share : SinkState → List ℕ → ℕ
share sink piece = min (min sink.step sink.room) (length piece)
