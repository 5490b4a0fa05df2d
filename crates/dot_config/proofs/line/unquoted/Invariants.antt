use Rattle.std.proofs.Common.{◌≡◌, length}
use Rattle.dot_config.specs.SaidBy.{unquoted}
use Rattle.dot_config.proofs.Quotes.{put_bytes}
use Rattle.dot_config.proofs.line.unquoted.Given as goal

-- what is read so far, and what the rest is read as
abbrev pub invariant-loop-byte : goal.invariant-loop-byte
invariant-loop-byte l = put_bytes l.items.items (unquoted l.rest) ≡ unquoted l.fn.quoted

abbrev pub decreases-loop-byte : goal.decreases-loop-byte
decreases-loop-byte l = length l.rest
