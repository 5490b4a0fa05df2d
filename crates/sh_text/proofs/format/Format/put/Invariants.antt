use Rattle.std.proofs.Common.{◌≡◌, ◌++◌, length}
use Rattle.sh_text.specs.Formats.{put_out, again}
use Rattle.sh_text.proofs.format.Format.put.Given as goal

abbrev pub invariant-loop-left : goal.invariant-loop-left
invariant-loop-left l = l.fn.out.items ++ put_out l.self l.words ≡ l.out.items ++ again l.self l.left

abbrev pub decreases-loop-left : goal.decreases-loop-left
decreases-loop-left l = length l.left
