use Rattle.std.proofs.Common.{◌≡◌, ◌++◌, length}
use Rattle.sh_text.specs.Editing.{edited, edited_from}
use Rattle.sh_text.proofs.script.Script.put_line.Given as goal

abbrev pub invariant-loop-place : goal.invariant-loop-place
invariant-loop-place l = l.fn.out.items ++ edited l.self l.line ≡ l.out.items ++ edited_from l.self l.beginning 0 l.rest

abbrev pub decreases-loop-place : goal.decreases-loop-place
decreases-loop-place l = length l.rest
