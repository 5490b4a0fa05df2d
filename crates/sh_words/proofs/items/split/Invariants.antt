use Rattle.std.proofs.Common.{◌≡◌, length}
use Rattle.sh_words.specs.Left.{left, repeated}
use Rattle.sh_words.specs.Bytes.{is_over}
use Rattle.sh_words.specs.Lines.{item, no_words}
use Rattle.sh_words.specs.Shown.{shown}
use Rattle.sh_words.proofs.items.split.Given as goal

abbrev pub invariant-loop-reader : goal.invariant-loop-reader
invariant-loop-reader l = repeated is_over item l.line (shown l.reader) ≡ repeated is_over item no_words (left 0 l.text)

abbrev pub decreases-loop-reader : goal.decreases-loop-reader
decreases-loop-reader l = length l.reader.rest.now
