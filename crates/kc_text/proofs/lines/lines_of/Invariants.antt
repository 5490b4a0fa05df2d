use Rattle.std.proofs.Common.{◌≡◌, ◌+◌, drop, map}
use Rattle.kc_text.specs.Lines.{gather, start, raw_lines}
use Rattle.kc_text.specs.ShownLines.{shown}
use Rattle.kc_text.proofs.lines.lines_of.Given as goal

abbrev pub invariant-loop-raw : goal.invariant-loop-raw
invariant-loop-raw l = record {
  counted : l.number ≡ l.raw-index;
  gathered : gather (shown l.gathered) (l.number + 1) (map (λ raw. raw.now) (drop l.raw-index l.raw-items)) ≡ gather start 1 (raw_lines l.text);
}
