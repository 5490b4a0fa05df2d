use Rattle.std.proofs.Common.{◌≡◌, ◌≤◌, ◌*◌, drop}
use Rattle.kc_text.specs.Lines.{indent_from}
use Rattle.kc_text.proofs.lines.indent.Given as goal

abbrev pub invariant-loop-byte : goal.invariant-loop-byte
invariant-loop-byte l = record {
  small : l.column ≤ 8 * l.byte-index;
  left : indent_from l.column (drop l.byte-index l.raw) ≡ indent_from 0 l.raw;
}
