use Rattle.std.proofs.Common.{◌≡◌, drop}
use Rattle.std.specs.List.{list_all}
use Rattle.kc_text.specs.Bytes as byte_is
use Rattle.kc_text.proofs.lines.is_blank_line.Given as goal

abbrev pub invariant-loop-byte : goal.invariant-loop-byte
invariant-loop-byte l = list_all byte_is.blank (drop l.byte-index l.raw) ≡ list_all byte_is.blank l.raw
