use Rattle.std.proofs.Common.{◌≡◌, ◌++◌, drop}
use Rattle.std.specs.Option.{option_map}
use Rattle.sh_text.specs.Scripts.{bytes_by, byte_in}
use Rattle.sh_text.proofs.spelled.bytes_of.Given as goal

abbrev pub invariant-loop-byte : goal.invariant-loop-byte
invariant-loop-byte l = bytes_by (byte_in l.side l.delimiter) l.field ≡ option_map (λ more. l.items.items ++ more) (bytes_by (byte_in l.side l.delimiter) (drop l.byte-index l.field))
