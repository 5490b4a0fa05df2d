use Rattle.std.proofs.Common.{◌≡◌, ◌++◌, drop}
use Rattle.sh_text.specs.Formats.{used}
use Rattle.sh_text.proofs.format.Format.put_once.Given as goal

abbrev pub invariant-loop-part : goal.invariant-loop-part
invariant-loop-part l = record {
  text : l.fn.out.items ++ (used l.self l.words).0 ≡ l.out.items ++ (used (drop l.part-index l.self) l.left).0;
  left : (used l.self l.words).1 ≡ (used (drop l.part-index l.self) l.left).1;
}
