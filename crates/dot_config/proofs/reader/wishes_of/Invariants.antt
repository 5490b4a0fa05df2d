use Rattle.std.proofs.Common.{◌≡◌}
use Rattle.dot_config.proofs.Readings.{AreRead}
use Rattle.dot_config.proofs.reader.wishes_of.Given as goal

abbrev pub invariant-loop-line : goal.invariant-loop-line
invariant-loop-line l = record {
  counted : l.number ≡ l.line-index;
  read : AreRead l.line-items l.line-index l.all.items;
}
