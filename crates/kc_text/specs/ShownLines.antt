-- What the reader of lines holds, as its definition sees it.
use Rattle.kc_text.specs.Lines.{Gathered as Seen}
use Rattle.kc_text.specs.declared.lines.Gathered.{Gathered}

abbrev pub shown : Gathered → Seen
shown g = record { lines = g.lines.items; carry = g.carry.items; first = g.first; help = g.help }
