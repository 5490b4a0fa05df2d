use Rattle.std.proofs.Common.{◌≡◌}
use Rattle.std.specs.Vec.Iter.{into_iter_items}
use Rattle.kc_syntax.specs.Reading.{each, entry_of}
use Rattle.kc_syntax.proofs.Each.{onto}
use Rattle.kc_syntax.proofs.finish.entries_of.Given as goal

abbrev pub invariant-loop-entry : goal.invariant-loop-entry
invariant-loop-entry l = onto l.items.items (each (entry_of l.symbols.entries) (into_iter_items l.entry-iterator)) ≡ each (entry_of l.symbols.entries) l.fn.entries.items
