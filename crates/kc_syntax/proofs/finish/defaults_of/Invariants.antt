use Rattle.std.proofs.Common.{◌≡◌}
use Rattle.std.specs.Vec.Iter.{into_iter_items}
use Rattle.kc_syntax.specs.Reading.{each, default_of}
use Rattle.kc_syntax.proofs.Each.{onto}
use Rattle.kc_syntax.proofs.finish.defaults_of.Given as goal

abbrev pub invariant-loop-given : goal.invariant-loop-given
invariant-loop-given l = onto l.items.items (each (default_of l.kind) (into_iter_items l.given-iterator)) ≡ each (default_of l.kind) l.fn.defaults
