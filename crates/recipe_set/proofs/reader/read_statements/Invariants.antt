use Rattle.std.specs.Vec.Iter.{into_iter_items}
use Rattle.recipe_set.proofs.Statements.{Leads}
use Rattle.recipe_set.proofs.reader.read_statements.Given as goal

abbrev pub invariant-loop-statement : goal.invariant-loop-statement
invariant-loop-statement l = Leads l.folder.name l.fn.draft l.fn.recipe l.reader (into_iter_items l.statement-iterator)
