use Rattle.std.proofs.Common.{rules}
use Rattle.std.specs.Vec.Iter.{into_iter_items}
use Rattle.selection.proofs.WordSets.{set_step}
use Rattle.selection.proofs.words.word_set.Goals as goal

pub loop-word-preserved : goal.loop-word-preserved
loop-word-preserved c =
    set_step (λ key. key.items) c.loop-word.set.keys c.insert.new.self.keys c.word.inside.items (into_iter_items c.loop-word.word-iterator) (into_iter_items c.next.new.self) _
    c.loop-word.invariant (search rules) (search rules)
