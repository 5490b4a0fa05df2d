use Rattle.std.proofs.Common.{rules, ◌≡◌, ◌∷◌}
use Rattle.std.specs.Vec.Iter.{into_iter_items}
use Rattle.mk_syntax.proofs.Answers.{stopped}
use Rattle.mk_syntax.proofs.reader.read_lines.Goals as goal

pub returns-in-Err : goal.returns-in-Err
returns-in-Err c =
    let items : into_iter_items c.loop-line.line-iterator ≡ c.in-Some.line ∷ into_iter_items c.next.new.self = search rules in
    stopped c.args.lines.items (into_iter_items c.loop-line.line-iterator) c.in-Some.line (into_iter_items c.next.new.self) c.loop-line.reader c.take.new.self c.in-Err.error c.loop-line.invariant items c.in-Err.ensures
