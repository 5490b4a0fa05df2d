use Rattle.root_merge.proofs.Writing.{noted-there, noted-first}
use Rattle.root_merge.proofs.writers.Writers.add.Goals as goal

pub returns-in-Some : goal.returns-in-Some
returns-in-Some c =
    noted-there c.self.inside.makes (c.get_mut.follows.lender c.push_once.new.makes) c.args.self.now c.args.make c.args.path.now c.in-Some.makes.now c.push_once.new.makes
    c.self.view_is c.in-Some.ensures.value c.in_ok-push_once.ensures (c.get_mut.follows.holds c.push_once.new.makes).3

pub returns : goal.returns
returns c =
    noted-first c.self.inside.makes _ c.insert.new.self c.args.self.now c.args.make c.args.path.now c.in_ok-copy.field-0 c.in_ok-vec.field-0.items
    c.self.view_is c.in_default.ensures.value c.get_mut.follows.holds-at-none c.in_ok-copy.ensures c.in_ok-vec.ensures.items c.in_ok-insert.ensures.updates.0
