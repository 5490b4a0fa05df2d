use Rattle.std.proofs.Common.{sym}
use Rattle.tree_map.specs.Parts.{shown}
use Rattle.tree_map.proofs.Made.{linked-ok, linked-full}
use Rattle.tree_map.proofs.trees.MapTree.link.Goals as goal

pub returns-in-None : goal.returns-in-None
returns-in-None c =
    linked-full (shown c.args.self.now, c.args.pen.now) c.args.old.now c.args.at.now c.in_ok-label.label c.in_ok-label.ensures c.in_ok-check_new_name.ensures (sym c.in-None.ensures)

pub returns : goal.returns
returns c =
    linked-ok (shown c.args.self.now, c.args.pen.now) c.args.old.now c.args.at.now c.in_ok-label.label (shown c.add_name.new.self) c.in-Some.after c.in_ok-label.ensures c.in_ok-check_new_name.ensures (sym c.in-Some.ensures) c.in_ok-add_name.ensures.ok
