use Rattle.std.proofs.Common.{sym}
use Rattle.tree_map.specs.Parts.{shown}
use Rattle.tree_map.proofs.Made.{made_dir-ok, made_dir-full}
use Rattle.tree_map.proofs.trees.MapTree.mkdir.Goals as goal

pub returns-in-None : goal.returns-in-None
returns-in-None c = made_dir-full (shown c.args.self.now, c.args.pen.now) c.args.at.now c.args.mode c.in_ok-check_new_name.ensures (sym c.in-None.ensures)

pub returns : goal.returns
returns c =
    made_dir-ok (shown c.args.self.now, c.args.pen.now) c.args.at.now c.args.mode (shown c.add_name.new.self) c.in-Some.after c.in_ok-check_new_name.ensures (sym c.in-Some.ensures) c.in_ok-add_name.ensures.ok
