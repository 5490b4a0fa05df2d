use Rattle.std.proofs.Common.{sym}
use Rattle.tree_map.specs.Parts.{shown}
use Rattle.tree_map.proofs.Modes.{dir_mode-ok, dir_mode-full}
use Rattle.tree_map.proofs.trees.MapTree.set_dir_mode.Goals as goal

pub returns-in-None : goal.returns-in-None
returns-in-None c = dir_mode-full (shown c.args.self.now, c.args.pen.now) c.args.at.now c.args.mode c.requires (sym c.in-None.ensures)

pub returns : goal.returns
returns c = dir_mode-ok (shown c.args.self.now, c.args.pen.now) c.args.at.now c.args.mode (shown c.add_name.new.self) c.in-Some.after c.requires (sym c.in-Some.ensures) c.in_ok-add_name.ensures.ok
