use Rattle.std.proofs.Common.{sym, ap, ◌∙◌}
use Rattle.tree_ops.specs.declared.entry.Node.TheVariants.{Link}
use Rattle.tree_map.specs.Parts.{shown, with_name}
use Rattle.tree_map.proofs.Made.{made_link-ok, made_link-full}
use Rattle.tree_map.proofs.trees.MapTree.symlink.Goals as goal

pub returns-in-None : goal.returns-in-None
returns-in-None c = made_link-full (shown c.args.self.now, c.args.pen.now) c.args.at.now c.args.text.now c.in_ok-check_new_name.ensures (sym c.in-None.ensures)

pub returns : goal.returns
returns c =
    made_link-ok (shown c.args.self.now, c.args.pen.now) c.args.at.now c.args.text.now (shown c.add_name.new.self) c.in-Some.after c.in_ok-check_new_name.ensures (sym c.in-Some.ensures)
    (c.in_ok-add_name.ensures.ok ∙ ap (λ text. with_name (shown c.args.self.now) c.args.at.now (Link text)) c.in_ok-from_slice.ensures)
