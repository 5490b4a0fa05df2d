use Rattle.std.proofs.Common.{sym, ◌∙◌}
use Rattle.tree_ops.specs.declared.entry.Node.TheVariants.{File}
use Rattle.tree_map.specs.Parts.{shown, with_name, with_label}
use Rattle.tree_map.proofs.Made.{free, made_file-ok, made_file-full}
use Rattle.tree_map.proofs.trees.MapTree.make_file.Goals as goal

pub add_file-requires : goal.add_file-requires
add_file-requires c = free (shown c.args.self.now) c.args.at.now c.in_ok-check_new_name.ensures

pub returns-in-None : goal.returns-in-None
returns-in-None c = made_file-full (shown c.args.self.now, c.args.pen.now) c.args.at.now c.args.mode c.args.bytes.now c.in_ok-check_new_name.ensures (sym c.in-None.ensures)

pub returns : goal.returns
returns c =
    made_file-ok (shown c.args.self.now, c.args.pen.now) c.args.at.now c.args.mode c.args.bytes.now (shown c.add_file.new.self) c.in-Some.after c.in_ok-check_new_name.ensures (sym c.in-Some.ensures)
    (c.in_ok-add_file.ensures.ok ∙ (λ i. with_label (with_name (shown c.args.self.now) c.args.at.now (File (c.next_label.ensures i))) (c.next_label.ensures i) ((c.in_ok-contents.ensures ∙ (λ j. record { mode = c.args.mode; bytes = c.in_ok-bytes.ensures j })) i)))
