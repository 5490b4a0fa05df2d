use Rattle.std.proofs.Common.{◌≡◌, false, [], sym, ap, ◌∙◌}
use Rattle.tree_ops.specs.Change.{is_path}
use Rattle.tree_map.specs.Parts.{shown, without_gone}
use Rattle.tree_map.proofs.Made.{removed-ok, removed-full}
use Rattle.tree_map.proofs.trees.MapTree.remove.Goals as goal

pub returns-in-None : goal.returns-in-None
returns-in-None c =
    let other : is_path c.args.at.now [] ≡ false = ap (is_path c.args.at.now) (sym c.root.ensures) ∙ sym c.is_path-2.ensures ∙ c.if-is_path.false in
    removed-full (shown c.args.self.now, c.args.pen.now) c.args.at.now other c.in_ok-gone.ensures.0 (sym c.in-None.ensures)

pub returns : goal.returns
returns c =
    let other : is_path c.args.at.now [] ≡ false = ap (is_path c.args.at.now) (sym c.root.ensures) ∙ sym c.is_path-2.ensures ∙ c.if-is_path.false in
    removed-ok (shown c.args.self.now, c.args.pen.now) c.args.at.now c.in_ok-gone.gone (shown c.drop_gone.new.self) c.in-Some.after other c.in_ok-gone.ensures.0 c.in_ok-gone.ensures.1 (sym c.in-Some.ensures)
    (c.drop_gone.ensures ∙ ap (λ tree. without_gone tree c.in_ok-gone.gone) c.drop_name.ensures)
