use Rattle.std.proofs.Common.{sym, ◌∙◌}
use Rattle.tree_worlds.proofs.Naming.{folder-any}
use Rattle.sh_places.proofs.Sound.{input-dir, input-none}
use Rattle.sh_places.proofs.looks.input_kind.Goals as goal

pub returns-then-is_dir : goal.returns-then-is_dir
returns-then-is_dir c = input-dir c.args.files.now c.args.path.now c.get.result c.is_some.result c.get.ensures c.is_some.ensures c.if-is_some.false
    (sym (folder-any c.args.files.now c.args.path.now c.is_dir.result c.is_dir.ensures) ∙ c.if-is_dir.true)

pub returns-else-is_dir : goal.returns-else-is_dir
returns-else-is_dir c = input-none c.args.files.now c.args.path.now c.get.result c.is_some.result c.get.ensures c.is_some.ensures c.if-is_some.false
    (sym (folder-any c.args.files.now c.args.path.now c.is_dir.result c.is_dir.ensures) ∙ c.if-is_dir.false)
