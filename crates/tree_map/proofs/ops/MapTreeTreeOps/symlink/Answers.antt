use Rattle.std.proofs.Common.{refl}
use Rattle.tree_ops.specs.Change.{MakeLink}
use Rattle.tree_ops.proofs.Kept.{IsHeld-IsChange}
use Rattle.tree_map.specs.Parts.{shown, uncounted}
use Rattle.tree_map.proofs.ops.MapTreeTreeOps.symlink.Goals as goal

pub returns-clause-held : goal.returns-clause-held
returns-clause-held c =
    IsHeld-IsChange uncounted (MakeLink c.args.at.now c.args.text.now) (shown c.args.self.now, c.args.pen.now) _ _ _ c.symlink-result.result (c.names-names.ensures.path, c.requires.text) c.requires.held (λ label. refl) c.symlink-result.ensures
