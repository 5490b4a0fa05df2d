use Rattle.std.proofs.Common.{refl}
use Rattle.tree_ops.specs.Change.{Rename}
use Rattle.tree_ops.proofs.Kept.{IsHeld-IsChange}
use Rattle.tree_map.specs.Parts.{shown, uncounted}
use Rattle.tree_map.proofs.ops.MapTreeTreeOps.rename.Goals as goal

pub returns-clause-held : goal.returns-clause-held
returns-clause-held c =
    IsHeld-IsChange uncounted (Rename c.args.old.now c.args.at.now) (shown c.args.self.now, c.args.pen.now) _ _ _ c.rename-result.result c.names-names.ensures.path c.requires.held (λ label. refl) c.rename-result.ensures
