use Rattle.std.proofs.Common.{refl}
use Rattle.tree_ops.specs.Change.{MakeDir}
use Rattle.tree_ops.proofs.Kept.{IsHeld-IsChange}
use Rattle.tree_map.specs.Parts.{shown, uncounted}
use Rattle.tree_map.proofs.ops.MapTreeTreeOps.mkdir.Goals as goal

pub returns-clause-held : goal.returns-clause-held
returns-clause-held c =
    IsHeld-IsChange uncounted (MakeDir c.args.at.now c.args.mode) (shown c.args.self.now, c.args.pen.now) _ _ _ c.mkdir-result.result (c.names-names.ensures.path, c.requires.mode) c.requires.held (λ label. refl) c.mkdir-result.ensures
