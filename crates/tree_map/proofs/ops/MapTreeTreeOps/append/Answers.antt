use Rattle.std.proofs.Common.{refl}
use Rattle.tree_ops.specs.Change.{Append}
use Rattle.tree_ops.proofs.Kept.{IsHeld-IsChange}
use Rattle.tree_map.specs.Parts.{shown, uncounted}
use Rattle.tree_map.proofs.ops.MapTreeTreeOps.append.Goals as goal

pub returns-clause-held : goal.returns-clause-held
returns-clause-held c =
    IsHeld-IsChange uncounted (Append c.args.at.now c.args.bytes.now) (shown c.args.self.now, c.args.pen.now) _ _ _ c.append-result.result tt c.requires.held (λ label. refl) c.append-result.ensures
