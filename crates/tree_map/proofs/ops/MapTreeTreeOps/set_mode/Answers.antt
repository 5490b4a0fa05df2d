use Rattle.std.proofs.Common.{refl}
use Rattle.tree_ops.specs.Change.{SetMode}
use Rattle.tree_ops.proofs.Kept.{IsHeld-IsChange}
use Rattle.tree_map.specs.Parts.{shown, uncounted}
use Rattle.tree_map.proofs.ops.MapTreeTreeOps.set_mode.Goals as goal

pub returns-clause-held : goal.returns-clause-held
returns-clause-held c =
    IsHeld-IsChange uncounted (SetMode c.args.at.now c.args.mode) (shown c.args.self.now, c.args.pen.now) _ _ _ c.set_mode-result.result c.requires.mode c.requires.held (λ label. refl) c.set_mode-result.ensures
