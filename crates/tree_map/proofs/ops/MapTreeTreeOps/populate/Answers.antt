use Rattle.std.proofs.Common.{refl}
use Rattle.tree_ops.specs.Change.{Populate}
use Rattle.tree_ops.proofs.Kept.{IsHeld-IsChange}
use Rattle.tree_map.specs.Parts.{shown, uncounted}
use Rattle.tree_map.proofs.ops.MapTreeTreeOps.populate.Goals as goal

pub returns-clause-held : goal.returns-clause-held
returns-clause-held c =
    IsHeld-IsChange uncounted (Populate (shown c.args.from.now)) (shown c.args.self.now, c.args.pen.now) _ _ _ c.populate-result.result (c.requires.sound, c.requires.foreign) c.requires.held (λ label. refl) c.populate-result.ensures
