use Rattle.std.proofs.Common.{refl}
use Rattle.tree_ops.specs.Change.{MakeFile}
use Rattle.tree_ops.proofs.Kept.{IsHeld-IsChange}
use Rattle.tree_map.specs.Parts.{shown, uncounted}
use Rattle.tree_map.proofs.ops.MapTreeTreeOps.make_file.Goals as goal

pub returns-clause-held : goal.returns-clause-held
returns-clause-held c =
    IsHeld-IsChange uncounted (MakeFile c.args.at.now c.args.mode c.args.bytes.now) (shown c.args.self.now, c.args.pen.now) _ _ _ c.make_file-result.result (c.names-names.ensures.path, c.requires.mode) c.requires.held (λ label. refl) c.make_file-result.ensures
