use Rattle.std.proofs.Common.{Ok, Err, sym, ap, ◌∙◌}
use Rattle.std.specs.Prelude.{if◌then◌else◌}
use Rattle.tree_ops.specs.declared.change.ChangeFault.TheVariants.{Absent}
use Rattle.tree_worlds.specs.declared.operand.Operand.TheVariants.{Input}
use Rattle.tree_worlds.specs.declared.reason.Reason.TheVariants.{Change as for_change}
use Rattle.tree_worlds.specs.Operand.{told}
use Rattle.tree_worlds.proofs.Naming.{no_path-none}
use Rattle.tree_worlds.proofs.input.absent.Goals as goal

pub returns : goal.returns
returns c =
    ap (λ b. told (if b then Ok (Input c.args.names.now) else Err (for_change Absent))) (no_path-none c.args.folder.now c.args.files.now c.args.names.now c.len-count.ensures.input c.requires.none)
    ∙ ap Err (sym c.error_of.ensures)
