use Rattle.std.proofs.Common.{sym, subst, Err}
use Rattle.tree_ops.specs.declared.change.ChangeFault.{ChangeFault}
use Rattle.tree_ops.specs.Walking.{IsNamed}
use Rattle.tree_ops.proofs.Walks.{named-refused}
use Rattle.tree_ops.proofs.walk.named.Goals as goal

pub returns-in-Err : goal.returns-in-Err
returns-in-Err c = subst (λ (f : ChangeFault). IsNamed c.args.from.now c.args.name.now (Err f)) (sym c.refused.ensures)
    (named-refused c.args.from.now c.args.name.now c.in-Err.fault c.requires.step c.requires.here c.requires.above c.in-Err.ensures.fault)
