use Rattle.std.proofs.Common.{sym, ap, ◌∙◌}
use Rattle.tree_ops.specs.Walk.{ends_in_slash}
use Rattle.tree_ops.proofs.Walks.{ends-last}
use Rattle.tree_ops.proofs.walk.ends_in_slash.Goals as goal

pub returns-in-Some : goal.returns-in-Some
returns-in-Some c = sym (ap ends_in_slash c.in-Some.ensures.cases.0 ∙ ends-last c.in-Some.field-0-1.now c.in-Some.last.now)
