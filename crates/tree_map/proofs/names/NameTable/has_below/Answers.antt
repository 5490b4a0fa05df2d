use Rattle.std.proofs.Common.{◌∙◌}
use Rattle.tree_map.proofs.Neighbours.{none_past, first_past}
use Rattle.tree_map.proofs.names.NameTable.has_below.Goals as goal

pub returns-in-None : goal.returns-in-None
returns-in-None c = rw (← c.self.view_is) (none_past c.self.inside.names c.args.at.now c.range.result (c.range.ensures.in_range tt) c.in-None.ensures.steps.0)

pub returns-in-Some : goal.returns-in-Some
returns-in-Some c =
    rw (← c.self.view_is) (c.is_below.ensures ∙ first_past c.self.inside.names c.args.at.now c.range.result c.in-Some.path.now c.in-Some.field-0-1.now c.next.new.self (c.range.ensures.in_range tt) c.in-Some.ensures.steps)
