use Rattle.std.proofs.Common.{ap, ◌∙◌}
use Rattle.tree_ops.specs.Tree.{is_used}
use Rattle.tree_map.specs.NameTable.{NameMap, names_of}
use Rattle.tree_map.proofs.Tally.{used-counted}
use Rattle.tree_map.proofs.names.NameTable.uses.Goals as goal

pub returns : goal.returns
returns c = c.contains_key.ensures ∙ used-counted (names_of c.self.inside.names) c.self.inside.counts c.args.label c.self.invariant ∙ ap (λ (m : NameMap). is_used m c.args.label) c.self.view_is
