use Rattle.std.proofs.Common.{ap, ◌∙◌}
use Rattle.std.specs.FinMap as fin
use Rattle.br_path.proofs.Maps.{map-remove}
use Rattle.br_path.proofs.PathOrder.{path_total, path_same}
use Rattle.tree_map.specs.NameTable.{NameMap, names_of, names_with}
use Rattle.tree_map.proofs.Tally.{tally-removed}
use Rattle.tree_map.proofs.names.NameTable.remove.Goals as goal

pub invariant_of-self : goal.invariant_of-self
invariant_of-self c =
    c.count_down.ensures (names_with (names_of c.remove.new.self))
    (tally-removed c.self.inside.names c.remove.new.self c.args.at.now c.in-Some.node c.self.inside.counts c.in-Some.ensures.updates.0 c.in-Some.ensures.value c.self.invariant)

pub returns-in-Some : goal.returns-in-Some
returns-in-Some c = map-remove path_total path_same c.self.inside.names c.remove.new.self c.args.at.now c.in-Some.ensures.updates.0 ∙ ap (λ (m : NameMap). fin.remove m c.args.at.now) c.self.view_is

pub returns-in_default : goal.returns-in_default
returns-in_default c = map-remove path_total path_same c.self.inside.names c.remove.new.self c.args.at.now c.in_default.ensures.updates.0 ∙ ap (λ (m : NameMap). fin.remove m c.args.at.now) c.self.view_is
