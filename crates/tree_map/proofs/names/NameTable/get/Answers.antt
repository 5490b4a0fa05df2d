use Rattle.std.proofs.Common.{sym, ap, ◌∙◌}
use Rattle.std.specs.FinMap as fin
use Rattle.br_path.proofs.Maps.{get-entries_of}
use Rattle.br_path.proofs.PathOrder.{path_total}
use Rattle.tree_map.specs.NameTable.{NameMap}
use Rattle.tree_map.proofs.names.NameTable.get.Goals as goal

pub returns : goal.returns
returns c = c.get.ensures.value ∙ sym (get-entries_of path_total c.self.inside.names c.args.at.now) ∙ ap (λ (m : NameMap). fin.get m c.args.at.now) c.self.view_is
