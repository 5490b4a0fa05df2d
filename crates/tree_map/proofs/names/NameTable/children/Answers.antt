use Rattle.std.proofs.Common.{sym, ap, ◌∙◌}
use Rattle.std.specs.FinMap as fin
use Rattle.std.specs.List.{filter_map}
use Rattle.br_path.proofs.Maps.{entries-of}
use Rattle.br_path.proofs.PathOrder.{path_total}
use Rattle.tree_ops.specs.Tree.{child_name}
use Rattle.tree_map.specs.NameTable.{NameMap}
use Rattle.tree_map.proofs.names.NameTable.children.Goals as goal

pub returns-clause-names : goal.returns-clause-names
returns-clause-names c = c.in_ok-names_listed.ensures.names
    ∙ ap (filter_map (λ e. child_name c.args.at.now e.0)) (sym (entries-of path_total c.self.inside.names c.in_ok-names_listed.ensures.ordered) ∙ ap (λ (m : NameMap). fin.entries m) c.self.view_is)
