use Rattle.std.proofs.Common.{ap, ◌≡◌, ◌∙◌}
use Rattle.br_path.proofs.PathOrder.{path_total, path_same}
use Rattle.tree_map.specs.Lacking.{paths_of, without_keys}
use Rattle.tree_map.specs.NameTable.{NameMap}
use Rattle.tree_map.specs.Parts.{shown}
use Rattle.tree_map.proofs.Lacked.{undone-with_keys}
use Rattle.tree_map.proofs.LaidOver.{over-lacked}
use Rattle.tree_map.proofs.trees.MapTree.add_lacked.Goals as goal

pub returns-in-Ok-clause-ok : goal.returns-in-Ok-clause-ok
returns-in-Ok-clause-ok c =
    (λ i. record { names = c.in_ok-add_lacked.ensures.ok i; labels = c.in-Ok.ensures.ok i })
    ∙ over-lacked (shown c.args.self.now) (shown c.args.from.now) (paths_of c.args.paths.now) c.args.labels.now c.requires.low c.requires.high c.requires.lacking

pub returns-in-Err-clause-err : goal.returns-in-Err-clause-err
returns-in-Err-clause-err c =
    let names : c.remove_all.new.self ≡ c.args.self.now.names = c.remove_all.ensures ∙ ap (λ (m : NameMap). without_keys (paths_of c.args.paths.now) m) c.in_ok-add_lacked.ensures.ok
    ∙ undone-with_keys path_total path_same c.args.self.now.names c.args.from.now.names (paths_of c.args.paths.now) c.requires.lacking.names_lacked in
    λ i. record { names = names i; labels = c.in-Err.ensures.err i }
