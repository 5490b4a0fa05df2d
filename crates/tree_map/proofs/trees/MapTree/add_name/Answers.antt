use Rattle.std.proofs.Common.{ap, ◌∙◌}
use Rattle.std.specs.FinMap as fin
use Rattle.std.proofs.lemmas.Result.{on_ok_weaker}
use Rattle.tree_map.specs.Parts.{shown}
use Rattle.tree_map.proofs.trees.MapTree.add_name.Goals as goal

pub returns-clause-ok : goal.returns-clause-ok
returns-clause-ok c = on_ok_weaker c.insert.result (λ put i. record {
  names = (put ∙ ap (λ at. fin.insert (shown c.args.self.now).names at c.args.node) c.in_ok-copy.ensures) i;
  labels = (shown c.args.self.now).labels;
}) c.insert.ensures.ok
