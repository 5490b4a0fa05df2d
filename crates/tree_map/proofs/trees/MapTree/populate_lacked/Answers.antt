use Rattle.std.proofs.Common.{◌≡◌, sym, ◌∙◌}
use Rattle.tree_ops.specs.Tree.{Tree, over, laid}
use Rattle.tree_map.specs.Lacking.{paths_of}
use Rattle.tree_map.specs.Parts.{shown}
use Rattle.tree_map.proofs.Made.{populated-ok, populated-full}
use Rattle.tree_map.proofs.LaidOver.{over-names}
use Rattle.tree_map.proofs.trees.MapTree.populate_lacked.Goals as goal

pub returns-in-None : goal.returns-in-None
returns-in-None c =
    let low : Tree = shown c.args.self.now in
    let high : Tree = shown c.args.from.now in
    let names : (over low high).names ≡ laid low.names high.names = over-names low high (paths_of c.args.paths.now) c.args.labels.now c.requires.low c.requires.high c.requires.lacking in
    populated-full (low, c.args.pen.now) high (sym (c.counted_lacked.ensures (over low high) names) ∙ c.in-None.is)

pub returns : goal.returns
returns c =
    let low : Tree = shown c.args.self.now in
    let high : Tree = shown c.args.from.now in
    let names : (over low high).names ≡ laid low.names high.names = over-names low high (paths_of c.args.paths.now) c.args.labels.now c.requires.low c.requires.high c.requires.lacking in
    populated-ok (low, c.args.pen.now) high (shown c.add_lacked.new.self) c.in-Some.after (sym (c.counted_lacked.ensures (over low high) names) ∙ c.in-Some.is) c.in_ok-add_lacked.ensures.ok
