use Rattle.std.proofs.Common.{rules, ◌≡◌, true, cond, ◌&&◌, ◌||◌, is_some, take, ap, ◌∙◌}
use Rattle.std.proofs.lemmas.List.{take_all}
use Rattle.std.specs.BTreeMap.{is_at}
use Rattle.std.specs.BTreeSet.{contains}
use Rattle.br_path.specs.Path.{Names, path_cmp}
use Rattle.tree_ops.specs.Tree.{node_at}
use Rattle.tree_ops.specs.Change.{is_at_or_below}
use Rattle.tree_names.proofs.Below.{is_below_one, fewer_left, child_there, one_more, all_there}
use Rattle.tree_names.proofs.walk.+put_names.Goals as goal

pub put_names-requires : goal.put_names-requires
put_names-requires g t c κs within =
    let fewer = fewer_left c.args.at c.as_slice.result.now c.in-Ok.below c.in-Ok.ensures.names c.in-Ok.ensures.path in
    let there = child_there (g.T.TreeOps.tree c.args.tree.now) c.args.at c.deref-name-items.result.now c.as_slice.result.now c.in-Ok.below c.loop-name.invariant.items (search rules) c.in-Ok.ensures.names in
    search rules

pub loop-name-preserved : goal.loop-name-preserved
loop-name-preserved g t c = record {
  put = λ path.
      let there = is_some (node_at (g.T.TreeOps.tree c.args.tree.now) path) in
      c.in_ok-put_names-in-Ok.ensures path
      ∙ ap (λ b. is_at_or_below c.in-Ok.below path && there || b) (c.loop-name.invariant.put path)
      ∙ ap (λ p. is_at_or_below p path && there || (is_below_one c.args.at (take c.loop-name.name-index c.deref-name-items.result.now) path && there || contains path_cmp c.args.paths.now path)) c.in-Ok.ensures.names
      ∙ one_more c.args.at path c.deref-name-items.result.now c.loop-name.name-index c.as_slice.result.now there (contains path_cmp c.args.paths.now path) (search rules) (search rules);
  paths = c.loop-name.invariant.paths;
  items = c.loop-name.invariant.items;
}

pub returns : goal.returns
returns g t c = λ path.
    let tree = g.T.TreeOps.tree c.args.tree.now in
    let there = is_some (node_at tree path) in
    let old = contains path_cmp c.args.paths.now path in
    let at = c.args.at in
    let all : take c.loop-name.name-index c.deref-name-items.result.now ≡ c.deref-name-items.result.now = take_all c.loop-name.name-index c.deref-name-items.result.now (search rules) in
    c.in_ok-insert.ensures.updates.0 path
    ∙ ap (cond (is_at (path_cmp at) path) true) (c.loop-name.invariant.put path ∙ ap (λ (names : Names). is_below_one at names path && there || old) (all ∙ c.loop-name.invariant.items))
    ∙ all_there tree c.requires.sound at path old c.requires.there
