use Rattle.std.proofs.Common.{◌≡◌, sym, ap, subst}
use Rattle.std.specs.Ordering.{is_gt}
use Rattle.std.proofs.lemmas.Result.{IfOk-weaker}
use Rattle.br_path.specs.Path.{Names}
use Rattle.tree_map.specs.NameTable.{IsBehind}
use Rattle.tree_map.proofs.Children.{behind-itself, behind-greatest, depth-below}
use Rattle.tree_map.proofs.Neighbours.{Less-is_below}
use Rattle.tree_map.proofs.paths.behind.Goals as goal

pub returns-then-names-depth : goal.returns-then-names-depth
returns-then-names-depth c =
    let itself = behind-itself c.args.at.now c.args.path.now (ap is_gt (Less-is_below c.args.at.now c.args.path.now c.requires)) in
    IfOk-weaker c.copy.result (λ (p : Names). p ≡ c.args.path.now) (IsBehind c.args.at.now c.args.path.now) (λ p same. subst (IsBehind c.args.at.now c.args.path.now) (sym same) itself) c.copy.ensures

pub prefix-requires : goal.prefix-requires
prefix-requires c = depth-below c.args.at.now c.args.path.now c.names.result.now c.names.ensures.names c.requires

pub returns : goal.returns
returns c =
    behind-greatest c.args.at.now c.args.path.now c.names.result.now c.in_ok-prefix.field-0 c.names.ensures.names c.requires c.names-2.ensures.path c.in_ok-prefix.ensures c.last_below-2.result c.last_below-2.ensures.below c.last_below-2.ensures.greatest
