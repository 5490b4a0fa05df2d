use Rattle.std.proofs.Common.{◌≡◌, ◌<◌, ◌≤◌, length, ap, arith, ◌∙◌, nat_lt, false}
use Rattle.std.proofs.lemmas.Bool.Decides.{nat_tests}
use Rattle.tree_map.proofs.Moves.{below-then, below-else}
use Rattle.tree_map.proofs.paths.is_below.Goals as goal

pub returns-then-names : goal.returns-then-names
returns-then-names c =
    let one : length c.names.result.now ≡ length c.args.head.now = ap length c.names.ensures.names in
    let two : length c.names-2.result.now ≡ length c.args.path.now = ap length c.names-2.ensures.names in
    let is = c.if-names.true in
    let less : length c.args.head.now < length c.args.path.now = grind (arith, nat_tests) in
    below-then c.args.head.now c.args.path.now c.starts_with.result less c.starts_with.ensures

pub returns-else-names : goal.returns-else-names
returns-else-names c =
    let one : length c.names.result.now ≡ length c.args.head.now = ap length c.names.ensures.names in
    let two : length c.names-2.result.now ≡ length c.args.path.now = ap length c.names-2.ensures.names in
    let is = c.if-names.false in
    let less : length c.args.path.now ≤ length c.args.head.now = grind (arith, nat_tests) in
    let test : nat_lt (length c.names.result.now) (length c.names-2.result.now) ≡ false = grind (arith, nat_tests) in
    test ∙ below-else c.args.head.now c.args.path.now less
