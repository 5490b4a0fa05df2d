use Rattle.std.proofs.Common.{◌≡◌, ◌<◌, Bool, ◌||◌, ◌+◌, ◌-◌, length, take, map, sym, ap, ◌∙◌, arith}
use Rattle.std.specs.FinMap as fin
use Rattle.std.specs.List.{list_any, range_with_len}
use Rattle.std.proofs.lemmas.Bool.Decides.{nat_tests}
use Rattle.br_path.specs.Path.{Names}
use Rattle.tree_ops.specs.Tree.{is_leaf}
use Rattle.tree_map.proofs.Moves.{unrolled}
use Rattle.tree_map.proofs.names.NameTable.hides.Goals as goal

pub returns-then-is_leaf : goal.returns-then-is_leaf
returns-then-is_leaf c =
    let test : Names → Bool = λ folder. is_leaf (fin.get c.args.self.now folder) in
    let one : length c.names-depth-end.result.now ≡ length c.args.at.now = ap length c.names-depth-end.ensures.names in
    let is = c.loop-depth-test.true in
    let less : c.loop-depth.depth < length c.args.at.now = grind (arith, nat_tests) in
    let leaf = ap test (sym c.in_ok-folder.ensures) ∙ ap is_leaf (sym c.get.ensures) ∙ sym c.is_leaf.ensures ∙ c.if-is_leaf.true in
    let rest = list_any test (map (λ d. take d c.args.at.now) (range_with_len (c.loop-depth.depth + 1) (length c.args.at.now - (c.loop-depth.depth + 1)))) in
    sym (ap (λ b. b || rest) leaf) ∙ sym (unrolled test c.args.at.now c.loop-depth.depth less) ∙ c.loop-depth.invariant

pub loop-depth-preserved : goal.loop-depth-preserved
loop-depth-preserved c =
    let test : Names → Bool = λ folder. is_leaf (fin.get c.args.self.now folder) in
    let one : length c.names-depth-end.result.now ≡ length c.args.at.now = ap length c.names-depth-end.ensures.names in
    let is = c.loop-depth-test.true in
    let less : c.loop-depth.depth < length c.args.at.now = grind (arith, nat_tests) in
    let leaf = ap test (sym c.in_ok-folder.ensures) ∙ ap is_leaf (sym c.get.ensures) ∙ sym c.is_leaf.ensures ∙ c.if-is_leaf.false in
    let rest = list_any test (map (λ d. take d c.args.at.now) (range_with_len (c.loop-depth.depth + 1) (length c.args.at.now - (c.loop-depth.depth + 1)))) in
    sym (ap (λ b. b || rest) leaf) ∙ sym (unrolled test c.args.at.now c.loop-depth.depth less) ∙ c.loop-depth.invariant
