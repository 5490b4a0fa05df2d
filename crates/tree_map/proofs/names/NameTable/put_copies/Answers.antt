use Rattle.std.proofs.Common.{◌+◌, ◌≡◌, ◌∷◌, List, drop, sym, ap, ◌∙◌}
use Rattle.std.specs.FinMap as fin
use Rattle.std.specs.List.{list_any}
use Rattle.std.proofs.lemmas.List.{drop_more}
use Rattle.tree_ops.specs.Change.{is_path}
use Rattle.tree_map.specs.declared.moving.Move.{Move}
use Rattle.tree_map.specs.Moving.{with_copies}
use Rattle.tree_map.specs.NameTable.{NameMap}
use Rattle.tree_map.proofs.Carried.{copied-other_than}
use Rattle.tree_map.proofs.names.NameTable.put_copies.Goals as goal

pub loop-one-preserved : goal.loop-one-preserved
loop-one-preserved c =
    let left : List Move = drop (c.loop-one.one-index + 1) c.args.moves.now in
    let cut : drop c.loop-one.one-index c.args.moves.now ≡ c.one-item.result ∷ left =
    drop_more c.args.moves.now c.loop-one.one-index c.one-item.result c.loop-one-test.true ∙ ap (λ (one : Move). one ∷ left) (sym c.one-item.is) in
    record {
      copied = ap (with_copies left) c.in_ok-put_copy.ensures.ok ∙ ap (λ (moves : List Move). with_copies moves c.loop-one.self) (sym cut) ∙ c.loop-one.invariant.copied;
      others = λ q none.
          let so_far = c.loop-one.invariant.others q none in
          let next = copied-other_than c.loop-one.self c.one-item.result left q (ap (list_any (λ (one : Move). is_path one.to q)) (sym cut) ∙ so_far.0) in
          (next.0, ap (λ (m : NameMap). fin.get m q) c.in_ok-put_copy.ensures.ok ∙ next.1 ∙ so_far.1);
    }
