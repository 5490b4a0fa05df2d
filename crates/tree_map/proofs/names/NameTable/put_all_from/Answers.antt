use Rattle.std.proofs.Common.{◌+◌, ◌≡◌, ◌∷◌, List, drop, sym, ap, ◌∙◌}
use Rattle.std.specs.Borrow.{Bor}
use Rattle.std.specs.FinMap as fin
use Rattle.std.specs.List.{list_any}
use Rattle.std.specs.Ordering.{eq_by_cmp}
use Rattle.std.proofs.lemmas.List.{drop_more}
use Rattle.br_path.specs.Path.{Names, path_cmp}
use Rattle.br_path.proofs.PathOrder.{path_total, path_same}
use Rattle.tree_map.specs.Lacking.{paths_of, with_keys}
use Rattle.tree_map.specs.NameTable.{NameMap}
use Rattle.tree_map.proofs.Lacked.{put_at-other}
use Rattle.tree_map.proofs.names.NameTable.put_all_from.Goals as goal

pub loop-at-preserved : goal.loop-at-preserved
loop-at-preserved c =
    let left : List (Bor Names) = drop (c.loop-at.at-index + 1) c.args.paths.now in
    let cut : drop c.loop-at.at-index c.args.paths.now ≡ c.at-item.result ∷ left = drop_more c.args.paths.now c.loop-at.at-index c.at-item.result c.loop-at-test.true ∙ ap (λ (at : Bor Names). at ∷ left) (sym c.at-item.is) in
    record {
      put = ap (with_keys (paths_of left) c.args.high.now) c.in_ok-put_from.ensures.ok ∙ ap (λ (paths : List (Bor Names)). with_keys (paths_of paths) c.args.high.now c.loop-at.self) (sym cut) ∙ c.loop-at.invariant.put;
      others = λ q none.
          let so_far = c.loop-at.invariant.others q none in
          let next = put_at-other path_total path_same c.loop-at.self c.at-item.result.now (fin.get c.args.high.now c.at-item.result.now) q (paths_of left)
          (ap (λ (paths : List (Bor Names)). list_any (eq_by_cmp path_cmp q) (paths_of paths)) (sym cut) ∙ so_far.0) in
          (next.0, ap (λ (m : NameMap). fin.get m q) c.in_ok-put_from.ensures.ok ∙ next.1 ∙ so_far.1);
    }
