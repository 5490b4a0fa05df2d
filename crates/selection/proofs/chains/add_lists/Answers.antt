use Rattle.std.proofs.Common.{◌≡◌, Some, slice_get, arith, ap, sym, ◌∙◌}
use Rattle.std.proofs.lemmas.Option.{slice_get-get_or}
use Rattle.selection.proofs.RowLaws.{lists_step, empty_step}
use Rattle.selection.proofs.chains.add_lists.Goals as goal

pub loop-place-preserved : goal.loop-place-preserved
loop-place-preserved c =
    let made = c.args.packages.now in
    let all = c.args.all.now in
    let place = c.loop-place.place in
    let item = c.index-all-place.result in
    let rows = c.loop-place.graph in
    let new = c.add_listed.new.graph in
    let facts = c.in_ok-add_listed.ensures in
    let kept = c.loop-place.invariant in
    let at : slice_get all place ≡ Some item = slice_get-get_or all place item c.loop-place-test.true ∙ ap Some (sym c.index-all-place.is) in
    let short = c.loop-place-test.true in
    record {
      nodes = facts.nodes ∙ kept.nodes;
      root = facts.others _ (λ same. omega (arith, same, short, c.requires.made)) ∙ kept.root;
      done = lists_step made all rows new place item at facts.row facts.others kept.done (kept.empty place (omega arith) (omega (arith, short, c.requires.made)));
      empty = empty_step made all rows new place item at facts.row facts.others kept.empty;
    }
