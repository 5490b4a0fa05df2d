use Rattle.std.proofs.Common.{◌∷◌, ◌++◌, [], ap, sym, ◌∙◌}
use Rattle.cycle_walks.specs.Reach.{is_seen}
use Rattle.cycle_walks.proofs.Ranges.{filter_yes, filter_no}
use Rattle.cycle_walks.proofs.reach.seen_nodes.Goals as goal
use Rattle.cycle_walks.proofs.reach.seen_nodes.Goals.{then-seen-node+in_ok-push, else-seen-node}

pub loop-node-preserved : goal.loop-node-preserved
loop-node-preserved c =
    let node = c.loop-node.node in
    let seen = is_seen c.args.seen.now in
    elim c.if-seen-node.branch [
      | then-seen-node+in_ok-push w ↦ ap (λ v. v.items) w.nodes-is ∙ w.in_ok-push.ensures.items ∙ ap (λ xs. xs ++ node ∷ []) c.loop-node.invariant ∙ sym (filter_yes seen node w.if-seen-node.true)
      | else-seen-node w ↦ ap (λ v. v.items) w.nodes-is ∙ c.loop-node.invariant ∙ sym (filter_no seen node w.if-seen-node.false)
    ]
