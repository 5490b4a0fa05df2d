use Rattle.std.proofs.Common.{◌<◌, ◌-◌, reverse, Ok, arith, sym, subst, ◌∙◌}
use Rattle.tree_ops.specs.declared.walk.Stop.{Stop}
use Rattle.std.proofs.lemmas.Bool.Decides.{nat_tests}
use Rattle.tree_ops.specs.Walking.{walk_within, IsStopped}
use Rattle.tree_ops.proofs.Walks.{first-steps, stop-at, stop-next}
use Rattle.tree_ops.proofs.walk.resolve.Goals as goal

pub loop-links-init : goal.loop-links-init
loop-links-init g c = record {
  walk = λ i. walk_within 41 (g.T.Walked.walked c.args.tree.now) c.args.follow (c.root-place.ensures i) (c.in_ok-steps.ensures i);
  steps = first-steps c.args.walk.now c.in_ok-steps.steps.items c.requires.walk c.in_ok-steps.ensures;
}

pub returns-in-Err : goal.returns-in-Err
returns-in-Err g c other =
    let is = c.loop-links-test.true in
    let less : c.loop-links.links < 41 = grind (arith, nat_tests) in
    stop-at c.loop-links.links (g.T.Walked.walked c.args.tree.now) c.args.follow c.loop-links.place (reverse c.loop-links.steps.items) _ _ less c.loop-links.invariant.walk
    (c.in-Err.ensures.stopped (walk_within (40 - c.loop-links.links) (g.T.Walked.walked c.args.tree.now) c.args.follow) other)

pub returns-in-Ok-End : goal.returns-in-Ok-End
returns-in-Ok-End g c =
    let is = c.loop-links-test.true in
    let less : c.loop-links.links < 41 = grind (arith, nat_tests) in
    stop-at c.loop-links.links (g.T.Walked.walked c.args.tree.now) c.args.follow c.loop-links.place (reverse c.loop-links.steps.items) _ _ less c.loop-links.invariant.walk
    (subst (λ (s : Stop). IsStopped (walk_within (40 - c.loop-links.links) (g.T.Walked.walked c.args.tree.now) c.args.follow) (g.T.Walked.walked c.args.tree.now) c.args.follow c.loop-links.place (reverse c.loop-links.steps.items) (Ok s) (reverse c.go.new.steps.items)) c.in-Ok-End.field-0-is (c.in-Ok-End.ensures.stopped (walk_within (40 - c.loop-links.links) (g.T.Walked.walked c.args.tree.now) c.args.follow)))

pub loop-links-preserved : goal.loop-links-preserved
loop-links-preserved g c =
    let is = c.loop-links-test.true in
    let less : c.loop-links.links < 41 = grind (arith, nat_tests) in
    record {
      walk = stop-next c.loop-links.links (g.T.Walked.walked c.args.tree.now) c.args.follow c.in-Ok-Link.folder (reverse c.go.new.steps.items) less
          ∙ sym (stop-at c.loop-links.links (g.T.Walked.walked c.args.tree.now) c.args.follow c.loop-links.place (reverse c.loop-links.steps.items) _ _ less c.loop-links.invariant.walk
          (subst (λ (s : Stop). IsStopped (walk_within (40 - c.loop-links.links) (g.T.Walked.walked c.args.tree.now) c.args.follow) (g.T.Walked.walked c.args.tree.now) c.args.follow c.loop-links.place (reverse c.loop-links.steps.items) (Ok s) (reverse c.go.new.steps.items)) c.in-Ok-Link.field-0-is (c.in-Ok-Link.ensures.stopped (walk_within (40 - c.loop-links.links) (g.T.Walked.walked c.args.tree.now) c.args.follow))));
      steps = c.in-Ok-Link.ensures.steps;
    }
