use Rattle.std.proofs.Common.{reverse, Ok, sym, ap, subst, ◌∙◌}
use Rattle.tree_ops.specs.declared.walk.Step.{Step}
use Rattle.tree_ops.specs.Walking.{IsStepped, HasWalk}
use Rattle.tree_ops.proofs.Walks.{go-on, next-step, next-steps, put-steps}
use Rattle.tree_ops.proofs.walk.go.Goals as goal

pub take_step-requires-clause-step : goal.take_step-requires-clause-step
take_step-requires-clause-step g c = next-step c.loop-name.steps.items c.pop.new.self.items c.in-Some.name c.as_slice.result.now c.in-Some.ensures.items c.as_slice.ensures c.loop-name.invariant.steps

pub returns-in-Err-clause-stopped : goal.returns-in-Err-clause-stopped
returns-in-Err-clause-stopped g c onward other =
    go-on onward (g.T.Walked.walked c.args.tree.now) c.args.follow c.loop-name.place c.loop-name.steps.items c.pop.new.self.items c.in-Some.name c.as_slice.result.now _ _ c.in-Some.ensures.items c.as_slice.ensures
    (c.loop-name.invariant.walk onward) (c.in-Err.ensures.stepped onward (reverse c.pop.new.self.items) (sym c.is_done.ensures) other)

pub returns-in-Ok-End-clause-stopped : goal.returns-in-Ok-End-clause-stopped
returns-in-Ok-End-clause-stopped g c onward =
    go-on onward (g.T.Walked.walked c.args.tree.now) c.args.follow c.loop-name.place c.loop-name.steps.items c.pop.new.self.items c.in-Some.name c.as_slice.result.now _ _ c.in-Some.ensures.items c.as_slice.ensures
    (c.loop-name.invariant.walk onward) (subst (λ (s : Step). IsStepped onward (g.T.Walked.walked c.args.tree.now) c.args.follow c.loop-name.place c.as_slice.result.now (reverse c.pop.new.self.items) (Ok s)) c.in-Ok-End.field-0-is (c.in-Ok-End.ensures.stepped onward (reverse c.pop.new.self.items) (sym c.is_done.ensures)))

pub returns-in-Ok-End-clause-steps : goal.returns-in-Ok-End-clause-steps
returns-in-Ok-End-clause-steps g c = next-steps c.loop-name.steps.items c.pop.new.self.items c.in-Some.name c.in-Some.ensures.items c.loop-name.invariant.steps

pub returns-in-Ok-Through-clause-stopped : goal.returns-in-Ok-Through-clause-stopped
returns-in-Ok-Through-clause-stopped g c onward =
    go-on onward (g.T.Walked.walked c.args.tree.now) c.args.follow c.loop-name.place c.loop-name.steps.items c.pop.new.self.items c.in-Some.name c.as_slice.result.now _ _ c.in-Some.ensures.items c.as_slice.ensures
    (c.loop-name.invariant.walk onward) (subst (λ (s : Step). IsStepped onward (g.T.Walked.walked c.args.tree.now) c.args.follow c.loop-name.place c.as_slice.result.now (reverse c.pop.new.self.items) (Ok s)) c.in-Ok-Through.field-0-is (c.in-Ok-Through.ensures.stepped onward (reverse c.pop.new.self.items) (sym c.is_done.ensures)) ∙ ap (onward c.loop-name.place) (sym c.in_ok-put_components-in-Ok-Through.ensures))

pub returns-in-Ok-Through-clause-steps : goal.returns-in-Ok-Through-clause-steps
returns-in-Ok-Through-clause-steps g c =
    put-steps c.in-Ok-Through.text.now c.put_components.new.steps.items c.pop.new.self.items (subst (λ (s : Step). HasWalk (Ok s)) c.in-Ok-Through.field-0-is c.in-Ok-Through.ensures.walk) c.in_ok-put_components-in-Ok-Through.ensures
    (next-steps c.loop-name.steps.items c.pop.new.self.items c.in-Some.name c.in-Some.ensures.items c.loop-name.invariant.steps)

pub loop-name-preserved : goal.loop-name-preserved
loop-name-preserved g c = record {
  walk = λ onward. sym (go-on onward (g.T.Walked.walked c.args.tree.now) c.args.follow c.loop-name.place c.loop-name.steps.items c.pop.new.self.items c.in-Some.name c.as_slice.result.now _ _ c.in-Some.ensures.items c.as_slice.ensures
      (c.loop-name.invariant.walk onward) (subst (λ (s : Step). IsStepped onward (g.T.Walked.walked c.args.tree.now) c.args.follow c.loop-name.place c.as_slice.result.now (reverse c.pop.new.self.items) (Ok s)) c.in-Ok-To.field-0-is (c.in-Ok-To.ensures.stepped onward (reverse c.pop.new.self.items) (sym c.is_done.ensures))));
  steps = next-steps c.loop-name.steps.items c.pop.new.self.items c.in-Some.name c.in-Some.ensures.items c.loop-name.invariant.steps;
}
