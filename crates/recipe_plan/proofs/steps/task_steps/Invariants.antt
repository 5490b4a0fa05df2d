use Rattle.std.proofs.Common.{◌≡◌, [], drop}
use Rattle.recipe_plan.specs.Answers.{in_turn}
use Rattle.recipe_plan.specs.Steps.{put_step, steps_of}
use Rattle.recipe_plan.proofs.steps.task_steps.Given as goal

-- the steps that are left are still to come
abbrev pub invariant-loop-step : goal.invariant-loop-step
invariant-loop-step l =
    in_turn (put_step l.owner.vars.now l.owner.made.now) l.steps (drop l.step-index l.step-items)
    ≡ in_turn (put_step l.owner.vars.now l.owner.made.now) ([], 0) (steps_of l.fn.part l.owner.made.now.host)
