use Rattle.std.proofs.Common.{◌≡◌, drop, map}
use Rattle.recipe_plan.specs.Answers.{in_turn}
use Rattle.recipe_plan.specs.Texts.{put_variable}
use Rattle.recipe_plan.proofs.texts.Texts.put_variables.Given as goal

-- the variables that are left are still to come
abbrev pub invariant-loop-variable : goal.invariant-loop-variable
invariant-loop-variable l =
    in_turn (put_variable l.owner.vars.now l.owner.made.now) l.self (map (λ variable. variable.now) (drop l.variable-index l.variables))
    ≡ in_turn (put_variable l.owner.vars.now l.owner.made.now) l.fn.self (map (λ variable. variable.now) l.variables)
