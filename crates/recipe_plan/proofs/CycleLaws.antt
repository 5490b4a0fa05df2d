-- A task on a cycle of needs is one of the tasks that have names.
use Rattle.std.proofs.Common.{ℕ, ◌≡◌, ◌*◌, ◌<◌, Bool, true, List, [], ◌∷◌, ◌++◌, length, Result, Ok, Err, sym, ap, ◌∙◌, subst, arith}
use Rattle.br_path.specs.Files.{FileMap}
use Rattle.cycle_walks.specs.Graph.{names}
use Rattle.cycle_walks.specs.Walks.{IsWalk}
use Rattle.dep_graph.specs.Needs.{Needs}
use Rattle.kc_values.specs.Values.{Table as Values}
use Rattle.mk_expand.specs.Vars.{Table}
use Rattle.recipe_set.specs.declared.fault.PlanFault.{PlanFault}
use Rattle.recipe_set.specs.declared.fault.PlanFault.TheVariants.{Cycle}
use Rattle.selection.specs.declared.listed.Listed.{Listed}
use Rattle.recipe_plan.specs.Needs.{names_of}
use Rattle.recipe_plan.specs.Planning.{IsNaming, no_choice as no_names, named, IsPlanOf, no_rows, no_order, IsPlanning, no_choice, choice}
use Rattle.recipe_plan.proofs.HeldLaws.{rows_of_text}
use Rattle.recipe_plan.proofs.OnePlan.{naming_once}

-- where a walk ends stands below the number of nodes
walk_within : (names : ℕ → ℕ → Bool) (count : ℕ) → ((node other : ℕ) → names node other ≡ true → other < count) → (between : List ℕ) (node last : ℕ)
    → IsWalk names node (between ++ last ∷ []) → last < count
walk_within names count closed [] node last walk = closed node last walk.0
walk_within names count closed (next ∷ rest) node last walk = walk_within names count closed rest next last walk.1

-- a package has two tasks
names_count : (chosen : List Listed) → length (names_of chosen) ≡ 2 * length chosen
names_count [] = cc
names_count (item ∷ rest) = omega (arith, names_count rest)

plan_within : (vars : Table) (chosen : List Listed) (task : ℕ) → IsPlanOf vars chosen (Err (Cycle task)) → task < length (names_of chosen)
plan_within vars chosen _ (no_rows needs fault are is) = absurd (rows_of_text vars needs chosen fault is)
plan_within vars chosen task (no_order needs rows _ are is least) =
    let within = walk_within (names needs) (length needs) are.rising.graph.closed least.holds.0 task task least.holds.1 in
    omega (arith, within, are.count, names_count chosen)

pub cycle_within : (files : FileMap) (values : Values) (task : ℕ) (all : List (List ℕ)) → IsPlanning files values (Err (Cycle task)) → IsNaming files values (Ok all) → task < length all
cycle_within files values task all (no_choice _ none) is =
    let same : ◌≡◌ {A = Result (List (List ℕ)) PlanFault} (Err (Cycle task)) (Ok all) = naming_once files values (Err (Cycle task)) (Ok all) (no_names (Cycle task) none) is in
    absurd (cc)
cycle_within files values task all (choice recipes chosen are plan) is =
    let same : ◌≡◌ {A = Result (List (List ℕ)) PlanFault} (Ok (names_of chosen)) (Ok all) = naming_once files values (Ok (names_of chosen)) (Ok all) (named recipes chosen are) is in
    let given : names_of chosen ≡ all = cc in
    subst (λ names. task < length names) given (plan_within recipes.vars chosen task plan)
