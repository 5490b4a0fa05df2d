-- The plan of files and values, or their first fault.
use Rattle.std.specs.Prelude.{◌≡◌, ℕ, List, Result, Ok, Err}
use Rattle.br_path.specs.Files.{FileMap}
use Rattle.cycle_walks.specs.Graph.{names}
use Rattle.cycle_walks.specs.Walks.{IsLeast, OnCycle}
use Rattle.dep_graph.specs.Needs.{Needs}
use Rattle.dep_graph.specs.Order.{IsOrder}
use Rattle.kc_values.specs.Values.{Table as Values}
use Rattle.mk_expand.specs.Vars.{Table}
use Rattle.plan_rows.specs.Plan.{Planned}
use Rattle.plan_rows.specs.declared.rows.TaskRow.{TaskRow}
use Rattle.recipe_set.specs.declared.fault.PlanFault.{PlanFault}
use Rattle.recipe_set.specs.declared.fault.PlanFault.TheVariants.{Cycle}
use Rattle.recipe_set.specs.declared.recipes.Recipes.{Recipes}
use Rattle.recipe_set.specs.Reading.{IsReading}
use Rattle.selection.specs.declared.listed.Listed.{Listed}
use Rattle.selection.specs.Selecting.{IsSelecting}
use Rattle.recipe_plan.specs.Needs.{AreNeeds, names_of}
use Rattle.recipe_plan.specs.Rows.{all_rows}

-- the recipes of files and values are these, and the selected packages these
pub record IsChoice (files : FileMap) (values : Values) (recipes : Recipes) (chosen : List Listed) : Type 0 where
  pub read : IsReading files values (Ok recipes)
  pub selected : IsSelecting files values recipes (Ok chosen)

-- the fault that keeps files and values from having selected packages: one of the reading of the recipes, or else one of the selection
pub data HasNoChoice (files : FileMap) (values : Values) (fault : PlanFault) : Type 0 where
  unread : IsReading files values (Err fault) → HasNoChoice files values fault
  unselected : (recipes : Recipes) → IsReading files values (Ok recipes) → IsSelecting files values recipes (Err fault) → HasNoChoice files values fault

-- the names of the tasks of files and values, or why there are none
pub data IsNaming (files : FileMap) (values : Values) : Result (List (List ℕ)) PlanFault → Type 0 where
  no_choice : (fault : PlanFault) → HasNoChoice files values fault → IsNaming files values (Err fault)
  named : (recipes : Recipes) (chosen : List Listed) → IsChoice files values recipes chosen → IsNaming files values (Ok (names_of chosen))

-- the plan of selected packages, or its first fault: that of the first text that has no value, and else the least task on a cycle of needs
pub data IsPlanOf (vars : Table) (chosen : List Listed) : Result Planned PlanFault → Type 0 where
  no_rows : (needs : Needs) (fault : PlanFault) → AreNeeds chosen needs → all_rows vars needs chosen ≡ Err fault → IsPlanOf vars chosen (Err fault)
  no_order : (needs : Needs) (rows : List TaskRow) (task : ℕ) → AreNeeds chosen needs → all_rows vars needs chosen ≡ Ok rows →
      IsLeast (OnCycle (names needs)) task → IsPlanOf vars chosen (Err (Cycle task))
  planned : (needs : Needs) (rows : List TaskRow) (order : List ℕ) → AreNeeds chosen needs → all_rows vars needs chosen ≡ Ok rows →
      IsOrder needs order → IsPlanOf vars chosen (Ok (record { rows = rows; graph = needs; order = order }))

-- the plan of files and values, or their first fault
pub data IsPlanning (files : FileMap) (values : Values) : Result Planned PlanFault → Type 0 where
  no_choice : (fault : PlanFault) → HasNoChoice files values fault → IsPlanning files values (Err fault)
  choice : {plan : Result Planned PlanFault} (recipes : Recipes) (chosen : List Listed) → IsChoice files values recipes chosen → IsPlanOf recipes.vars chosen plan →
      IsPlanning files values plan
