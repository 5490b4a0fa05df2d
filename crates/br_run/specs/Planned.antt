-- The plan of files, or the first fault of the input.
use Rattle.std.specs.Prelude.{◌≡◌, ◌≢◌, ℕ, List, [], Ok, Err}
use Rattle.br_path.specs.Files.{FileMap}
use Rattle.kc_values.specs.Values.{Table}
use Rattle.plan_rows.specs.Plan.{Planned}
use Rattle.recipe_set.specs.declared.fault.PlanFault.{PlanFault}
use Rattle.recipe_set.specs.declared.fault.PlanFault.TheVariants.{Cycle, Memory}
use Rattle.recipe_plan.specs.Planning.{IsNaming, IsPlanning}
use Rattle.build_report.specs.declared.fault.InputFault.{InputFault}
use Rattle.build_report.specs.declared.fault.InputFault.TheVariants.{Plan}
use Rattle.br_run.specs.declared.configuration.Configuration.{Configuration}
use Rattle.br_run.specs.Configured.{IsConfiguration, IsConfigFault}

-- the names that the line of a fault takes: those of the tasks for a cycle, and none for other faults
abbrev pub AreNamesFor : FileMap → Table → PlanFault → List (List ℕ) → Type 0
AreNamesFor files values (Cycle task) names = IsNaming files values (Ok names)
AreNamesFor files values _ names = names ≡ []

-- the first fault of the plan of files and values
pub data IsPlanFault (files : FileMap) (values : Table) : InputFault → List (List ℕ) → Type 0 where
  unplanned : (fault : PlanFault) {names : List (List ℕ)} → IsPlanning files values (Err fault) → fault ≢ Memory → AreNamesFor files values fault names →
      IsPlanFault files values (Plan fault) names

-- the plan of files, and the symbols that their configuration forces
pub record IsPlanWith (files : FileMap) (plan : Planned) (forced : List (List ℕ)) : Type 0 where
  pub configuration : Configuration
  pub configured : IsConfiguration files configuration
  pub planned : IsPlanning files configuration.values (Ok plan)
  pub told : forced ≡ configuration.forced

-- the plan of files
pub record IsPlanOf (files : FileMap) (plan : Planned) : Type 0 where
  pub forced : List (List ℕ)
  pub planned : IsPlanWith files plan forced

-- the first fault of files that have no plan: that of their configuration, or else that of the plan
pub data IsInputFault (files : FileMap) (fault : InputFault) (names : List (List ℕ)) : Type 0 where
  of_configuration : IsConfigFault files fault names → IsInputFault files fault names
  of_plan : (configuration : Configuration) → IsConfiguration files configuration → IsPlanFault files configuration.values fault names → IsInputFault files fault names
