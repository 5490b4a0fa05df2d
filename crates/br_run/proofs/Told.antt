-- What the faults of an input tell, and what is answered where there is none.
use Rattle.std.proofs.Common.{ℕ, ◌≡◌, ◌≢◌, List, [], Result, Ok, Err, length, ◌<◌, refl, sym, ap, ◌∙◌, subst}
use Rattle.std.specs.Prelude.{IfOk, All}
use Rattle.std.specs.List.Sorted.{IsStrictlyIncreasing}
use Rattle.std.proofs.lemmas.Option.{slice_get_within}
use Rattle.std.proofs.lemmas.List.Elements.{All-weaker}
use Rattle.br_path.specs.declared.values.Memory.{Memory as Want}
use Rattle.br_path.specs.Files.{FileMap}
use Rattle.build_report.specs.declared.fault.InputFault.{InputFault}
use Rattle.build_report.specs.Faults.{HasPlanLine}
use Rattle.build_report.specs.Plans.{names_text}
use Rattle.kc_values.specs.Values.{Table}
use Rattle.plan_rows.specs.declared.rows.Part.TheVariants.{Prep}
use Rattle.plan_rows.specs.Plan.{Planned, IsTask, IsPrepOf}
use Rattle.recipe_plan.specs.Packages.{ArePackages}
use Rattle.recipe_plan.specs.Planning.{IsPlanning}
use Rattle.recipe_plan.proofs.CycleLaws.{cycle_within}
use Rattle.recipe_set.specs.declared.fault.PlanFault.{PlanFault}
use Rattle.recipe_set.specs.declared.fault.PlanFault.TheVariants as planning
use Rattle.recipe_set.specs.Fault.{HoldsNoMemory}
use Rattle.br_run.specs.declared.answer.Answer.{Answer}
use Rattle.br_run.specs.declared.fault.NoAnswer.{NoAnswer}
use Rattle.br_run.specs.declared.fault.NoAnswer.TheVariants.{Fault, Memory}
use Rattle.br_run.specs.Answer.{IsFaultAnswer, IsShowAnswer, packages, bad_input, written}
use Rattle.br_run.specs.Fault.{Faults, Tells}
use Rattle.br_run.specs.Planned.{AreNamesFor, IsPlanOf}
use Rattle.br_run.specs.Shown.{Relation}

-- faults that are some are others, where each of those is one of these
pub Tells-map : (These Those : Faults) (fault : NoAnswer) → ((one : InputFault) (names : List (List ℕ)) → These one names → Those one names) → Tells These fault → Tells Those fault
Tells-map These Those (Fault one names) each are = each one names are
Tells-map These Those Memory each are = tt

-- the answer to a fault is one that the fault gives
pub fault_answered : (P : Answer → Type 0) (AreFaults : Faults) (fault : NoAnswer) (result : Result Answer Want)
    → ((one : InputFault) (names : List (List ℕ)) → AreFaults one names → P (bad_input one names)) → Tells AreFaults fault → IfOk result (IsFaultAnswer fault) → IfOk result P
fault_answered P AreFaults (Fault one names) (Ok answer) gives are is = subst P (sym is) (gives one names are)
fault_answered P AreFaults Memory (Ok answer) gives are is = absurd is
fault_answered P AreFaults fault (Err want) gives are is = tt

-- ---- faults

-- what holds of a fault that is given
pub told : (AreFaults : Faults) (fault : NoAnswer) (one : InputFault) → AreFaults one [] → fault ≡ Fault one [] → Tells AreFaults fault
told AreFaults fault one is same = subst (Tells AreFaults) (sym same) is

-- a fault of the plan of files and values has a line
pub plan_line : (files : FileMap) (values : Table) (fault : PlanFault) (names : List (List ℕ)) → IsPlanning files values (Err fault) → fault ≢ planning.Memory → HoldsNoMemory fault
    → AreNamesFor files values fault names → HasPlanLine names fault
plan_line files values (planning.WrongName at) names first other held named = tt
plan_line files values (planning.Recipe at cause) names first other held named = tt
plan_line files values (planning.Expand owner variable cause) names first other held named = held
plan_line files values (planning.PatchFile at) names first other held named = tt
plan_line files values (planning.NoRecipe name) names first other held named = tt
plan_line files values (planning.UnknownDependency owner name) names first other held named = tt
plan_line files values (planning.NotSelected owner name) names first other held named = tt
plan_line files values planning.TooManyPackages names first other held named = tt
plan_line files values (planning.Cycle task) names first other held named = cycle_within files values task names first named
plan_line files values planning.Memory names first other held named = absurd (other refl)

-- ---- packages that are shown

-- tasks of a plan are below their number
pub tasks_within : (plan : Planned) (tasks : List ℕ) → All (IsTask plan Prep) tasks → All (λ task. task < length plan.rows) tasks
tasks_within plan = All-weaker (IsTask plan Prep) (λ task. task < length plan.rows) (λ task is. slice_get_within plan.rows task is.0 is.1)

-- what the packages are whose tasks are found
pub record AreFound (Related : Relation) (plan : Planned) (asked : ℕ) (tasks : List ℕ) : Type 0 where
  pub rising : IsStrictlyIncreasing tasks
  pub preps : All (IsTask plan Prep) tasks
  pub packages : ArePackages asked tasks (Related plan.graph)

pub packages_answered : (Related : Relation) (files : FileMap) (plan : Planned) (name : List ℕ) (asked : ℕ) (tasks text : List ℕ) (answer : Answer) → IsPlanOf files plan → IsPrepOf plan name asked
    → AreFound Related plan asked tasks → text ≡ names_text plan tasks → answer ≡ written text → IsShowAnswer Related name files answer
packages_answered Related files plan name asked tasks text answer is named found same given =
    subst (IsShowAnswer Related name files) (sym (given ∙ ap written same))
    (packages plan tasks is (record { asked = asked; named = named; rising = found.rising; preps = found.preps; packages = found.packages }))
