-- The packages that are shown of a plan.
use Rattle.std.specs.Prelude.{[], ◌≡◌, ℕ, true, List, All}
use Rattle.std.specs.List.Sorted.{IsStrictlyIncreasing}
use Rattle.cycle_walks.specs.Walks.{Reaches}
use Rattle.dep_graph.specs.Needs.{Needs}
use Rattle.br_path.specs.Files.{FileMap}
use Rattle.plan_rows.specs.declared.rows.Part.TheVariants.{Prep}
use Rattle.plan_rows.specs.Plan.{Planned, IsTask, IsPackage, IsPrepOf}
use Rattle.recipe_plan.specs.Packages.{ArePackages, depends_on}
use Rattle.br_run.specs.declared.show.Show.{Show}
use Rattle.br_run.specs.declared.show.Show.TheVariants as show
use Rattle.br_run.specs.Planned.{IsInputFault, IsPlanOf}
use Rattle.build_report.specs.declared.fault.InputFault.{InputFault}
use Rattle.build_report.specs.declared.fault.InputFault.TheVariants.{NoPackage}

-- a relation of packages by what tasks need: the second is shown where the first is asked for
abbrev pub Relation : Type 1
Relation = Needs → ℕ → ℕ → Type 0

-- the first depends on the second
abbrev pub Depends : Relation
Depends needs place other = depends_on needs place other ≡ true

-- the first depends on the second by one step or more
abbrev pub DependsInSteps : Relation
DependsInSteps needs = Reaches (depends_on needs)

-- the second depends on the first
abbrev pub IsDependedOn : Relation
IsDependedOn needs place user = depends_on needs user place ≡ true

-- the relation that a show command is about
abbrev pub relation_of : Show → Relation
relation_of show.Depends = Depends
relation_of show.Recursive = DependsInSteps
relation_of show.Rdepends = IsDependedOn

-- the packages of a plan that are shown for the one of a name, by their prep tasks, which rise
pub record AreShown (Related : Relation) (plan : Planned) (name tasks : List ℕ) : Type 0 where
  pub asked : ℕ
  pub named : IsPrepOf plan name asked
  pub rising : IsStrictlyIncreasing tasks
  pub preps : All (IsTask plan Prep) tasks
  pub packages : ArePackages asked tasks (Related plan.graph)

-- why no packages are shown for a name: the first fault of the input, or that the plan has no package of this name
pub data IsShowFault (files : FileMap) (name : List ℕ) : InputFault → List (List ℕ) → Type 0 where
  no_plan : {fault : InputFault} {names : List (List ℕ)} → IsInputFault files fault names → IsShowFault files name fault names
  no_package : (plan : Planned) → IsPlanOf files plan → (IsPackage plan name → ⊥) → IsShowFault files name (NoPackage name) []
