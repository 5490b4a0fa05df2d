-- The lines of the faults of an input.
use Rattle.std.specs.Prelude.{◌≢◌, ℕ, ◌<◌, List, [], ◌∷◌, ◌++◌, length, slice_get, unwrap_or, codes}
use Rattle.std.specs.Fmt.{decimal}
use Rattle.br_path.specs.Path.{Names, path_text}
use Rattle.feed_io.specs.declared.read.ReadFault.{ReadFault}
use Rattle.feed_io.specs.declared.read.ReadFault.TheVariants as reading
use Rattle.kc_syntax.specs.declared.error.KcKind.{KcKind}
use Rattle.kc_syntax.specs.declared.error.KcKind.TheVariants as menu
use Rattle.kc_syntax.specs.declared.error.KcFault.{KcFault}
use Rattle.kc_equations.specs.declared.fault.SolveFault.{SolveFault}
use Rattle.kc_equations.specs.declared.fault.SolveFault.TheVariants as solving
use Rattle.mk_syntax.specs.declared.fault.MkFault.{MkFault}
use Rattle.mk_syntax.specs.declared.fault.MkKind.{MkKind}
use Rattle.mk_syntax.specs.declared.fault.MkKind.TheVariants as recipe
use Rattle.mk_expand.specs.declared.fault.ExpandFault.{ExpandFault}
use Rattle.mk_expand.specs.declared.fault.ExpandFault.TheVariants as expanding
use Rattle.recipe_set.specs.declared.fault.PlanFault.{PlanFault}
use Rattle.recipe_set.specs.declared.fault.PlanFault.TheVariants as planning
use Rattle.recipe_set.specs.Fault.{HoldsNoMemory}
use Rattle.build_report.specs.declared.fault.InputFault.{InputFault}
use Rattle.build_report.specs.declared.fault.InputFault.TheVariants.{Read, Menu, Wish, Solve, Plan, NoPackage}
use Rattle.build_report.specs.Lines.{fault_line}

-- 1. Words. Each row is a kind of fault. Out of memory has no words.

abbrev pub read_words : ReadFault → List ℕ
read_words reading.Feed = codes "feed"
read_words reading.TooManyFiles = codes "too-many-files"
read_words reading.TooLarge = codes "too-large"
read_words (reading.BadPath number) = codes "path " ++ decimal number
read_words (reading.Twice at) = codes "twice " ++ path_text at
read_words reading.Memory = []

abbrev pub menu_kind : KcKind → List ℕ
menu_kind menu.NoFile = codes "no-file"
menu_kind menu.BadLine = codes "bad-line"
menu_kind menu.BadString = codes "bad-string"
menu_kind menu.OpenBlock = codes "open-block"
menu_kind menu.Loop = codes "loop"
menu_kind menu.TwoTypes = codes "two-types"
menu_kind menu.NoType = codes "no-type"
menu_kind menu.TooMany = codes "too-many"

-- `config package/zlib/Config.in 3 bad-line`
abbrev pub menu_words : KcFault → List ℕ
menu_words fault = codes "config " ++ path_text fault.file ++ 32 ∷ (decimal fault.line ++ 32 ∷ menu_kind fault.kind)

-- each with the symbol
abbrev pub solve_words : SolveFault → List ℕ
solve_words (solving.SelectOfChoice symbol) = codes "select-of-choice " ++ symbol
solve_words (solving.SelectOfValue symbol) = codes "select-of-value " ++ symbol
solve_words (solving.Cycle symbol) = codes "config-cycle " ++ symbol
solve_words (solving.BadNumber symbol) = codes "bad-number " ++ symbol
solve_words solving.Memory = []

abbrev pub recipe_kind : MkKind → List ℕ
recipe_kind recipe.BadLine = codes "bad-line"
recipe_kind recipe.OpenDefine = codes "open-define"
recipe_kind recipe.OpenIf = codes "open-if"
recipe_kind recipe.StrayElse = codes "stray-else"
recipe_kind (recipe.Unsupported word) = codes "unsupported " ++ word

-- `recipe package/zlib/zlib.mk 3 bad-line`
abbrev pub recipe_words : Names → MkFault → List ℕ
recipe_words at fault = codes "recipe " ++ path_text at ++ 32 ∷ (decimal fault.line ++ 32 ∷ recipe_kind fault.kind)

abbrev pub expand_kind : ExpandFault → List ℕ
expand_kind (expanding.SelfReference name) = codes "self-reference " ++ name
expand_kind expanding.BadCall = codes "bad-call"
expand_kind (expanding.Unsupported name) = codes "unsupported " ++ name
expand_kind expanding.TooCostly = codes "too-costly"
expand_kind expanding.Memory = []

-- `expand zlib ZLIB_DEPENDENCIES bad-call`
abbrev pub expand_words : List ℕ → List ℕ → ExpandFault → List ℕ
expand_words owner variable fault = codes "expand " ++ owner ++ 32 ∷ (variable ++ 32 ∷ expand_kind fault)

-- the name of a task, by its number; nothing where there is none
abbrev pub name_at : List (List ℕ) → ℕ → List ℕ
name_at names task = unwrap_or (slice_get names task) []

abbrev pub plan_words : List (List ℕ) → PlanFault → List ℕ
plan_words names (planning.WrongName at) = codes "wrong-name " ++ path_text at
plan_words names (planning.PatchFile at) = codes "patch-file " ++ path_text at
plan_words names (planning.Recipe at fault) = recipe_words at fault
plan_words names (planning.Expand owner variable fault) = expand_words owner variable fault
plan_words names (planning.NoRecipe name) = codes "no-recipe " ++ name
plan_words names (planning.UnknownDependency owner name) = codes "unknown-dependency " ++ (owner ++ 32 ∷ name)
plan_words names (planning.NotSelected owner name) = codes "not-selected " ++ (owner ++ 32 ∷ name)
plan_words names planning.TooManyPackages = codes "too-many-packages"
plan_words names (planning.Cycle task) = codes "cycle " ++ name_at names task
plan_words names planning.Memory = []

abbrev pub fault_words : List (List ℕ) → InputFault → List ℕ
fault_words names (Read fault) = read_words fault
fault_words names (Menu fault) = menu_words fault
fault_words names (Wish line) = codes "wish " ++ decimal line
fault_words names (Solve fault) = solve_words fault
fault_words names (Plan fault) = plan_words names fault
fault_words names (NoPackage name) = codes "no-package " ++ name

-- 2. Lines.

-- the line of a fault, by the names of the tasks
abbrev pub fault_text : List (List ℕ) → InputFault → List ℕ
fault_text names fault = fault_line (fault_words names fault)

-- a fault of a plan that has a line: it isn't out of memory, and a task on a cycle has a name
abbrev pub HasPlanLine : List (List ℕ) → PlanFault → Type 0
HasPlanLine names (planning.Cycle task) = task < length names
HasPlanLine names planning.Memory = ⊥
HasPlanLine names fault = HoldsNoMemory fault

-- a fault that has a line
abbrev pub HasLine : List (List ℕ) → InputFault → Type 0
HasLine names (Read fault) = fault ≢ reading.Memory
HasLine names (Solve fault) = fault ≢ solving.Memory
HasLine names (Plan fault) = HasPlanLine names fault
HasLine names fault = Unit {0}
