-- The text of a build: what became of each package, the paths that several wrote, and the image.
use Rattle.std.specs.Prelude.{ℕ, ◌/◌, ◌≢◌, List, [], ◌∷◌, ◌++◌, flat_map, length, slice_get, codes, Option, Some, None}
use Rattle.std.specs.List.{join_with_byte, range_with_len}
use Rattle.std.specs.Fmt.{decimal}
use Rattle.br_path.specs.Path.{path_text}
use Rattle.br_path.specs.declared.area.Area.{Area}
use Rattle.br_path.specs.declared.area.Area.TheVariants as areas
use Rattle.plan_rows.specs.declared.rows.Step.{Step}
use Rattle.plan_rows.specs.declared.rows.Step.TheVariants as step
use Rattle.plan_rows.specs.declared.rows.TaskRow.{TaskRow}
use Rattle.plan_rows.specs.Plan.{Planned}
use Rattle.tree_ops.specs.declared.change.ChangeFault.{ChangeFault}
use Rattle.tree_ops.specs.declared.change.ChangeFault.TheVariants as change
use Rattle.tree_worlds.specs.declared.reason.Reason.{Reason}
use Rattle.tree_worlds.specs.declared.reason.Reason.TheVariants as reason
use Rattle.task_shelves.specs.declared.overwrites.Overwrite.{Overwrite}
use Rattle.task_shelves.specs.Shelf.{ShelfData, Built, Failed, Skipped}
use Rattle.build_report.specs.Lines.{line, status_line}
use Rattle.build_report.specs.Plans.{task_text}

-- 1. Words.

abbrev pub step_word : Step → List ℕ
step_word step.Populate = codes "populate"
step_word step.Extract = codes "extract"
step_word step.Patch = codes "patch"
step_word step.Configure = codes "configure"
step_word step.Build = codes "build"
step_word step.Host = codes "host"
step_word step.Staging = codes "staging"
step_word step.Target = codes "target"

-- a path that is too long for a tree is reported as an operand; out of memory is no reason
abbrev pub change_word : ChangeFault → List ℕ
change_word change.Absent = codes "absent"
change_word change.Present = codes "present"
change_word change.NotDir = codes "not-dir"
change_word change.IsDir = codes "is-dir"
change_word change.IsLink = codes "is-link"
change_word change.NotEmpty = codes "not-empty"
change_word change.ReadOnly = codes "read-only"
change_word change.Outside = codes "outside"
change_word change.Loop = codes "loop"
change_word change.Crosses = codes "crosses"
change_word change.NoSpace = codes "no-space"
change_word change.TooLong = codes "operand"
change_word change.Memory = []

abbrev pub reason_word : Reason → List ℕ
reason_word reason.NotFound = codes "not-found"
reason_word reason.Syntax = codes "syntax"
reason_word reason.Option = codes "option"
reason_word reason.Operand = codes "operand"
reason_word reason.False = codes "false"
reason_word reason.Same = codes "same"
reason_word (reason.Change fault) = change_word fault

-- the areas that packages install into; no path of a build tree is reported
abbrev pub area_word : Area → List ℕ
area_word areas.Host = codes "host"
area_word areas.Staging = codes "staging"
area_word areas.Target = codes "target"
area_word areas.Build = []

-- 2. Packages.

abbrev pub built_line : List ℕ → List ℕ
built_line owner = line (codes "built " ++ owner)

-- `failed zlib build 2 127 not-found`: the step, the number of the line in it, the status, the reason
abbrev pub failed_line : List ℕ → Step → ℕ → ℕ → Reason → List ℕ
failed_line owner at number status cause =
    line (codes "failed " ++ owner ++ 32 ∷ (step_word at ++ 32 ∷ (decimal number ++ 32 ∷ (decimal status ++ 32 ∷ reason_word cause))))

-- `skipped zlib musl:make`: the needed task that isn't built
abbrev pub skipped_line : Planned → List ℕ → ℕ → List ℕ
skipped_line plan owner by = line (codes "skipped " ++ owner ++ 32 ∷ task_text plan by)

-- a package failed if its prep did, or else if its make did; it was skipped if its prep was, or else if its make was; else it is built
abbrev pub package_line : Planned → List ℕ → ShelfData → ShelfData → List ℕ
package_line plan owner (Failed at number status cause stamps) make = failed_line owner at number status cause
package_line plan owner prep (Failed at number status cause stamps) = failed_line owner at number status cause
package_line plan owner (Skipped by) make = skipped_line plan owner by
package_line plan owner prep (Skipped by) = skipped_line plan owner by
package_line plan owner (Built trees written stamps) (Built others paths more) = built_line owner

-- the line of the package whose make is this task; a prep has no line of its own
abbrev pub make_line : Planned → (ℕ → ShelfData) → ℕ → Option ℕ → List ℕ → List ℕ
make_line plan shelves task None owner = []
make_line plan shelves task (Some prep) owner = package_line plan owner (shelves prep) (shelves task)

abbrev pub row_line : Planned → (ℕ → ShelfData) → ℕ → Option TaskRow → List ℕ
row_line plan shelves task (Some row) = make_line plan shelves task row.own_prep row.package
row_line plan shelves task None = []

abbrev pub task_line : Planned → (ℕ → ShelfData) → ℕ → List ℕ
task_line plan shelves task = row_line plan shelves task (slice_get plan.rows task)

-- the packages, by name
abbrev pub package_lines : Planned → (ℕ → ShelfData) → List ℕ
package_lines plan shelves = flat_map (task_line plan shelves) (range_with_len 0 (length plan.rows))

-- 3. Overwritten paths.

-- `overwrite target musl,zlib /usr/lib/libz.so`, with all its packages; the root is `/`
abbrev pub overwrite_line : Overwrite → List ℕ
overwrite_line one = line (codes "overwrite " ++ area_word one.area ++ 32 ∷ (join_with_byte 44 one.packages ++ 32 ∷ 47 ∷ path_text one.path))

-- an area that packages install into
abbrev pub IsInstalled : Overwrite → Type 0
IsInstalled one = one.area ≢ areas.Build

-- 4. The report.

-- `build 12`: how many packages the plan has, which have two tasks each
abbrev pub head_line : Planned → List ℕ
head_line plan = line (codes "build " ++ decimal (length plan.rows / 2))

-- a symbol that is forced to be y
abbrev pub selected_line : List ℕ → List ℕ
selected_line symbol = line (codes "selected " ++ symbol)

-- how many entries the image has, if one is put
abbrev pub image_line : Option ℕ → List ℕ
image_line (Some entries) = line (codes "image " ++ decimal entries)
image_line None = []

abbrev pub build_text : Planned → (ℕ → ShelfData) → List (List ℕ) → List Overwrite → Option ℕ → ℕ → List ℕ
build_text plan shelves forced overwrites entries status =
    head_line plan ++ flat_map selected_line forced ++ package_lines plan shelves ++ flat_map overwrite_line overwrites ++ image_line entries ++ status_line status
