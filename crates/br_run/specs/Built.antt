-- What a build gives: the report, and the image where there is one.
use Rattle.std.specs.Prelude.{ℕ, Bool, true, false, not, ◌==◌, List, length, Option, Some, None, if◌then◌else◌}
use Rattle.std.specs.List.{list_any, range_with_len}
use Rattle.br_path.specs.Files.{FileMap}
use Rattle.plan_rows.specs.Plan.{Planned}
use Rattle.task_shelves.specs.declared.overwrites.Overwrite.{Overwrite}
use Rattle.task_shelves.specs.Shelf.{ShelfData, Built, Failed, Skipped}
use Rattle.serial_build.specs.Serial.{serial_build}
use Rattle.build_workers.specs.Recipes.{recipe_shell}
use Rattle.root_merge.specs.Overwrites.{overwrites_of}
use Rattle.root_merge.specs.Roots.{root_entries}
use Rattle.root_image.specs.Lines.{image_text}
use Rattle.build_report.specs.Builds.{build_text}
use Rattle.br_run.specs.declared.answer.Answer.{Answer}
use Rattle.br_run.specs.declared.status.Status.{Status}
use Rattle.br_run.specs.declared.status.Status.TheVariants.{Done, PackagesFailed, Overwrites}
use Rattle.br_run.specs.Status.{number_of}

-- the shelves of a plan's tasks, built one after another
abbrev pub shelves_of : FileMap → Planned → ℕ → ShelfData
shelves_of files plan = serial_build plan (recipe_shell files)

abbrev pub has_failed : ShelfData → Bool
has_failed (Built trees written stamps) = false
has_failed (Failed step line status reason stamps) = true
has_failed (Skipped by) = false

-- a task of the plan failed, and so a package
abbrev pub some_failed : Planned → (ℕ → ShelfData) → Bool
some_failed plan shelves = list_any (λ task. has_failed (shelves task)) (range_with_len 0 (length plan.rows))

abbrev pub some_overwritten : List Overwrite → Bool
some_overwritten overwritten = not (length overwritten == 0)

-- the report, by how many entries the image has, if one is put
abbrev pub report_of : Planned → (ℕ → ShelfData) → List (List ℕ) → Option ℕ → Status → List ℕ
report_of plan shelves forced entries status = build_text plan shelves forced (overwrites_of plan shelves) entries (number_of status)

abbrev pub without_image : Planned → (ℕ → ShelfData) → List (List ℕ) → Status → Answer
without_image plan shelves forced status = record { status = status; report = report_of plan shelves forced None status; image = None }

-- the image of what all packages wrote
abbrev pub with_image : Planned → (ℕ → ShelfData) → List (List ℕ) → Answer
with_image plan shelves forced = record {
  status = Done;
  report = report_of plan shelves forced (Some (length (root_entries plan shelves))) Done;
  image = Some (image_text (root_entries plan shelves));
}

-- an image is put where no package failed and no path was overwritten
abbrev pub build_answer : Planned → (ℕ → ShelfData) → List (List ℕ) → Answer
build_answer plan shelves forced =
    if some_failed plan shelves then without_image plan shelves forced PackagesFailed else
    if some_overwritten (overwrites_of plan shelves) then without_image plan shelves forced Overwrites else with_image plan shelves forced
