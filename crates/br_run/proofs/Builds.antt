-- What builds give.
use Rattle.std.proofs.Common.{ℕ, ◌≡◌, ◌≢◌, ◌+◌, ◌<◌, Bool, true, false, not, cond, List, [], ◌∷◌, ◌++◌, length, Result, Ok, Err, refl, sym, ap, subst, ◌∙◌, arith}
use Rattle.std.specs.Prelude.{All, IfOk}
use Rattle.std.specs.Prelude.{filter}
use Rattle.std.specs.List.{range_with_len}
use Rattle.std.proofs.lemmas.Bool.{true≢false, eqb-true}
use Rattle.std.proofs.lemmas.List.Elements.{All-append, All-map}
use Rattle.std.proofs.lemmas.List.Folds.{list_any_at}
use Rattle.std.proofs.lemmas.List.FromFn.{length-range_with_len, get_or-range_with_len}
use Rattle.br_path.specs.declared.area.Area.{Area}
use Rattle.br_path.specs.declared.area.Area.TheVariants as areas
use Rattle.br_path.specs.declared.values.Memory.{Memory as Want}
use Rattle.br_path.specs.Files.{FileMap}
use Rattle.plan_rows.specs.Plan.{Planned, IsPlan}
use Rattle.task_shelves.specs.declared.overwrites.Overwrite.{Overwrite}
use Rattle.task_shelves.specs.Grounded.{AreGrounded}
use Rattle.serial_build.specs.Serial.{HasNotFailed}
use Rattle.task_shelves.specs.Packages.{Left, packages_left}
use Rattle.task_shelves.specs.Shelf.{ShelfData, Built, Failed, Skipped}
use Rattle.serial_build.proofs.Grounds.{serial_grounded}
use Rattle.serial_build.proofs.Skips.{built_unless_failed}
use Rattle.build_workers.specs.Recipes.{recipe_shell}
use Rattle.build_workers.proofs.Recipes.{recipes_keep, recipes_keep_root}
use Rattle.root_merge.specs.Overwrites.{overwrites_of, overwrites_in, overwrite_at, is_overwritten, paths_written}
use Rattle.build_report.specs.Builds.{IsInstalled}
use Rattle.br_run.specs.declared.answer.Answer.{Answer}
use Rattle.br_run.specs.declared.status.Status.TheVariants.{PackagesFailed, Overwrites}
use Rattle.br_run.specs.Answer.{IsBuildAnswer, build}
use Rattle.br_run.specs.Built.{shelves_of, has_failed, some_failed, some_overwritten, without_image, with_image, build_answer}
use Rattle.br_run.specs.Planned.{IsPlanWith}

not_failed : (shelf : ShelfData) → has_failed shelf ≡ false → HasNotFailed shelf
not_failed (Built trees written stamps) is = tt
not_failed (Failed step line status reason stamps) is = absurd (true≢false is)
not_failed (Skipped by) is = tt

-- where no task failed, none of them did
none_failed : (plan : Planned) (shelves : ℕ → ShelfData) → some_failed plan shelves ≡ false → (task : ℕ) → task < length plan.rows → HasNotFailed (shelves task)
none_failed plan shelves none task below = not_failed (shelves task) (by (has_failed (shelves task)) refl)
  where
    p : ℕ → Bool
    p = λ task. has_failed (shelves task)

    all : List ℕ
    all = range_with_len 0 (length plan.rows)

    inside : task < length all
    inside = subst (λ n. task < n) (sym (length-range_with_len 0 (length plan.rows))) below

    same : 0 + task ≡ task
    same = omega arith

    by : (b : Bool) → has_failed (shelves task) ≡ b → b ≡ false
    by false is = refl
    by true is = absurd (true≢false (sym (list_any_at p all task 0 inside (ap p (get_or-range_with_len 0 (length plan.rows) task 0 below ∙ same) ∙ is)) ∙ none))

-- where no task failed, all that stands in a target tree was written
pub grounded_unless_failed : (files : FileMap) (plan : Planned) → IsPlan plan → some_failed plan (shelves_of files plan) ≡ false → AreGrounded plan (shelves_of files plan)
grounded_unless_failed files plan is none =
    serial_grounded plan (recipe_shell files) is (recipes_keep files) (recipes_keep_root files) (built_unless_failed plan (recipe_shell files) is (none_failed plan (shelves_of files plan) none))

-- overwritten paths are of areas that packages install into
installed_in : (area : Area) → area ≢ areas.Build → (packages : List Left) → All IsInstalled (overwrites_in area packages)
installed_in area other packages =
    All-map IsInstalled (overwrite_at area packages) (filter (is_overwritten area packages) (paths_written area packages)) (λ k d below. other)

pub all_installed : (plan : Planned) (shelves : ℕ → ShelfData) → All IsInstalled (overwrites_of plan shelves)
all_installed plan shelves =
    let packages = packages_left plan shelves in
    All-append IsInstalled (overwrites_in areas.Host packages ++ overwrites_in areas.Staging packages) (overwrites_in areas.Target packages)
    (All-append IsInstalled (overwrites_in areas.Host packages) (overwrites_in areas.Staging packages) (installed_in areas.Host (λ is. cc) packages) (installed_in areas.Staging (λ is. cc) packages))
    (installed_in areas.Target (λ is. cc) packages)

-- shelves that are those of the serial build
abbrev pub AreBuilt : FileMap → Planned → (ℕ → ShelfData) → Type 0
AreBuilt files plan shelves = (task : ℕ) → shelves task ≡ shelves_of files plan task

pub built_grounded : (files : FileMap) (plan : Planned) (shelves : ℕ → ShelfData) → IsPlan plan → AreBuilt files plan shelves → some_failed plan shelves ≡ false → AreGrounded plan shelves
built_grounded files plan shelves is each =
    let same : shelves ≡ shelves_of files plan = λ i task. each task i in
    subst (λ s. some_failed plan s ≡ false → AreGrounded plan s) (sym same) (grounded_unless_failed files plan is)

pub built_answer : (files : FileMap) (plan : Planned) (forced : List (List ℕ)) (shelves : ℕ → ShelfData) (result : Result Answer Want)
    → IsPlanWith files plan forced → AreBuilt files plan shelves → IfOk result (λ answer. answer ≡ build_answer plan shelves forced) → IfOk result (IsBuildAnswer files)
built_answer files plan forced shelves result planned each made =
    let same : shelves ≡ shelves_of files plan = λ i task. each task i in
    is_answer result (subst (λ s. IfOk result (λ answer. answer ≡ build_answer plan s forced)) same made)
  where
    is_answer : (result : Result Answer Want) → IfOk result (λ answer. answer ≡ build_answer plan (shelves_of files plan) forced) → IfOk result (IsBuildAnswer files)
    is_answer (Ok answer) is = subst (IsBuildAnswer files) (sym is) (build plan forced planned)
    is_answer (Err want) is = tt

-- the answer by whether a task failed, and whether a path was overwritten
pub answer_where_failed : (plan : Planned) (shelves : ℕ → ShelfData) (forced : List (List ℕ)) → some_failed plan shelves ≡ true → build_answer plan shelves forced ≡ without_image plan shelves forced PackagesFailed
answer_where_failed plan shelves forced is =
    ap (λ b. cond b (without_image plan shelves forced PackagesFailed) (cond (some_overwritten (overwrites_of plan shelves)) (without_image plan shelves forced Overwrites) (with_image plan shelves forced))) is

answer_unfailed : (plan : Planned) (shelves : ℕ → ShelfData) (forced : List (List ℕ)) (over : Bool) → some_failed plan shelves ≡ false → some_overwritten (overwrites_of plan shelves) ≡ over
    → build_answer plan shelves forced ≡ cond over (without_image plan shelves forced Overwrites) (with_image plan shelves forced)
answer_unfailed plan shelves forced over none is =
    ap (λ b. cond b (without_image plan shelves forced PackagesFailed) (cond (some_overwritten (overwrites_of plan shelves)) (without_image plan shelves forced Overwrites) (with_image plan shelves forced))) none
    ∙ ap (λ b. cond b (without_image plan shelves forced Overwrites) (with_image plan shelves forced)) is

pub answer_where_overwritten : (plan : Planned) (shelves : ℕ → ShelfData) (forced : List (List ℕ)) → some_failed plan shelves ≡ false → some_overwritten (overwrites_of plan shelves) ≡ true
    → build_answer plan shelves forced ≡ without_image plan shelves forced Overwrites
answer_where_overwritten plan shelves forced = answer_unfailed plan shelves forced true

pub answer_where_whole : (plan : Planned) (shelves : ℕ → ShelfData) (forced : List (List ℕ)) → some_failed plan shelves ≡ false → some_overwritten (overwrites_of plan shelves) ≡ false
    → build_answer plan shelves forced ≡ with_image plan shelves forced
answer_where_whole plan shelves forced = answer_unfailed plan shelves forced false

-- what is answered is the answer, where it is what the answer is
pub answered : (answer other : Answer) (result : Result Answer Want) → other ≡ answer → IfOk result (λ a. a ≡ answer) → IfOk result (λ a. a ≡ other)
answered answer other (Ok a) same is = is ∙ sym same
answered answer other (Err want) same is = tt

-- no path was overwritten
pub none_overwritten : (overwritten : List Overwrite) → some_overwritten overwritten ≡ false → overwritten ≡ []
none_overwritten [] is = refl
none_overwritten (one ∷ more) is = let none : length (one ∷ more) ≡ 0 = eqb-true (length (one ∷ more)) 0 (by _ is) in absurd (omega arith)
  where
    by : (b : Bool) → not b ≡ false → b ≡ true
    by true is = refl
    by false is = absurd (true≢false is)
