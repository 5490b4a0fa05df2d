-- What stands on a task's shelf is the task's own, or came from the shelves that were handed in.
use Rattle.std.proofs.Common.{ℕ, ◌≡◌, ◌⊎◌, Bool, true, false, not, List, [], Option, Some, None, Result, Ok, Err, refl, sym, ap, ◌∙◌, inl, inr, true≢false}
use Rattle.std.proofs.lemmas.Bool.{eqb-true}
use Rattle.br_path.specs.Path.{Names}
use Rattle.br_path.specs.declared.area.Area.{Area}
use Rattle.br_path.specs.declared.area.Area.TheVariants.{Build, Host, Staging, Target}
use Rattle.plan_rows.specs.declared.rows.Part.{Part}
use Rattle.plan_rows.specs.declared.rows.Part.TheVariants.{Prep, Make}
use Rattle.plan_rows.specs.declared.rows.TaskRow.{TaskRow}
use Rattle.tree_names.specs.Changes.{is_node}
use Rattle.tree_ops.specs.declared.entry.Contents.{Contents}
use Rattle.tree_ops.specs.declared.entry.Label.{Label}
use Rattle.tree_ops.specs.declared.entry.Node.{Node}
use Rattle.tree_ops.specs.declared.entry.Node.TheVariants.{Dir}
use Rattle.tree_ops.specs.Change.{is_own}
use Rattle.tree_ops.specs.Tree.{node_at, empty_tree}
use Rattle.tree_worlds.specs.declared.reason.Reason.{Reason}
use Rattle.tree_worlds.specs.Kept.{Keeps}
use Rattle.tree_worlds.specs.World.{WorldData, AreaTrees, empty_trees}
use Rattle.tree_worlds.proofs.Keeping.{IsKept-Keeps}
use Rattle.task_shelves.specs.declared.shelf.Stamp.{Stamp}
use Rattle.task_shelves.specs.Packages.{has_written}
use Rattle.task_shelves.specs.Shelf.{ShelfData, Built, Failed, Skipped}
use Rattle.pkg_steps.specs.Filling.{Handed, first_unbuilt, filled, begun}
use Rattle.pkg_steps.specs.Lines.{Shell, Standing, Runs, Stopped, steps_run}
use Rattle.pkg_steps.specs.Origins.{KeepsEach}
use Rattle.pkg_steps.specs.Outcome.{written, shelved, ended, run_in, unless_skipped, outcome}
use Rattle.pkg_steps.proofs.Kept.{KeptAt, steps-keep}
use Rattle.serial_build.specs.Roots.{KeepsRoot}
use Rattle.serial_build.proofs.Origins.{IfBuilt, IsHandedIn, HasNode, HasContents, Grows}
use Rattle.serial_build.proofs.Filled.{node-empty, root-empty, contents-empty, Starts, Starts-all}
use Rattle.serial_build.proofs.Roots.{IsKept-KeepsRoot}
use Rattle.serial_build.proofs.Wrote.{is_node-same, was_there, has_written-is}

not-true : (b : Bool) → not b ≡ true → b ≡ false
not-true true is = absurd (true≢false (sym is))
not-true false is = refl

module _ (task : ℕ) (handed : Handed) (old new : WorldData) (starts : Starts task handed old) (keeps : Keeps old new) (rooted : KeepsRoot old new) where
  abbrev IsDrawn : Area → Label → Contents → Type 0
  IsDrawn area label contents = (label.task ≡ task) ⊎ IsHandedIn (HasContents area label contents) handed

  -- a label of a world that was kept is the task's own, or was there before
  drawn-or-old : (area : Area) (label : Label) (contents : Contents) → HasContents area label contents new.trees → IsDrawn area label contents
  drawn-or-old area label contents there = by (is_own old.pen label) refl
    where
      by : (b : Bool) → is_own old.pen label ≡ b → IsDrawn area label contents
      by true own = inl (eqb-true label.task old.pen.task own ∙ starts.pen)
      by false foreign = elim (keeps.contents area label foreign) [
        | inl stays ↦ inr (starts.drawn area label contents (sym stays ∙ there))
        | inr gone ↦ let none : Some contents ≡ None = sym there ∙ gone in cc
      ]

  -- what a prep leaves is its build tree
  prep-drawn : (area : Area) (label : Label) (contents : Contents) → HasContents area label contents (record empty_trees { build = new.trees.build }) → IsDrawn area label contents
  prep-drawn Build label contents there = drawn-or-old Build label contents there
  prep-drawn Host label contents there = absurd (contents-empty label contents there)
  prep-drawn Staging label contents there = absurd (contents-empty label contents there)
  prep-drawn Target label contents there = absurd (contents-empty label contents there)

  -- what a make leaves are all others
  make-drawn : (area : Area) (label : Label) (contents : Contents) → HasContents area label contents (record new.trees { build = empty_tree }) → IsDrawn area label contents
  make-drawn Build label contents there = absurd (contents-empty label contents there)
  make-drawn Host label contents there = drawn-or-old Host label contents there
  make-drawn Staging label contents there = drawn-or-old Staging label contents there
  make-drawn Target label contents there = drawn-or-old Target label contents there

  make-entries : (path : Names) (node : Node) → HasNode path node new.trees
      → ((path ≡ []) × (node ≡ Dir 493)) ⊎ ((Make ≡ Make) × (has_written Target path (written old.trees new.trees) ≡ true)) ⊎ IsHandedIn (HasNode path node) handed
  make-entries path node there = by (is_node (node_at old.trees.target path) (node_at new.trees.target path)) refl
    where
      by : (b : Bool) → is_node (node_at old.trees.target path) (node_at new.trees.target path) ≡ b
          → ((path ≡ []) × (node ≡ Dir 493)) ⊎ ((Make ≡ Make) × (has_written Target path (written old.trees new.trees) ≡ true)) ⊎ IsHandedIn (HasNode path node) handed
      by true same = elim (starts.entries path node (is_node-same (node_at old.trees.target path) (node_at new.trees.target path) same ∙ there)) [
        | inl first ↦ inl first
        | inr later ↦ inr (inr later)
      ]
      by false differ = inr (inl (refl, has_written-is old.trees new.trees path ∙ ap not differ))

  make-removed : (path : Names) → has_written Target path (written old.trees new.trees) ≡ true → node_at new.trees.target path ≡ None → (path ≡ []) ⊎ ((node : Node) × IsHandedIn (HasNode path node) handed)
  make-removed path wrote gone =
      let was = was_there (node_at old.trees.target path) (node_at new.trees.target path)
      (not-true (is_node (node_at old.trees.target path) (node_at new.trees.target path)) (sym (has_written-is old.trees new.trees path) ∙ wrote)) gone in
      elim (starts.entries path was.0 was.1) [
        | inl first ↦ inl first.0
        | inr later ↦ inr (was.0, later)
      ]

  shelved-grows : (part : Part) (stamps : List Stamp) → IfBuilt (Grows task part handed) (shelved part old.trees new.trees stamps)
  shelved-grows Prep stamps = record {
    entries = λ path node there. inl (node-empty path node there);
    removed = λ path wrote gone. absurd (true≢false (sym wrote));
    drawn = prep-drawn;
    root = root-empty;
  }
  shelved-grows Make stamps = record { entries = make-entries; removed = make-removed; drawn = make-drawn; root = rooted starts.root }

module _ (shell : Shell) (each : KeepsEach Keeps shell) (roots : KeepsEach KeepsRoot shell) (task : ℕ) (handed : Handed) where
  ended-grows : (old : WorldData) (part : Part) (standing : Standing) → Starts task handed old → KeptAt Keeps IsKept-Keeps shell each old standing → KeptAt KeepsRoot IsKept-KeepsRoot shell roots old standing
      → IfBuilt (Grows task part handed) (ended part old.trees standing)
  ended-grows old part (Runs world stamps) starts kept rooted = shelved-grows task handed old world starts kept rooted part stamps
  ended-grows old part (Stopped (Built trees written stamps)) starts kept rooted = absurd kept
  ended-grows old part (Stopped (Failed step line status reason stamps)) starts kept rooted = tt
  ended-grows old part (Stopped (Skipped by)) starts kept rooted = tt

  run-grows : (row : TaskRow) (made : Result WorldData Reason) → ((world : WorldData) → made ≡ Ok world → Starts task handed world) → IfBuilt (Grows task row.part handed) (run_in row shell made)
  run-grows row (Ok world) starts =
      ended-grows world row.part (steps_run shell row.steps (Runs world [])) (starts world refl)
      (steps-keep Keeps IsKept-Keeps shell each world row.steps (Runs world []) (IsKept-Keeps.same world))
      (steps-keep KeepsRoot IsKept-KeepsRoot shell roots world row.steps (Runs world []) (λ there. there))
  run-grows row (Err cause) starts = tt

  unless-grows : (is : AreaTrees → List (Area × Names) → Type 0) (unbuilt : Option ℕ) (shelf : ShelfData) → IfBuilt is shelf → IfBuilt is (unless_skipped unbuilt shelf)
  unless-grows is None shelf h = h
  unless-grows is (Some by) shelf h = tt

  pub outcome_grows : (row : TaskRow) (owner : ℕ → List ℕ) → IfBuilt (Grows task row.part handed) (outcome row shell owner task handed)
  outcome_grows row owner =
      unless-grows (Grows task row.part handed) (first_unbuilt handed) (run_in row shell (filled row owner handed (begun row task)))
      (run-grows row (filled row owner handed (begun row task)) (λ world is. Starts-all row owner task handed world is))
