-- What each filling of a world keeps, all fillings of a task keep.
use Rattle.std.proofs.Common.{ℕ, Bool, true, false, cond, List, [], ◌∷◌, Result, Ok, Err}
use Rattle.br_path.specs.declared.area.Area.{Area}
use Rattle.br_path.specs.declared.area.Area.TheVariants.{Build, Host, Staging, Target}
use Rattle.plan_rows.specs.declared.rows.TaskRow.{TaskRow}
use Rattle.tree_ops.specs.Tree.{Tree}
use Rattle.tree_worlds.specs.declared.reason.Reason.{Reason}
use Rattle.tree_worlds.specs.World.{WorldData, AreaTrees, ReadableTree, shown_too, readable}
use Rattle.task_shelves.specs.Labels.{is_among}
use Rattle.task_shelves.specs.Shelf.{ShelfData, Built, Failed, Skipped}
use Rattle.pkg_steps.specs.Filling.{Handed, is_own_prep, fill, ◌>->◌, given_by, filled}

-- what holds of the world that is left, if one is
abbrev pub OfWorld : (WorldData → Type 0) → Result WorldData Reason → Type 0
OfWorld is (Ok world) = is world
OfWorld is (Err reason) = Unit {0}

module _ (is : WorldData → Type 0) where
  then-kept : (first : Result WorldData Reason) (next : WorldData → Result WorldData Reason) → ((world : WorldData) → is world → OfWorld is (next world)) → OfWorld is first → OfWorld is (first >-> next)
  then-kept (Ok world) next each was = each world was
  then-kept (Err reason) next each was = tt

  module _
      (each : (area : Area) (from : Tree) (world : WorldData) → is world → OfWorld is (fill area from world))
      (showing : (world : WorldData) (more : ReadableTree) → is world → is (shown_too world more))
    where
      built-kept : (owner : ℕ → List ℕ) (task : ℕ) (trees : AreaTrees) (world : WorldData) (own fills reads : Bool) → is world
          → OfWorld is (cond own (fill Build trees.build world) (cond fills (fill Host trees.host world >-> fill Staging trees.staging >-> fill Target trees.target)
          (cond reads (Ok (shown_too world (readable task (owner task) trees.build))) (Ok world))))
      built-kept owner task trees world true fills reads was = each Build trees.build world was
      built-kept owner task trees world false true reads was =
          then-kept (fill Host trees.host world >-> fill Staging trees.staging) (fill Target trees.target) (λ w. each Target trees.target w)
          (then-kept (fill Host trees.host world) (fill Staging trees.staging) (λ w. each Staging trees.staging w) (each Host trees.host world was))
      built-kept owner task trees world false false true was = showing world (readable task (owner task) trees.build) was
      built-kept owner task trees world false false false was = was

      given-kept : (row : TaskRow) (owner : ℕ → List ℕ) (task : ℕ) (shelf : ShelfData) (world : WorldData) → is world → OfWorld is (given_by row owner task shelf world)
      given-kept row owner task (Built trees written stamps) world was = built-kept owner task trees world (is_own_prep row.own_prep task) (is_among row.fills task) (is_among row.readable task) was
      given-kept row owner task (Failed step line status reason stamps) world was = was
      given-kept row owner task (Skipped by) world was = was

      pub filled-kept : (row : TaskRow) (owner : ℕ → List ℕ) (handed : Handed) (world : WorldData) → is world → OfWorld is (filled row owner handed world)
      filled-kept row owner [] world was = was
      filled-kept row owner ((task, shelf) ∷ more) world was =
          then-kept (given_by row owner task shelf world) (filled row owner more) (λ w. filled-kept row owner more w) (given-kept row owner task shelf world was)
