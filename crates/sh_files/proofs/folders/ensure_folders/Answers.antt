use Rattle.std.proofs.Common.{ℕ, List, ◌∷◌, All, sym, ap, subst, ◌∙◌}
use Rattle.std.proofs.lemmas.List.Elements.{All-tail}
use Rattle.tree_ops.specs.Walk.{IsWalk}
use Rattle.tree_worlds.specs.World.{world_data}
use Rattle.tree_worlds.specs.Program.{run}
use Rattle.sh_files.specs.Folders.{ensure_folder}
use Rattle.sh_files.proofs.Walked.{walk-longer, next-walk, folders-on}
use Rattle.sh_files.proofs.folders.ensure_folders.Goals as goal

pub ensure_folder-requires-clause-walk : goal.ensure_folder-requires-clause-walk
ensure_folder-requires-clause-walk g c =
    subst IsWalk (sym c.as_slice-in-Some.ensures.value)
    (walk-longer c.loop-name.front.items c.as_slice.result.now c.put_step.new.walk.items c.in_ok-put_step.ensures c.loop-name.invariant.front
    (next-walk c.loop-name.left.now c.in-Some.more.now c.in-Some.name.now c.as_slice.result.now c.in-Some.ensures.cases.0 c.as_slice.ensures c.loop-name.invariant.names))

pub loop-name-preserved : goal.loop-name-preserved
loop-name-preserved g c =
    let world = world_data g.T.TreeOps.tree c.loop-name.world in
    let new = world_data g.T.TreeOps.tree c.ensure_folder.new.world in
    record {
      left = folders-on c.args.files.now c.args.site c.args.mode c.mode_before.result c.loop-name.front.items c.put_step.new.walk.items c.as_slice.result.now c.in-Some.more.now c.loop-name.left.now world new
          (c.in-Some.ensures.cases.0 ∙ ap (λ (name : List ℕ). name ∷ c.in-Some.more.now) (sym c.as_slice.ensures)) c.in_ok-put_step.ensures c.mode_before.ensures.mode
          (ap (λ (walk : List ℕ). run (ensure_folder c.args.files.now c.args.site c.mode_before.result walk) world) (sym c.as_slice-in-Some.ensures.value) ∙ c.in_ok-ensure_folder.ensures.ran)
          ∙ c.loop-name.invariant.left;
      held = c.in_ok-ensure_folder.ensures.held;
      front = walk-longer c.loop-name.front.items c.as_slice.result.now c.put_step.new.walk.items c.in_ok-put_step.ensures c.loop-name.invariant.front
          (next-walk c.loop-name.left.now c.in-Some.more.now c.in-Some.name.now c.as_slice.result.now c.in-Some.ensures.cases.0 c.as_slice.ensures c.loop-name.invariant.names);
      names = All-tail IsWalk c.in-Some.name.now c.in-Some.more.now (subst (All IsWalk) c.in-Some.ensures.cases.0 c.loop-name.invariant.names);
    }
