-- A world with another tree in one area, and another pen.
use Rattle.std.proofs.Common.{ℕ, ◌+◌, ◌≡◌, Bool, Result, Ok, Err, refl, sym, ap, ◌∙◌, arith}
use Rattle.std.specs.Prelude.{OnErr}
use Rattle.std.specs.FinMap as fin
use Rattle.br_path.specs.declared.area.Area.{Area}
use Rattle.br_path.specs.declared.area.Area.TheVariants.{Build, Host, Staging, Target}
use Rattle.tree_ops.specs.declared.change.ChangeFault.{ChangeFault}
use Rattle.tree_ops.specs.declared.change.ChangeFault.TheVariants.{Memory}
use Rattle.tree_ops.specs.declared.entry.Label.{Label}
use Rattle.tree_ops.specs.declared.pen.Pen.{Pen}
use Rattle.tree_ops.specs.Pen.{counts_of}
use Rattle.tree_ops.specs.Tree.{Tree}
use Rattle.tree_ops.specs.Change.{Change, IsChange, seen, text_bytes}
use Rattle.tree_ops.specs.Held.{IsHeld}
use Rattle.tree_ops.proofs.Counting.{names-IsChange, texts-IsChange, root-counts}
use Rattle.tree_ops.proofs.Outcomes.{IsHeld-later, IsLater-IsChange}
use Rattle.tree_worlds.specs.declared.world.Trees.{Trees}
use Rattle.tree_worlds.specs.declared.world.World.{World}
use Rattle.tree_worlds.specs.World.{world_data, with_state, state_in}
use Rattle.tree_worlds.specs.HeldWorld.{IsHeldWorld, IsAsBefore}
use Rattle.tree_worlds.proofs.Putting.{put_same}

-- the tree of an area in the code
abbrev pub tree_of : {T : Type 0} → Trees T → Area → T
tree_of trees Build = trees.build
tree_of trees Host = trees.host
tree_of trees Staging = trees.staging
tree_of trees Target = trees.target

abbrev pub replaced : {T : Type 0} → World T → Area → T → Pen → World T
replaced world Build t pen = record world { trees = record world.trees { build = t }; pen = pen }
replaced world Host t pen = record world { trees = record world.trees { host = t }; pen = pen }
replaced world Staging t pen = record world { trees = record world.trees { staging = t }; pen = pen }
replaced world Target t pen = record world { trees = record world.trees { target = t }; pen = pen }

module _ {T : Type 0} (tree : T → Tree) (sealed : T → Label → Bool) (copying : ℕ → ℕ → ℕ) (change : Change) (old : World T) (t : T) (pen : Pen) where
  abbrev Made : Area → Result (Unit {0}) ChangeFault → Type 0
  Made area result = IsChange copying change (tree (tree_of old.trees area), old.pen) result (tree t, pen)

  -- what is held stays held, and the pen's counts stay those of the four trees
  pub held-replaced : (area : Area) (result : Result (Unit {0}) ChangeFault) → IsHeldWorld tree sealed old → IsHeld (tree t) (sealed t) (counts_of pen) → Made area result → IsHeldWorld tree sealed (replaced old area t pen)
  held-replaced Build result held new made =
      let later = IsLater-IsChange copying change (tree old.trees.build, old.pen) (tree t, pen) result made in
      let own = root-counts (tree t) new.sound in
      let first = root-counts (tree old.trees.host) held.host.sound in
      let second = root-counts (tree old.trees.staging) held.staging.sound in
      let third = root-counts (tree old.trees.target) held.target.sound in
      let names_were = held.names in
      let texts_were = held.path_bytes in
      let names = names-IsChange copying change (tree old.trees.build, old.pen) (tree t, pen) result (fin.len (tree old.trees.host).names + fin.len (tree old.trees.staging).names + fin.len (tree old.trees.target).names) 4 made (omega arith) (omega arith) in
      let texts = texts-IsChange copying change (tree old.trees.build, old.pen) (tree t, pen) result (text_bytes (tree old.trees.host) + text_bytes (tree old.trees.staging) + text_bytes (tree old.trees.target)) made (omega arith) in
      record {
        build = new;
        host = IsHeld-later _ _ _ _ later held.host;
        staging = IsHeld-later _ _ _ _ later held.staging;
        target = IsHeld-later _ _ _ _ later held.target;
        shown = held.shown;
        names = omega arith;
        path_bytes = omega arith;
      }
  held-replaced Host result held new made =
      let later = IsLater-IsChange copying change (tree old.trees.host, old.pen) (tree t, pen) result made in
      let own = root-counts (tree t) new.sound in
      let first = root-counts (tree old.trees.build) held.build.sound in
      let second = root-counts (tree old.trees.staging) held.staging.sound in
      let third = root-counts (tree old.trees.target) held.target.sound in
      let names_were = held.names in
      let texts_were = held.path_bytes in
      let names = names-IsChange copying change (tree old.trees.host, old.pen) (tree t, pen) result (fin.len (tree old.trees.build).names + fin.len (tree old.trees.staging).names + fin.len (tree old.trees.target).names) 4 made (omega arith) (omega arith) in
      let texts = texts-IsChange copying change (tree old.trees.host, old.pen) (tree t, pen) result (text_bytes (tree old.trees.build) + text_bytes (tree old.trees.staging) + text_bytes (tree old.trees.target)) made (omega arith) in
      record {
        build = IsHeld-later _ _ _ _ later held.build;
        host = new;
        staging = IsHeld-later _ _ _ _ later held.staging;
        target = IsHeld-later _ _ _ _ later held.target;
        shown = held.shown;
        names = omega arith;
        path_bytes = omega arith;
      }
  held-replaced Staging result held new made =
      let later = IsLater-IsChange copying change (tree old.trees.staging, old.pen) (tree t, pen) result made in
      let own = root-counts (tree t) new.sound in
      let first = root-counts (tree old.trees.build) held.build.sound in
      let second = root-counts (tree old.trees.host) held.host.sound in
      let third = root-counts (tree old.trees.target) held.target.sound in
      let names_were = held.names in
      let texts_were = held.path_bytes in
      let names = names-IsChange copying change (tree old.trees.staging, old.pen) (tree t, pen) result (fin.len (tree old.trees.build).names + fin.len (tree old.trees.host).names + fin.len (tree old.trees.target).names) 4 made (omega arith) (omega arith) in
      let texts = texts-IsChange copying change (tree old.trees.staging, old.pen) (tree t, pen) result (text_bytes (tree old.trees.build) + text_bytes (tree old.trees.host) + text_bytes (tree old.trees.target)) made (omega arith) in
      record {
        build = IsHeld-later _ _ _ _ later held.build;
        host = IsHeld-later _ _ _ _ later held.host;
        staging = new;
        target = IsHeld-later _ _ _ _ later held.target;
        shown = held.shown;
        names = omega arith;
        path_bytes = omega arith;
      }
  held-replaced Target result held new made =
      let later = IsLater-IsChange copying change (tree old.trees.target, old.pen) (tree t, pen) result made in
      let own = root-counts (tree t) new.sound in
      let first = root-counts (tree old.trees.build) held.build.sound in
      let second = root-counts (tree old.trees.host) held.host.sound in
      let third = root-counts (tree old.trees.staging) held.staging.sound in
      let names_were = held.names in
      let texts_were = held.path_bytes in
      let names = names-IsChange copying change (tree old.trees.target, old.pen) (tree t, pen) result (fin.len (tree old.trees.build).names + fin.len (tree old.trees.host).names + fin.len (tree old.trees.staging).names) 4 made (omega arith) (omega arith) in
      let texts = texts-IsChange copying change (tree old.trees.target, old.pen) (tree t, pen) result (text_bytes (tree old.trees.build) + text_bytes (tree old.trees.host) + text_bytes (tree old.trees.staging)) made (omega arith) in
      record {
        build = IsHeld-later _ _ _ _ later held.build;
        host = IsHeld-later _ _ _ _ later held.host;
        staging = IsHeld-later _ _ _ _ later held.staging;
        target = new;
        shown = held.shown;
        names = omega arith;
        path_bytes = omega arith;
      }

  data-replaced : (area : Area) → with_state (world_data tree old) area (tree t, counts_of pen) ≡ world_data tree (replaced old area t pen)
  data-replaced Build = refl
  data-replaced Host = refl
  data-replaced Staging = refl
  data-replaced Target = refl

  pen-replaced : (area : Area) → (replaced old area t pen).pen ≡ pen
  pen-replaced Build = refl
  pen-replaced Host = refl
  pen-replaced Staging = refl
  pen-replaced Target = refl

  abbrev was : Area → Tree × Pen
  was area = (tree (tree_of old.trees area), old.pen)

  state-of : (area : Area) → seen (was area) ≡ state_in (world_data tree old) area
  state-of Build = refl
  state-of Host = refl
  state-of Staging = refl
  state-of Target = refl

  as_before : (area : Area) → ◌≡◌ {A = Tree × Pen} (tree t, pen) (was area) → IsAsBefore tree old (replaced old area t pen)
  as_before area is = record {
    same = sym (data-replaced area) ∙ put_same (world_data tree old) area (tree t, counts_of pen) (ap seen is ∙ state-of area);
    pen = pen-replaced area ∙ ap (λ (s : Tree × Pen). s.1) is;
  }

  -- a refusal leaves the world as it was
  pub refused-replaced : (area : Area) (result : Result (Unit {0}) ChangeFault) → Made area result → OnErr result (IsAsBefore tree old (replaced old area t pen))
  refused-replaced area (Ok done) made = tt
  refused-replaced area (Err Memory) made = as_before area made
  refused-replaced area (Err fault) made = as_before area made.1
