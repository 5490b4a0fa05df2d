-- Labels of a world are of its task or of those before it.
use Rattle.std.proofs.Common.{ℕ, ◌+◌, ◌<◌, ◌≡◌, Bool, true, false, List, [], ◌∷◌, ◌++◌, All, length, get_or, Result, Ok, Err, OnErr, refl, sym, ap, subst, ◌∙◌, arith, inl, inr}
use Rattle.std.specs.FinMap as fin
use Rattle.std.specs.Option.{is_some}
use Rattle.std.proofs.lemmas.Bool.{true≢false, eqb-true}
use Rattle.std.proofs.lemmas.List.Elements.{All-push, All-weaker}
use Rattle.br_path.specs.declared.area.Area.{Area}
use Rattle.br_path.specs.declared.area.Area.TheVariants.{Build, Host, Staging, Target}
use Rattle.tree_ops.specs.declared.entry.Label.{Label}
use Rattle.tree_ops.specs.declared.change.ChangeFault.{ChangeFault}
use Rattle.tree_ops.specs.declared.change.ChangeFault.TheVariants.{Memory}
use Rattle.tree_ops.specs.Pen.{Counts}
use Rattle.tree_ops.specs.Tree.{Tree, IsTree, label_cmp, over}
use Rattle.tree_ops.specs.Change.{Change, Populate, State, changed, is_own}
use Rattle.tree_ops.specs.Held.{IsForeign, IsSealed}
use Rattle.tree_ops.proofs.Sound.{sound-of, is_there}
use Rattle.tree_ops.proofs.Laying.{came-label}
use Rattle.tree_ops.proofs.Outcomes.{after-changed}
use Rattle.tree_worlds.specs.declared.reason.CommandError.{CommandError}
use Rattle.tree_worlds.specs.declared.world.Trees.{Trees}
use Rattle.tree_worlds.specs.declared.world.World.{World}
use Rattle.tree_worlds.specs.World.{WorldData, AreaTrees, tree_in, with_tree, state_in, trees_data, world_data, empty_trees}
use Rattle.tree_worlds.specs.Program.{Act, Ran, run}
use Rattle.tree_worlds.specs.HeldWorld.{IsHeldWorld, IsPut, IsAsBefore}
use Rattle.tree_worlds.specs.Kept.{Keeps}
use Rattle.tree_worlds.proofs.Keeping.{IsKept-Keeps, keeps_ran}
use Rattle.tree_cases.specs.Tasks.{AreBelow, AllBelow, IsLeft, AreLeft, AreSound, AreTasks}

-- 1. Changes and fillings.

pub AllBelow-keeps : (limit : ℕ) (old new : WorldData) → Keeps old new → old.pen.task < limit → AllBelow limit old.trees → AllBelow limit new.trees
AllBelow-keeps limit old new keeps less below area label there = by (is_own old.pen label) refl
  where
    by : (b : Bool) → is_own old.pen label ≡ b → label.task < limit
    by true own = let same : label.task ≡ old.pen.task = eqb-true label.task old.pen.task own in omega arith
    by false other = elim (keeps.contents area label other) [
      | inl stays ↦ below area label (ap is_some (sym stays) ∙ there)
      | inr gone ↦ absurd (true≢false (sym there ∙ ap is_some gone))
    ]

below_with : (limit : ℕ) (trees : AreaTrees) (area other : Area) (tree : Tree) → AreBelow limit tree → AllBelow limit trees → AreBelow limit (tree_in (with_tree trees area tree) other)
below_with limit trees Build Build tree below all = below
below_with limit trees Build Host tree below all = all Host
below_with limit trees Build Staging tree below all = all Staging
below_with limit trees Build Target tree below all = all Target
below_with limit trees Host Build tree below all = all Build
below_with limit trees Host Host tree below all = below
below_with limit trees Host Staging tree below all = all Staging
below_with limit trees Host Target tree below all = all Target
below_with limit trees Staging Build tree below all = all Build
below_with limit trees Staging Host tree below all = all Host
below_with limit trees Staging Staging tree below all = below
below_with limit trees Staging Target tree below all = all Target
below_with limit trees Target Build tree below all = all Build
below_with limit trees Target Host tree below all = all Host
below_with limit trees Target Staging tree below all = all Staging
below_with limit trees Target Target tree below all = below

below-over : (limit : ℕ) (low high : Tree) → IsTree low → IsTree high → AreBelow limit low → AreBelow limit high → AreBelow limit (over low high)
below-over limit low high l h below above label there =
    let contents = is_there (fin.get (over low high).labels label) there in
    elim (came-label low high (sound-of low l) (sound-of high h) label contents.0 contents.1).1 [
      | inl came ↦ above label (ap is_some came)
      | inr came ↦ below label (ap is_some came)
    ]

IsSameAge : ℕ → WorldData → WorldData → Type 0
IsSameAge limit old new = (new.pen.task ≡ old.pen.task) × AllBelow limit new.trees

age-put : (limit : ℕ) (from : Tree) (area : Area) (old new : WorldData) (result : Result (Unit {0}) ChangeFault) → IsTree from → IsTree (tree_in old.trees area) → AreBelow limit from → AllBelow limit old.trees
    → IsPut (changed (Populate from) (tree_in old.trees area, old.pen)) area old result new → IsSameAge limit old new
unfolding IsSameAge
age-put limit from area old new (Ok done) h l above below (state, is, after) =
    let laid = (after-changed (Populate from) (tree_in old.trees area, old.pen) state is).2 in (
      ap (λ (w : WorldData). w.pen.task) after ∙ sym (ap (λ (s : State). s.1.task) laid),
      subst (λ (w : WorldData). AllBelow limit w.trees) (sym after)
          (λ other. below_with limit old.trees area other state.0 (subst (λ (s : State). AreBelow limit s.0) laid (below-over limit (tree_in old.trees area) from l h (below area) above)) below),
    )
age-put limit from area old new (Err Memory) h l above below same = (ap (λ (w : WorldData). w.pen.task) same, subst (λ (w : WorldData). AllBelow limit w.trees) (sym same) below)
age-put limit from area old new (Err fault) h l above below (is, same) = (ap (λ (w : WorldData). w.pen.task) same, subst (λ (w : WorldData). AllBelow limit w.trees) (sym same) below)

-- 2. The tasks of a case.

module _ {T : Type 0} (tree : T → Tree) (sealed : T → Label → Bool) where
  held_tree : (world : World T) → IsHeldWorld tree sealed world → (area : Area) → IsTree (tree_in (world_data tree world).trees area)
  held_tree world held Build = held.build.sound
  held_tree world held Host = held.host.sound
  held_tree world held Staging = held.staging.sound
  held_tree world held Target = held.target.sound

  left-later : (limit : ℕ) (left : T) → IsLeft tree sealed limit left → IsLeft tree sealed (limit + 1) left
  left-later limit left is = record { sound = is.sound; whole = is.whole; older = λ label there. let less = is.older label there in omega arith }

  are-later : (limit : ℕ) (trees : Trees T) → AreLeft tree sealed limit trees → AreLeft tree sealed (limit + 1) trees
  are-later limit trees are = record {
    build = left-later limit trees.build are.build;
    host = left-later limit trees.host are.host;
    staging = left-later limit trees.staging are.staging;
    target = left-later limit trees.target are.target;
  }

  -- a tree that is sealed is left
  pub left-sealed : (limit : ℕ) (old new : T) → IsTree (tree old) → AreBelow limit (tree old) → tree new ≡ tree old → IsSealed (tree new) (sealed new) → IsLeft tree sealed limit new
  left-sealed limit old new sound below same whole = record { sound = subst IsTree (sym same) sound; whole = whole; older = subst (AreBelow limit) (sym same) below }

  -- what every program keeps is enough
  pub AreTasks-keeps : (old new : World T) (ended : List (Trees T)) → Keeps (world_data tree old) (world_data tree new) → IsHeldWorld tree sealed new
      → AreTasks tree sealed old ended → AreTasks tree sealed new ended
  AreTasks-keeps old new ended keeps held are = record {
    held = held;
    own = subst (λ task. AllBelow (task + 1) (trees_data tree new.trees)) (sym keeps.task) (AllBelow-keeps (old.pen.task + 1) (world_data tree old) (world_data tree new) keeps (omega arith) are.own);
    left = subst (λ task. All (AreLeft tree sealed task) ended) (sym keeps.task) are.left;
  }

  AreTasks-same : (old new : World T) (ended : List (Trees T)) → world_data tree new ≡ world_data tree old → IsHeldWorld tree sealed new
      → AreTasks tree sealed old ended → AreTasks tree sealed new ended
  AreTasks-same old new ended same held are = AreTasks-keeps old new ended (subst (Keeps (world_data tree old)) (sym same) (IsKept-Keeps.same (world_data tree old))) held are

  -- a change
  pub AreTasks-act : (area : Area) (change : Change) (old new : World T) (ended : List (Trees T)) (result : Result (Unit {0}) CommandError)
      → Ran (run (Act area change) (world_data tree old)) result (world_data tree new) → OnErr result (IsAsBefore tree old new) → IsHeldWorld tree sealed new
      → AreTasks tree sealed old ended → AreTasks tree sealed new ended
  AreTasks-act area change old new ended (Ok done) ran refused held are = AreTasks-keeps old new ended (keeps_ran (Act area change) (world_data tree old) (Ok done) (world_data tree new) ran) held are
  AreTasks-act area change old new ended (Err error) ran refused held are = AreTasks-same old new ended refused.same held are

  -- a filling
  pub left-foreign : (left : T) (pen : Counts) → IsLeft tree sealed pen.task left → IsForeign (tree left) pen
  left-foreign left pen is label there = by (is_own pen label) refl
    where
      by : (b : Bool) → is_own pen label ≡ b → is_own pen label ≡ false
      by false other = other
      by true own = let same : label.task ≡ pen.task = eqb-true label.task pen.task own in let less = is.older label there in absurd (omega arith)

  pub AreTasks-fill : (old new : World T) (ended : List (Trees T)) (area : Area) (left : T) (result : Result (Unit {0}) ChangeFault) → IsLeft tree sealed old.pen.task left
      → IsPut (changed (Populate (tree left)) (state_in (world_data tree old) area)) area (world_data tree old) result (world_data tree new) → IsHeldWorld tree sealed new
      → AreTasks tree sealed old ended → AreTasks tree sealed new ended
  unfolding IsSameAge
  AreTasks-fill old new ended area left result is put held are =
      let age = age-put (old.pen.task + 1) (tree left) area (world_data tree old) (world_data tree new) result is.sound (held_tree old are.held area) (left-later old.pen.task left is).older are.own put in
      record {
        held = held;
        own = subst (λ task. AllBelow (task + 1) (trees_data tree new.trees)) (sym age.0) age.1;
        left = subst (λ task. All (AreLeft tree sealed task) ended) (sym age.0) are.left;
      }

  -- a new task
  empty-below : (limit : ℕ) (area : Area) → AreBelow limit (tree_in empty_trees area)
  empty-below limit Build label there = absurd (true≢false (sym there ∙ ap is_some (fin.get-empty label_cmp label)))
  empty-below limit Host label there = absurd (true≢false (sym there ∙ ap is_some (fin.get-empty label_cmp label)))
  empty-below limit Staging label there = absurd (true≢false (sym there ∙ ap is_some (fin.get-empty label_cmp label)))
  empty-below limit Target label there = absurd (true≢false (sym there ∙ ap is_some (fin.get-empty label_cmp label)))

  pub AreTasks-begun : (world : World T) (ended : List (Trees T)) → trees_data tree world.trees ≡ empty_trees → IsHeldWorld tree sealed world
      → All (AreLeft tree sealed world.pen.task) ended → AreTasks tree sealed world ended
  AreTasks-begun world ended is held left = record {
    held = held;
    own = subst (AllBelow (world.pen.task + 1)) (sym is) (empty-below (world.pen.task + 1));
    left = left;
  }

  pub left-more : (task next : ℕ) (ended more : List (Trees T)) (trees : Trees T) → next ≡ task + 1 → All (AreLeft tree sealed task) ended → AreLeft tree sealed next trees → more ≡ ended ++ trees ∷ [] → All (AreLeft tree sealed next) more
  left-more task next ended more trees later left last is =
      subst (All (AreLeft tree sealed next)) (sym is)
      (All-push (AreLeft tree sealed next) ended trees
      (subst (λ n. All (AreLeft tree sealed n) ended) (sym later) (All-weaker (AreLeft tree sealed task) (AreLeft tree sealed (task + 1)) (are-later task) ended left)) last)

  pub left-at : (limit : ℕ) (ended : List (Trees T)) (i : ℕ) (trees : Trees T) → i < length ended → trees ≡ get_or ended i trees → All (AreLeft tree sealed limit) ended → AreLeft tree sealed limit trees
  left-at limit ended i trees less is all = subst (AreLeft tree sealed limit) (sym is) (all i trees less)

  pub AreSound-after : (world : World T) (ended : List (Trees T)) → AreTasks tree sealed world ended → AreSound tree (world.pen.task + 1) world.trees
  AreSound-after world ended are = record { sound = held_tree world are.held; older = are.own }
