-- What a change of one area's tree does to the world.
use Rattle.std.proofs.Common.{ℕ, ◌≡◌, Bool, true, false, Result, Ok, Err, refl, sym, ap, subst, ◌∙◌}
use Rattle.std.proofs.lemmas.Bool.{le-leb}
use Rattle.br_path.specs.declared.area.Area.{Area}
use Rattle.br_path.specs.declared.area.Area.TheVariants.{Build, Host, Staging, Target}
use Rattle.tree_ops.specs.declared.change.ChangeFault.{ChangeFault}
use Rattle.tree_ops.specs.declared.change.ChangeFault.TheVariants.{ReadOnly, Memory}
use Rattle.tree_ops.specs.declared.pen.Pen.{Pen}
use Rattle.tree_ops.specs.Pen.{counts_of}
use Rattle.tree_ops.specs.Tree.{Tree}
use Rattle.tree_ops.specs.Change.{Change, State, changed, seen, IsChange}
use Rattle.tree_worlds.specs.declared.reason.Reason.TheVariants.{Change as for_change}
use Rattle.tree_worlds.specs.declared.step.Step.{Step}
use Rattle.tree_worlds.specs.declared.step.Step.TheVariants.{MakeFile, Write, Append, SetMode, AddName, MakeLink, MakeDir, Remove, Rename}
use Rattle.tree_worlds.specs.World.{WorldData, AreaTrees, tree_in, with_tree, state_in, with_state, may_change, is_asked, acted, put_back}
use Rattle.tree_worlds.specs.Steps.{change_of, IsModest}
use Rattle.tree_worlds.specs.Program.{run, Ran, Act}
use Rattle.tree_worlds.specs.HeldWorld.{IsPut, error_of}

-- a tree that is put back where it stood
with_tree-same : (trees : AreaTrees) (area : Area) → with_tree trees area (tree_in trees area) ≡ trees
with_tree-same trees Build = refl
with_tree-same trees Host = refl
with_tree-same trees Staging = refl
with_tree-same trees Target = refl

pub put_same : (old : WorldData) (area : Area) (state : State) → state ≡ state_in old area → with_state old area state ≡ old
put_same old area state same = ap (with_state old area) same ∙ ap (λ trees. record old { trees = trees }) (with_tree-same old.trees area)

-- a change of the area's tree, with the pen, is one of the world
IsPut-change : (copying : ℕ → ℕ → ℕ) (change : Change) (old : WorldData) (pen : Pen) (area : Area) (result : Result (Unit {0}) ChangeFault) (new : Tree × Pen) → old.pen ≡ counts_of pen
    → IsChange copying change (tree_in old.trees area, pen) result new → IsPut (changed change (state_in old area)) area old result (with_state old area (seen new))
IsPut-change copying change old pen area (Ok done) new counts is = (seen new, ap (λ pen. changed change (tree_in old.trees area, pen)) counts ∙ is.0, refl)
IsPut-change copying change old pen area (Err Memory) new counts is = put_same old area (seen new) (ap seen is ∙ sym (ap (λ pen. (tree_in old.trees area, pen)) counts))
IsPut-change copying change old pen area (Err fault) new counts is =
    (ap (λ pen. changed change (tree_in old.trees area, pen)) counts ∙ is.0, put_same old area (seen new) (ap seen is.1 ∙ sym (ap (λ pen. (tree_in old.trees area, pen)) counts)))

-- the same where the area is known
pub IsPut-at : (copying : ℕ → ℕ → ℕ) (change : Change) (old : WorldData) (pen : Pen) (area known : Area) (result : Result (Unit {0}) ChangeFault) (new : Tree × Pen) → area ≡ known → old.pen ≡ counts_of pen
    → IsChange copying change (tree_in old.trees known, pen) result new → IsPut (changed change (state_in old area)) area old result (with_state old known (seen new))
IsPut-at copying change old pen area known result new is counts done =
    subst (λ a. IsPut (changed change (state_in old a)) a old result (with_state old known (seen new))) (sym is)
    (IsPut-change copying change old pen known result new counts done)

-- what a modest step asks for can be asked for
asked : (step : Step) → IsModest step → is_asked (change_of step) ≡ true
asked (MakeFile at mode bytes) modest = le-leb mode 4095 modest
asked (Write at bytes) modest = refl
asked (Append at bytes) modest = refl
asked (SetMode at mode) modest = le-leb mode 4095 modest
asked (AddName old at) modest = refl
asked (MakeLink at text) modest = refl
asked (MakeDir at mode) modest = le-leb mode 4095 modest
asked (Remove at) modest = refl
asked (Rename old at) modest = refl

pub run-refused : (area : Area) (change : Change) (world : WorldData) (allowed : Bool) → allowed ≡ may_change world area → allowed ≡ false → run (Act area change) world ≡ Err (for_change ReadOnly, world)
run-refused area change world true same is = cc
run-refused area change world false same is = rw (sym same) refl

run-allowed : (area : Area) (change : Change) (world : WorldData) → may_change world area ≡ true → is_asked change ≡ true
    → acted area change world ≡ put_back world area (changed change (state_in world area))
run-allowed area change world may is = rw (may, is) refl

-- a step that the task may take is the change of the area's tree
pub Ran-ok : (area : Area) (step : Step) (old new : WorldData) (allowed : Bool) → IsModest step → allowed ≡ may_change old area → allowed ≡ true
    → IsPut (changed (change_of step) (state_in old area)) area old (Ok tt) new → run (Act area (change_of step)) old ≡ Ok (tt, new)
Ran-ok area step old new false modest same is put = cc
Ran-ok area step old new true modest same is (state, outcome, after) =
    rw (run-allowed area (change_of step) old (sym same) (asked step modest), outcome, after) refl

pub Ran-err : (area : Area) (step : Step) (old new : WorldData) (allowed : Bool) (fault : ChangeFault) → IsModest step → allowed ≡ may_change old area → allowed ≡ true
    → IsPut (changed (change_of step) (state_in old area)) area old (Err fault) new → Ran (run (Act area (change_of step)) old) (Err (error_of fault)) new
Ran-err area step old new false fault modest same is put = cc
Ran-err area step old new true Memory modest same is put = tt
Ran-err area step old new true fault modest same is (outcome, after) =
    rw (run-allowed area (change_of step) old (sym same) (asked step modest), outcome, after) refl
