-- What a change of one area's tree that is made comes to.
use Rattle.std.proofs.Common.{◌≡◌, ◌≢◌, Bool, true, false, not, cond, Result, Ok, Err, refl, subst}
use Rattle.br_path.specs.declared.area.Area.{Area}
use Rattle.br_path.specs.declared.area.Area.TheVariants.{Build, Host, Staging, Target}
use Rattle.tree_ops.specs.declared.change.ChangeFault.TheVariants.{ReadOnly}
use Rattle.tree_ops.specs.Tree.{Tree}
use Rattle.tree_ops.specs.Change.{Change, State, changed}
use Rattle.tree_worlds.specs.declared.reason.Reason.TheVariants.{Operand, Change as for_change}
use Rattle.tree_worlds.specs.World.{WorldData, AreaTrees, may_change, is_asked, tree_in, with_tree, state_in, with_state, both_mapped, acted}

-- an answer after two tests passed both
guarded : {W S F E : Type 0} (put : S → W) (lift : F → E) (first second : E) (new : W) (may is : Bool) (outcome : Result S F)
    → cond {A = Result W E} (not may) (Err first) (cond (not is) (Err second) (both_mapped put lift outcome)) ≡ Ok new
    → (may ≡ true) × (is ≡ true) × (state : S) × (outcome ≡ Ok state) × (put state ≡ new)
guarded put lift first second new false is outcome same = cc
guarded put lift first second new true false outcome same = cc
guarded put lift first second new true true (Ok state) same = (refl, refl, state, refl, cc)
guarded put lift first second new true true (Err fault) same = cc

-- a change that is made leaves the state that it comes to
pub changed-acted : (area : Area) (change : Change) (old new : WorldData) → acted area change old ≡ Ok new
    → (state : State) × (changed change (state_in old area) ≡ Ok state) × (with_state old area state ≡ new)
changed-acted area change old new is =
    let done = guarded (with_state old area) for_change (for_change ReadOnly) Operand new (may_change old area) (is_asked change) (changed change (state_in old area)) is in
    (done.2, done.3, done.4)

-- the tree that was put, and those of other areas
pub tree-put : (trees : AreaTrees) (area : Area) (tree : Tree) → tree_in (with_tree trees area tree) area ≡ tree
tree-put trees Build tree = refl
tree-put trees Host tree = refl
tree-put trees Staging tree = refl
tree-put trees Target tree = refl

pub tree-other : (trees : AreaTrees) (area other : Area) (tree : Tree) → other ≢ area → tree_in (with_tree trees area tree) other ≡ tree_in trees other
tree-other trees Build Build tree apart = absurd (apart refl)
tree-other trees Build Host tree apart = refl
tree-other trees Build Staging tree apart = refl
tree-other trees Build Target tree apart = refl
tree-other trees Host Build tree apart = refl
tree-other trees Host Host tree apart = absurd (apart refl)
tree-other trees Host Staging tree apart = refl
tree-other trees Host Target tree apart = refl
tree-other trees Staging Build tree apart = refl
tree-other trees Staging Host tree apart = refl
tree-other trees Staging Staging tree apart = absurd (apart refl)
tree-other trees Staging Target tree apart = refl
tree-other trees Target Build tree apart = refl
tree-other trees Target Host tree apart = refl
tree-other trees Target Staging tree apart = refl
tree-other trees Target Target tree apart = absurd (apart refl)

-- what holds between the old and the new tree of the area, and of each tree with itself, holds in every area
pub in-areas : (kept : Tree → Tree → Type 0) (same : (tree : Tree) → kept tree tree) (trees : AreaTrees) (area other : Area) (tree : Tree)
    → kept (tree_in trees area) tree → kept (tree_in trees other) (tree_in (with_tree trees area tree) other)
in-areas kept same trees Build Build tree own = own
in-areas kept same trees Build Host tree own = same trees.host
in-areas kept same trees Build Staging tree own = same trees.staging
in-areas kept same trees Build Target tree own = same trees.target
in-areas kept same trees Host Build tree own = same trees.build
in-areas kept same trees Host Host tree own = own
in-areas kept same trees Host Staging tree own = same trees.staging
in-areas kept same trees Host Target tree own = same trees.target
in-areas kept same trees Staging Build tree own = same trees.build
in-areas kept same trees Staging Host tree own = same trees.host
in-areas kept same trees Staging Staging tree own = own
in-areas kept same trees Staging Target tree own = same trees.target
in-areas kept same trees Target Build tree own = same trees.build
in-areas kept same trees Target Host tree own = same trees.host
in-areas kept same trees Target Staging tree own = same trees.staging
in-areas kept same trees Target Target tree own = own

-- the same of a change that is made
pub in-areas_acted : (kept : Tree → Tree → Type 0) (same : (tree : Tree) → kept tree tree) (area : Area) (change : Change) (old new : WorldData) → acted area change old ≡ Ok new
    → ((state : State) → changed change (state_in old area) ≡ Ok state → kept (tree_in old.trees area) state.0) → (other : Area) → kept (tree_in old.trees other) (tree_in new.trees other)
in-areas_acted kept same area change old new is own other =
    let done = changed-acted area change old new is in
    subst (λ (w : WorldData). kept (tree_in old.trees other) (tree_in w.trees other)) done.2 (in-areas kept same old.trees area other done.0.0 (own done.0 done.1))
