-- What the parts of reading an operand answer.
use Rattle.std.specs.Prelude.{◌≡◌, ◌≢◌, ℕ, ◌==◌, List, [], ◌∷◌, Option, Some, None, if◌then◌else◌}
use Rattle.br_path.specs.Path.{Names, IsPath}
use Rattle.br_path.specs.declared.parse.PathFault.{PathFault}
use Rattle.br_path.specs.declared.parse.PathFault.TheVariants.{Memory}
use Rattle.br_path.specs.Text.{is_text}
use Rattle.tree_worlds.specs.declared.world.ShownTree.{ShownTree}

-- the task whose readable tree is that of a package
abbrev pub shown_task : {T : Type 0} → List (ShownTree T) → List ℕ → Option ℕ
shown_task [] name = None
shown_task (shown ∷ more) name = if is_text name shown.«package» then Some shown.task else shown_task more name

-- the readable tree of a task
abbrev pub tree_of : {T : Type 0} → List (ShownTree T) → ℕ → Option T
tree_of [] task = None
tree_of (shown ∷ more) task = if shown.task == task then Some shown.tree else tree_of more task

-- the path of these names; or they are no path
abbrev pub IsPathOf : Names → Option Names → Type 0
IsPathOf names None = IsPath names → ⊥
IsPathOf names (Some path) = path ≡ names

-- no path, for a fault other than that it is out of memory
abbrev pub IsNoPath : PathFault → Option Names → Type 0
IsNoPath fault path = (path ≡ None) × (fault ≢ Memory)
