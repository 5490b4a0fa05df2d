-- What the parts of a walk in the code answer.
use Rattle.std.specs.Prelude.{◌≡◌, ◌≢◌, ◌⊎◌, ℕ, ◌≤◌, Bool, true, false, zero, suc, List, [], ◌∷◌, ◌++◌, length, All, IsTrue, Option, Some, None, Result, Ok, Err}
use Rattle.br_path.specs.Path.{Names, is_name_byte}
use Rattle.tree_ops.specs.declared.entry.Label.{Label}
use Rattle.tree_ops.specs.declared.entry.Node.{Node}
use Rattle.tree_ops.specs.declared.entry.Node.TheVariants.{Dir, Link, File}
use Rattle.tree_ops.specs.declared.change.ChangeFault.{ChangeFault}
use Rattle.tree_ops.specs.declared.change.ChangeFault.TheVariants.{Loop, TooLong, Memory}
use Rattle.br_path.specs.declared.parse.PathFault.{PathFault}
use Rattle.br_path.specs.declared.parse.PathFault.TheVariants.{Memory as no_memory}
use Rattle.tree_ops.specs.declared.walk.Found.{Found}
use Rattle.tree_ops.specs.declared.walk.Found.TheVariants.{Nothing, Folder, Link as LinkTo, File as AFile}
use Rattle.tree_ops.specs.declared.walk.Step.{Step}
use Rattle.tree_ops.specs.declared.walk.Step.TheVariants.{To, End, Through}
use Rattle.tree_ops.specs.declared.walk.Stop.{Stop}
use Rattle.tree_ops.specs.declared.walk.Stop.TheVariants.{End as AtEnd, Link as AtLink}
use Rattle.tree_ops.specs.Tree.{Tree}
use Rattle.tree_ops.specs.Walk.{Onward, walk_on, walk_through, components, IsWalk, is_name_too_long}

-- what stands at a path, as a walk sees it
abbrev pub IsFound : Option Node → Found → Type 0
IsFound node Nothing = node ≡ None
IsFound node Folder = (mode : ℕ) × (node ≡ Some (Dir mode))
IsFound node (LinkTo text) = node ≡ Some (Link text.now)
IsFound node AFile = (label : Label) × (node ≡ Some (File label))

-- a step of a walk: one or more bytes that a name may have
pub record IsStep (name : List ℕ) : Type 0 where
  pub filled : 1 ≤ length name
  pub printable : All (λ byte. IsTrue (is_name_byte byte)) name

-- where one step leads, with the steps after it
abbrev pub IsStepped : Onward → Tree → Bool → Names → List ℕ → Names → Result Step ChangeFault → Type 0
IsStepped onward tree follow from name rest (Ok (To place)) = walk_on onward tree follow (name ∷ rest) from ≡ walk_on onward tree follow rest place
IsStepped onward tree follow from name rest (Ok (End place)) = walk_on onward tree follow (name ∷ rest) from ≡ Ok place
IsStepped onward tree follow from name rest (Ok (Through text)) = walk_on onward tree follow (name ∷ rest) from ≡ onward from (components text.now ++ rest)
IsStepped onward tree follow from name rest (Err fault) = fault ≢ Memory → walk_on onward tree follow (name ∷ rest) from ≡ Err fault

-- the text of a link that a step leads through has only bytes that a walk may have
abbrev pub HasWalk : Result Step ChangeFault → Type 0
HasWalk (Ok (To place)) = Unit {0}
HasWalk (Ok (End place)) = Unit {0}
HasWalk (Ok (Through text)) = IsWalk text.now
HasWalk (Err fault) = Unit {0}

-- where a walk stops: at its end, or before the steps of a link that is followed
abbrev pub IsStopped : Onward → Tree → Bool → Names → Names → Result Stop ChangeFault → Names → Type 0
IsStopped onward tree follow from steps (Ok (AtEnd place)) left = walk_on onward tree follow steps from ≡ Ok place
IsStopped onward tree follow from steps (Ok (AtLink place)) left = walk_on onward tree follow steps from ≡ onward place left
IsStopped onward tree follow from steps (Err fault) left = fault ≢ Memory → walk_on onward tree follow steps from ≡ Err fault

-- the walk if so many stops are left
abbrev pub walk_within : ℕ → Tree → Bool → Names → Names → Result Names ChangeFault
walk_within zero tree follow from steps = Err Loop
walk_within (suc links) tree follow from steps = walk_through links tree follow from steps

-- the path of a name below a folder, unless it is too long
abbrev pub IsNamed : Names → List ℕ → Result Names ChangeFault → Type 0
IsNamed from name (Ok place) = (place ≡ from ++ name ∷ []) × (is_name_too_long from name ≡ false)
IsNamed from name (Err fault) = (fault ≡ Memory) ⊎ ((fault ≡ TooLong) × (is_name_too_long from name ≡ true))

-- what refuses the name of a step: of the faults of a name it can only be too long
abbrev pub refused : PathFault → ChangeFault
refused no_memory = Memory
refused fault = TooLong
