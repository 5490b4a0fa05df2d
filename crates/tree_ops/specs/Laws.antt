-- Laws of trees and changes, in words of single names and labels.
use Rattle.std.specs.Prelude.{◌≡◌, ◌≢◌, ◌↔◌, ℕ, ◌+◌, ◌≤◌, Bool, true, false, not, List, [], ◌∷◌, ◌++◌, Option, Some, None, Result, Ok, IsSome, if◌then◌else◌}
use Rattle.std.specs.Cmp.Lexicographic.{slice_cmp}
use Rattle.std.specs.FinMap as fin
use Rattle.std.specs.List.{Contains}
use Rattle.std.specs.List.Sorted.{IsStrictlySortedBy}
use Rattle.std.specs.Option.{option_or}
use Rattle.std.specs.Ordering.{nat_cmp}
use Rattle.br_path.specs.Path.{Names}
use Rattle.tree_ops.specs.declared.entry.Label.{Label}
use Rattle.tree_ops.specs.declared.entry.Contents.{Contents}
use Rattle.tree_ops.specs.declared.entry.Node.TheVariants.{File}
use Rattle.tree_ops.specs.declared.change.ChangeFault.{ChangeFault}
use Rattle.tree_ops.specs.declared.pen.Pen.{Pen}
use Rattle.tree_ops.specs.Pen.{counts_of}
use Rattle.tree_ops.specs.Held.{IsHeld, IsAsked, IsReached}
use Rattle.tree_ops.specs.Tree.{Tree, IsTree, node_at, is_leaf, is_hidden, is_used, over, names_below}
use Rattle.tree_ops.specs.Change.{Change, Write, Append, SetMode, Rename, Populate, State, changed, IsChange, is_own, next_label, contents_at, with_bytes, with_more, with_mode, text_bytes, is_at_or_below}

-- 1. Trees.

-- a change leads from a state that a task reaches to one
abbrev pub ReachedLeadsOn : Type 0
ReachedLeadsOn = (change : Change) (old new : State) → IsAsked change old.1 → IsReached old → changed change old ≡ Ok new → IsReached new

-- whatever a call answers, what was held is held, where the labels that aren't sealed are the task's own
abbrev pub HeldStaysHeld : Type 0
HeldStaysHeld = (copying : ℕ → ℕ → ℕ) (change : Change) (old new : Tree × Pen) (was sealed : Label → Bool) (result : Result (Unit {0}) ChangeFault) → IsAsked change (counts_of old.1) → IsHeld old.0 was (counts_of old.1)
    → ((label : Label) → sealed label ≡ not (is_own (counts_of old.1) label)) → IsChange copying change old result new → IsHeld new.0 sealed (counts_of new.1)

-- 2. Counts.

-- the names of a tree and those that stand elsewhere are what the pen counts, the roots among them left out, and stay so
abbrev pub NamesAreCounted : Type 0
NamesAreCounted = (change : Change) (old new : State) (rest roots : ℕ) → changed change old ≡ Ok new → roots ≤ fin.len new.0.names + rest
    → fin.len old.0.names + rest ≡ old.1.names + roots → fin.len new.0.names + rest ≡ new.1.names + roots

-- so are the bytes of their paths' texts
abbrev pub TextsAreCounted : Type 0
TextsAreCounted = (change : Change) (old new : State) (rest : ℕ) → changed change old ≡ Ok new
    → text_bytes old.0 + rest ≡ old.1.path_bytes → text_bytes new.0 + rest ≡ new.1.path_bytes

-- a tree has at least its root
abbrev pub RootsAreCounted : Type 0
RootsAreCounted = (tree : Tree) → IsTree tree → 1 ≤ fin.len tree.names

-- 3. Contents and modes.

-- the path of a change of contents or mode
abbrev pub rewritten_at : Change → Option Names
rewritten_at (Write at bytes) = Some at
rewritten_at (Append at bytes) = Some at
rewritten_at (SetMode at mode) = Some at
rewritten_at other = None

-- what it makes of a file's contents
abbrev pub rewritten : Change → Contents → Contents
rewritten (Write at bytes) contents = with_bytes bytes contents
rewritten (Append at bytes) contents = with_more bytes contents
rewritten (SetMode at mode) contents = with_mode mode contents
rewritten other contents = contents

-- all names stay as they are, and of all labels this one alone stands for other contents
pub record IsInPlace (label : Label) (made : Contents) (old new : Tree) : Type 0 where
  pub names : new.names ≡ old.names
  pub contents : fin.get new.labels label ≡ Some made
  pub others : (other : Label) → other ≢ label → fin.get new.labels other ≡ fin.get old.labels other

-- where a name of the label stood, one of the next label stands, which stands for other contents; the label is gone, and all else stays
pub record IsAnew (label next : Label) (made : Contents) (old new : Tree) : Type 0 where
  pub moved : (path : Names) → node_at old path ≡ Some (File label) → node_at new path ≡ Some (File next)
  pub others : (path : Names) → node_at old path ≢ Some (File label) → node_at new path ≡ node_at old path
  pub gone : fin.get new.labels label ≡ None
  pub contents : fin.get new.labels next ≡ Some made
  pub rest : (other : Label) → other ≢ label → other ≢ next → fin.get new.labels other ≡ fin.get old.labels other

-- a file of the task's own is changed in its place, whichever of its names the change goes through
abbrev pub OwnFilesStay : Type 0
OwnFilesStay = (change : Change) (at : Names) (label : Label) (old new : State) → rewritten_at change ≡ Some at → node_at old.0 at ≡ Some (File label) → is_own old.1 label ≡ true
    → changed change old ≡ Ok new → IsInPlace label (rewritten change (contents_at old.0 label)) old.0 new.0

-- one of another task gets the task's next label at all its names, also where the contents are as before
abbrev pub OtherFilesGetLabels : Type 0
OtherFilesGetLabels = (change : Change) (at : Names) (label : Label) (old new : State) → rewritten_at change ≡ Some at → node_at old.0 at ≡ Some (File label) → is_own old.1 label ≡ false
    → changed change old ≡ Ok new → IsAnew label (next_label old.1) (rewritten change (contents_at old.0 label)) old.0 new.0

-- 4. Moves.

-- what stood at or below a path stands likewise at another, and nothing where it stood; all that is neither there nor here stays, and
-- each label that is left stands for what it stood for
pub record IsMoved (first at : Names) (old new : Tree) : Type 0 where
  pub moved : (rest : Names) → node_at new (at ++ rest) ≡ node_at old (first ++ rest)
  pub left : (path : Names) → is_at_or_below first path ≡ true → node_at new path ≡ None
  pub others : (path : Names) → is_at_or_below first path ≡ false → is_at_or_below at path ≡ false → node_at new path ≡ node_at old path
  pub contents : (label : Label) (contents : Contents) → fin.get new.labels label ≡ Some contents → fin.get old.labels label ≡ Some contents

-- a folder moves with all that stands below it
abbrev pub MovesAreWhole : Type 0
MovesAreWhole = (first at : Names) (old new : State) → IsTree old.0 → first ≢ at → changed (Rename first at) old ≡ Ok new → IsMoved first at old.0 new.0

-- a move onto itself changes nothing
abbrev pub NoMoveStays : Type 0
NoMoveStays = (at : Names) (old new : State) → changed (Rename at at) old ≡ Ok new → new.0 ≡ old.0

-- 5. Trees laid over each other.

-- a path is hidden just where a file or link stands above it
abbrev pub HiddenIsBelow : Type 0
HiddenIsBelow = (tree : Tree) (path : Names) → is_hidden tree path ≡ true ↔ ((head : Names) × (name : List ℕ) × (rest : Names) × (path ≡ head ++ name ∷ rest) × (is_leaf (node_at tree head) ≡ true))

-- at each path stands what the high tree has there, else what the low one has, unless the high one hides the path
abbrev pub OverByPaths : Type 0
OverByPaths = (low high : Tree) (path : Names) → node_at (over low high) path ≡ option_or (node_at high path) (if is_hidden high path then None else node_at low path)

-- each label that is used stands for what the high tree has, else for what the low one has
abbrev pub OverByLabels : Type 0
OverByLabels = (low high : Tree) (label : Label) → fin.get (over low high).labels label ≡ (if is_used (over low high).names label then option_or (fin.get high.labels label) (fin.get low.labels label) else None)

-- 6. Other tasks' files.

-- what a label stood for before a change, where trees are laid over each other in the high one first
abbrev pub contents_before : Change → Tree → Label → Option Contents
contents_before (Populate from) tree label = option_or (fin.get from.labels label) (fin.get tree.labels label)
contents_before other tree label = fin.get tree.labels label

-- a label of another task that is still there stands for what it stood for
abbrev pub OtherFilesStay : Type 0
OtherFilesStay = (change : Change) (old new : State) (label : Label) (contents : Contents) → is_own old.1 label ≡ false → changed change old ≡ Ok new
    → fin.get new.0.labels label ≡ Some contents → contents_before change old.0 label ≡ Some contents

-- 7. The names below a path.

-- a name is among them just where something stands at the path with this name after it
abbrev pub NamesAreExact : Type 0
NamesAreExact = (tree : Tree) (at : Names) (name : List ℕ) → Contains (names_below tree at) name ↔ IsSome (node_at tree (at ++ name ∷ []))

-- each comes once, in the order of their bytes
abbrev pub NamesRise : Type 0
NamesRise = (tree : Tree) (at : Names) → IsStrictlySortedBy (slice_cmp nat_cmp) (names_below tree at)
