-- Where a walk leads in a tree.
use Rattle.std.specs.Prelude.{ℕ, Bool, true, false, not, ◌&&◌, ◌||◌, ◌==◌, nat_lt, zero, suc, List, [], ◌∷◌, ◌++◌, length, filter, All, IsTrue, codes, Option, Some, None, Result, Ok, Err, if◌then◌else◌}
use Rattle.br_path.specs.Path.{Names, parent_of, parts, is_name_byte, rooted_text}
use Rattle.br_path.specs.Text.{is_text}
use Rattle.tree_ops.specs.declared.entry.Node.{Node}
use Rattle.tree_ops.specs.declared.entry.Node.TheVariants.{Dir, Link, File}
use Rattle.tree_ops.specs.declared.change.ChangeFault.{ChangeFault}
use Rattle.tree_ops.specs.declared.change.ChangeFault.TheVariants.{Absent, NotDir, Outside, Loop, TooLong}
use Rattle.tree_ops.specs.Tree.{Tree, node_at}

abbrev pub is_filled : List ℕ → Bool
is_filled [] = false
is_filled (byte ∷ bytes) = true

abbrev pub begins_at_root : List ℕ → Bool
begins_at_root [] = false
begins_at_root (byte ∷ bytes) = byte == 47

-- the components of a walk or of a link's text
abbrev pub components : List ℕ → Names
components text = filter is_filled (parts text)

abbrev pub ends_in_slash : List ℕ → Bool
ends_in_slash [] = false
ends_in_slash (byte ∷ []) = byte == 47
ends_in_slash (byte ∷ other ∷ bytes) = ends_in_slash (other ∷ bytes)

-- the steps of a walk: a slash at its end asks for a folder, as `.` does
abbrev pub steps_of : List ℕ → Names
steps_of walk = components walk ++ (if ends_in_slash walk then codes "." ∷ [] else [])

abbrev pub is_end : Names → Bool
is_end [] = true
is_end (name ∷ names) = false

-- a file or nothing at the last name is the answer; before it, the fault
abbrev pub only_last : Names → Names → ChangeFault → Result Names ChangeFault
only_last rest place fault = if is_end rest then Ok place else Err fault

abbrev pub Onward : Type 0
Onward = Names → Names → Result Names ChangeFault

-- a step to a link: the last one is followed only where that is asked; a text from the root leads outside
abbrev pub through : Onward → Bool → Names → Names → List ℕ → Names → Result Names ChangeFault
through onward follow from place text rest =
    if is_end rest && not follow then Ok place else
    if begins_at_root text then Err Outside else onward from (components text ++ rest)

-- what a name leads to: on into a folder, through a link, or no further
abbrev pub past_name : (Names → Result Names ChangeFault) → Onward → Bool → Names → Names → Names → Option Node → Result Names ChangeFault
past_name into onward follow from place rest None = only_last rest place Absent
past_name into onward follow from place rest (Some (Dir mode)) = into place
past_name into onward follow from place rest (Some (Link text)) = through onward follow from place text rest
past_name into onward follow from place rest (Some (File label)) = only_last rest place NotDir

abbrev pub past_parent : (Names → Result Names ChangeFault) → Option Names → Result Names ChangeFault
past_parent into None = Err Outside
past_parent into (Some parent) = into parent

abbrev pub is_name_too_long : Names → List ℕ → Bool
is_name_too_long from name = nat_lt 255 (length name) || nat_lt 1024 (length (rooted_text (from ++ name ∷ [])))

-- the walk from a folder, where a link leads onward
abbrev pub walk_on : Onward → Tree → Bool → Names → Names → Result Names ChangeFault
walk_on onward tree follow [] from = Ok from
walk_on onward tree follow (name ∷ rest) from =
    if is_text name (codes ".") then walk_on onward tree follow rest from else
    if is_text name (codes "..") then past_parent (walk_on onward tree follow rest) (parent_of from) else
    if is_name_too_long from name then Err TooLong else
    past_name (walk_on onward tree follow rest) onward follow from (from ++ name ∷ []) rest (node_at tree (from ++ name ∷ []))

-- the same if so many links more are followed; the next is one too many
unfoldable pub walk_through : ℕ → Tree → Bool → Names → Names → Result Names ChangeFault
walk_through zero tree follow from steps = walk_on (λ _ _. Err Loop) tree follow steps from
walk_through (suc links) tree follow from steps = walk_on (walk_through links tree follow) tree follow steps from

-- where a walk leads from the root of a tree
abbrev pub resolved : Tree → List ℕ → Bool → Result Names ChangeFault
resolved tree walk follow = walk_through 40 tree follow [] (steps_of walk)

-- the bytes that a walk may have
abbrev pub IsWalk : List ℕ → Type 0
IsWalk walk = All (λ byte. IsTrue (byte == 47 || is_name_byte byte)) walk
