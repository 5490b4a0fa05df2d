-- rm.
use Rattle.std.specs.Prelude.{ℕ, zero, suc, Bool, true, false, ◌&&◌, List, [], ◌∷◌, ◌++◌, reverse, Option, Some, None, Result, Ok, Err, if◌then◌else◌}
use Rattle.br_path.specs.Path.{Names}
use Rattle.br_path.specs.Files.{FileMap}
use Rattle.tree_ops.specs.declared.change.ChangeFault.TheVariants.{Absent, IsDir, Outside}
use Rattle.tree_ops.specs.Change.{Remove, is_path}
use Rattle.tree_worlds.specs.World.{WorldData}
use Rattle.tree_worlds.specs.Program.{Program, Done, Refuse, Look, ◌>>=◌}
use Rattle.tree_worlds.specs.declared.reason.CommandError.{CommandError}
use Rattle.tree_worlds.specs.declared.reason.CommandError.TheVariants.{Failed, Memory as no_memory}
use Rattle.tree_worlds.specs.declared.reason.Reason.{Reason}
use Rattle.tree_worlds.specs.declared.reason.Reason.TheVariants.{Operand as no_operand, Change as for_change}
use Rattle.sh_places.specs.declared.spot.Spot.{Spot}
use Rattle.sh_places.specs.declared.kind.Kind.{Kind}
use Rattle.sh_places.specs.declared.kind.Kind.TheVariants.{Dir}
use Rattle.sh_places.specs.Looks.{kind_at, names_at}
use Rattle.sh_places.specs.Finding.{spot, spot_of}
use Rattle.sh_places.specs.Parts.{attempt, told, choose, each, act_in, read}
use Rattle.sh_files.specs.Folders.{is_empty}

-- 1. What is missing.

abbrev pub is_absent : Reason → Bool
is_absent (for_change Absent) = true
is_absent reason = false

-- with `f` nothing is done if something is missing
abbrev pub forgiven : Bool → Reason → Result (Unit {0}) Reason
forgiven force reason = if force && is_absent reason then Ok tt else Err reason

abbrev pub missing : Bool → Reason → Program (Unit {0})
missing force reason = attempt (forgiven force reason)

-- the same as a call's answer to an error
abbrev pub answered : Bool → CommandError → Result (Unit {0}) CommandError
answered force no_memory = Err no_memory
answered force (Failed reason) = told (forgiven force reason)

-- 2. A tree: what stands below a place, last name first, and then what stands there.

abbrev pub remove_entry : (Spot → Program (Unit {0})) → Spot → Program (Unit {0})
remove_entry below place = below place >>= λ _. act_in place.site (Remove place.path)

-- to a depth that no path reaches: a name takes two bytes at least of a path's text
unfoldable pub remove_below : ℕ → FileMap → Spot → Program (Unit {0})
remove_below zero files place = Done tt
remove_below (suc depth) files place =
    Look >>= λ world. each (λ name. remove_entry (remove_below depth files) (spot place.site (place.path ++ name ∷ []))) (reverse (names_at world files place))

abbrev pub remove_tree : FileMap → Spot → Program (Unit {0})
remove_tree files place = remove_entry (remove_below 1024 files) place

-- 3. rm.

abbrev pub remove_folder : FileMap → Bool → Spot → Program (Unit {0})
remove_folder files recursive place =
    choose recursive (choose (is_path place.path []) (Refuse (for_change Outside)) (remove_tree files place)) (Refuse (for_change IsDir))

abbrev pub remove_kind : FileMap → Bool → Bool → Spot → Option Kind → Program (Unit {0})
remove_kind files force recursive place None = missing force (for_change Absent)
remove_kind files force recursive place (Some (Dir mode)) = remove_folder files recursive place
remove_kind files force recursive place (Some kind) = act_in place.site (Remove place.path)

abbrev pub remove_at : WorldData → FileMap → Bool → Bool → Result Spot Reason → Program (Unit {0})
remove_at world files force recursive (Err reason) = missing force reason
remove_at world files force recursive (Ok place) = remove_kind files force recursive place (kind_at world files place)

-- one operand, not followed
abbrev pub remove_word : FileMap → Bool → Bool → List ℕ → Program (Unit {0})
remove_word files force recursive word =
    read files word >>= λ operand. Look >>= λ world. remove_at world files force recursive (spot_of world false operand)

-- rm, by its options: `f`; `r` or `R`; operands
abbrev pub rm : FileMap → Bool → Bool → Names → Program (Unit {0})
rm files force recursive operands =
    choose (is_empty operands) (choose force (Done tt) (Refuse no_operand)) (each (remove_word files force recursive) operands)
