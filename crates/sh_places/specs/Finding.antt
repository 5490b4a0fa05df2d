-- Where a word of a command leads.
use Rattle.std.specs.Prelude.{ℕ, ◌≢◌, ◌≤◌, length, All, IsTrue, codes, Bool, List, [], ◌∷◌, ◌++◌, Option, Some, None, Result, Ok, Err, if◌then◌else◌}
use Rattle.br_path.specs.Path.{Names, is_name_byte}
use Rattle.br_path.specs.Files.{FileMap}
use Rattle.br_path.specs.Gives.{◌>>=◌}
use Rattle.tree_ops.specs.Walk.{resolved, is_name_too_long}
use Rattle.tree_ops.specs.declared.change.ChangeFault.TheVariants.{Outside, TooLong}
use Rattle.tree_ops.specs.Tree.{Tree}
use Rattle.tree_worlds.specs.World.{WorldData, both_mapped}
use Rattle.tree_worlds.specs.Operand.{operand_of}
pub use Rattle.tree_worlds.specs.Operand.{HasWalk}
use Rattle.tree_worlds.specs.declared.operand.Operand.{Operand}
use Rattle.tree_worlds.specs.declared.operand.Operand.TheVariants.{Input, Place, Readable}
use Rattle.tree_worlds.specs.declared.reason.Reason.{Reason}
use Rattle.tree_worlds.specs.declared.reason.Reason.TheVariants.{Change as for_change}
use Rattle.sh_places.specs.Looks.{tree_of}
use Rattle.sh_places.specs.declared.spot.Site.{Site}
use Rattle.sh_places.specs.declared.spot.Site.TheVariants.{Tree as in_tree, Readable as in_readable, Input as in_input}
use Rattle.sh_places.specs.declared.spot.Spot.{Spot}

abbrev pub spot : Site → Names → Spot
spot site path = record { site = site; path = path }

-- the place to which a walk leads in the tree of a site
abbrev pub walked_in : Site → List ℕ → Bool → Option Tree → Result Spot Reason
walked_in site walk follow None = Err (for_change Outside)
walked_in site walk follow (Some tree) = both_mapped (spot site) for_change (resolved tree walk follow)

abbrev pub walked : WorldData → Site → List ℕ → Bool → Result Spot Reason
walked world site walk follow = walked_in site walk follow (tree_of world site)

-- the place of an operand; at a last link its walk goes on only if it is to follow
abbrev pub spot_of : WorldData → Bool → Operand → Result Spot Reason
spot_of world follow (Input path) = Ok (spot in_input path)
spot_of world follow (Place area walk) = walked world (in_tree area) walk follow
spot_of world follow (Readable task walk) = walked world (in_readable task) walk follow

-- the place that a word names
abbrev pub found : WorldData → FileMap → List ℕ → Bool → Result Spot Reason
found world files word follow = operand_of world files word >>= spot_of world follow

-- the place of a name in a folder
abbrev pub place_below : Spot → List ℕ → Result Spot Reason
place_below folder name = if is_name_too_long folder.path name then Err (for_change TooLong) else Ok (spot folder.site (folder.path ++ name ∷ []))

-- one byte or more, all of which a name may have, but neither `.` nor `..`: a name, except for its length
pub record IsStep (name : List ℕ) : Type 0 where
  pub filled : 1 ≤ length name
  pub printable : All (λ byte. IsTrue (is_name_byte byte)) name
  pub not_self : name ≢ codes "."
  pub not_parent : name ≢ codes ".."
