-- Room at a place, and what is made there.
use Rattle.std.specs.Prelude.{ℕ, Bool, true, false, List, Option, Some, None}
use Rattle.tree_ops.specs.declared.change.ChangeFault.TheVariants.{IsDir}
use Rattle.tree_ops.specs.Change.{MakeFile, Remove}
use Rattle.tree_worlds.specs.Program.{Program, Done, Refuse}
use Rattle.tree_worlds.specs.declared.reason.Reason.TheVariants.{Change as for_change}
use Rattle.sh_places.specs.declared.spot.Spot.{Spot}
use Rattle.sh_places.specs.declared.kind.Kind.{Kind}
use Rattle.sh_places.specs.declared.kind.Kind.TheVariants.{Dir, Link}
use Rattle.sh_places.specs.Parts.{act_in}

abbrev pub is_link : Option Kind → Bool
is_link (Some Link) = true
is_link kind = false

-- a file or link makes room; a folder doesn't
abbrev pub make_room : Spot → Option Kind → Program (Unit {0})
make_room place None = Done tt
make_room place (Some (Dir mode)) = Refuse (for_change IsDir)
make_room place (Some kind) = act_in place.site (Remove place.path)

abbrev pub make_file : Spot → ℕ → List ℕ → Program (Unit {0})
make_file place mode bytes = act_in place.site (MakeFile place.path mode bytes)
