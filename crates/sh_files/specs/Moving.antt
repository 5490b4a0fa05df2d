-- mv.
use Rattle.std.specs.Prelude.{ℕ, false, List, Option, Some, None, Result, Ok, Err}
use Rattle.br_path.specs.Path.{Names}
use Rattle.br_path.specs.Files.{FileMap}
use Rattle.tree_ops.specs.declared.change.ChangeFault.TheVariants.{Absent}
use Rattle.tree_ops.specs.Change.{Rename}
use Rattle.tree_worlds.specs.Program.{Program, Refuse, Look, ◌>>=◌}
use Rattle.tree_worlds.specs.declared.reason.Reason.{Reason}
use Rattle.tree_worlds.specs.declared.reason.Reason.TheVariants.{Same, Change as for_change}
use Rattle.sh_places.specs.declared.spot.Spot.{Spot}
use Rattle.sh_places.specs.declared.kind.Kind.{Kind}
use Rattle.sh_places.specs.Spot.{is_spot}
use Rattle.sh_places.specs.Looks.{kind_at}
use Rattle.sh_places.specs.Parts.{attempt, choose, each, act_in, find}
use Rattle.sh_files.specs.Goals.{base_for, goal_for, sources_of}
use Rattle.sh_files.specs.Linking.{place_within}
use Rattle.sh_files.specs.declared.goal.Goal.{Goal}

abbrev pub is_something : Option Kind → Result (Unit {0}) Reason
is_something None = Err (for_change Absent)
is_something (Some kind) = Ok tt

-- a source isn't moved to its own place
abbrev pub move_to : Spot → Spot → Program (Unit {0})
move_to source place = choose (is_spot source place) (Refuse Same) (act_in place.site (Rename source.path place.path))

-- what stands at a place, to its goal
abbrev pub move_from : FileMap → Goal → List ℕ → Spot → Program (Unit {0})
move_from files goal base source =
    Look >>= λ world.
    attempt (is_something (kind_at world files source)) >>= λ _.
    place_within source.site goal base >>= move_to source

-- one source, not followed, with all below it
abbrev pub move_source : FileMap → Goal → List ℕ → Program (Unit {0})
move_source files goal word = attempt (base_for goal word) >>= λ base. find files word false >>= move_from files goal base

abbrev pub move_sources : FileMap → Names → Goal → Program (Unit {0})
move_sources files sources goal = each (move_source files goal) sources

-- mv: operands
abbrev pub mv : FileMap → Names → Program (Unit {0})
mv files operands = goal_for files false None operands >>= move_sources files (sources_of None operands)
