-- Where the output of a command goes.
use Rattle.std.specs.Prelude.{ℕ, Bool, true, false, List, [], Option, Some, None}
use Rattle.br_path.specs.Files.{FileMap}
use Rattle.tree_ops.specs.Walk.{is_filled}
use Rattle.tree_ops.specs.declared.change.ChangeFault.TheVariants.{Absent, IsDir}
use Rattle.tree_ops.specs.Change.{MakeFile, Write, Append}
use Rattle.tree_worlds.specs.Program.{Program, Done, Refuse, Look, ◌>>=◌}
use Rattle.tree_worlds.specs.declared.reason.Reason.TheVariants.{Change as for_change}
use Rattle.tree_worlds.specs.declared.operand.Operand.{Operand}
use Rattle.sh_places.specs.declared.spot.Spot.{Spot}
use Rattle.sh_places.specs.declared.kind.Kind.{Kind}
use Rattle.sh_places.specs.declared.kind.Kind.TheVariants.{Dir, Link, File}
use Rattle.sh_places.specs.Looks.{kind_at}
use Rattle.sh_places.specs.Parts.{choose, act_in, read, resolve}
use Rattle.sh_words.specs.declared.line.Redirect.{Redirect}

abbrev pub is_link : Option Kind → Bool
is_link (Some Link) = true
is_link kind = false

-- a missing target is made with 0644, but not where a link leads to nothing; one that isn't appended to is emptied
abbrev pub make_ready : Spot → Bool → Bool → Option Kind → Program (Unit {0})
make_ready place append dangling (Some (Dir mode)) = Refuse (for_change IsDir)
make_ready place append dangling (Some Link) = Refuse (for_change Absent)
make_ready place append dangling (Some (File label)) = choose append (Done tt) (act_in place.site (Write place.path []))
make_ready place append dangling None = choose dangling (Refuse (for_change Absent)) (act_in place.site (MakeFile place.path 420 []))

abbrev pub make_target : FileMap → Bool → Spot → Spot → Program (Unit {0})
make_target files append name place = Look >>= λ world. make_ready place append (is_link (kind_at world files name)) (kind_at world files place)

abbrev pub open_operand : FileMap → Bool → Operand → Program Spot
open_operand files append operand =
    resolve operand false >>= λ name. resolve operand true >>= λ place. make_target files append name place >>= λ _. Done place

-- the place of a target, followed, once it is ready
abbrev pub open_target : FileMap → Redirect → Program Spot
open_target files target = read files target.word >>= open_operand files target.append

-- the same of the target that a line may have
abbrev pub open_into : FileMap → Option Redirect → Program (Option Spot)
open_into files None = Done None
open_into files (Some target) = open_target files target >>= λ place. Done (Some place)

-- output is appended to the target unless it is empty; without a target it is dropped
abbrev pub put_output : Option Spot → List ℕ → Program (Unit {0})
put_output None output = Done tt
put_output (Some place) output = choose (is_filled output) (act_in place.site (Append place.path output)) (Done tt)

-- a command with its output: the target is ready before the command runs
abbrev pub put_through : FileMap → Option Redirect → Program (List ℕ) → Program (Unit {0})
put_through files into command = open_into files into >>= λ place. command >>= λ output. put_output place output
