-- ln.
use Rattle.std.specs.Prelude.{ℕ, Bool, true, false, ◌||◌, ◌&&◌, ◌==◌, not, nat_le, List, length, Option, Some, None, Result, Ok, Err, if◌then◌else◌}
use Rattle.std.specs.List.{list_all}
use Rattle.br_path.specs.Path.{Names, is_name_byte}
use Rattle.br_path.specs.Files.{FileMap}
use Rattle.tree_ops.specs.declared.change.ChangeFault.TheVariants.{Absent, Present, IsDir, Crosses}
use Rattle.tree_ops.specs.Change.{Change, AddName, MakeLink}
use Rattle.tree_worlds.specs.World.{WorldData}
use Rattle.tree_worlds.specs.Program.{Program, Done, Refuse, Look, ◌>>=◌}
use Rattle.tree_worlds.specs.declared.operand.Operand.{Operand}
use Rattle.tree_worlds.specs.declared.reason.Reason.{Reason}
use Rattle.tree_worlds.specs.declared.reason.Reason.TheVariants.{Operand as no_operand, Same, Change as for_change}
use Rattle.sh_places.specs.declared.spot.Site.{Site}
use Rattle.sh_places.specs.declared.spot.Site.TheVariants.{Tree as in_tree}
use Rattle.sh_places.specs.declared.spot.Spot.{Spot}
use Rattle.sh_places.specs.declared.kind.Kind.{Kind}
use Rattle.sh_places.specs.declared.kind.Kind.TheVariants.{Dir, Link, File}
use Rattle.sh_places.specs.Spot.{is_area}
use Rattle.sh_places.specs.Looks.{kind_at, text_at}
use Rattle.sh_places.specs.Finding.{spot_of}
use Rattle.sh_places.specs.Parts.{attempt, choose, each, act_in, read, resolve, find}
use Rattle.sh_files.specs.Folders.{is_empty, but_last}
use Rattle.sh_files.specs.Goals.{last_of, base_for, place_for, folder_there, onto, goal_place}
use Rattle.sh_files.specs.Install.{is_source}
use Rattle.sh_files.specs.Room.{is_link, make_room}
use Rattle.sh_files.specs.declared.goal.Goal.{Goal}
use Rattle.sh_files.specs.declared.goal.Goal.TheVariants.{Into}

-- 1. What hard links and moves ask of a source.

-- from the input and from readable trees, and between two areas
abbrev pub crosses : Site → Site → Bool
crosses (in_tree area) (in_tree other) = not (is_area area other)
crosses (in_tree area) other = false
crosses site other = true

abbrev pub within : Site → Goal → Result (Unit {0}) Reason
within site goal = if crosses site (goal_place goal).site then Err (for_change Crosses) else Ok tt

-- the place of a source at its goal
abbrev pub place_within : Site → Goal → List ℕ → Program Spot
place_within site goal base = attempt (within site goal) >>= λ _. attempt (place_for goal base)

-- 2. The goal: into the folder that the last operand leads to, with `n` only if it is no link itself; else, for one source alone, onto its place.

abbrev pub link_there : WorldData → FileMap → Result Spot Reason → Bool
link_there world files (Err reason) = false
link_there world files (Ok place) = is_link (kind_at world files place)

abbrev pub link_folder : WorldData → FileMap → Bool → Operand → Option Spot
link_folder world files itself operand =
    if itself && link_there world files (spot_of world false operand) then None else folder_there world files (spot_of world true operand)

abbrev pub link_goal_of : ℕ → Operand → Option Spot → Program Goal
link_goal_of sources operand (Some folder) = Done (Into folder)
link_goal_of sources operand None = choose (nat_le 2 sources) (Refuse no_operand) (resolve operand false >>= onto)

abbrev pub link_goal : FileMap → Bool → ℕ → List ℕ → Program Goal
link_goal files itself sources word =
    read files word >>= λ operand. Look >>= λ world. link_goal_of sources operand (link_folder world files itself operand)

-- 3. Room for a name: an entry is Present; with `f` a file or link makes room, but not another name of the source's file.

abbrev pub clear : Bool → Bool → Spot → Option Kind → Program (Unit {0})
clear force same place None = Done tt
clear false same place (Some kind) = Refuse (for_change Present)
clear true same place (Some kind) = choose same (Refuse Same) (make_room place (Some kind))

-- 4. Without `s`: one more name of a file, or a link with the text of a link.

abbrev pub linkable : Option Kind → Result Kind Reason
linkable None = Err (for_change Absent)
linkable (Some (Dir mode)) = Err (for_change IsDir)
linkable (Some kind) = Ok kind

-- of a file; a link is made anew whatever it is
abbrev pub is_same : Spot → Kind → Spot → Option Kind → Bool
is_same source (File label) place there = is_source source label place there
is_same source kind place there = false

abbrev pub name_of : Spot → List ℕ → Spot → Kind → Change
name_of source text place Link = MakeLink place.path text
name_of source text place kind = AddName source.path place.path

-- what stands at a place, once more at its goal
abbrev pub link_from : FileMap → Bool → Goal → List ℕ → Spot → Program (Unit {0})
link_from files force goal base source =
    Look >>= λ world.
    attempt (linkable (kind_at world files source)) >>= λ kind.
    place_within source.site goal base >>= λ place.
    clear force (is_same source kind place (kind_at world files place)) place (kind_at world files place) >>= λ _.
    act_in place.site (name_of source (text_at world source) place kind)

abbrev pub link_source : FileMap → Bool → Goal → List ℕ → Program (Unit {0})
link_source files force goal word = attempt (base_for goal word) >>= λ base. find files word false >>= link_from files force goal base

-- 5. With `s`: a link with the operand as its text.

abbrev pub is_link_text : List ℕ → Bool
is_link_text word = nat_le 1 (length word) && nat_le (length word) 1024 && list_all (λ byte. byte == 47 || is_name_byte byte) word

abbrev pub link_text : List ℕ → Result (Unit {0}) Reason
link_text word = if is_link_text word then Ok tt else Err no_operand

-- a link with a text, in the room of what stands at its place
abbrev pub put_link : FileMap → Bool → List ℕ → Spot → Program (Unit {0})
put_link files force text place =
    Look >>= λ world. clear force false place (kind_at world files place) >>= λ _. act_in place.site (MakeLink place.path text)

abbrev pub link_to_text : FileMap → Bool → Goal → List ℕ → Program (Unit {0})
link_to_text files force goal word =
    attempt (base_for goal word) >>= λ base.
    attempt (link_text word) >>= λ _.
    attempt (place_for goal base) >>= put_link files force word

abbrev pub link_one : FileMap → Bool → Bool → Goal → List ℕ → Program (Unit {0})
link_one files symbolic force goal word = choose symbolic (link_to_text files force goal word) (link_source files force goal word)

-- 6. ln, by its options: `f`, `n`, `s`; operands.

abbrev pub link_each : FileMap → Bool → Bool → Names → Goal → Program (Unit {0})
link_each files symbolic force sources goal = each (link_one files symbolic force goal) sources

abbrev pub link_all : FileMap → Bool → Bool → Bool → Names → List ℕ → Program (Unit {0})
link_all files force itself symbolic sources word = link_goal files itself (length sources) word >>= link_each files symbolic force sources

abbrev pub link_to : FileMap → Bool → Bool → Bool → Names → Option (List ℕ) → Program (Unit {0})
link_to files force itself symbolic sources None = Refuse no_operand
link_to files force itself symbolic sources (Some word) = choose (is_empty sources) (Refuse no_operand) (link_all files force itself symbolic sources word)

abbrev pub ln : FileMap → Bool → Bool → Bool → Names → Program (Unit {0})
ln files force itself symbolic operands = link_to files force itself symbolic (but_last operands) (last_of operands)
