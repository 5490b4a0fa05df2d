-- cp.
use Rattle.std.specs.Prelude.{ℕ, zero, suc, Bool, true, false, ◌&&◌, List, [], ◌∷◌, ◌++◌, length, drop, codes, Option, Some, None, Result, Ok, Err, if◌then◌else◌, bit_and, ◌-◌}
use Rattle.br_path.specs.Path.{Names, rooted_text}
use Rattle.br_path.specs.Text.{is_text}
use Rattle.br_path.specs.Files.{FileMap}
use Rattle.tree_ops.specs.declared.entry.Label.{Label}
use Rattle.tree_ops.specs.declared.change.ChangeFault.TheVariants.{Absent, IsDir, NotDir, Loop}
use Rattle.tree_ops.specs.Change.{Write, SetMode, AddName, MakeLink, MakeDir, is_at_or_below}
use Rattle.tree_worlds.specs.World.{WorldData}
use Rattle.tree_worlds.specs.Program.{Program, Done, Refuse, Look, ◌>>=◌}
use Rattle.tree_worlds.specs.declared.reason.Reason.{Reason}
use Rattle.tree_worlds.specs.declared.reason.Reason.TheVariants.{Same, Change as for_change}
use Rattle.sh_places.specs.declared.spot.Spot.{Spot}
use Rattle.sh_places.specs.declared.kind.Kind.{Kind}
use Rattle.sh_places.specs.declared.kind.Kind.TheVariants.{Dir, Link, File}
use Rattle.sh_places.specs.Spot.{is_same_file, is_site}
use Rattle.sh_places.specs.Looks.{kind_at, bytes_at, mode_at, text_at, names_at}
use Rattle.sh_places.specs.Finding.{place_below, walked, spot}
use Rattle.sh_places.specs.Parts.{attempt, choose, act_in, find}
use Rattle.sh_files.specs.Goals.{base_for, place_for, goal_place, goal_for, sources_of}
use Rattle.sh_files.specs.Room.{is_link, make_room, make_file}
use Rattle.std.specs.FinMap as fin
use Rattle.std.specs.FinMap.{FinMap}
use Rattle.tree_ops.specs.Tree.{label_cmp}
use Rattle.sh_files.specs.declared.copying.Manner.{Manner}
use Rattle.sh_files.specs.declared.copied.Copied.{Copied}
use Rattle.sh_files.specs.declared.goal.Goal.{Goal}

-- the files that one command has copied, with `d`: by the label of each, where its first copy is
abbrev pub CopiedTo : Type 0
CopiedTo = FinMap label_cmp Spot

abbrev pub places_of : Copied → CopiedTo
places_of copied = fin.from_entries copied.places.entries

-- files of the input have no label
abbrev pub first_copy : CopiedTo → Option Label → Option Spot
first_copy copied None = None
first_copy copied (Some label) = fin.get copied label

abbrev pub copied_too : Manner → CopiedTo → Option Label → Spot → CopiedTo
copied_too manner copied None place = copied
copied_too manner copied (Some label) place = if manner.links then fin.insert copied label place else copied

-- the mode of what is made: all of it with `p`, else without the bits that 0755 lacks
abbrev pub made_mode : Manner → ℕ → ℕ
made_mode manner mode = if manner.modes then mode else bit_and mode 493

-- 1. Where a copy goes.

abbrev pub followed_from : WorldData → Spot → Option Kind → Result Spot Reason
followed_from world place (Some Link) = walked world place.site (rooted_text place.path) true
followed_from world place kind = Ok place

-- a place, followed
abbrev pub followed : WorldData → FileMap → Spot → Result Spot Reason
followed world files place = followed_from world place (kind_at world files place)

-- a folder isn't copied into itself: to no place at it or below it
abbrev pub apart : Spot → Spot → Result (Unit {0}) Reason
apart folder place = if is_site folder.site place.site && is_at_or_below folder.path place.path then Err (for_change Loop) else Ok tt

-- what can be copied: something, and a folder only with `r`
abbrev pub copyable : Manner → Option Kind → Result Kind Reason
copyable manner None = Err (for_change Absent)
copyable manner (Some (Dir mode)) = if manner.folders then Ok (Dir mode) else Err (for_change IsDir)
copyable manner (Some kind) = Ok kind

-- 2. A link that isn't followed: a link of equal text.

abbrev pub copy_link : Spot → List ℕ → Option Kind → Program (Unit {0})
copy_link place text kind = make_room place kind >>= λ _. act_in place.site (MakeLink place.path text)

-- 3. A file that was copied before, with `d`: one more name of the first copy.

abbrev pub copy_name : Spot → Spot → Option Kind → Program (Unit {0})
copy_name first place kind = make_room place kind >>= λ _. act_in place.site (AddName first.path place.path)

-- 4. Another file: its bytes into the file at the followed place, or into a new one there.

abbrev pub overwrite : Manner → Spot → ℕ → List ℕ → Program (Unit {0})
overwrite manner at mode bytes =
    act_in at.site (Write at.path bytes) >>= λ _. choose manner.modes (act_in at.site (SetMode at.path mode)) (Done tt)

abbrev pub copy_bytes : Manner → Spot → Option Label → ℕ → List ℕ → Spot → Bool → Option Kind → Program (Unit {0})
copy_bytes manner source label mode bytes at dangling (Some (Dir old)) = Refuse (for_change IsDir)
copy_bytes manner source label mode bytes at dangling (Some Link) = Refuse (for_change Absent)
copy_bytes manner source label mode bytes at dangling (Some (File other)) =
    choose (is_same_file source.site label at.site other) (Refuse Same) (overwrite manner at mode bytes)
copy_bytes manner source label mode bytes at true None = Refuse (for_change Absent)
copy_bytes manner source label mode bytes at false None = make_file at (made_mode manner mode) bytes

abbrev pub copy_contents : FileMap → Manner → Spot → Option Label → Spot → Program Spot
copy_contents files manner source label place =
    Look >>= λ world.
    attempt (followed world files place) >>= λ at.
    copy_bytes manner source label (mode_at world source) (bytes_at world files source) at (is_link (kind_at world files place)) (kind_at world files at) >>= λ _.
    Done at

abbrev pub copy_file_or_name : FileMap → Manner → CopiedTo → Spot → Option Label → Spot → Option Spot → Program CopiedTo
copy_file_or_name files manner copied source label place None =
    copy_contents files manner source label place >>= λ at. Done (copied_too manner copied label at)
copy_file_or_name files manner copied source label place (Some first) =
    Look >>= λ world. copy_name first place (kind_at world files place) >>= λ _. Done copied

abbrev pub copy_file : FileMap → Manner → CopiedTo → Spot → Option Label → Spot → Program CopiedTo
copy_file files manner copied source label place =
    copy_file_or_name files manner copied source label place (if manner.links then first_copy copied label else None)

-- 5. A folder, with what stands below it.

abbrev pub Below : Type 1
Below = CopiedTo → Spot → Spot → Program CopiedTo

-- the folder at a followed place: made, or left, with `p` in the source's mode
abbrev pub make_copy : Manner → ℕ → Spot → Option Kind → Program (Unit {0})
make_copy manner mode at None = act_in at.site (MakeDir at.path (made_mode manner mode))
make_copy manner mode at (Some (Dir old)) = choose manner.modes (act_in at.site (SetMode at.path mode)) (Done tt)
make_copy manner mode at (Some kind) = Refuse (for_change NotDir)

abbrev pub copy_folder : Below → FileMap → Manner → CopiedTo → Spot → ℕ → Spot → Program CopiedTo
copy_folder below files manner copied source mode place =
    Look >>= λ world.
    attempt (apart source place) >>= λ _.
    attempt (followed world files place) >>= λ at.
    attempt (apart source at) >>= λ _.
    make_copy manner mode at (kind_at world files at) >>= λ _.
    below copied source at

-- 6. One object to a place, by its kind.

abbrev pub copy_kind : Below → FileMap → Manner → CopiedTo → Spot → Spot → Kind → Program CopiedTo
copy_kind below files manner copied source place Link =
    Look >>= λ world. copy_link place (text_at world source) (kind_at world files place) >>= λ _. Done copied
copy_kind below files manner copied source place (File label) = copy_file files manner copied source label place
copy_kind below files manner copied source place (Dir mode) = copy_folder below files manner copied source mode place

-- an entry of a folder into another
abbrev pub copy_entry : Below → FileMap → Manner → Spot → Spot → CopiedTo → List ℕ → Program CopiedTo
copy_entry below files manner source at copied name =
    let entry = spot source.site (source.path ++ name ∷ []) in
    Look >>= λ world.
    attempt (copyable manner (kind_at world files entry)) >>= λ kind.
    attempt (place_below at name) >>= λ place.
    copy_kind below files manner copied entry place kind

-- one copy after another
abbrev pub each_copy : (CopiedTo → List ℕ → Program CopiedTo) → CopiedTo → Names → Program CopiedTo
each_copy copy copied [] = Done copied
each_copy copy copied (name ∷ names) = copy copied name >>= λ more. each_copy copy more names

-- the entries of a folder, by name, into another, to a depth that no tree passes
unfoldable pub copy_below : ℕ → FileMap → Manner → Below
copy_below zero files manner copied source at = Done copied
copy_below (suc depth) files manner copied source at =
    Look >>= λ world. each_copy (copy_entry (copy_below depth files manner) files manner source at) copied (names_at world files source)

-- 7. Sources.

-- a word that ends in `/.` names what a folder has in it
abbrev pub ends_in_dot : List ℕ → Bool
ends_in_dot word = is_text (drop (length word - 2) word) (codes "/.")

abbrev pub folder_mode : Manner → Option Kind → Result ℕ Reason
folder_mode manner None = Err (for_change Absent)
folder_mode manner (Some (Dir mode)) = if manner.folders then Ok mode else Err (for_change IsDir)
folder_mode manner (Some kind) = Err (for_change NotDir)

-- what a folder has in it goes into the goal itself
abbrev pub copy_entries : FileMap → Manner → Goal → CopiedTo → List ℕ → Program CopiedTo
copy_entries files manner goal copied word =
    find files word manner.follow >>= λ source.
    Look >>= λ world.
    attempt (folder_mode manner (kind_at world files source)) >>= λ mode.
    copy_folder (copy_below 1024 files manner) files manner copied source mode (goal_place goal)

abbrev pub copy_object : FileMap → Manner → Goal → CopiedTo → List ℕ → Program CopiedTo
copy_object files manner goal copied word =
    attempt (base_for goal word) >>= λ base.
    find files word manner.follow >>= λ source.
    Look >>= λ world.
    attempt (copyable manner (kind_at world files source)) >>= λ kind.
    attempt (place_for goal base) >>= λ place.
    copy_kind (copy_below 1024 files manner) files manner copied source place kind

abbrev pub copy_source : FileMap → Manner → Goal → CopiedTo → List ℕ → Program CopiedTo
copy_source files manner goal copied word = choose (ends_in_dot word) (copy_entries files manner goal copied word) (copy_object files manner goal copied word)

-- the sources one after another; the list of what was copied goes on
abbrev pub copy_sources : FileMap → Manner → Names → Goal → Program (Unit {0})
copy_sources files manner sources goal = each_copy (copy_source files manner goal) fin.empty sources >>= λ copied. Done tt

-- 8. cp, by its manner, the value of `t`, and operands.

abbrev pub cp : FileMap → Manner → Option (List ℕ) → Names → Program (Unit {0})
cp files manner into operands = goal_for files false into operands >>= copy_sources files manner (sources_of into operands)
