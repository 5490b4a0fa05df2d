-- What the code finds on its way: form of the code, which no public contract cites.
use Rattle.std.specs.Prelude.{◌≡◌, ℕ, ◌-◌, Bool, true, false, nat_eq, List, [], ◌∷◌, ◌++◌, map, length, Option, Some, None, unwrap_or, slice_get, if◌then◌else◌}
use Rattle.std.specs.List.{list_all}
use Rattle.std.specs.Option.{option_and_then}
use Rattle.std.specs.FinMap as fin
use Rattle.std.specs.FinMap.{FinMap}
use base.Stored.{Coded, coded_list, coded_ℕ}
use Rattle.br_path.specs.Path.{Names, path_cmp}
use Rattle.br_path.specs.declared.area.Area.{Area}
use Rattle.plan_rows.specs.Plan.{Planned}
use Rattle.plan_rows.specs.declared.rows.TaskRow.{TaskRow}
use Rattle.tree_ops.specs.declared.entry.Entry.{Entry}
use Rattle.tree_ops.specs.declared.entry.Entry.TheVariants.{Dir}
use Rattle.tree_ops.specs.Tree.{Tree, entry_at}
use Rattle.tree_worlds.specs.World.{tree_in, trees_data}
use Rattle.task_shelves.specs.declared.overwrites.Overwrite.{Overwrite}
use Rattle.task_shelves.specs.Packages.{Left, is_area}
use Rattle.root_merge.specs.Overwrites.{writers, is_overwritten, overwrite_at}
use Rattle.root_merge.specs.declared.packages.Left.{Left as Lent}

-- what a built package left, by what its trees stand for
abbrev pub left_data : {T : Type 0} → (T → Tree) → Lent T → Left
left_data tree lent = record { task = lent.task; name = lent.name.now; trees = trees_data tree lent.trees.now; written = lent.written.now }

-- makes by the paths that they wrote
abbrev pub Makes : Type 0
Makes = FinMap path_cmp (List ℕ)

abbrev pub coded_makes : Coded Makes
coded_makes = fin.code (coded_list (coded_list coded_ℕ)) (coded_list coded_ℕ)

abbrev pub is_last : ℕ → Option ℕ → Bool
is_last make (Some last) = nat_eq last make
is_last make None = false

abbrev pub ends_with : List ℕ → ℕ → Bool
ends_with makes make = is_last make (slice_get makes (length makes - 1))

-- one more make, unless it is the last
abbrev pub with_make : ℕ → List ℕ → List ℕ
with_make make makes = if ends_with makes make then makes else makes ++ make ∷ []

abbrev pub noted : ℕ → Names → Makes → Makes
noted make path makes = fin.insert makes path (with_make make (unwrap_or (fin.get makes path) []))

abbrev pub noted_if : Bool → ℕ → Names → Makes → Makes
noted_if true make path makes = noted make path makes
noted_if false make path makes = makes

-- a make is added to each path of the area that it wrote
abbrev pub all_noted : Area → ℕ → List (Area × Names) → Makes → Makes
all_noted area make [] makes = makes
all_noted area make (pair ∷ written) makes = all_noted area make written (noted_if (is_area pair.0 area) make pair.1 makes)

-- the makes of the packages that wrote a path
abbrev pub makes_at : Area → List Left → Names → List ℕ
makes_at area packages path = map (λ left. left.task) (writers area path packages)

abbrev pub some_makes : List ℕ → Option (List ℕ)
some_makes [] = None
some_makes (make ∷ makes) = Some (make ∷ makes)

-- the paths that some package wrote have the makes that wrote them
abbrev pub AreWriters : Area → List Left → Makes → Type 0
AreWriters area packages makes = (path : Names) → fin.get makes path ≡ some_makes (makes_at area packages path)

-- a path, if it is overwritten
abbrev pub overwrite_if : Area → List Left → Names → List Overwrite
overwrite_if area packages path = if is_overwritten area packages path then overwrite_at area packages path ∷ [] else []

abbrev pub folder_mode : Option Entry → Option ℕ
folder_mode (Some (Dir mode)) = Some mode
folder_mode entry = None

abbrev pub mode_left : Area → Names → Left → Option ℕ
mode_left area path left = folder_mode (entry_at (tree_in left.trees area) path)

-- the mode of the folder that the package of a make left at a path
abbrev pub folder_left : Area → Names → (ℕ → Option Left) → ℕ → Option ℕ
folder_left area path left_by make = option_and_then (mode_left area path) (left_by make)

abbrev pub is_mode : ℕ → Option ℕ → Bool
is_mode mode (Some other) = nat_eq other mode
is_mode mode None = false

-- all are one mode
abbrev pub are_one_mode : List (Option ℕ) → Bool
are_one_mode [] = true
are_one_mode (Some mode ∷ modes) = list_all (is_mode mode) modes
are_one_mode (None ∷ modes) = false

abbrev pub owner_in : Option TaskRow → List ℕ
owner_in (Some row) = row.«package»
owner_in None = []

-- the name of the package of a task
abbrev pub owner_of : Planned → ℕ → List ℕ
owner_of plan task = owner_in (slice_get plan.rows task)
