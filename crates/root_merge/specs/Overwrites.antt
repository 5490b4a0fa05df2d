-- Paths that several packages wrote.
use Rattle.std.specs.Prelude.{ℕ, Bool, true, false, not, ◌&&◌, nat_le, nat_eq, List, [], ◌∷◌, ◌++◌, map, filter, flat_map, length, Option, Some, None}
use Rattle.std.specs.List.{list_all, filter_map}
use Rattle.std.specs.FinMap as fin
use Rattle.br_path.specs.Path.{Names, path_cmp}
use Rattle.br_path.specs.declared.area.Area.{Area}
use Rattle.br_path.specs.declared.area.Area.TheVariants.{Host, Staging, Target}
use Rattle.plan_rows.specs.Plan.{Planned}
use Rattle.tree_ops.specs.declared.entry.Node.{Node}
use Rattle.tree_ops.specs.declared.entry.Node.TheVariants.{Dir}
use Rattle.tree_ops.specs.Tree.{node_at}
use Rattle.tree_worlds.specs.World.{tree_in}
use Rattle.task_shelves.specs.declared.overwrites.Overwrite.{Overwrite}
use Rattle.task_shelves.specs.Shelf.{ShelfData}
use Rattle.task_shelves.specs.Packages.{Left, packages_left, is_area, wrote}

-- the packages that wrote a path, by name
abbrev pub writers : Area → Names → List Left → List Left
writers area path packages = filter (wrote area path) packages

-- what stands at a path where each of them ended
abbrev pub nodes_left : Area → Names → List Left → List (Option Node)
nodes_left area path packages = map (λ left. node_at (tree_in left.trees area) path) packages

abbrev pub is_folder_of : ℕ → Option Node → Bool
is_folder_of mode (Some (Dir other)) = nat_eq other mode
is_folder_of mode other = false

-- all are folders of one mode
abbrev pub are_one_folder : List (Option Node) → Bool
are_one_folder [] = true
are_one_folder (Some (Dir mode) ∷ nodes) = list_all (is_folder_of mode) nodes
are_one_folder (other ∷ nodes) = false

-- two or more packages wrote the path, and didn't all leave a folder of one mode there
abbrev pub is_overwritten_by : Area → Names → List Left → Bool
is_overwritten_by area path writers = nat_le 2 (length writers) && not (are_one_folder (nodes_left area path writers))

abbrev pub is_overwritten : Area → List Left → Names → Bool
is_overwritten area packages path = is_overwritten_by area path (writers area path packages)

-- the paths of an area that a package wrote
abbrev pub path_in : Bool → Names → Option (Names × Unit {0})
path_in true path = Some (path, tt)
path_in false path = None

abbrev pub paths_of : Area → Left → List (Names × Unit {0})
paths_of area left = filter_map (λ pair. path_in (is_area pair.0 area) pair.1) left.written

-- the paths of an area that some package wrote, in their order
abbrev pub paths_written : Area → List Left → List Names
paths_written area packages = fin.keys (fin.from_entries {R = path_cmp} (flat_map (paths_of area) packages))

abbrev pub overwrite_at : Area → List Left → Names → Overwrite
overwrite_at area packages path = record { area = area; path = path; packages = map (λ left. left.name) (writers area path packages) }

abbrev pub overwrites_in : Area → List Left → List Overwrite
overwrites_in area packages = map (overwrite_at area packages) (filter (is_overwritten area packages) (paths_written area packages))

-- by area, then by path; packages in the order of their names
abbrev pub overwrites_among : List Left → List Overwrite
overwrites_among packages = overwrites_in Host packages ++ overwrites_in Staging packages ++ overwrites_in Target packages

-- the overwritten paths of a build
abbrev pub overwrites_of : Planned → (ℕ → ShelfData) → List Overwrite
overwrites_of plan shelves = overwrites_among (packages_left plan shelves)
