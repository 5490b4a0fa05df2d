-- Whose entry stands at each path of a root: form of the code, which no public contract cites.
use Rattle.std.specs.Prelude.{◌≡◌, ℕ, ◌<◌, Bool, true, false, ◌&&◌, List, [], ◌∷◌, map, Option, Some, None, is_some, if◌then◌else◌}
use Rattle.std.specs.List.{range_with_len}
use Rattle.std.specs.BTreeMap.{BTreeMap}
use Rattle.std.specs.FinMap as fin
use Rattle.std.specs.FinMap.{FinMap}
use Rattle.br_path.specs.Path.{Names, path_cmp}
use Rattle.br_path.specs.declared.area.Area.{Area}
use Rattle.br_path.specs.declared.area.Area.TheVariants.{Target}
use Rattle.tree_ops.specs.declared.entry.Node.{Node}
use Rattle.tree_ops.specs.Tree.{Tree, IsTree, node_at}
use Rattle.task_shelves.specs.Packages.{Left, is_area}
use Rattle.root_merge.specs.Roots.{Standing, standing, first_root}

-- the paths of a root, each with the make whose entry stands there; none at the root folder that no package wrote
abbrev pub Owners : Type 0
Owners = FinMap path_cmp (Option ℕ)

abbrev pub owners_in : BTreeMap Names (Option ℕ) → Owners
owners_in owners = fin.from_entries owners.entries

-- an owner for a path that has none
abbrev pub with_owner : Names → Option ℕ → Owners → Owners
with_owner path owner owners = if fin.contains_key owners path then owners else fin.insert owners path owner

-- something stands at a path of the target area
abbrev pub is_left : Tree → Area → Names → Bool
is_left tree area path = is_area area Target && is_some (node_at tree path)

abbrev pub with_pair : Tree → ℕ → Area × Names → Owners → Owners
with_pair tree task pair owners = if is_left tree pair.0 pair.1 then with_owner pair.1 (Some task) owners else owners

abbrev pub with_written : Tree → ℕ → List (Area × Names) → Owners → Owners
with_written tree task [] owners = owners
with_written tree task (pair ∷ written) owners = with_written tree task written (with_pair tree task pair owners)

abbrev pub with_left : ℕ → Option Left → Owners → Owners
with_left task None owners = owners
with_left task (Some left) owners = with_written left.trees.target task left.written owners

abbrev pub with_tasks : (ℕ → Option Left) → List ℕ → Owners → Owners
with_tasks lefts [] owners = owners
with_tasks lefts (task ∷ tasks) owners = with_tasks lefts tasks (with_left task (lefts task) owners)

-- those of the first tasks, one after the other, and the root
abbrev pub all_owners : (ℕ → Option Left) → ℕ → Owners
all_owners lefts count = with_owner [] None (with_tasks lefts (range_with_len 0 count) fin.empty)

-- what stands at a path that has an owner
abbrev pub standing_at : Tree → Option Node → Standing
standing_at tree None = first_root.1
standing_at tree (Some node) = standing tree node

abbrev pub standing_in : Names → Option Left → Standing
standing_in path None = first_root.1
standing_in path (Some left) = standing_at left.trees.target (node_at left.trees.target path)

abbrev pub standing_by : (ℕ → Option Left) → Names → Option ℕ → Standing
standing_by lefts path None = first_root.1
standing_by lefts path (Some task) = standing_in path (lefts task)

abbrev pub standings : (ℕ → Option Left) → List (Names × Option ℕ) → List (Names × Standing)
standings lefts owners = map (λ entry. (entry.0, standing_by lefts entry.0 entry.1)) owners

-- an owner is a package, and something stands in its target tree
abbrev pub has_node : Names → Option Left → Bool
has_node path None = false
has_node path (Some left) = is_some (node_at left.trees.target path)

abbrev pub IsOwned : (ℕ → Option Left) → ℕ → Names → Option ℕ → Type 0
IsOwned lefts count path None = Unit {0}
IsOwned lefts count path (Some task) = (task < count) × (has_node path (lefts task) ≡ true)

-- what each package left in its target tree is a tree
abbrev pub AreTrees : (ℕ → Option Left) → ℕ → Type 0
AreTrees lefts count = (task : ℕ) (left : Left) → task < count → lefts task ≡ Some left → IsTree left.trees.target
