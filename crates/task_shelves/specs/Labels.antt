-- The tasks whose files stand on a shelf.
use Rattle.std.specs.Prelude.{ℕ, Bool, nat_eq, List, [], ◌++◌, map}
use Rattle.std.specs.List.{list_any, list_all}
use Rattle.std.specs.FinMap as fin
use Rattle.tree_ops.specs.Tree.{Tree}
use Rattle.task_shelves.specs.Shelf.{ShelfData, Built, Failed, Skipped}

-- the tasks that drew the labels of a tree
abbrev pub drawers_in : Tree → List ℕ
drawers_in tree = map (λ entry. entry.0.task) (fin.entries tree.labels)

-- and those of all trees on a shelf
abbrev pub drawers_on : ShelfData → List ℕ
drawers_on (Built trees written stamps) = drawers_in trees.build ++ drawers_in trees.host ++ drawers_in trees.staging ++ drawers_in trees.target
drawers_on (Failed step line status reason stamps) = []
drawers_on (Skipped by) = []

-- a task is one of these
abbrev pub is_among : List ℕ → ℕ → Bool
is_among tasks task = list_any (nat_eq task) tasks

-- each task is one of those
abbrev pub are_among : List ℕ → List ℕ → Bool
are_among those tasks = list_all (is_among those) tasks
