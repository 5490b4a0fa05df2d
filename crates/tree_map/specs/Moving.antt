-- Names that move: where they stand and where they will, and the names as they are carried.
use Rattle.std.specs.Prelude.{ℕ, ◌+◌, ◌*◌, Bool, List, [], ◌∷◌, map, length, Option, Some, None, is_some, if◌then◌else◌}
use Rattle.std.specs.FinMap as fin
use Rattle.std.specs.FinMap.Entries.{where_key}
use Rattle.std.specs.List.{list_any}
use Rattle.br_path.specs.Path.{Names, path_cmp, rooted_text}
use Rattle.tree_ops.specs.declared.entry.Node.{Node}
use Rattle.tree_ops.specs.Pen.{Counts}
use Rattle.tree_ops.specs.Change.{counted_anew, is_below, moved_path}
use Rattle.tree_map.specs.declared.moving.Move.{Move}
use Rattle.tree_map.specs.NameTable.{NameMap}

-- where a path moves to with `old`
abbrev pub move_of : Names → Names → Names → Move
move_of old at path = record { from = path; to = moved_path old at path }

-- the moves of all names below `old`, in their order
abbrev pub moves_below : Names → Names → List (Names × Node) → List Move
moves_below old at entries = map (λ entry. move_of old at entry.0) (where_key path_cmp (is_below old) entries)

-- a pen's counts after so many names had the path `at` in place of `old`, one more at `at` gone if something stood there
abbrev pub counts_moved : Counts → Names → Names → ℕ → Bool → Counts
counts_moved pen old at count taken = counted_anew pen
    (count + (if taken then 1 else 0), count * length (rooted_text old) + (if taken then 1 else 0) * length (rooted_text at)) (count, count * length (rooted_text at))

-- a node is put at a path, if there is one
abbrev pub put_there : NameMap → Names → Option Node → NameMap
put_there names to None = names
put_there names to (Some node) = fin.insert names to node

-- what stands at one path stands at another too
abbrev pub with_copy : NameMap → Names → Names → NameMap
with_copy names from to = put_there names to (fin.get names from)

abbrev pub with_copies : List Move → NameMap → NameMap
with_copies [] names = names
with_copies (one ∷ moves) names = with_copies moves (with_copy names one.from one.to)

abbrev pub without_paths : List Names → NameMap → NameMap
without_paths [] names = names
without_paths (path ∷ paths) names = without_paths paths (fin.remove names path)

-- some of them moves to where something stands
abbrev pub is_taken : NameMap → List Move → Bool
is_taken names moves = list_any (λ one. is_some (fin.get names one.to)) moves

-- what stands at `old` stands at `at` in its place, and what moves with it where it moves to
abbrev pub carried : Names → Names → List Move → NameMap → NameMap
carried old at moves names = without_paths (map (λ one. one.from) moves) (fin.remove (with_copy (with_copies moves names) old at) old)
