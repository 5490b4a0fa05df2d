use Rattle.std.proofs.Common.{◌≡◌, map, drop}
use Rattle.std.specs.List.{list_all}
use Rattle.task_shelves.specs.Packages.{left_by}
use Rattle.root_merge.specs.Found.{folder_left, is_mode}
use Rattle.root_merge.proofs.overwriting.are_of_mode.Given as goal

-- all left one just where those to come did
abbrev pub invariant-loop-make : goal.invariant-loop-make
invariant-loop-make g l =
    let left = folder_left l.area l.path (left_by l.plan (g.S.Shelves.shelves l.shelves)) in
    list_all (is_mode l.mode) (map left (drop l.make-index l.makes)) ≡ list_all (is_mode l.mode) (map left l.makes)
