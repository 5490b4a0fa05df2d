use Rattle.std.proofs.Common.{◌≡◌, ◌++◌, map}
use Rattle.std.specs.Prelude.{flat_map}
use Rattle.task_shelves.specs.Packages.{packages_left}
use Rattle.root_merge.specs.Overwrites.{overwrites_in}
use Rattle.root_merge.specs.Found.{overwrite_if}
use Rattle.root_merge.proofs.Entries.{made_at, paths_in}
use Rattle.root_merge.proofs.overwriting.put_overwrites.Given as goal

-- what was put and what is to come are all of the area, and each path to come has the makes that wrote it
abbrev pub invariant-loop-path : goal.invariant-loop-path
invariant-loop-path g l =
    let packages = packages_left l.plan (g.S.Shelves.shelves l.shelves) in
    record {
      put : l.items.items ++ flat_map (overwrite_if l.area packages) (paths_in l.path-iterator) ≡ l.initial.items.items ++ overwrites_in l.area packages;
      made : l.path-iterator ≡ map (made_at l.area packages) (paths_in l.path-iterator);
    }
