use Rattle.task_shelves.specs.Packages.{left_by}
use Rattle.root_merge.specs.Found.{AreWriters}
use Rattle.root_merge.proofs.Prefixes.{first_of}
use Rattle.root_merge.proofs.overwriting.writers_in.Given as goal

-- the paths of the first packages have the makes that wrote them
abbrev pub invariant-loop-make : goal.invariant-loop-make
invariant-loop-make g l = AreWriters l.area (first_of (left_by l.plan (g.S.Shelves.shelves l.shelves)) l.make) l.writers
