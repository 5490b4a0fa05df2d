use Rattle.std.proofs.Common.{◌≡◌, ◌++◌, length}
use Rattle.std.specs.Prelude.{All}
use Rattle.std.specs.FinMap as fin
use Rattle.task_shelves.specs.Packages.{left_by}
use Rattle.root_merge.specs.Owners.{owners_in, IsOwned, standings}
use Rattle.root_merge.specs.Firsts.{firsts_in, entries_on, IsSized}
use Rattle.root_merge.proofs.entry.entries.Given as goal

-- the entries so far and those to come are all of them; what is to come is owned, and the files so far have bytes
abbrev pub invariant-loop-path : goal.invariant-loop-path
invariant-loop-path g l = record {
  entries : l.entries.items ++ entries_on (firsts_in l.firsts) (standings (left_by l.plan (g.S.Shelves.shelves l.shelves)) l.path-iterator)
      ≡ entries_on fin.empty (standings (left_by l.plan (g.S.Shelves.shelves l.shelves)) (fin.entries (owners_in l.fn.owners)));
  owned : All (λ e. IsOwned (left_by l.plan (g.S.Shelves.shelves l.shelves)) (length l.plan.rows) e.0 e.1) l.path-iterator;
  sized : All (λ entry. IsSized entry.1) l.entries.items;
}
