use Rattle.std.proofs.Common.{length, sym, ap, ◌∙◌}
use Rattle.std.specs.FinMap as fin
use Rattle.task_shelves.specs.Packages.{left_by}
use Rattle.root_merge.specs.Owners.{Owners, owners_in}
use Rattle.root_merge.proofs.Owned.{owned-left}
use Rattle.root_merge.proofs.Whole.{merged-fits, merged-is}
use Rattle.root_merge.proofs.root.merge.Goals as goal

pub entries-requires-clause-owned : goal.entries-requires-clause-owned
entries-requires-clause-owned g c = λ path owner is.
    owned-left (left_by c.args.plan.now (g.S.Shelves.shelves c.args.shelves.now)) (length c.args.plan.now.rows) path owner (ap (λ (m : Owners). fin.get m path) (sym c.in_ok-owners.ensures.owners) ∙ is)

pub from_entries-requires : goal.from_entries-requires
from_entries-requires g c = record {
  root =
      merged-fits c.args.plan.now (g.S.Shelves.shelves c.args.shelves.now) (owners_in c.in_ok-owners.owners) c.in_ok-entries.entries.items c.requires.grounded c.requires.apart
      c.in_ok-owners.ensures.trees c.in_ok-owners.ensures.owners c.in_ok-entries.ensures.entries c.in_ok-entries.ensures.sized c.in_ok-entries.ensures.few;
}

pub returns : goal.returns
returns g c =
    c.from_entries.ensures
    ∙ merged-is c.args.plan.now (g.S.Shelves.shelves c.args.shelves.now) (owners_in c.in_ok-owners.owners) c.in_ok-entries.entries.items c.in_ok-owners.ensures.owners c.in_ok-entries.ensures.entries
