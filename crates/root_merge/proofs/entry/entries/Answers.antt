use Rattle.std.proofs.Common.{◌≡◌, ℕ, ◌++◌, Option, length, sym, ap, ◌∙◌}
use Rattle.std.specs.FinMap as fin
use Rattle.br_path.specs.Path.{Names}
use Rattle.br_path.proofs.Maps.{entries-of}
use Rattle.br_path.proofs.PathOrder.{path_total}
use Rattle.root_image.specs.declared.root.RootEntry.{RootEntry}
use Rattle.root_image.specs.Lines.{Entries}
use Rattle.task_shelves.specs.Packages.{left_by}
use Rattle.tree_ops.specs.Tree.{label_cmp}
use Rattle.root_merge.specs.Owners.{owners_in, IsOwned, standings}
use Rattle.root_merge.specs.Firsts.{firsts_in, entries_on, IsSized}
use Rattle.root_merge.proofs.Adding.{all-owned, entries-turn, all-parts, all-pushed, all-none}
use Rattle.root_merge.proofs.entry.entries.Goals as goal

pub loop-path-init : goal.loop-path-init
loop-path-init g c =
    let lefts = left_by c.args.plan.now (g.S.Shelves.shelves c.args.shelves.now) in
    let gives = c.into_iter-path-iterator.ensures.into_iter_gives in
    let items : c.into_iter-path-iterator.result ≡ fin.entries (owners_in c.args.owners) = gives.0 ∙ sym (entries-of path_total c.args.owners gives.5) in
    record {
      entries =
          ap (λ (es : Entries). es ++ entries_on (firsts_in c.new-firsts.result) (standings lefts c.into_iter-path-iterator.result)) c.new-entries.ensures.items
          ∙ (λ i. entries_on (fin.from_entries {R = label_cmp} (c.new-firsts.ensures.empty i)) (standings lefts (items i)));
      owned = all-owned (IsOwned lefts (length c.args.plan.now.rows)) c.args.owners c.into_iter-path-iterator.result gives.0 gives.5 c.requires.owned;
      sized = all-none (λ (entry : Names × RootEntry). IsSized entry.1) c.new-entries.result.items c.new-entries.ensures.items;
    }

pub owned_entry-requires-clause-owned : goal.owned_entry-requires-clause-owned
owned_entry-requires-clause-owned g c =
    (all-parts (λ (e : Names × Option ℕ). IsOwned (left_by c.args.plan.now (g.S.Shelves.shelves c.args.shelves.now)) (length c.args.plan.now.rows) e.0 e.1)
    c.loop-path.path-iterator c.next.new.self (c.in-Some.path, c.in-Some.owner) c.in-Some.ensures.steps c.loop-path.invariant.owned).0

pub loop-path-preserved : goal.loop-path-preserved
loop-path-preserved g c =
    let lefts = left_by c.args.plan.now (g.S.Shelves.shelves c.args.shelves.now) in
    record {
      entries =
          entries-turn lefts c.loop-path.entries.items c.push.new.self.items (entries_on fin.empty (standings lefts (fin.entries (owners_in c.args.owners)))) (firsts_in c.loop-path.firsts) (firsts_in c.owned_entry.new.firsts)
          c.in-Some.path c.in-Some.owner c.in_ok-entry.entry c.loop-path.path-iterator c.next.new.self c.in_ok-push.ensures.items c.in_ok-entry.ensures.entry c.in_ok-entry.ensures.firsts c.in-Some.ensures.steps
          c.loop-path.invariant.entries;
      owned =
          (all-parts (λ (e : Names × Option ℕ). IsOwned lefts (length c.args.plan.now.rows) e.0 e.1) c.loop-path.path-iterator c.next.new.self (c.in-Some.path, c.in-Some.owner) c.in-Some.ensures.steps c.loop-path.invariant.owned).1;
      sized =
          all-pushed (λ (entry : Names × RootEntry). IsSized entry.1) c.loop-path.entries.items c.push.new.self.items (c.in-Some.path, c.in_ok-entry.entry) c.in_ok-push.ensures.items c.loop-path.invariant.sized c.in_ok-entry.ensures.sized;
    }
