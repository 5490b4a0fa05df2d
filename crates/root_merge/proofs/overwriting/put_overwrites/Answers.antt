use Rattle.task_shelves.specs.Packages.{packages_left}
use Rattle.root_merge.proofs.Entries.{all_to_come}
use Rattle.root_merge.proofs.overwriting.put_overwrites.Goals as goal

pub loop-path-init : goal.loop-path-init
loop-path-init g c =
    let gives = c.into_iter-path-iterator.ensures.into_iter_gives in
    let all = all_to_come c.args.area (packages_left c.args.plan.now (g.S.Shelves.shelves c.args.shelves.now)) c.writers.inside.makes c.in_ok-writers.writers c.args.items.now.items c.into_iter-path-iterator.result
    gives.0 gives.5 c.writers.view_is c.in_ok-writers.ensures in
    record { put = all.0; made = all.1 }
