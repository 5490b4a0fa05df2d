use Rattle.std.proofs.Common.{sym, subst, ◌<◌}
use Rattle.plan_rows.proofs.OwnPrep.{prep_within}
use Rattle.root_merge.proofs.packages.left_by.Goals as goal

pub shelf-requires : goal.shelf-requires
shelf-requires g c =
    subst (λ count. c.in-Some.prep < count) (sym c.requires.count) (prep_within c.args.plan.now c.args.task _ c.in-Some.prep c.row-row.ensures.plan c.row-row.ensures.row c.in-Some.is c.requires.task)
