use Rattle.root_merge.proofs.Folders.{overwritten-by}
use Rattle.root_merge.proofs.Prefixes.{makes-within}
use Rattle.root_merge.proofs.overwriting.is_overwritten.Goals as goal

pub are_one_folder-requires-clause-makes : goal.are_one_folder-requires-clause-makes
are_one_folder-requires-clause-makes g c = makes-within c.args.plan.now (g.S.Shelves.shelves c.args.shelves.now) c.args.area c.args.path.now c.args.makes.now c.requires.makes

pub returns-then-makes-ge2 : goal.returns-then-makes-ge2
returns-then-makes-ge2 g c =
    overwritten-by c.args.plan.now (g.S.Shelves.shelves c.args.shelves.now) c.args.area c.args.path.now c.args.makes.now c.are_one_folder.result c.requires.makes c.if-makes-ge2.true c.are_one_folder.ensures
