use Rattle.std.proofs.Common.{rules, ◌≡◌, map, ap, ◌∙◌}
use Rattle.root_merge.specs.Found.{owner_of}
use Rattle.root_merge.proofs.Folders.{one_put}
use Rattle.root_merge.proofs.Prefixes.{makes-within}
use Rattle.root_merge.proofs.overwriting.put_overwrite.Goals as goal

pub names_of-requires : goal.names_of-requires
names_of-requires g c =
    let same : c.as_slice-then-is_overwritten.result.now ≡ c.args.makes.now = search rules in
    makes-within c.args.plan.now (g.S.Shelves.shelves c.args.shelves.now) c.args.area c.args.path c.as_slice-then-is_overwritten.result.now (same ∙ c.requires.makes)

pub returns-in_ok-push : goal.returns-in_ok-push
returns-in_ok-push g c =
    let plan = c.args.plan.now in
    let same : c.as_slice-then-is_overwritten.result.now ≡ c.args.makes.now = search rules in
    c.in_ok-push.ensures.items
    ∙ one_put plan (g.S.Shelves.shelves c.args.shelves.now) c.args.area c.args.path c.args.items.now.items c.in_ok-packages.packages c.is_overwritten.result
    c.is_overwritten.ensures c.if-is_overwritten.true (c.in_ok-packages.ensures ∙ ap (map (owner_of plan)) (same ∙ c.requires.makes))
