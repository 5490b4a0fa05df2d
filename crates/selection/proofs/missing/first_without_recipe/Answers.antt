use Rattle.std.proofs.Common.{subst, sym, ◌∙◌}
use Rattle.std.proofs.lemmas.Bool.{false≢true}
use Rattle.selection.specs.Selecting.{IsLeast, LacksRecipe}
use Rattle.selection.proofs.LeastLaws.{among_children, off_more, off_all, least_at}
use Rattle.selection.proofs.missing.first_without_recipe.Goals as goal

pub returns-then-branch : goal.returns-then-branch
returns-then-branch c =
    let files = c.args.files.now in
    let values = c.args.values.now in
    let made = c.args.packages.now in
    let name = c.name-item.result in
    let lacks : LacksRecipe files values made name = subst (LacksRecipe files values made) c.as_slice.ensures (c.in_ok-lacks_recipe.ensures.0 c.if-branch.true) in
    subst (IsLeast (LacksRecipe files values made)) (sym c.in_ok-copy.ensures)
    (least_at (LacksRecipe files values made) c.args.names.now (among_children files values made c.args.folder.now c.args.names.now c.requires.folder c.requires.all) c.requires.order c.loop-name.name-index name
    c.loop-name.invariant c.loop-name-test.true c.name-item.is lacks)

pub loop-name-preserved : goal.loop-name-preserved
loop-name-preserved c =
    let files = c.args.files.now in
    let values = c.args.values.now in
    let made = c.args.packages.now in
    off_more (LacksRecipe files values made) c.args.names.now (among_children files values made c.args.folder.now c.args.names.now c.requires.folder c.requires.all) c.loop-name.name-index c.name-item.result
    c.loop-name.invariant c.loop-name-test.true c.name-item.is
    (λ lacks. false≢true (sym c.if-branch.false ∙ c.in_ok-lacks_recipe.ensures.1 (subst (LacksRecipe files values made) (sym c.as_slice.ensures) lacks)))

pub returns : goal.returns
returns c =
    let files = c.args.files.now in
    let values = c.args.values.now in
    let made = c.args.packages.now in
    off_all (LacksRecipe files values made) c.args.names.now (among_children files values made c.args.folder.now c.args.names.now c.requires.folder c.requires.all) c.loop-name.name-index
    c.loop-name.invariant c.loop-name-test.false
