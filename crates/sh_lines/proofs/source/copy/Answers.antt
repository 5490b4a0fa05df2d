use Rattle.std.proofs.Common.{rules, ◌≡◌, Ok, refl, subst}
use Rattle.sh_lines.specs.Source.{is_folder}
use Rattle.tree_worlds.specs.World.{world_data}
use Rattle.sh_lines.proofs.Copied.{copied, copied-yes, copied-no}
use Rattle.sh_lines.proofs.source.copy.Goals as goal

pub returns-then-is-clause-ran : goal.returns-then-is-clause-ran
returns-then-is-clause-ran g c =
    let files = c.args.files.now in
    let word : c.as_slice.result.now ≡ c.in_ok-folder.folder = search rules in
    let world = world_data g.T.TreeOps.tree c.args.world.now in
    let new = world_data g.T.TreeOps.tree c.copy_folder.new.world in
    let folder : c.in_ok-is.is' ≡ is_folder world files c.in_ok-folder.folder = subst (λ w. c.in_ok-is.is' ≡ is_folder world files w) word c.in_ok-is.ensures in
    copied files world c.in_ok-folder.folder c.in_ok-is.is' c.copy_folder.result new c.in_ok-folder.ensures folder
    (copied-yes files world c.in_ok-folder.folder c.in_ok-is.is' c.copy_folder.result new c.if-is.true c.copy_folder.ensures.ran)

pub returns-else-is-clause-ran : goal.returns-else-is-clause-ran
returns-else-is-clause-ran g c =
    let files = c.args.files.now in
    let word : c.as_slice.result.now ≡ c.in_ok-folder.folder = search rules in
    let world = world_data g.T.TreeOps.tree c.args.world.now in
    let folder : c.in_ok-is.is' ≡ is_folder world files c.in_ok-folder.folder = subst (λ w. c.in_ok-is.is' ≡ is_folder world files w) word c.in_ok-is.ensures in
    copied files world c.in_ok-folder.folder c.in_ok-is.is' (Ok tt) world c.in_ok-folder.ensures folder
    (copied-no files world c.in_ok-folder.folder c.in_ok-is.is' (Ok tt) world c.if-is.false refl)
