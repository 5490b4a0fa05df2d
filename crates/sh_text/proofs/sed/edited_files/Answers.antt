use Rattle.std.proofs.Common.{◌≡◌, ℕ, ◌+◌, List, [], ◌++◌, drop, sym, ap, subst, ◌∙◌}
use Rattle.std.proofs.lemmas.Result.{err_from_is_err_and}
use Rattle.tree_worlds.specs.World.{world_data}
use Rattle.tree_worlds.specs.Program.{run}
use Rattle.sh_text.specs.Sed.{edited_files}
use Rattle.sh_text.proofs.SedFiles.{edited_next, edited_stop}
use Rattle.sh_text.proofs.sed.edited_files.Goals as goal

pub returns-in_err-text : goal.returns-in_err-text
returns-in_err-text g c =
    let world = world_data g.T.TreeOps.tree c.args.world.now in
    let whole = run (edited_files c.args.files.now c.args.script.now [] c.args.words.now) world in
    let given = err_from_is_err_and c.from_residual.result c.from_residual.ensures.1 in
    rw (given.1, given.2) (
    edited_stop c.args.files.now c.args.script.now c.loop-word.output c.args.words.now c.loop-word.word-index c.word-item.result c.as_slice.result.now c.in_err-text.field-0.0 world whole c.loop-word-test.true c.word-item.is c.as_slice.ensures
    c.loop-word.invariant c.in_err-text.ensures
    )

pub loop-word-preserved : goal.loop-word-preserved
loop-word-preserved g c =
    let world = world_data g.T.TreeOps.tree c.args.world.now in
    let whole = run (edited_files c.args.files.now c.args.script.now [] c.args.words.now) world in
    let text = ◌∙◌ {b = c.loop-word.output ++ c.as_slice-in-loop-word.result.now} c.in_ok-append.ensures (ap (λ more. c.loop-word.output ++ more) c.as_slice-in-loop-word.ensures) in
    subst (λ (output : List ℕ). run (edited_files c.args.files.now c.args.script.now output (drop (c.loop-word.word-index + 1) c.args.words.now)) world ≡ whole) (sym text) (
    edited_next c.args.files.now c.args.script.now c.loop-word.output c.in_ok-text.text c.args.words.now c.loop-word.word-index c.word-item.result c.as_slice.result.now world whole c.loop-word-test.true c.word-item.is c.as_slice.ensures
    c.loop-word.invariant c.in_ok-text.ensures
    )
