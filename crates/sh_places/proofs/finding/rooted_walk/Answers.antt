use Rattle.std.proofs.Common.{ap, sym, subst, ◌∙◌}
use Rattle.std.proofs.lemmas.List.{take_all}
use Rattle.br_path.specs.Path.{rooted_text}
use Rattle.tree_ops.specs.Walk.{IsWalk}
use Rattle.sh_places.proofs.Walking.{rooted-walk}
use Rattle.sh_places.proofs.finding.rooted_walk.Goals as goal

pub returns-clause-bytes : goal.returns-clause-bytes
returns-clause-bytes c =
    let all = take_all c.loop-name.name-index c.names-name-items.result.now c.loop-name-test.false in
    subst IsWalk (sym (c.loop-name.invariant ∙ ap rooted_text (all ∙ c.names-name-items.ensures.names))) (rooted-walk c.args.path.now c.names-name-items.ensures.path.legal)
