use Rattle.std.proofs.Common.{◌∙◌, sym}
use Rattle.br_path.specs.Path.{Names}
use Rattle.tree_ops.specs.declared.entry.Node.{Node}
use Rattle.tree_map.proofs.Gathered.{gathered-first, gathered-more, gathered-past, gathered-all}
use Rattle.tree_map.proofs.moving.moves_listed.Goals as goal
use Rattle.tree_map.proofs.moving.moves_listed.Goals.{in-None, in-Some+then-not-is_below}

pub loop-path-init : goal.loop-path-init
loop-path-init c =
    rw (c.new-moves.ensures.items, c.into_iter-path-iterator.ensures.into_iter_gives, c.range-path-items.ensures.between tt) (
    gathered-first c.args.old.now c.args.at.now c.args.names.now.entries c.range-path-items.ensures.ordered
    )

pub loop-path-preserved : goal.loop-path-preserved
loop-path-preserved c =
    let e : Names × Node = (c.in-Some.path.now, c.in-Some.field-0-1.now) in
    gathered-more c.args.old.now c.args.at.now c.args.names.now.entries c.loop-path.moves.items c.loop-path.path-iterator c.next.new.self e c.loop-path.invariant c.in-Some.ensures.steps c.push_move.new.moves.items
    (sym c.is_below.ensures ∙ c.if-not-is_below.false) (sym c.leads_too_far.ensures ∙ c.if-leads_too_far.false) c.in_ok-push_move.ensures

pub returns-clause-ok : goal.returns-clause-ok
returns-clause-ok c =
    elim c.match-next.branch [
      | in-None w ↦ gathered-all c.args.old.now c.args.at.now c.args.names.now.entries c.loop-path.moves.items c.loop-path.path-iterator c.loop-path.invariant w.in-None.ensures.steps.0
      | in-Some+then-not-is_below w ↦
          gathered-past c.args.old.now c.args.at.now c.args.names.now.entries c.loop-path.moves.items c.loop-path.path-iterator c.next.new.self (w.in-Some.path.now, w.in-Some.field-0-1.now) c.loop-path.invariant w.in-Some.ensures.steps
          (sym w.is_below.ensures ∙ w.if-not-is_below.true)
    ]
