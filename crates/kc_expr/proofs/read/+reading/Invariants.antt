use Rattle.std.proofs.Common.{◌≡◌, ◌*◌, ◌+◌}
use Rattle.kc_expr.specs.declared.expr.Expr.TheViews as views
use Rattle.kc_expr.specs.Read.{item, more, chain, conjunction, behind_and, behind_or}
use Rattle.kc_expr.specs.ShownLeft.{shown}
use Rattle.kc_expr.proofs.read.+reading.Given as goal

abbrev pub decreases-item : goal.decreases-item
decreases-item l = 5 * l.depth

abbrev pub decreases-conjunction : goal.decreases-conjunction
decreases-conjunction l = 5 * l.depth + 1

abbrev pub decreases-disjunction : goal.decreases-disjunction
decreases-disjunction l = 5 * l.depth + 2

abbrev pub decreases-deeper : goal.decreases-deeper
decreases-deeper l = 5 * l.depth + 4

abbrev pub decreases-negated : goal.decreases-negated
decreases-negated l = 5 * l.depth + 1

abbrev pub decreases-grouped : goal.decreases-grouped
decreases-grouped l = 5 * l.depth + 3

-- what is left of the chain leads to where the whole does
abbrev pub invariant-conjunction-loop-behind : goal.invariant-conjunction-loop-behind
invariant-conjunction-loop-behind l = more behind_and views.And (item l.depth) l.rest.atoms l.expr (shown l.rest) ≡ chain behind_and views.And (item l.depth) (shown l.fn.left)

abbrev pub decreases-conjunction-loop-behind : goal.decreases-conjunction-loop-behind
decreases-conjunction-loop-behind l = l.rest.atoms

abbrev pub invariant-disjunction-loop-behind : goal.invariant-disjunction-loop-behind
invariant-disjunction-loop-behind l = more behind_or views.Or (conjunction (item l.depth)) l.rest.atoms l.expr (shown l.rest) ≡ chain behind_or views.Or (conjunction (item l.depth)) (shown l.fn.left)

abbrev pub decreases-disjunction-loop-behind : goal.decreases-disjunction-loop-behind
decreases-disjunction-loop-behind l = l.rest.atoms
