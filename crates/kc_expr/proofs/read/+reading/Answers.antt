use Rattle.std.proofs.Common.{◌≡◌, ◌+◌, ◌-◌, ◌∙◌, arith}
use Rattle.kc_text.specs.declared.part.Part.TheVariants.{And as AndPart, Or as OrPart}
use Rattle.kc_expr.specs.declared.expr.Expr.TheViews as views
use Rattle.kc_expr.specs.Read.{item, conjunction, disjunction, behind_and, behind_or}
use Rattle.kc_expr.specs.ShownLeft.{shown}
use Rattle.kc_expr.proofs.Chains.{chain_begins, more_fails, item_deeper}
use Rattle.kc_expr.proofs.Found.{seen_some, seen_none}
use Rattle.kc_expr.proofs.Loops.{more_on, fewer_left, item_uses, conjunction_uses}
use Rattle.kc_expr.proofs.Sound.{is_behind_and, is_behind_or}
use Rattle.kc_expr.proofs.read.+reading.Goals as goal

pub conjunction-loop-behind-init : goal.conjunction-loop-behind-init
conjunction-loop-behind-init t c =
    chain_begins behind_and views.And (item c.args.depth) c.in-Some.expr (shown c.args.left) (shown c.in-Some.rest)
    (seen_some c.in_ok-expr.field-0 c.in-Some.expr c.in-Some.rest _ c.in-Some.is c.in_ok-expr.ensures)

pub conjunction-returns-in_default-2 : goal.conjunction-returns-in_default-2
unfolding conjunction
conjunction-returns-in_default-2 t c =
    rw (← c.loop-behind.invariant) (more_fails behind_and views.And (item c.args.depth) c.loop-behind.rest.atoms c.loop-behind.expr (shown c.loop-behind.rest) (shown c.in-Some-behind_and.behind)
    c.in-Some-behind_and.ensures (seen_none c.in_ok-next.field-0 _ c.in_default-2.is c.in_ok-next.ensures))

pub conjunction-loop-behind-smaller : goal.conjunction-loop-behind-smaller
conjunction-loop-behind-smaller t c =
    fewer_left AndPart behind_and is_behind_and views.And (item c.args.depth) (item_uses c.args.depth) c.in-Some-2.next (shown c.loop-behind.rest) (shown c.in-Some-behind_and.behind) (shown c.in-Some-2.after)
    c.in-Some-behind_and.ensures (seen_some c.in_ok-next.field-0 c.in-Some-2.next c.in-Some-2.after _ c.in-Some-2.is c.in_ok-next.ensures)

pub conjunction-loop-behind-preserved : goal.conjunction-loop-behind-preserved
conjunction-loop-behind-preserved t c =
    rw c.in_ok-expr-2.ensures (more_on AndPart behind_and is_behind_and views.And (item c.args.depth) (item_uses c.args.depth) c.loop-behind.expr c.in-Some-2.next (shown c.loop-behind.rest) (shown c.in-Some-behind_and.behind) (shown c.in-Some-2.after)
    c.in-Some-behind_and.ensures (seen_some c.in_ok-next.field-0 c.in-Some-2.next c.in-Some-2.after _ c.in-Some-2.is c.in_ok-next.ensures)
    ∙ c.loop-behind.invariant)

pub disjunction-loop-behind-init : goal.disjunction-loop-behind-init
disjunction-loop-behind-init t c =
    chain_begins behind_or views.Or (conjunction (item c.args.depth)) c.in-Some.expr (shown c.args.left) (shown c.in-Some.rest)
    (seen_some c.in_ok-expr.field-0 c.in-Some.expr c.in-Some.rest _ c.in-Some.is c.in_ok-expr.ensures)

pub disjunction-returns-in_default-2 : goal.disjunction-returns-in_default-2
unfolding disjunction
disjunction-returns-in_default-2 t c =
    rw (← c.loop-behind.invariant) (more_fails behind_or views.Or (conjunction (item c.args.depth)) c.loop-behind.rest.atoms c.loop-behind.expr (shown c.loop-behind.rest) (shown c.in-Some-behind_or.behind)
    c.in-Some-behind_or.ensures (seen_none c.in_ok-next.field-0 _ c.in_default-2.is c.in_ok-next.ensures))

pub disjunction-loop-behind-smaller : goal.disjunction-loop-behind-smaller
disjunction-loop-behind-smaller t c =
    fewer_left OrPart behind_or is_behind_or views.Or (conjunction (item c.args.depth)) (conjunction_uses c.args.depth) c.in-Some-2.next (shown c.loop-behind.rest) (shown c.in-Some-behind_or.behind) (shown c.in-Some-2.after)
    c.in-Some-behind_or.ensures (seen_some c.in_ok-next.field-0 c.in-Some-2.next c.in-Some-2.after _ c.in-Some-2.is c.in_ok-next.ensures)

pub disjunction-loop-behind-preserved : goal.disjunction-loop-behind-preserved
disjunction-loop-behind-preserved t c =
    rw c.in_ok-expr-2.ensures (more_on OrPart behind_or is_behind_or views.Or (conjunction (item c.args.depth)) (conjunction_uses c.args.depth) c.loop-behind.expr c.in-Some-2.next (shown c.loop-behind.rest) (shown c.in-Some-behind_or.behind) (shown c.in-Some-2.after)
    c.in-Some-behind_or.ensures (seen_some c.in_ok-next.field-0 c.in-Some-2.next c.in-Some-2.after _ c.in-Some-2.is c.in_ok-next.ensures)
    ∙ c.loop-behind.invariant)

pub item-returns : goal.item-returns
item-returns t c =
    let down : c.args.depth ≡ c.args.depth - 1 + 1 = omega arith in
    rw (item_deeper c.args.depth (c.args.depth - 1) (shown c.args.left) down) c.deeper.ensures
