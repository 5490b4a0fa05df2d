use Rattle.kc_expr.proofs.Conds.{and_right, or_right}
use Rattle.kc_expr.proofs.expr.Expr.+holds.Goals as goal

pub returns-then-holds : goal.returns-then-holds
returns-then-holds t c =
    and_right c.args.values.now c.in-And.left c.in-And.right c.args.self.now c.get.result.now c.get-then-holds.result.now c.holds.result c.holds-then-holds.result
    c.in-And.is c.get.ensures c.get-then-holds.ensures c.holds.ensures c.if-holds.true c.holds-then-holds.ensures

pub returns-else-holds-2 : goal.returns-else-holds-2
returns-else-holds-2 t c =
    or_right c.args.values.now c.in-Or.left c.in-Or.right c.args.self.now c.get-in-Or.result.now c.get-else-holds-2.result.now c.holds-in-Or.result c.holds-else-holds-2.result
    c.in-Or.is c.get-in-Or.ensures c.get-else-holds-2.ensures c.holds-in-Or.ensures c.if-holds-2.false c.holds-else-holds-2.ensures
