-- What joined conditions say.
use Rattle.std.proofs.Common.{◌≡◌, refl, Bool, true, false}
use Rattle.std.specs.Prelude.{◌&&◌, ◌||◌, not}
use Rattle.kc_expr.specs.declared.expr.Expr.{Expr}
use Rattle.kc_expr.specs.declared.expr.Expr.TheViews as views
use Rattle.kc_values.specs.Values.{Table}
use Rattle.kc_expr.specs.Holds.{holds}

pub holds_and : (values : Table) (left right : Expr) → holds values (views.And left right) ≡ (holds values left && holds values right)
unfolding Rattle.kc_expr.specs.declared.expr.Expr.TheBlock.hidden-the_row-Expr-0 denote.Hole.Carrier.hidden
holds_and values left right = refl

pub holds_or : (values : Table) (left right : Expr) → holds values (views.Or left right) ≡ (holds values left || holds values right)
unfolding Rattle.kc_expr.specs.declared.expr.Expr.TheBlock.hidden-the_row-Expr-0 denote.Hole.Carrier.hidden
holds_or values left right = refl

pub holds_not : (values : Table) (inner : Expr) → holds values (views.Not inner) ≡ not (holds values inner)
unfolding Rattle.kc_expr.specs.declared.expr.Expr.TheBlock.hidden-the_row-Expr-0 denote.Hole.Carrier.hidden
holds_not values inner = refl

-- where the left one holds, the right one decides `&&`
pub and_right : (values : Table) (left right whole near far : Expr) (first second : Bool) → whole ≡ views.And left right → near ≡ left → far ≡ right → first ≡ holds values near → first ≡ true → second ≡ holds values far → second ≡ holds values whole
and_right values left right whole near far first second is near_is far_is first_is first_true second_is =
    rw (is, holds_and values left right, ← near_is, ← far_is, ← first_is, first_true) second_is

-- where the left one doesn't hold, the right one decides `||`
pub or_right : (values : Table) (left right whole near far : Expr) (first second : Bool) → whole ≡ views.Or left right → near ≡ left → far ≡ right → first ≡ holds values near → first ≡ false → second ≡ holds values far → second ≡ holds values whole
or_right values left right whole near far first second is near_is far_is first_is first_false second_is =
    rw (is, holds_or values left right, ← near_is, ← far_is, ← first_is, first_false) second_is

pub ruleset telling = (holds_and, holds_or, holds_not)
