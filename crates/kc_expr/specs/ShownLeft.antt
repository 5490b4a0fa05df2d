-- What the reader of conditions has left, as its definition sees it.
use Rattle.std.specs.Prelude.{List}
use Rattle.kc_text.specs.declared.part.Part.{Part}
use Rattle.kc_expr.specs.Read.{Left as Seen}
use Rattle.kc_expr.specs.declared.read.Left.{Left}
use Rattle.kc_expr.specs.declared.expr.Expr.{Expr}
use Rattle.std.specs.Borrow.{Bor}

abbrev pub shown : Left → Seen
shown l = record { parts = l.parts.now; atoms = l.atoms }

abbrev pub seen : {A : Type 0} → A × Left → A × Seen
seen r = (r.0, shown r.1)

-- a condition and the parts after it
abbrev pub front : Expr × Bor (List Part) → Expr × List Part
front r = (r.0, r.1.now)
