-- What is found, as the definition sees it.
use Rattle.std.proofs.Common.{◌≡◌, Option, Some, None}
use Rattle.std.specs.Option.{option_map}
use Rattle.kc_expr.specs.declared.expr.Expr.{Expr}
use Rattle.kc_expr.specs.declared.read.Left.{Left}
use Rattle.kc_expr.specs.Read.{Left as Seen}
use Rattle.kc_expr.specs.ShownLeft.{seen, shown}

pub seen_some : (found : Option (Expr × Left)) (e : Expr) (rest : Left) (read : Option (Expr × Seen)) → found ≡ Some (e, rest) → option_map seen found ≡ read → Some (e, shown rest) ≡ read
seen_some found e rest read is h = rw is at h

pub seen_none : (found : Option (Expr × Left)) (read : Option (Expr × Seen)) → found ≡ None → option_map seen found ≡ read → None ≡ read
seen_none found read is h = rw is at h
