-- What references lead to.
use Rattle.std.specs.Prelude.{List, map}
use Rattle.std.specs.Borrow.{Bor}
use Rattle.kc_menu.specs.declared.menu.SymbolIf.{SymbolIf}
use Rattle.kc_menu.specs.declared.menu.KcEntry.{KcEntry}

abbrev pub behind : {A : Type 0} → List (Bor A) → List A
behind references = map (λ x. x.now) references

abbrev pub selects_behind : List (Bor KcEntry × Bor SymbolIf) → List (KcEntry × SymbolIf)
selects_behind references = map (λ x. (x.0.now, x.1.now)) references
