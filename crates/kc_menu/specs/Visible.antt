-- Which symbol is visible at which values.
use Rattle.std.specs.Prelude.{ℕ, Bool, ◌&&◌, List}
use Rattle.std.specs.List.{list_all, list_any}
use Rattle.br_path.specs.Text.{is_text}
use Rattle.kc_values.specs.Values.{Table}
use Rattle.kc_expr.specs.Holds.{holds}
use Rattle.kc_expr.specs.declared.expr.Expr.{Expr}
use Rattle.kc_menu.specs.declared.menu.KcEntry.{KcEntry}

abbrev pub all_hold : List Expr → Table → Bool
all_hold conditions values = list_all (λ condition. holds values condition) conditions

abbrev pub some_holds : List Expr → Table → Bool
some_holds conditions values = list_any (λ condition. holds values condition) conditions

-- a prompt of the entry counts: its own condition and all dependencies of the entry hold
abbrev pub shows : KcEntry → Table → Bool
shows entry values = all_hold entry.depends values && some_holds entry.prompts values

-- a prompt of one of the symbol's entries counts
abbrev pub is_visible : List KcEntry → List ℕ → Table → Bool
is_visible entries symbol values = list_any (λ entry. is_text entry.symbol symbol && shows entry values) entries
