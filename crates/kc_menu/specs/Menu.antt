-- What the configuration files declare.
use Rattle.std.specs.Prelude.{ℕ, ◌≡◌, ◌≢◌, ◌<◌, List, Some, length, All, Contains}
use Rattle.kc_values.specs.declared.kind.Kind.TheVariants.{Bool as BoolKind}
use Rattle.kc_expr.specs.declared.expr.Atom.{Atom}
use Rattle.kc_expr.specs.declared.expr.Expr.{Holds}
use Rattle.kc_menu.specs.declared.menu.KcDefault.{KcDefault}
use Rattle.kc_menu.specs.declared.menu.KcEntry.{KcEntry}
use Rattle.kc_menu.specs.declared.menu.KcChoice.{KcChoice}

-- entries and choices, each in reading order
pub record Declared : Type 0 where
  pub entries : List KcEntry
  pub choices : List KcChoice

-- the value of a default is an atom
abbrev pub IsAtomDefault : KcDefault → Type 0
IsAtomDefault d = (atom : Atom) × (d.value ≡ Holds atom)

-- entries of one symbol have one type, and stand in one choice or in none; a member's choice is there, and the member is
-- a bool; the defaults of others than bools are atoms
pub record IsMenu (menu : Declared) : Type 0 where
  pub kinds : (e f : KcEntry) → Contains menu.entries e → Contains menu.entries f → e.symbol ≡ f.symbol → e.kind ≡ f.kind
  pub places : (e f : KcEntry) → Contains menu.entries e → Contains menu.entries f → e.symbol ≡ f.symbol → e.choice ≡ f.choice
  pub there : (e : KcEntry) (place : ℕ) → Contains menu.entries e → e.choice ≡ Some place → place < length menu.choices
  pub members : (e : KcEntry) (place : ℕ) → Contains menu.entries e → e.choice ≡ Some place → e.kind ≡ BoolKind
  pub atoms : (e : KcEntry) → Contains menu.entries e → e.kind ≢ BoolKind → All IsAtomDefault e.defaults
