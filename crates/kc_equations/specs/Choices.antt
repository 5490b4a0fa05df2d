-- What the choices of a solution are like.
use Rattle.std.specs.Prelude.{ℕ, ◌≡◌, ◌⊎◌, Bool, true, false, List, Some, slice_get}
use Rattle.std.specs.List.{list_any}
use Rattle.br_path.specs.Text.{is_text}
use Rattle.kc_values.specs.Values.{Table, find as valued, is_yes}
use Rattle.kc_menu.specs.Menu.{Declared, IsMenu}
use Rattle.kc_menu.specs.Visible.{shows, is_visible}
use Rattle.kc_menu.specs.declared.menu.KcEntry.{KcEntry}
use Rattle.kc_menu.specs.declared.menu.KcChoice.{KcChoice}
use Rattle.kc_menu.specs.declared.wishes.Wish.{Wish}
use Rattle.kc_equations.specs.Equation.{members_of, shows_choice}
use Rattle.kc_equations.specs.Names.{is_declared}
use Rattle.kc_equations.specs.Solution.{IsSolution}

-- a choice of a menu, and a solution
pub record IsChoice (menu : Declared) (wishes : List Wish) (values : Table) (place : ℕ) (choice : KcChoice) : Type 0 where
  pub menu_is : IsMenu menu
  pub choice_is : slice_get menu.choices place ≡ Some choice
  pub solution : IsSolution menu wishes values

-- one of the members is visible
abbrev pub has_visible : Table → List KcEntry → Bool
has_visible values members = list_any (λ e. shows e values) members

-- a visible member is y, and no other is
pub record IsOnlyMember (values : Table) (members : List KcEntry) (member : List ℕ) : Type 0 where
  pub visible : is_visible members member values ≡ true
  pub only : (symbol : List ℕ) → is_declared members symbol ≡ true → is_yes (valued symbol values) ≡ is_text member symbol

-- a visible choice with a visible member has exactly one member that is y, a visible one
abbrev pub TakesOne : Declared → Table → ℕ → KcChoice → Type 0
TakesOne menu values place choice =
    shows_choice values choice ≡ true → has_visible values (members_of menu.entries place) ≡ true
    → (member : List ℕ) × IsOnlyMember values (members_of menu.entries place) member

-- of a choice that isn't visible or has no visible member, no member is y
abbrev pub TakesNone : Declared → Table → ℕ → KcChoice → Type 0
TakesNone menu values place choice =
    (shows_choice values choice ≡ false) ⊎ (has_visible values (members_of menu.entries place) ≡ false)
    → (symbol : List ℕ) → is_declared (members_of menu.entries place) symbol ≡ true → is_yes (valued symbol values) ≡ false
