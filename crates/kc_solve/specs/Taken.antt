-- The members that choices take, as far as they are found.
use Rattle.std.specs.Prelude.{ℕ, ◌≡◌, List, length, Option, Some, None, option_and_then, slice_get, slice_index_or, slice_set}
use Rattle.kc_values.specs.Values.{Table}
use Rattle.kc_menu.specs.Menu.{Declared}
use Rattle.kc_menu.specs.declared.menu.KcEntry.{KcEntry}
use Rattle.kc_menu.specs.declared.wishes.Wish.{Wish}
use Rattle.kc_equations.specs.Equation.{entries_of, taken_at}

-- of each choice nothing, or the member that it takes; it may take none
abbrev pub Known : Type 0
Known = List (Option (Option (List ℕ)))

-- the choices of which something is known take these members at these values
pub record AreTaken (menu : Declared) (wishes : List Wish) (values : Table) (known : Known) : Type 0 where
  pub count : length known ≡ length menu.choices
  pub each : (place : ℕ) (found : Option (List ℕ)) → slice_index_or known place None ≡ Some found → found ≡ taken_at menu wishes values place

-- the place of a symbol's choice: that of its first entry
abbrev pub choice_place : List KcEntry → List ℕ → Option ℕ
choice_place entries s = option_and_then (λ e. e.choice) (slice_get (entries_of entries s) 0)

-- known besides: what the choice at a place takes, where there is one
abbrev pub with_taken : Declared → List Wish → Table → Known → Option ℕ → Known
with_taken menu wishes values known None = known
with_taken menu wishes values known (Some place) = slice_set known place (Some (taken_at menu wishes values place))
