-- What keeps a configuration from being solved, and what is given where nothing does.
use Rattle.std.specs.Prelude.{ℕ, ◌≡◌, ◌≢◌, ◌↔◌, ⊤, Bool, true, false, ◌&&◌, not, ◌==◌, nat_le, List, [], ◌∷◌, length, is_some, Contains, if◌then◌else◌}
use Rattle.std.specs.List.{list_any, list_all}
use Rattle.std.specs.List.Sorted.{IsStrictlySortedBy}
use Rattle.std.specs.Option.{option_map_or}
use Rattle.std.specs.Cmp.Lexicographic.{slice_cmp}
use Rattle.std.specs.Ordering.{nat_cmp, is_le}
use Rattle.std.specs.Char.{is_ascii_digit}
use Rattle.br_path.specs.Text.{is_text}
use Rattle.kc_values.specs.Values.{Table, find as valued, is_bool, is_yes}
use Rattle.kc_values.specs.declared.values.Valued.{Valued}
use Rattle.kc_values.specs.declared.kind.Kind.{Kind}
use Rattle.kc_values.specs.declared.kind.Kind.TheVariants.{Bool as BoolKind, Text as TextKind, Int as IntKind}
use Rattle.kc_menu.specs.Menu.{Declared}
use Rattle.kc_menu.specs.Visible.{all_hold}
use Rattle.kc_menu.specs.declared.menu.KcEntry.{KcEntry}
use Rattle.kc_menu.specs.declared.wishes.Wish.{Wish}
use Rattle.kc_equations.specs.Equation.{entries_of, selects_of, is_selected}
use Rattle.kc_equations.specs.Names.{names}
use Rattle.kc_equations.specs.Solution.{IsSolution}
use Rattle.kc_equations.specs.Walks.{OnCycle}
use Rattle.kc_equations.specs.declared.fault.SolveFault.{SolveFault}
use Rattle.kc_equations.specs.declared.fault.SolveFault.TheVariants.{SelectOfChoice, SelectOfValue, Cycle, BadNumber, Memory}

-- the least by bytes of which something holds
pub record IsLeast (P : List ℕ → Type 0) (least : List ℕ) : Type 0 where
  pub holds : P least
  pub below : (other : List ℕ) → P other → is_le (slice_cmp nat_cmp least other) ≡ true

-- ---- selects of what can't be selected

-- a select names the symbol
abbrev pub is_select_named : List KcEntry → List ℕ → Bool
is_select_named entries symbol = list_any (λ e. list_any (λ s. is_text s.symbol symbol) e.selects) entries

-- a member of a choice that a select names
abbrev pub is_named_member : List KcEntry → List ℕ → Bool
is_named_member entries symbol = is_select_named entries symbol && list_any (λ e. is_some e.choice) (entries_of entries symbol)

-- a string or int that a select names
abbrev pub is_named_value : List KcEntry → List ℕ → Bool
is_named_value entries symbol = is_select_named entries symbol && list_any (λ e. not (is_bool e.kind)) (entries_of entries symbol)

-- ---- ints that are no numbers

abbrev pub behind_sign : List ℕ → List ℕ
behind_sign [] = []
behind_sign (byte ∷ bytes) = if byte == 45 then bytes else byte ∷ bytes

abbrev pub are_digits : List ℕ → Bool
are_digits bytes = nat_le 1 (length bytes) && nat_le (length bytes) 18 && list_all is_ascii_digit bytes

abbrev pub is_int : Kind → Bool
is_int BoolKind = false
is_int TextKind = false
is_int IntKind = true

-- an int whose text isn't empty and isn't 1 to 18 digits, perhaps after a `-`
abbrev pub is_bad : Valued → Bool
is_bad v = is_int v.kind && not (length v.text == 0) && not (are_digits (behind_sign v.text))

abbrev pub is_bad_number : Table → List ℕ → Bool
is_bad_number values symbol = option_map_or is_bad (valued symbol values) false

-- ---- the first fault

abbrev pub NoNamedMember : Declared → Type 0
NoNamedMember menu = (symbol : List ℕ) → is_named_member menu.entries symbol ≡ false

abbrev pub NoNamedValue : Declared → Type 0
NoNamedValue menu = (symbol : List ℕ) → is_named_value menu.entries symbol ≡ false

abbrev pub NoCycle : Declared → Type 0
NoCycle menu = (symbol : List ℕ) → ¬ (OnCycle (names menu) symbol)

-- each fault has the least of its symbols, and none of those before it comes; out of memory may come at any time
abbrev pub IsFirstFault : Declared → List Wish → SolveFault → Type 0
IsFirstFault menu wishes (SelectOfChoice symbol) = IsLeast (λ s. is_named_member menu.entries s ≡ true) symbol
IsFirstFault menu wishes (SelectOfValue symbol) = NoNamedMember menu × IsLeast (λ s. is_named_value menu.entries s ≡ true) symbol
IsFirstFault menu wishes (Cycle symbol) = NoNamedMember menu × NoNamedValue menu × IsLeast (OnCycle (names menu)) symbol
IsFirstFault menu wishes (BadNumber symbol) =
    NoNamedMember menu × NoNamedValue menu × NoCycle menu
    × ((values : Table) × IsSolution menu wishes values × IsLeast (λ s. is_bad_number values s ≡ true) symbol)
IsFirstFault menu wishes Memory = ⊤

-- ---- what is solved

-- the dependencies of a symbol hold: those of one of its entries
abbrev pub depends_hold : Table → List KcEntry → Bool
depends_hold values own = list_any (λ e. all_hold e.depends values) own

-- a symbol that is y, by an effective select, while its dependencies don't hold
abbrev pub is_forced : Declared → Table → List ℕ → Bool
is_forced menu values symbol =
    is_yes (valued symbol values) && is_selected values (selects_of menu.entries symbol)
    && not (depends_hold values (entries_of menu.entries symbol))

-- the forced symbols, by name
pub record AreForced (menu : Declared) (values : Table) (forced : List (List ℕ)) : Type 0 where
  pub sorted : IsStrictlySortedBy (slice_cmp nat_cmp) forced
  pub forced_is : (symbol : List ℕ) → Contains forced symbol ↔ (is_forced menu values symbol ≡ true)

-- no fault comes, and these are the solution and its forced symbols
pub record IsSolved (menu : Declared) (wishes : List Wish) (values : Table) (forced : List (List ℕ)) : Type 0 where
  pub members : NoNamedMember menu
  pub plain : NoNamedValue menu
  pub acyclic : NoCycle menu
  pub solution : IsSolution menu wishes values
  pub numbers : (symbol : List ℕ) → is_bad_number values symbol ≡ false
  pub listed : AreForced menu values forced

-- ---- one answer

-- a configuration that is solved has one table of values
abbrev pub IsSolvedOnce : Declared → List Wish → Type 0
IsSolvedOnce menu wishes =
    (values others : Table) (forced rest : List (List ℕ)) → IsSolved menu wishes values forced → IsSolved menu wishes others rest → values ≡ others

-- one that isn't has one first fault, besides out of memory
abbrev pub HasOneFault : Declared → List Wish → Type 0
HasOneFault menu wishes =
    (fault other : SolveFault) → fault ≢ Memory → other ≢ Memory → IsFirstFault menu wishes fault → IsFirstFault menu wishes other → fault ≡ other

-- and none is both
abbrev pub IsSolvedOrFaulty : Declared → List Wish → Type 0
IsSolvedOrFaulty menu wishes =
    (values : Table) (forced : List (List ℕ)) (fault : SolveFault) → fault ≢ Memory → IsSolved menu wishes values forced → ¬ (IsFirstFault menu wishes fault)
