-- Which symbols the equation of a symbol names.
use Rattle.std.specs.Prelude.{ℕ, Bool, false, ◌&&◌, ◌||◌, not, List, Option, option_and_then, slice_get}
use Rattle.std.specs.List.{list_any}
use Rattle.std.specs.Option.{option_map_or}
use Rattle.br_path.specs.Text.{is_text}
use Rattle.kc_expr.specs.declared.expr.Atom.{Atom}
use Rattle.kc_expr.specs.declared.expr.Atom.TheVariants.{Word, Quoted}
use Rattle.kc_expr.specs.declared.expr.Expr.{Expr, True, And', Or', Not', Holds, Same, Differ, more_of-Expr}
use Rattle.kc_menu.specs.Menu.{Declared}
use Rattle.kc_menu.specs.declared.menu.SymbolIf.{SymbolIf}
use Rattle.kc_menu.specs.declared.menu.KcEntry.{KcEntry}
use Rattle.kc_menu.specs.declared.menu.KcChoice.{KcChoice}
use Rattle.kc_equations.specs.Equation.{entries_of, selects_of, choice_at}

-- a quoted text never stands for a symbol
abbrev pub is_atom_of : Atom → List ℕ → Bool
is_atom_of (Word word) t = is_text word t
is_atom_of (Quoted text) t = false

-- the symbol stands in the condition
abbrev pub mentions : Expr → List ℕ → Bool
mentions True t = false
mentions (And' s (more_of-Expr left r) u (more_of-Expr right q)) t = mentions left t || mentions right t
mentions (Or' s (more_of-Expr left r) u (more_of-Expr right q)) t = mentions left t || mentions right t
mentions (Not' s (more_of-Expr inner r)) t = mentions inner t
mentions (Holds atom) t = is_atom_of atom t
mentions (Same left right) t = is_atom_of left t || is_atom_of right t
mentions (Differ left right) t = is_atom_of left t || is_atom_of right t

abbrev pub some_mentions : List Expr → List ℕ → Bool
some_mentions conditions t = list_any (λ condition. mentions condition t) conditions

-- the symbol stands in the condition of a prompt or in a dependency of an entry
abbrev pub names_shown : KcEntry → List ℕ → Bool
names_shown e t = some_mentions e.prompts t || some_mentions e.depends t

-- it stands in a condition, a dependency or a default of an entry; the conditions of the selects that it makes are none of
-- its own
abbrev pub names_own : KcEntry → List ℕ → Bool
names_own e t = names_shown e t || list_any (λ d. mentions d.value t || mentions d.condition t) e.defaults

-- a select is made by the symbol, or the symbol stands in its condition or in the dependencies of its entry
abbrev pub names_by_select : KcEntry → SymbolIf → List ℕ → Bool
names_by_select e s t = is_text e.symbol t || mentions s.condition t || some_mentions e.depends t

abbrev pub is_declared : List KcEntry → List ℕ → Bool
is_declared entries symbol = list_any (λ e. is_text e.symbol symbol) entries

-- the symbol stands in the condition of a default of a choice, or is its value; a member of the choice that is the value
-- doesn't count
abbrev pub names_by_default : List KcEntry → SymbolIf → List ℕ → Bool
names_by_default members d t = mentions d.condition t || is_text d.symbol t && not (is_declared members t)

-- the symbol stands in a condition, a dependency or a default of a choice, or in the dependencies or prompts of a member
abbrev pub names_by_choice : KcChoice → List KcEntry → List ℕ → Bool
names_by_choice choice members t =
    some_mentions choice.prompts t || some_mentions choice.depends t
    || list_any (λ d. names_by_default members d t) choice.defaults
    || list_any (λ e. names_shown e t) members

-- the choice of a symbol, with the entries of its members
abbrev pub choice_of : Declared → List ℕ → Option (KcChoice × List KcEntry)
choice_of menu symbol =
    option_and_then (λ e. option_and_then (choice_at menu) e.choice) (slice_get (entries_of menu.entries symbol) 0)

-- the symbol t stands in the equation of s: in an entry of s, as one that selects s, round a select that names s, or in
-- the choice of s
unfoldable pub stands_in : Declared → List ℕ → List ℕ → Bool
stands_in menu s t =
    list_any (λ e. names_own e t) (entries_of menu.entries s)
    || list_any (λ x. names_by_select x.0 x.1 t) (selects_of menu.entries s)
    || option_map_or (λ c. names_by_choice c.0 c.1 t) (choice_of menu s) false

-- the equation of s names t; both are declared
unfoldable pub names : Declared → List ℕ → List ℕ → Bool
names menu s t = is_declared menu.entries s && is_declared menu.entries t && stands_in menu s t
