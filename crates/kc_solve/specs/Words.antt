-- The bare words that stand in an equation, in the order in which they are gathered.
use Rattle.std.specs.Prelude.{ℕ, List, [], ◌∷◌, ◌++◌, flat_map, if◌then◌else◌}
use Rattle.kc_expr.specs.declared.expr.Atom.{Atom}
use Rattle.kc_expr.specs.declared.expr.Atom.TheVariants.{Word, Quoted}
use Rattle.kc_expr.specs.declared.expr.Expr.{Expr, True, And', Or', Not', Holds, Same, Differ, more_of-Expr}
use Rattle.kc_menu.specs.declared.menu.KcDefault.{KcDefault}
use Rattle.kc_menu.specs.declared.menu.SymbolIf.{SymbolIf}
use Rattle.kc_menu.specs.declared.menu.KcEntry.{KcEntry}
use Rattle.kc_menu.specs.declared.menu.KcChoice.{KcChoice}
use Rattle.kc_equations.specs.Names.{is_declared}

abbrev pub word_of : Atom → List (List ℕ)
word_of (Word word) = word ∷ []
word_of (Quoted text) = []

abbrev pub words : Expr → List (List ℕ)
words True = []
words (And' s (more_of-Expr left r) u (more_of-Expr right q)) = words left ++ words right
words (Or' s (more_of-Expr left r) u (more_of-Expr right q)) = words left ++ words right
words (Not' s (more_of-Expr inner r)) = words inner
words (Holds atom) = word_of atom
words (Same left right) = word_of left ++ word_of right
words (Differ left right) = word_of left ++ word_of right

abbrev pub words_in : List Expr → List (List ℕ)
words_in conditions = flat_map words conditions

-- those of the prompts and the dependencies of an entry
abbrev pub shown_words : KcEntry → List (List ℕ)
shown_words e = words_in e.prompts ++ words_in e.depends

abbrev pub default_words : KcDefault → List (List ℕ)
default_words d = words d.value ++ words d.condition

abbrev pub own_words : KcEntry → List (List ℕ)
own_words e = shown_words e ++ flat_map default_words e.defaults

-- those of a select that names the symbol
abbrev pub select_words : KcEntry → SymbolIf → List (List ℕ)
select_words e s = (e.symbol ∷ words s.condition) ++ words_in e.depends

-- those of a default of a choice; a member is none of them
abbrev pub taken_words : List KcEntry → SymbolIf → List (List ℕ)
taken_words members d = words d.condition ++ (if is_declared members d.symbol then [] else d.symbol ∷ [])

abbrev pub choice_words : KcChoice → List KcEntry → List (List ℕ)
choice_words choice members =
    ((words_in choice.prompts ++ words_in choice.depends) ++ flat_map (taken_words members) choice.defaults)
    ++ flat_map shown_words members
