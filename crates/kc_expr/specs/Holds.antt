-- Which condition holds at which values.
use Rattle.std.specs.Prelude.{ℕ, Bool, true, false, ◌&&◌, ◌||◌, not, List, Option, Some, None, codes, unwrap_or}
use Rattle.std.specs.Option.{option_map}
use Rattle.kc_values.specs.Values.{Table, find, is_y, is_yes}
use Rattle.br_path.specs.Text.{is_text}
use Rattle.kc_values.specs.declared.values.Valued.{Valued}
use Rattle.kc_values.specs.declared.kind.Kind.{Kind}
use Rattle.kc_values.specs.declared.kind.Kind.TheVariants.{Bool as BoolKind, Text as TextKind, Int as IntKind}
use Rattle.kc_expr.specs.declared.expr.Atom.{Atom}
use Rattle.kc_expr.specs.declared.expr.Atom.TheVariants.{Word, Quoted}
use Rattle.kc_expr.specs.declared.expr.Expr.{Expr, True, And', Or', Not', Holds, Same, Differ, more_of-Expr}

-- the text of an atom: the value of the symbol that has its name, else itself
abbrev pub text_of : Table → Atom → List ℕ
text_of values (Word word) = unwrap_or (option_map (λ v. v.text) (find word values)) word
text_of values (Quoted text) = text

-- an atom alone holds where it is the text `y`, or names a bool that is y
abbrev pub atom_holds : Table → Atom → Bool
atom_holds values (Word word) = is_y word || is_yes (find word values)
atom_holds values (Quoted text) = is_y text

abbrev pub same_texts : Table → Atom → Atom → Bool
same_texts values left right = is_text (text_of values left) (text_of values right)

-- the condition holds
abbrev pub holds : Table → Expr → Bool
holds values True = true
holds values (And' s (more_of-Expr left r) t (more_of-Expr right q)) = holds values left && holds values right
holds values (Or' s (more_of-Expr left r) t (more_of-Expr right q)) = holds values left || holds values right
holds values (Not' s (more_of-Expr inner r)) = not (holds values inner)
holds values (Holds atom) = atom_holds values atom
holds values (Same left right) = same_texts values left right
holds values (Differ left right) = not (same_texts values left right)
