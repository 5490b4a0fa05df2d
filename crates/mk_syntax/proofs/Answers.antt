-- What a reading answers, in the words of the grammar.
use Rattle.std.proofs.Common.{◌≡◌, Result, Ok, Err, IfOk, IfErr, ◌⊎◌, inl, inr, List, ◌∷◌, ap, ◌∙◌, subst}
use Rattle.mk_syntax.specs.declared.lines.Line.{Line}
use Rattle.mk_syntax.specs.declared.recipe.Statement.{Statement}
use Rattle.mk_syntax.specs.declared.fault.MkError.{MkError}
use Rattle.mk_syntax.specs.declared.fault.MkError.TheVariants.{Fault, Memory}
use Rattle.mk_syntax.specs.declared.fault.MkFault.{MkFault}
use Rattle.mk_syntax.specs.declared.reader.Reader.{Reader}
use Rattle.mk_syntax.specs.Reading.{IsStep, IsReading, next, after, start, finished, reading}
use Rattle.mk_syntax.specs.Grammar.{IsRecipeOf, IsFirstFault, IsErrorOf}
use Rattle.mk_syntax.proofs.Accepted.{after_fault, recipe_read, fault_read}
use Rattle.mk_syntax.proofs.Shown.{Comes, read_is}

pub recipe_is : (lines : List Line) (statements : List Statement) → reading lines ≡ Ok statements → IsRecipeOf lines statements
recipe_is lines statements e = subst (Comes lines) e (read_is lines)

pub fault_is : (lines : List Line) (fault : MkFault) → reading lines ≡ Err fault → IsFirstFault lines fault
fault_is lines fault e = subst (Comes lines) e (read_is lines)

pub ok_answer : (lines : List Line) (result : Result (List Statement) MkError) → IsReading (reading lines) result → IfOk result (IsRecipeOf lines)
ok_answer lines (Ok statements) e = recipe_is lines statements e
ok_answer lines (Err error) e = tt

pub err_answer : (lines : List Line) (result : Result (List Statement) MkError) → IsReading (reading lines) result → IfErr result (IsErrorOf lines)
err_answer lines (Ok statements) e = tt
err_answer lines (Err (Fault fault)) e = fault_is lines fault e
err_answer lines (Err Memory) e = tt

pub one_recipe : (lines : List Line) (statements others : List Statement) → IsRecipeOf lines statements → IsRecipeOf lines others → statements ≡ others
one_recipe lines statements others a b = let e : reading lines ≡ Ok statements = recipe_read a in let f : reading lines ≡ Ok others = recipe_read b in cc

pub one_fault : (lines : List Line) (fault other : MkFault) → IsFirstFault lines fault → IsFirstFault lines other → fault ≡ other
one_fault lines fault other a b = let e : reading lines ≡ Err fault = fault_read a in let f : reading lines ≡ Err other = fault_read b in cc

pub not_both : (lines : List Line) (statements : List Statement) (fault : MkFault) → IsRecipeOf lines statements → IsFirstFault lines fault → ⊥
not_both lines statements fault a b = let e : reading lines ≡ Ok statements = recipe_read a in let f : reading lines ≡ Err fault = fault_read b in cc

either : (lines : List Line) (result : Result (List Statement) MkFault) → Comes lines result → ((statements : List Statement) × IsRecipeOf lines statements) ⊎ ((fault : MkFault) × IsFirstFault lines fault)
either lines (Ok statements) recipe = inl (statements, recipe)
either lines (Err fault) first = inr (fault, first)

pub some_answer : (lines : List Line) → ((statements : List Statement) × IsRecipeOf lines statements) ⊎ ((fault : MkFault) × IsFirstFault lines fault)
some_answer lines = either lines (reading lines) (read_is lines)

-- a reading ends at the line that is refused
pub stopped : (lines left : List Line) (line : Line) (rest : List Line) (reader onward : Reader) (error : MkError) → after lines (Ok start) ≡ after left (Ok reader) → left ≡ line ∷ rest → IsStep (next reader line) (Err error) onward → IsReading {A = List Statement} (reading lines) (Err error)
stopped lines left line rest reader onward (Fault fault) so_far cut refused =
    ap finished (so_far ∙ ap (λ l. after l (Ok reader)) cut ∙ ap (after rest) refused ∙ after_fault rest fault)
stopped lines left line rest reader onward Memory so_far cut refused = tt
