-- The inside of a reference: a variable's name, or a call with its arguments.
use Rattle.std.specs.Prelude.{◌≡◌, ◌≢◌, Result, Ok, Err, ℕ, ◌+◌, ◌-◌, ◌==◌, ◌&&◌, nat_lt, List, [], ◌∷◌, ◌++◌, length, take, drop, position, Option, None, Some, if◌then◌else◌, codes}
use Rattle.mk_expand.specs.declared.bracket.Bracket.{Bracket}
use Rattle.mk_expand.specs.declared.function.Function.{Function}
use Rattle.mk_expand.specs.declared.function.Function.TheVariants.{If, Foreach, Call as CallOf, Subst}
use Rattle.mk_expand.specs.declared.fault.ExpandFault.{ExpandFault}
use Rattle.mk_expand.specs.declared.fault.ExpandFault.TheVariants.{BadCall, Unsupported, Memory}
use Rattle.mk_expand.specs.Bracket.{opening, closing}
use Rattle.mk_expand.specs.Words.{is_blank, without_front, trimmed}
use Rattle.br_path.specs.Text.{is_text}
use Rattle.mk_expand.specs.Lists.{argument}
use Rattle.mk_expand.specs.Table.{entry, function_of, may_divide}

-- the arguments in a text after so many others: the one that was begun, at a level of brackets, ends at the first comma that divides
abbrev pub divided : Bracket → Option ℕ → ℕ → ℕ → List ℕ → List ℕ → List (List ℕ)
divided kind most count level begun [] = begun ∷ []
divided kind most count level begun (b ∷ text) =
    if b == opening kind then divided kind most count (level + 1) (begun ++ b ∷ []) text else
    if b == closing kind then divided kind most count (level - 1) (begun ++ b ∷ []) text else
    if b == 44 && (level == 0 && may_divide most count) then begun ∷ divided kind most (count + 1) 0 [] text else
    divided kind most count level (begun ++ b ∷ []) text

-- what stands inside a reference: a name, a call with too few arguments, `if` and `foreach` with their texts, or a call
-- whose arguments are all expanded first
pub data Inside : Type 0 where
  Name : Inside
  Short : Inside
  Choice : List ℕ → List ℕ → List ℕ → Inside
  Loop : List ℕ → List ℕ → List ℕ → Inside
  Strict : Function → List (List ℕ) → Inside

-- a call with enough arguments
abbrev pub call_of : Function → List (List ℕ) → Inside
call_of If args = Choice (trimmed (argument 0 args)) (argument 1 args) (argument 2 args)
call_of Foreach args = Loop (argument 0 args) (argument 1 args) (argument 2 args)
call_of function args = Strict function args

abbrev pub checked_call : Function → List (List ℕ) → Inside
checked_call function args = if nat_lt (length args) (entry function).1 then Short else call_of function args

-- the inside by the function that its first word names, and the text after that
abbrev pub inside_with : Bracket → List ℕ → Option Function → Inside
inside_with kind text None = Name
inside_with kind text (Some function) =
    checked_call function (divided kind (entry function).2 0 0 [] (without_front is_blank text))

-- the inside by the place of its first blank
abbrev pub inside_at : Bracket → List ℕ → Option ℕ → Inside
inside_at kind text None = Name
inside_at kind text (Some place) = inside_with kind (drop place text) (function_of (take place text))

-- the inside of a reference in brackets of this kind
abbrev pub inside_of : Bracket → List ℕ → Inside
inside_of kind text = inside_at kind text (position is_blank text)

-- why a call is refused as soon as the value of an argument is known: after so many others, and before so many
abbrev pub refusal : Function → ℕ → List ℕ → ℕ → Option ExpandFault
refusal Subst count value behind = if count == 0 && length value == 0 then Some BadCall else None
refusal CallOf count value behind =
    if count == 0 then (if is_text value (codes "qstrip") then (if behind == 0 then Some BadCall else None) else Some (Unsupported value)) else None
refusal function count value behind = None

-- an answer of the code is what is refused, or that nothing is; out of memory may be answered whatever there is
abbrev pub IsAllowed : {A : Type 0} → Option ExpandFault → Result A ExpandFault → Type 0
IsAllowed refused (Ok done) = refused ≡ None
IsAllowed refused (Err fault) = fault ≢ Memory → refused ≡ Some fault
