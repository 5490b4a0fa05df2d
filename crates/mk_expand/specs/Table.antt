-- The functions: names, and how many arguments they take.
use Rattle.std.specs.Prelude.{ℕ, ◌-◌, nat_lt, Bool, true, List, [], ◌∷◌, Option, None, Some, find, codes}
use Rattle.br_path.specs.Text.{is_text}
use Rattle.mk_expand.specs.declared.function.Function.{Function}
use Rattle.mk_expand.specs.declared.function.Function.TheVariants.{Subst, Strip, AddPrefix, AddSuffix, Filter, FilterOut, PatSubst, Sort, FirstWord, If, Foreach, Call}

-- the name of a function, the least number of its arguments, and the most, where there is one
abbrev pub entry : Function → List ℕ × ℕ × Option ℕ
entry Subst = (codes "subst", 3, Some 3)
entry Strip = (codes "strip", 1, Some 1)
entry AddPrefix = (codes "addprefix", 2, Some 2)
entry AddSuffix = (codes "addsuffix", 2, Some 2)
entry Filter = (codes "filter", 2, Some 2)
entry FilterOut = (codes "filter-out", 2, Some 2)
entry PatSubst = (codes "patsubst", 3, Some 3)
entry Sort = (codes "sort", 1, Some 1)
entry FirstWord = (codes "firstword", 1, Some 1)
entry If = (codes "if", 2, Some 3)
entry Foreach = (codes "foreach", 3, Some 3)
entry Call = (codes "call", 1, None)

abbrev pub functions : List Function
functions = Subst ∷ Strip ∷ AddPrefix ∷ AddSuffix ∷ Filter ∷ FilterOut ∷ PatSubst ∷ Sort ∷ FirstWord ∷ If ∷ Foreach ∷ Call ∷ []

-- the function of a name
abbrev pub function_of : List ℕ → Option Function
function_of name = find (λ function. is_text (entry function).0 name) functions

-- one more comma may divide arguments of which there are so many
abbrev pub may_divide : Option ℕ → ℕ → Bool
may_divide None count = true
may_divide (Some most) count = nat_lt count (most - 1)
