-- What a statement does to the variables and the packages that are made.
use Rattle.std.specs.Prelude.{◌≡◌, ℕ, Bool, true, false, not, List, [], ◌∷◌, ◌++◌, Option, Some, None, is_some, Result, Ok, Err, codes, if◌then◌else◌}
use Rattle.std.specs.Ordering.{nat_cmp, match_ordering}
use Rattle.std.specs.Cmp.Lexicographic.{slice_cmp}
use Rattle.mk_syntax.specs.declared.recipe.What.{What}
use Rattle.mk_syntax.specs.declared.recipe.What.TheVariants.{Set, Define, If, ElseIf, Else, EndIf, Make}
use Rattle.mk_syntax.specs.declared.recipe.How.{How}
use Rattle.mk_syntax.specs.declared.recipe.How.TheVariants.{Later, Now, Append, IfUnset}
use Rattle.mk_syntax.specs.declared.recipe.Test.{Test}
use Rattle.mk_syntax.specs.declared.recipe.Test.TheVariants.{Equal, Defined}
use Rattle.mk_expand.specs.declared.fault.ExpandFault.{ExpandFault}
use Rattle.mk_expand.specs.declared.vars.Variable.{Variable}
use Rattle.mk_expand.specs.Words.{is_filled}
use Rattle.br_path.specs.Text.{is_text}
use Rattle.mk_expand.specs.Vars.{Table, found, put, appended}
use Rattle.mk_expand.specs.Value.{depth_limit}
use Rattle.mk_expand.specs.Answer.{IsValue, IsFault, outside}
use Rattle.recipe_set.specs.declared.packages.Made.{Made}
use Rattle.recipe_set.specs.declared.draft.Draft.{Draft}
use Rattle.recipe_set.specs.declared.fault.PlanFault.{PlanFault}
use Rattle.recipe_set.specs.declared.fault.PlanFault.TheVariants.{Expand}
use Rattle.recipe_set.specs.First.{simple}
use Rattle.recipe_set.specs.Names.{upper_form}

-- what is read after something was read, or the fault that it has
abbrev pub Outcome : Type 0
Outcome = Result Draft PlanFault

-- an answer is this one
abbrev pub Is : {A : Type 0} → A → A → Type 0
Is answer given = given ≡ answer

-- what hangs on the value that a text has now; a text that has none is a fault of the package, at the variable
pub data Expanded {A : Type 0} (folder variable : List ℕ) (vars : Table) (text : List ℕ) (hangs : List ℕ → Result A PlanFault → Type 0) : Result A PlanFault → Type 0 where
  value : (bytes : List ℕ) {answer : Result A PlanFault} → IsValue (found vars) depth_limit (outside []) text bytes → hangs bytes answer → Expanded folder variable vars text hangs answer
  fails : (fault : ExpandFault) → IsFault (found vars) depth_limit (outside []) text fault → Expanded folder variable vars text hangs (Err (Expand folder variable fault))

-- with a variable set
abbrev pub set : Draft → List ℕ → Variable → Draft
set draft name variable = record { vars = put draft.vars name variable; packages = draft.packages }

-- with a text appended to a variable
abbrev pub append : Draft → List ℕ → List ℕ → Draft
append draft name text = record { vars = appended draft.vars name text; packages = draft.packages }

-- a variable that is expanded at use
abbrev pub later : List ℕ → Variable
later text = record { simple = false; text = text }

abbrev pub is_simple : Option Variable → Bool
is_simple None = false
is_simple (Some variable) = variable.simple

-- `+=`: to a simple variable the value is appended, and else the text as it is
abbrev pub Appends : List ℕ → Draft → List ℕ → List ℕ → Bool → Outcome → Type 0
Appends folder draft name text true = Expanded folder name draft.vars text (λ bytes. Is (Ok (append draft name bytes)))
Appends folder draft name text false = Is (Ok (append draft name text))

-- `N = V`, `N := V`, `N += V` and `N ?= V`
abbrev pub Sets : List ℕ → Draft → List ℕ → How → List ℕ → Outcome → Type 0
Sets folder draft name Later text = Is (Ok (set draft name (later text)))
Sets folder draft name Now text = Expanded folder name draft.vars text (λ bytes. Is (Ok (set draft name (simple bytes))))
Sets folder draft name Append text = Appends folder draft name text (is_simple (found draft.vars name))
Sets folder draft name IfUnset text = Is (Ok (if is_some (found draft.vars name) then draft else set draft name (later text)))

-- packages by name, with one in its place
abbrev pub with_package : Made → List Made → List Made
with_package made [] = made ∷ []
with_package made (other ∷ others) =
    match_ordering (slice_cmp nat_cmp made.name other.name) (made ∷ other ∷ others) (made ∷ others) (other ∷ with_package made others)

-- the path of a recipe's folder
abbrev pub folder_path : List ℕ → List (List ℕ)
folder_path folder = codes "package" ∷ folder ∷ []

-- the name of a package, or of the host package
abbrev pub package_name : List ℕ → Bool → List ℕ
package_name folder true = codes "host-" ++ folder
package_name folder false = folder

-- with the three variables of a package
abbrev pub with_places : List ℕ → List ℕ → Draft → Draft
with_places folder name draft =
    let prefix : List ℕ = upper_form name in
    set (set (set draft
    (prefix ++ codes "_NAME") (simple name))
    (prefix ++ codes "_DIR") (simple (codes "/output/build/" ++ name)))
    (prefix ++ codes "_PKGDIR") (simple (codes "package/" ++ folder ++ codes "/"))

-- with a package, made by the recipe of a folder
abbrev pub with_made : List ℕ → List ℕ → Bool → Draft → Draft
with_made folder name host draft =
    record { vars = draft.vars; packages = with_package (record { name = name; folder = folder_path folder; host = host }) draft.packages }

-- with a package and its variables
abbrev pub make : List ℕ → Bool → List ℕ → Draft → Draft
make folder host name draft = with_made folder name host (with_places folder name draft)

-- a statement that is no part of a condition
abbrev pub Does : List ℕ → Draft → What → Outcome → Type 0
Does folder draft (Set name how text) = Sets folder draft name how text
Does folder draft (Define name text) = Is (Ok (set draft name (later text)))
Does folder draft (Make host) = Is (Ok (make folder host (package_name folder host) draft))
Does folder draft (If test) = λ outcome. ⊥
Does folder draft (ElseIf test) = λ outcome. ⊥
Does folder draft Else = λ outcome. ⊥
Does folder draft EndIf = λ outcome. ⊥

-- whether something is as it is wanted
abbrev pub as_wanted : Bool → Bool → Bool
as_wanted true holds = holds
as_wanted false holds = not holds

-- a variable is set and its text isn't empty
abbrev pub is_defined : Option Variable → Bool
is_defined None = false
is_defined (Some variable) = is_filled variable.text

-- whether a test holds: `ifeq` and `ifneq` compare the values of their texts, the left one first; `ifdef` and `ifndef`
-- expand nothing
abbrev pub Asks : List ℕ → Draft → Test → Result Bool PlanFault → Type 0
Asks folder draft (Equal left right wanted) =
    Expanded folder (codes "ifeq") draft.vars left (λ one. Expanded folder (codes "ifeq") draft.vars right (λ other. Is (Ok (as_wanted wanted (is_text one other)))))
Asks folder draft (Defined name wanted) = Is (Ok (as_wanted wanted (is_defined (found draft.vars name))))
