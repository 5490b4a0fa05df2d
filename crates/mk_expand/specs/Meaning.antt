-- What a name stands for at a place of the expansion.
use Rattle.std.specs.Prelude.{ℕ, Bool, ◌||◌, ◌==◌, List, [], ◌∷◌, ◌++◌, Option, None, Some, if◌then◌else◌}
use Rattle.std.specs.List.{list_any}
use Rattle.mk_expand.specs.declared.vars.Variable.{Variable}
use Rattle.mk_expand.specs.declared.scope.Scope.{Scope}
use Rattle.br_path.specs.Text.{is_text}
use Rattle.mk_expand.specs.Vars.{hidden}

-- the variables that are set
abbrev pub Environment : Type 0
Environment = List ℕ → Option Variable

-- a name that isn't supported: one with a space, a tab or a colon
abbrev pub is_bad_name : List ℕ → Bool
is_bad_name name = list_any (λ b. b == 32 || b == 9 || b == 58) name

-- the variable of a name is being expanded
abbrev pub is_active : List (List ℕ) → List ℕ → Bool
is_active active name = list_any (λ other. is_text other name) active

-- a name that isn't supported; a text as it is; a variable that is being expanded; a text that is expanded now
pub data Meaning : Type 0 where
  Refused : Meaning
  Fixed : List ℕ → Meaning
  Met : Meaning
  Later : List ℕ → Meaning

-- a variable, set or not: unset it is empty, and a simple one is its text
abbrev pub of_variable : Scope → List ℕ → Option Variable → Meaning
of_variable scope name None = Fixed []
of_variable scope name (Some variable) =
    if variable.simple then Fixed variable.text else if is_active scope.active name then Met else Later variable.text

-- a local hides every variable
abbrev pub of_local : Environment → Scope → List ℕ → Option (List ℕ) → Meaning
of_local vars scope name None = of_variable scope name (vars name)
of_local vars scope name (Some bytes) = Fixed bytes

-- what a name stands for
abbrev pub meaning : Environment → Scope → List ℕ → Meaning
meaning vars scope name = if is_bad_name name then Refused else of_local vars scope name (hidden scope.locals name)

-- the scope in which a variable is expanded
abbrev pub with_active : Scope → List ℕ → Scope
with_active scope name = record { active = scope.active ++ name ∷ []; locals = scope.locals }

-- the scope in which a name stands for a word
abbrev pub with_local : Scope → List ℕ → List ℕ → Scope
with_local scope name word = record { active = scope.active; locals = scope.locals ++ record { name = name; bytes = word } ∷ [] }
