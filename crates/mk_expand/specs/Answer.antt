-- A text has one answer: a value within the limits, or a fault.
use Rattle.std.specs.Prelude.{◌≡◌, ◌⊎◌, ℕ, ◌≤◌, List, []}
use Rattle.mk_expand.specs.declared.locals.Local.{Local}
use Rattle.mk_expand.specs.declared.scope.Scope.{Scope}
use Rattle.mk_expand.specs.declared.fault.ExpandFault.{ExpandFault}
use Rattle.mk_expand.specs.Meaning.{Environment}
use Rattle.mk_expand.specs.Draft.{cost_limit}
use Rattle.mk_expand.specs.Value.{HasValue}
use Rattle.mk_expand.specs.Failure.{FailsWith}

-- the scope of a text that stands in no other: no variable is being expanded
abbrev pub outside : List Local → Scope
outside locals = record { active = []; locals = locals }

-- a text has this value, at a cost within the limit
abbrev pub IsValue : Environment → ℕ → Scope → List ℕ → List ℕ → Type 0
IsValue vars depth scope text bytes = (cost : ℕ) × HasValue vars depth scope text bytes cost × (cost ≤ cost_limit)

-- a text fails with this fault
abbrev pub IsFault : Environment → ℕ → Scope → List ℕ → ExpandFault → Type 0
IsFault vars depth scope text fault = FailsWith vars depth scope 0 text fault

-- a text has a value or it fails; two values of it are equal, at equal costs; a text with a value doesn't fail; and two
-- faults of it are equal
pub record OneAnswer (vars : Environment) (depth : ℕ) (scope : Scope) (text : List ℕ) : Type 0 where
  pub some : ((bytes : List ℕ) × IsValue vars depth scope text bytes) ⊎ ((fault : ExpandFault) × IsFault vars depth scope text fault)
  pub values : (bytes others : List ℕ) (cost more : ℕ) → HasValue vars depth scope text bytes cost → HasValue vars depth scope text others more →
      cost ≤ cost_limit → more ≤ cost_limit → (bytes ≡ others) × (cost ≡ more)
  pub apart : (bytes : List ℕ) (fault : ExpandFault) → IsValue vars depth scope text bytes → IsFault vars depth scope text fault → ⊥
  pub faults : (fault other : ExpandFault) → IsFault vars depth scope text fault → IsFault vars depth scope text other → fault ≡ other
