-- A reference to a variable by its name as it is, whatever bytes the name has.
use Rattle.std.specs.Prelude.{◌≡◌, ◌≢◌, ◌↔◌, ◌⊎◌, ℕ, ◌+◌, ◌<◌, ◌≤◌, Bool, false, ◌||◌, ◌==◌, List, [], ◌++◌, length, Result, Ok, Err, codes}
use Rattle.std.specs.List.{list_any}
use Rattle.mk_expand.specs.declared.locals.Local.{Local}
use Rattle.mk_expand.specs.declared.fault.ExpandFault.{ExpandFault}
use Rattle.mk_expand.specs.declared.fault.ExpandFault.TheVariants.{TooCostly, Memory}
use Rattle.mk_expand.specs.Words.{is_blank}
use Rattle.mk_expand.specs.Meaning.{Environment}
use Rattle.mk_expand.specs.Draft.{◌>>=◌, pay, put, cost_limit}
use Rattle.mk_expand.specs.Value.{depth_limit, HasNamed}
use Rattle.mk_expand.specs.Failure.{FailsNamed}
use Rattle.mk_expand.specs.Pass.{Run, named, text_run}
use Rattle.mk_expand.specs.Answer.{outside, IsValue, IsFault}

-- the most references in one another inside one that stands in no other
abbrev pub inner_limit : ℕ
inner_limit = 199

-- the text that a run comes to, or its fault
abbrev pub text_of : Run → Result (List ℕ) ExpandFault
text_of (Ok s) = Ok s.0
text_of (Err fault) = Err fault

-- 1 is paid for the reference, and 1 for each byte of the name
abbrev pub given_name : List ℕ → Run
given_name name = pay ([], 0) >>= λ s. put name s

-- at that cost, what the name stands for is put, with so many references allowed in one another there
abbrev pub reference_run : Environment → ℕ → List Local → List ℕ → Run
reference_run vars depth locals name = given_name name >>= λ t. named vars (text_run vars depth) (outside locals) name ([], t.1)

-- the text of a reference to the variable of this name, or its fault
unfoldable pub reference_answer : Environment → List Local → List ℕ → Result (List ℕ) ExpandFault
reference_answer vars locals name = text_of (reference_run vars inner_limit locals name)

-- the name stands for these bytes, at a cost that is within the limit after those of the reference and of the name
abbrev pub IsNameValue : Environment → ℕ → List Local → List ℕ → List ℕ → Type 0
IsNameValue vars depth locals name bytes = (cost : ℕ) × HasNamed vars depth (outside locals) name bytes cost × (1 + length name + cost ≤ cost_limit)

-- the name is too costly by itself, or what it stands for fails
abbrev pub IsNameFault : Environment → ℕ → List Local → List ℕ → ExpandFault → Type 0
IsNameFault vars depth locals name fault =
    ((cost_limit < 1 + length name) × (fault ≡ TooCostly))
    ⊎ ((1 + length name ≤ cost_limit) × FailsNamed vars depth (outside locals) (1 + length name) name fault)

-- a byte that means more than itself between the brackets of a reference: a blank, a `$` or a bracket
abbrev pub is_mark : ℕ → Bool
is_mark b = is_blank b || (b == 36 || (b == 40 || (b == 41 || (b == 123 || b == 125))))

-- a name that is itself where it stands between the brackets of a reference
abbrev pub IsPlain : List ℕ → Type 0
IsPlain name = list_any is_mark name ≡ false

-- a plain name between the brackets of a reference
abbrev pub spelled_out : List ℕ → List ℕ
spelled_out name = codes "$(" ++ name ++ codes ")"

-- what a reference by name answers is what the variable of the name stands for
pub record ReferenceIsExact (vars : Environment) (locals : List Local) (name : List ℕ) : Type 0 where
  -- the answer is a value just where the name stands for it
  pub value : (bytes : List ℕ) → (reference_answer vars locals name ≡ Ok bytes) ↔ IsNameValue vars inner_limit locals name bytes
  -- the answer is a fault just where the name has it
  pub fault : (cause : ExpandFault) → (reference_answer vars locals name ≡ Err cause) ↔ IsNameFault vars inner_limit locals name cause
  -- out of memory is no answer
  pub held : reference_answer vars locals name ≢ Err Memory
  -- a plain name between brackets is a text with the same value
  pub spelled : IsPlain name → (bytes : List ℕ) → IsValue vars depth_limit (outside locals) (spelled_out name) bytes ↔ (reference_answer vars locals name ≡ Ok bytes)
  -- and with the same fault
  pub spelled_fault : IsPlain name → (cause : ExpandFault) → IsFault vars depth_limit (outside locals) (spelled_out name) cause ↔ (reference_answer vars locals name ≡ Err cause)
