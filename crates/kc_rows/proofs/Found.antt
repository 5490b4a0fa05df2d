-- What holds of a value that is found, if one is.
use Rattle.std.proofs.Common.{◌≡◌, refl, Bool, true, false, Option, Some, None, IfSome, option_map, if◌then◌else◌, List, [], ◌∷◌}
use Rattle.std.specs.Option.{option_or}
use Rattle.kc_expr.specs.Read.{given}

pub found_some : {A : Type 0} (o : Option A) → IfSome o (λ a. o ≡ Some a)
found_some None = tt
found_some (Some a) = refl

pub found_or : {A : Type 0} (first second : Option A) (P : A → Type 0) → IfSome first P → IfSome second P → IfSome (option_or first second) P
found_or None second P f s = s
found_or (Some a) second P f s = f

pub found_given : {A B : Type 0} (o : Option A) (f : A → Option B) (P : A → Type 0) (Q : B → Type 0) → IfSome o P → ((a : A) → P a → IfSome (f a) Q) → IfSome (given o None f) Q
found_given None f P Q h g = tt
found_given (Some a) f P Q h g = g a h

pub found_map : {A B : Type 0} (o : Option A) (f : A → B) (P : A → Type 0) (Q : B → Type 0) → IfSome o P → ((a : A) → P a → Q (f a)) → IfSome (option_map f o) Q
found_map None f P Q h g = tt
found_map (Some a) f P Q h g = g a h

-- the first of some values whose test holds
abbrev pub first_of_all : {A : Type 0} → List (Bool × A) → Option A
first_of_all [] = None
first_of_all (t ∷ ts) = if t.0 then Some t.1 else first_of_all ts

abbrev pub Each : {A : Type 0} → (A → Type 0) → List (Bool × A) → Type 0
Each P [] = Unit {0}
Each P (t ∷ ts) = (t.0 ≡ true → P t.1) × Each P ts

chosen : {A : Type 0} (P : A → Type 0) (b : Bool) (a : A) (rest : Option A) → (b ≡ true → P a) → IfSome rest P → IfSome (if b then Some a else rest) P
chosen P true a rest here there = here refl
chosen P false a rest here there = there

pub found_first : {A : Type 0} (P : A → Type 0) (ts : List (Bool × A)) → Each P ts → IfSome (first_of_all ts) P
found_first P [] each = tt
found_first P (t ∷ ts) each = chosen P t.0 t.1 (first_of_all ts) each.0 (found_first P ts each.1)
