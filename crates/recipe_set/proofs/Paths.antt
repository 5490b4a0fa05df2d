-- A name that is put below a path where the whole is a path.
use Rattle.std.proofs.Common.{◌≡◌, ℕ, ◌≤◌, Bool, true, false, cond, Option, Some, None, List, [], ◌∷◌, ◌++◌, length, refl, sym, ap, ◌∙◌, arith}
use Rattle.std.specs.Prelude.{nat_lt}
use Rattle.std.specs.Option.{option_or}
use Rattle.std.proofs.lemmas.Bool.Decides.{nat_tests}
use Rattle.std.proofs.lemmas.List.Elements.{All-contains, Contains-push}
use Rattle.br_path.specs.Path.{Names, IsName, IsPath, path_text}
use Rattle.br_path.specs.declared.parse.PathFault.{PathFault}
use Rattle.br_path.specs.declared.parse.PathFault.TheVariants.{Empty, TooLong, BadByte, DotDot, Memory as no_memory}
use Rattle.br_path.specs.PathFault.{child_fault, length_fault, name_fault, IsAnswered}
use Rattle.br_path.proofs.Faults.{length_fault-within, name_fault-IsName}

short_text : (n : ℕ) → n ≤ 1024 → (if_long : Bool) → if_long ≡ nat_lt 1024 n → if_long ≡ false
short_text n short true is = absurd (grind (arith, nat_tests))
short_text n short false is = refl

-- it has no fault
pub child_fault-path : (path : Names) (name : List ℕ) → IsPath (path ++ name ∷ []) → child_fault path name ≡ None
child_fault-path path name is_path =
    let is_name : IsName name = All-contains IsName (path ++ name ∷ []) name is_path.legal (Contains-push path name) in
    let fits : length_fault name ≡ None = length_fault-within name is_name.filled (let short = is_name.short in omega arith) in
    let named : name_fault name 0 ≡ None = name_fault-IsName name 0 is_name in
    let short : nat_lt 1024 (length (path_text (path ++ name ∷ []))) ≡ false = short_text _ is_path.short _ refl in
    ap (λ f. option_or f (option_or (name_fault name 0) (cond (nat_lt 1024 (length (path_text (path ++ name ∷ [])))) (Some TooLong) None))) fits
    ∙ ap (λ f. option_or f (cond (nat_lt 1024 (length (path_text (path ++ name ∷ [])))) (Some TooLong) None)) named
    ∙ ap (λ b. cond b (Some TooLong) None) short

-- so none is answered but out of memory
pub no_answer : (there : Option PathFault) (fault : PathFault) → (fault ≡ no_memory → ⊥) → IsAnswered there fault → there ≡ None → ⊥
no_answer there no_memory not_memory answered none = not_memory refl
no_answer there Empty not_memory answered none = let e : Some Empty ≡ None = sym answered ∙ none in absurd (cc)
no_answer there TooLong not_memory answered none = let e : Some TooLong ≡ None = sym answered ∙ none in absurd (cc)
no_answer there (BadByte place) not_memory answered none = let e : Some (BadByte place) ≡ None = sym answered ∙ none in absurd (cc)
no_answer there (DotDot place) not_memory answered none = let e : Some (DotDot place) ≡ None = sym answered ∙ none in absurd (cc)
