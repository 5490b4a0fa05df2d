-- Names that are refused are no path.
use Rattle.std.proofs.Common.{ℕ, suc, ◌≡◌, ◌≤◌, ◌<◌, List, [], ◌∷◌, ◌++◌, length, get_or, take, drop, Option, Some, None, Result, Ok, Err, refl, sym, ap, subst, ◌∙◌, arith, drop-cons}
use Rattle.std.specs.Prelude.{All, IfOk, ◌≢◌, if◌then◌else◌}
use Rattle.std.specs.Option.{option_or}
use Rattle.std.proofs.lemmas.Bool.{le-ltb}
use Rattle.std.proofs.lemmas.List.{take-append-drop}
use Rattle.std.proofs.lemmas.List.Elements.{All-head, All-drop}
use Rattle.std.proofs.Math.Seq.{drop-append_seam}
use Rattle.br_path.specs.Path.{Names, IsName, IsPath, path_text}
use Rattle.br_path.specs.PathFault.{name_fault, length_fault, child_fault, IsAnswered}
use Rattle.br_path.specs.declared.parse.PathFault.{PathFault}
use Rattle.br_path.specs.declared.parse.PathFault.TheVariants.{Empty, TooLong, BadByte, DotDot, Memory}
use Rattle.br_path.proofs.Paths.{length-path_text-take}
use Rattle.br_path.proofs.Faults.{name_fault-IsName, length_fault-within}
use Rattle.tree_worlds.specs.Naming.{IsPathOf, IsNoPath}

-- a name that stands in a path can be put below those in front of it
child_fault-none : (front : Names) (name : List ℕ) (back : Names) → IsPath (front ++ name ∷ back) → child_fault front name ≡ None
child_fault-none front name back path =
    let legal : IsName name = All-head IsName name back (subst (All IsName) (drop-append_seam front (name ∷ back)) (All-drop IsName (length front) (front ++ name ∷ back) path.legal)) in
    let some : length_fault name ≡ None = length_fault-within name legal.filled (omega (legal.short, arith)) in
    let own : name_fault name 0 ≡ None = name_fault-IsName name 0 legal in
    let shorter : length (path_text (front ++ name ∷ [])) ≤ 1024 =
    subst (λ (names : Names). length (path_text names) ≤ 1024) (front_is front name back) (omega (length-path_text-take (suc (length front)) (front ++ name ∷ back), path.short, arith)) in
    (λ i. option_or (some i) (option_or (own i) (if le-ltb 1024 (length (path_text (front ++ name ∷ []))) shorter i then Some TooLong else None)))
  where
    front_is : (front : Names) (name : List ℕ) (back : Names) → take (suc (length front)) (front ++ name ∷ back) ≡ front ++ name ∷ []
    front_is [] name back = refl
    front_is (first ∷ front) name back = ap (λ (names : Names). first ∷ names) (front_is front name back)

no_answer : (fault : PathFault) → fault ≢ Memory → IsAnswered None fault → ⊥
no_answer Memory other answered = other refl
no_answer Empty other answered = cc
no_answer TooLong other answered = cc
no_answer (BadByte place) other answered = cc
no_answer (DotDot place) other answered = cc

-- names of which one is refused, below those in front of it, are no path
pub refused-no_path : {E : Type 0} (names path : Names) (name item : List ℕ) (i : ℕ) (fault : PathFault) (outcome : Result (Option Names) E) → path ≡ take i names → i < length names → item ≡ get_or names i item → name ≡ item
    → IsAnswered (child_fault path name) fault → IfOk outcome (IsNoPath fault) → IfOk outcome (IsPathOf names)
refused-no_path names path name item i fault (Err memory) front less at same answered says = tt
refused-no_path names path name item i fault (Ok found) front less at same answered says =
    subst (IsPathOf names) (sym says.0) (λ whole. no_answer fault says.1 (subst (λ (o : Option PathFault). IsAnswered o fault) (child_fault-none path name (drop (suc i) names) (subst IsPath cut whole)) answered))
  where
    cut : names ≡ path ++ name ∷ drop (suc i) names
    cut = sym (take-append-drop i names) ∙ ap (λ (rest : Names). take i names ++ rest) (drop-cons names i item less ∙ ap (λ (part : List ℕ). part ∷ drop (suc i) names) (sym at ∙ sym same))
        ∙ ap (λ (first : Names). first ++ name ∷ drop (suc i) names) (sym front)
