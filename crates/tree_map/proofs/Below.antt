-- Which path stands directly below another.
use Rattle.std.proofs.Common.{ℕ, ◌≡◌, Bool, true, false, cond, All, ◌&&◌, List, [], ◌∷◌, ◌++◌, Option, Some, None, nat_eq, refl, sym, ap, subst, ◌∙◌}
use Rattle.std.specs.Cmp.Lexicographic.{pointwise}
use Rattle.std.specs.List.{filter_map, cons_option}
use Rattle.std.proofs.lemmas.List.Elements.{All-nil, All-cons, All-append}
use Rattle.br_path.specs.Path.{Names, IsPath}
use Rattle.br_path.proofs.Paths.{names_decide}
use Rattle.tree_ops.specs.Tree.{child_name}
use Rattle.tree_ops.specs.Change.{is_path}
use Rattle.tree_ops.proofs.Heads.{rows}

-- the root stands below nothing
none-below : (at : Names) → child_name at [] ≡ None
none-below [] = refl
none-below (name ∷ names) = refl

pub child-root : (at path : Names) → path ≡ [] → child_name at path ≡ None
child-root at path is = ap (child_name at) is ∙ none-below at

-- a path of a folder and a name
pub child-last : (at folder : Names) (name : List ℕ) → child_name at (folder ++ name ∷ []) ≡ cond (is_path at folder) (Some name) None
child-last [] [] name = refl
child-last [] (x ∷ []) name = refl
child-last [] (x ∷ y ∷ ys) name = refl
child-last (a ∷ more) [] name = by (pointwise nat_eq a name)
  where
    by : (b : Bool) → cond b (child_name more []) None ≡ None
    by true = none-below more
    by false = refl
child-last (a ∷ more) (x ∷ xs) name = by (pointwise nat_eq a x) (child-last more xs name)
  where
    by : (b : Bool) → child_name more (xs ++ name ∷ []) ≡ cond (is_path more xs) (Some name) None → cond b (child_name more (xs ++ name ∷ [])) None ≡ cond (b && is_path more xs) (Some name) None
    by true rest = rest
    by false rest = refl

child-at : (at path folder : Names) (name : List ℕ) (head : Names) (same : Bool) → path ≡ folder ++ name ∷ [] → head ≡ at → same ≡ is_path head folder → child_name at path ≡ cond same (Some name) None
child-at at path folder name head same is here test =
    ap (child_name at) is ∙ child-last at folder name ∙ ap (λ b. cond b (Some name) None) (ap (λ (h : Names). is_path h folder) (sym here) ∙ sym test)

pub child-none : (at path folder : Names) (name : List ℕ) (head : Names) (same : Bool) → path ≡ folder ++ name ∷ [] → head ≡ at → same ≡ is_path head folder → same ≡ false → child_name at path ≡ None
child-none at path folder name head same is here test off = child-at at path folder name head same is here test ∙ ap (λ b. cond b (Some name) None) off

pub child-some : (at path folder : Names) (name : List ℕ) (head : Names) (same : Bool) → path ≡ folder ++ name ∷ [] → head ≡ at → same ≡ is_path head folder → same ≡ true → IsPath path
    → (child_name at path ≡ Some name) × IsPath (at ++ name ∷ [])
child-some at path folder name head same is here test holds legal =
    let equal : head ≡ folder = (names_decide head folder).0 (sym test ∙ holds) in
    (child-at at path folder name head same is here test ∙ ap (λ b. cond b (Some name) None) holds, subst IsPath (is ∙ ap (λ (h : Names). h ++ name ∷ []) (sym equal ∙ here)) legal)

-- one more name of those that are listed
pub listed-more : {E N : Type 0} (f : E → Option N) (below new : List N) (items rest : List E) (e : E) (name copy : N) (all : List N)
    → below ++ filter_map f items ≡ all → items ≡ e ∷ rest → f e ≡ Some name → copy ≡ name → new ≡ below ++ copy ∷ [] → new ++ filter_map f rest ≡ all
listed-more {E = E} {N = N} f below new items rest e name copy all so_far is found same pushed =
    ap (λ (l : List N). l ++ filter_map f rest) pushed ∙ rows below (copy ∷ []) (filter_map f rest) ∙ ap (λ (n : N). below ++ n ∷ filter_map f rest) same
    ∙ ap (λ (o : Option N). below ++ cons_option o (filter_map f rest)) (sym found) ∙ ap (λ (l : List E). below ++ filter_map f l) (sym is) ∙ so_far

pub paths-more : {N : Type 0} (P : N → Type 0) (below new : List N) (name copy : N) → All P below → P name → copy ≡ name → new ≡ below ++ copy ∷ [] → All P new
paths-more P below new name copy all holds same pushed =
    subst (All P) (sym pushed) (All-append P below (copy ∷ []) all (All-cons P copy [] (subst P (sym same) holds) (All-nil P)))
