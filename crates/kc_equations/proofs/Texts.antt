-- Tests on lists, first finds and equal texts.
use Rattle.std.proofs.Common.{ℕ, ◌≡◌, ◌<◌, ◌≤◌, Bool, true, false, cond, not, ◌&&◌, ◌||◌, List, [], ◌∷◌, length, filter, find, Option, Some, None, option_map, refl, sym, ap, subst, ◌∙◌, ⊎_elim, arith}
use Rattle.std.specs.List.{list_any}
use Rattle.std.specs.Option.{option_or}
use Rattle.std.proofs.lemmas.Bool.{cases_Bool, or_left, or_right, false≢true}
use Rattle.std.proofs.lemmas.Slice.Eq.{bytes_eq-Decides}
use Rattle.br_path.specs.Text.{is_text}

pub same_text : (a b : List ℕ) → is_text a b ≡ true → a ≡ b
same_text a b = (bytes_eq-Decides a b).0

pub is_text-same : (a b : List ℕ) → a ≡ b → is_text a b ≡ true
is_text-same a b = (bytes_eq-Decides a b).1

pub is_text-self : (a : List ℕ) → is_text a a ≡ true
is_text-self a = is_text-same a a refl

-- equal Bools from each implying the other
pub both_ways : (a b : Bool) → (a ≡ true → b ≡ true) → (b ≡ true → a ≡ true) → a ≡ b
both_ways true b there back = sym (there refl)
both_ways false true there back = back refl
both_ways false false there back = refl

pub is_text-flip : (a b : List ℕ) → is_text a b ≡ is_text b a
is_text-flip a b = both_ways (is_text a b) (is_text b a)
    (λ is. is_text-same b a (sym (same_text a b is)))
    (λ is. is_text-same a b (sym (same_text b a is)))

-- ---- what is built of equal parts

pub and_same : {a b c d : Bool} → a ≡ b → c ≡ d → (a && c) ≡ (b && d)
and_same p q = cc

pub or_same : {a b c d : Bool} → a ≡ b → c ≡ d → (a || c) ≡ (b || d)
or_same p q = cc

pub option_map-option_or : {A B : Type 0} (k : A → B) (o p : Option A) → option_map k (option_or o p) ≡ option_or (option_map k o) (option_map k p)
option_map-option_or k None p = refl
option_map-option_or k (Some x) p = refl

-- two finds agree where their tests do, and what is made of the element
pub found_step : {A B : Type 0} (k l : A → B) (x : A) (b c : Bool) (o p : Option A) → b ≡ c → k x ≡ l x → option_map k o ≡ option_map l p
    → option_map k (cond b (Some x) o) ≡ option_map l (cond c (Some x) p)
found_step k l x b c o p e same rest =
    subst (λ z. option_map k (cond b (Some x) o) ≡ option_map l (cond z (Some x) p)) e
    (elim b as (λ z. option_map k (cond z (Some x) o) ≡ option_map l (cond z (Some x) p)) [ true ↦ ap Some same | false ↦ rest ])

pub find_same : {A : Type 0} (f g : A → Bool) (xs : List A) → ((x : A) → f x ≡ g x) → find f xs ≡ find g xs
find_same f g [] same = refl
find_same f g (x ∷ xs) same = ap (λ b. cond b (Some x) (find f xs)) (same x) ∙ ap (λ o. cond (g x) (Some x) o) (find_same f g xs same)

-- ---- lists of texts

-- no text passes in a list that is empty
pub none_in : (texts : List (List ℕ)) (t : List ℕ) → length texts ≤ 0 → list_any (is_text t) texts ≡ true → ⊥
none_in [] t short there = false≢true there
none_in (text ∷ texts) t short there = absurd (omega (arith, short))

-- the texts but one
abbrev pub without : List ℕ → List (List ℕ) → List (List ℕ)
without t texts = filter (λ text. not (is_text t text)) texts

without-le : (t : List ℕ) (texts : List (List ℕ)) → length (without t texts) ≤ length texts
without-le t [] = omega arith
without-le t (text ∷ texts) =
    let rest : length (without t texts) ≤ length texts = without-le t texts in
    elim (is_text t text) as (λ b. length (cond (not b) (text ∷ without t texts) (without t texts)) ≤ length (text ∷ texts)) [
      | true ↦ omega arith
      | false ↦ omega arith
    ]

pub without-lt : (t : List ℕ) (texts : List (List ℕ)) → list_any (is_text t) texts ≡ true → length (without t texts) < length texts
without-lt t [] = λ there. absurd (false≢true there)
without-lt t (text ∷ texts) =
    let rest : length (without t texts) ≤ length texts = without-le t texts in
    let less : list_any (is_text t) texts ≡ true → length (without t texts) < length texts = without-lt t texts in
    elim (is_text t text) as (λ b. (b || list_any (is_text t) texts) ≡ true → length (cond (not b) (text ∷ without t texts) (without t texts)) < length (text ∷ texts)) [
      | true ↦ λ _. omega arith
      | false ↦ λ there. let below : length (without t texts) < length texts = less there in omega arith
    ]

-- another text stays
pub without-keeps : (t u : List ℕ) (texts : List (List ℕ)) → is_text t u ≡ false → list_any (is_text u) texts ≡ true → list_any (is_text u) (without t texts) ≡ true
without-keeps t u [] apart there = there
without-keeps t u (text ∷ texts) apart there =
    ⊎_elim
    (λ is.
    let same : u ≡ text = same_text u text is in
    let kept : is_text t text ≡ false = subst (λ x. is_text t x ≡ false) same apart in
    subst (λ b. list_any (is_text u) (cond (not b) (text ∷ without t texts) (without t texts)) ≡ true) (sym kept)
    (or_left (is_text u text) (list_any (is_text u) (without t texts)) is))
    (λ other.
    let later : list_any (is_text u) texts ≡ true = subst (λ b. (b || list_any (is_text u) texts) ≡ true) other there in
    let rest : list_any (is_text u) (without t texts) ≡ true = without-keeps t u texts apart later in
    elim (is_text t text) as (λ b. list_any (is_text u) (cond (not b) (text ∷ without t texts) (without t texts)) ≡ true) [
      | true ↦ rest
      | false ↦ or_right (is_text u text) (list_any (is_text u) (without t texts)) rest
    ])
    (cases_Bool (is_text u text))
