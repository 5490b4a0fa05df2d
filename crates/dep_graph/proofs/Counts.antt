-- How often a number stands in a list, and how many of a list aren't in another.
use Rattle.std.proofs.Common.{ℕ, List, [], ◌∷◌, ◌++◌, ◌≡◌, ◌+◌, length, refl, sym, ap, subst, ◌∙◌, Bool, true, false, not, cond, inl, inr, arith, eqb}
use Rattle.std.specs.List.{count_by}
use Rattle.std.proofs.lemmas.Bool.{false≢true, cases_eq, cases_Bool, eq-eqb, ne_eqb}
use Rattle.std.proofs.lemmas.List.Sums.{sum_by-cons, sum_by_push}
use Rattle.cycle_walks.specs.Graph.{is_in}
use Rattle.cycle_walks.proofs.Members.{is_in-here, is_in-other, is_in-kept, is_in-push_here, is_in-push_other}
use Rattle.dep_graph.specs.Waiting.{count_of}

pub count_by-cons : (p : ℕ → Bool) (x : ℕ) (xs : List ℕ) → count_by p (x ∷ xs) ≡ cond (p x) 1 0 + count_by p xs
count_by-cons p x xs = sum_by-cons (λ y. cond (p y) 1 0) x xs

pub count_by-push : (p : ℕ → Bool) (xs : List ℕ) (x : ℕ) → count_by p (xs ++ x ∷ []) ≡ count_by p xs + cond (p x) 1 0
count_by-push p xs x = sum_by_push (λ y. cond (p y) 1 0) xs x

-- what a test counts where it passes, and where it fails
pub one_if : (b : Bool) → b ≡ true → cond {A = ℕ} b 1 0 ≡ 1
one_if b is = ap (λ x. cond {A = ℕ} x 1 0) is

pub none_if : (b : Bool) → b ≡ false → cond {A = ℕ} b 1 0 ≡ 0
none_if b is = ap (λ x. cond {A = ℕ} x 1 0) is

pub count_of-here : (t : ℕ) (xs : List ℕ) → count_of t (t ∷ xs) ≡ 1 + count_of t xs
count_of-here t xs = count_by-cons (eqb t) t xs ∙ ap (λ n. n + count_of t xs) (one_if (eqb t t) (eq-eqb t t refl))

pub count_of-other : (t x : ℕ) (xs : List ℕ) → (t ≡ x → ⊥) → count_of t (x ∷ xs) ≡ count_of t xs
count_of-other t x xs apart =
    let none = none_if (eqb t x) (ne_eqb t x apart) in
    omega (arith, count_by-cons (eqb t) x xs)

-- ---- those of a list that aren't in another

-- with nothing taken all are outside
pub outside-none : (xs : List ℕ) → count_by (λ x. not (is_in [] x)) xs ≡ length xs
outside-none [] = refl
outside-none (x ∷ xs) = omega (arith, count_by-cons (λ y. not (is_in [] y)) x xs, outside-none xs)

-- where none is outside, all are in
pub all_inside : (taken xs : List ℕ) → count_by (λ x. not (is_in taken x)) xs ≡ 0 → (t : ℕ) → is_in xs t ≡ true → is_in taken t ≡ true
all_inside taken [] zero-is t there = absurd (false≢true there)
all_inside taken (x ∷ xs) zero-is t there =
    let whole = count_by-cons (λ y. not (is_in taken y)) x xs in
    elim (cases_Bool (is_in taken x)) [
      | inl inside ↦ elim (cases_eq t x) [
        | inl same ↦ subst (λ v. is_in taken v ≡ true) (sym same) inside
        | inr apart ↦
            let rest : count_by (λ y. not (is_in taken y)) xs ≡ 0 = omega (arith, whole) in
            all_inside taken xs rest t (sym (is_in-other xs x t apart) ∙ there)
      ]
      | inr off ↦ let one = one_if (not (is_in taken x)) (ap not off) in absurd (omega (arith, whole, one))
    ]

-- where all are in, none is outside
pub none_outside : (taken xs : List ℕ) → ((t : ℕ) → is_in xs t ≡ true → is_in taken t ≡ true) → count_by (λ x. not (is_in taken x)) xs ≡ 0
none_outside taken [] all = refl
none_outside taken (x ∷ xs) all =
    let none = none_if (not (is_in taken x)) (ap not (all x (is_in-here xs x))) in
    omega (arith, count_by-cons (λ y. not (is_in taken y)) x xs, none, none_outside taken xs (λ t there. all t (is_in-kept xs x t there)))

-- one more taken takes away as many as the list has of it
pub outside-push : (taken : List ℕ) (t : ℕ) (xs : List ℕ) → is_in taken t ≡ false → count_by (λ x. not (is_in (taken ++ t ∷ []) x)) xs + count_of t xs ≡ count_by (λ x. not (is_in taken x)) xs
outside-push taken t [] off = refl
outside-push taken t (x ∷ xs) off =
    let new = count_by-cons (λ y. not (is_in (taken ++ t ∷ []) y)) x xs in
    let old = count_by-cons (λ y. not (is_in taken y)) x xs in
    let rest = outside-push taken t xs off in
    elim (cases_eq x t) [
      | inl same ↦
          let gone = none_if (not (is_in (taken ++ t ∷ []) x)) (ap not (subst (λ v. is_in (taken ++ t ∷ []) v ≡ true) (sym same) (is_in-push_here taken t))) in
          let was = one_if (not (is_in taken x)) (ap not (subst (λ v. is_in taken v ≡ false) (sym same) off)) in
          let here : count_of t (x ∷ xs) ≡ 1 + count_of t xs = subst (λ v. count_of t (v ∷ xs) ≡ 1 + count_of t xs) (sym same) (count_of-here t xs) in
          omega (arith, new, old, rest, gone, was, here)
      | inr apart ↦
          let kept : cond {A = ℕ} (not (is_in (taken ++ t ∷ []) x)) 1 0 ≡ cond {A = ℕ} (not (is_in taken x)) 1 0 = ap (λ b. cond {A = ℕ} (not b) 1 0) (is_in-push_other taken t x apart) in
          let here = count_of-other t x xs (λ e. apart (sym e)) in
          omega (arith, new, old, rest, kept, here)
    ]
