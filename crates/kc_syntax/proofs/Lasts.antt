-- The last of a list, changed, and lists from their ends.
use Rattle.std.proofs.Common.{◌≡◌, ℕ, ◌+◌, ◌-◌, ◌<◌, Bool, cond, List, [], ◌∷◌, ◌++◌, length, reverse, refl, ◌∙◌, ap, arith}
use Rattle.std.specs.Prelude.{count_by, flat_map, slice_index_or as get_or, slice_set as set}
use Rattle.std.proofs.lemmas.List.{reverse-append, length-reverse}
use Rattle.std.proofs.lemmas.List.Sums.{sum_by-append}
use Rattle.kc_syntax.specs.State.{on_last, on_first}

set_last : {A : Type 0} (f : A → A) (x : A) (xs : List A) (d : A) → set (x ∷ xs) (length xs) (f (get_or (x ∷ xs) (length xs) d)) ≡ on_last f (x ∷ xs)
set_last f x [] d = refl
set_last f x (y ∷ xs) d = ap (λ ys. x ∷ ys) (set_last f y xs d)

-- the last is read, and what is made of it is written in its place
pub last_set : {A : Type 0} (f : A → A) (xs : List A) (n : ℕ) (x y : A) → n ≡ length xs → 0 < n → x ≡ get_or xs (n - 1) x → y ≡ f x → set xs (n - 1) y ≡ on_last f xs
last_set f [] n x y len some at made = absurd (omega (arith, len, some))
last_set f (z ∷ xs) n x y len some at made =
    let place : n - 1 ≡ length xs = omega (arith, len) in
    let here : set (z ∷ xs) (n - 1) y ≡ set (z ∷ xs) (length xs) (f (get_or (z ∷ xs) (length xs) x)) = cc (place, at, made) in
    here ∙ set_last f z xs x

on_first-append : {A : Type 0} (f : A → A) (xs ys : List A) → 0 < length xs → on_first f (xs ++ ys) ≡ on_first f xs ++ ys
on_first-append f [] ys some = absurd (omega (arith, some))
on_first-append f (x ∷ xs) ys some = refl

reverse_on_last : {A : Type 0} (f : A → A) (xs : List A) → reverse (on_last f xs) ≡ on_first f (reverse xs)
reverse_on_last f [] = refl
reverse_on_last f (x ∷ []) = refl
reverse_on_last f (x ∷ y ∷ xs) =
    let left : reverse (x ∷ on_last f (y ∷ xs)) ≡ reverse (on_last f (y ∷ xs)) ++ x ∷ [] = reverse-append (x ∷ []) (on_last f (y ∷ xs)) in
    let right : reverse (x ∷ y ∷ xs) ≡ reverse (y ∷ xs) ++ x ∷ [] = reverse-append (x ∷ []) (y ∷ xs) in
    let some : 0 < length (reverse (y ∷ xs)) = rw (length-reverse (y ∷ xs)) (omega arith) in
    let first : on_first f (reverse (y ∷ xs) ++ x ∷ []) ≡ on_first f (reverse (y ∷ xs)) ++ x ∷ [] = on_first-append f (reverse (y ∷ xs)) (x ∷ []) some in
    cc (left, right, first, reverse_on_last f (y ∷ xs))

-- the same of a list that is seen from its end
pub first_set : {A : Type 0} (f : A → A) (xs : List A) (n : ℕ) (x y : A) → n ≡ length xs → 0 < n → x ≡ get_or xs (n - 1) x → y ≡ f x → reverse (set xs (n - 1) y) ≡ on_first f (reverse xs)
first_set f xs n x y len some at made = rw (last_set f xs n x y len some at made) (reverse_on_last f xs)

pub reverse_reverse : {A : Type 0} (xs : List A) → reverse (reverse xs) ≡ xs
reverse_reverse [] = refl
reverse_reverse (x ∷ xs) = rw (reverse-append (x ∷ []) xs, reverse-append (reverse xs) (x ∷ [])) (ap (λ ys. x ∷ ys) (reverse_reverse xs))

pub count_by-reverse : {A : Type 0} (p : A → Bool) (xs : List A) → count_by p (reverse xs) ≡ count_by p xs
count_by-reverse p [] = refl
count_by-reverse {A = A} p (x ∷ xs) =
    let one : A → ℕ = λ y. cond (p y) 1 0 in
    let turned : count_by p (reverse (x ∷ xs)) ≡ count_by p (reverse xs ++ x ∷ []) = ap (count_by p) (reverse-append (x ∷ []) xs) in
    let apart : count_by p (reverse xs ++ x ∷ []) ≡ count_by p (reverse xs) + count_by p (x ∷ []) = sum_by-append one (reverse xs) (x ∷ []) in
    let whole : count_by p (x ∷ xs) ≡ count_by p (x ∷ []) + count_by p xs = sum_by-append one (x ∷ []) xs in
    let inner : count_by p (reverse xs) ≡ count_by p xs = count_by-reverse p xs in
    omega arith

pub ruleset lasts = (last_set, first_set)

pub ruleset counts = (count_by-reverse)
