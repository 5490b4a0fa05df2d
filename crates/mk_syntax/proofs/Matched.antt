-- What a scan for the closing bracket finds, in terms of brackets that match.
use Rattle.std.proofs.Common.{◌≡◌, ℕ, zero, suc, ◌+◌, ◌-◌, eqb, false, cond, Option, Some, None, List, [], ◌∷◌, ◌++◌, length, sym, refl, ap, ◌∙◌, subst, append_assoc, inl, inr, arith}
use Rattle.std.proofs.lemmas.Bool.{eqb-true, eq-eqb, false_from_ne_true}
use Rattle.std.proofs.lemmas.Bool.Decides.{eqb_tells}
use Rattle.std.proofs.lemmas.List.{length-append}
use Rattle.mk_syntax.specs.Brackets.{closing}
use Rattle.mk_syntax.specs.Remains.{AreMatched, none, other, pair, StaysOpen}

pub unequal : (a b : ℕ) → (a ≡ b → ⊥) → eqb a b ≡ false
unequal a b h = false_from_ne_true (eqb a b) (λ e. h (eqb-true a b e))

abbrev Place : Type 0
Place = Option ℕ

-- one byte of a scan
at_opening : (o c level place : ℕ) (bs : List ℕ) → closing o c level place (o ∷ bs) ≡ closing o c (level + 1) (place + 1) bs
at_opening o c level place bs =
    ap (λ t. cond t (closing o c (level + 1) (place + 1) bs) (cond (eqb o c) (cond (eqb level 0) (Some place) (closing o c (level - 1) (place + 1) bs)) (closing o c level (place + 1) bs))) (eq-eqb o o refl)

at_closing : (o c level place : ℕ) (bs : List ℕ) → eqb c o ≡ false → closing o c level place (c ∷ bs) ≡ cond (eqb level 0) (Some place) (closing o c (level - 1) (place + 1) bs)
at_closing o c level place bs differ =
    ap (λ t. cond t (closing o c (level + 1) (place + 1) bs) (cond (eqb c c) (cond (eqb level 0) (Some place) (closing o c (level - 1) (place + 1) bs)) (closing o c level (place + 1) bs))) differ
    ∙ ap (λ t. cond t (cond (eqb level 0) (Some place) (closing o c (level - 1) (place + 1) bs)) (closing o c level (place + 1) bs)) (eq-eqb c c refl)

at_other : (o c level place b : ℕ) (bs : List ℕ) → eqb b o ≡ false → eqb b c ≡ false → closing o c level place (b ∷ bs) ≡ closing o c level (place + 1) bs
at_other o c level place b bs e f =
    ap (λ t. cond t (closing o c (level + 1) (place + 1) bs) (cond (eqb b c) (cond (eqb level 0) (Some place) (closing o c (level - 1) (place + 1) bs)) (closing o c level (place + 1) bs))) e
    ∙ ap (λ t. cond t (cond (eqb level 0) (Some place) (closing o c (level - 1) (place + 1) bs)) (closing o c level (place + 1) bs)) f

-- a closing bracket of one that was opened within the text
at_inner : (o c level place : ℕ) (bs : List ℕ) → eqb c o ≡ false → closing o c (level + 1) place (c ∷ bs) ≡ closing o c level (place + 1) bs
at_inner o c level place bs differ =
    let below : eqb (level + 1) 0 ≡ false = unequal (level + 1) 0 (λ e. omega arith) in
    let back : level + 1 - 1 ≡ level = omega arith in
    at_closing o c (level + 1) place bs differ
    ∙ ap (λ t. cond t (Some place) (closing o c (level + 1 - 1) (place + 1) bs)) below
    ∙ ap (λ l. closing o c l (place + 1) bs) back

-- a scan passes what matches
passes : {o c : ℕ} {x : List ℕ} → eqb c o ≡ false → AreMatched o c x → (level place : ℕ) (rest : List ℕ) → closing o c level place (x ++ rest) ≡ closing o c level (place + length x) rest
passes {o = o} {c = c} differ none level place rest =
    let e : place ≡ place + 0 = omega arith in ap (λ p. closing o c level p rest) e
passes {o = o} {c = c} differ (other {b = b} {text = text} not_open not_close matched) level place rest =
    let e : place + 1 + length text ≡ place + length (b ∷ text) = omega arith in
    at_other o c level place b (text ++ rest) (unequal b o not_open) (unequal b c not_close)
    ∙ passes differ matched level (place + 1) rest
    ∙ ap (λ p. closing o c level p rest) e
passes {o = o} {c = c} differ (pair inside text matched more) level place rest =
    let e : place + 1 + length inside + 1 + length text ≡ place + length (o ∷ inside ++ c ∷ text) = omega (arith, length-append inside (c ∷ text)) in
    at_opening o c level place ((inside ++ c ∷ text) ++ rest)
    ∙ ap (closing o c (level + 1) (place + 1)) (append_assoc inside (c ∷ text) rest)
    ∙ passes differ matched (level + 1) (place + 1) (c ∷ text ++ rest)
    ∙ at_inner o c level (place + 1 + length inside) (text ++ rest) differ
    ∙ passes differ more level (place + 1 + length inside + 1) rest
    ∙ ap (λ p. closing o c level p rest) e

-- after what matches, the closing bracket is found
pub closes_at : {o c : ℕ} (inside rest : List ℕ) → eqb c o ≡ false → AreMatched o c inside → closing o c 0 0 (inside ++ c ∷ rest) ≡ Some (length inside)
closes_at {o = o} {c = c} inside rest differ matched =
    let e : 0 + length inside ≡ length inside = omega arith in
    passes differ matched 0 0 (c ∷ rest) ∙ at_closing o c 0 (0 + length inside) rest differ ∙ ap (λ p. Some p) e

-- a text in which, where so many brackets were opened before it, the last of them closes after so many bytes
data Unwinds (o c : ℕ) : ℕ → List ℕ → ℕ → Type 0 where
  here : (x rest : List ℕ) → AreMatched o c x → Unwinds o c zero (x ++ c ∷ rest) (length x)
  more : (x text : List ℕ) {level n : ℕ} → AreMatched o c x → Unwinds o c level text n → Unwinds o c (suc level) (x ++ c ∷ text) (length x + 1 + n)

unwinds_at : {o c level m n : ℕ} {a b : List ℕ} → a ≡ b → m ≡ n → Unwinds o c level a m → Unwinds o c level b n
unwinds_at {o = o} {c = c} {level = level} {n = n} {a = a} e f u = subst (λ t. Unwinds o c level t n) e (subst (λ k. Unwinds o c level a k) f u)

grow_byte : {o c level n : ℕ} {text : List ℕ} (b : ℕ) → (b ≡ o → ⊥) → (b ≡ c → ⊥) → Unwinds o c level text n → Unwinds o c level (b ∷ text) (n + 1)
grow_byte b not_open not_close (here x rest matched) =
    let e : length (b ∷ x) ≡ length x + 1 = omega arith in unwinds_at refl e (here (b ∷ x) rest (other not_open not_close matched))
grow_byte b not_open not_close (more x text {n = n} matched u) =
    let e : length (b ∷ x) + 1 + n ≡ length x + 1 + n + 1 = omega arith in unwinds_at refl e (more (b ∷ x) text (other not_open not_close matched) u)

grow_pair : {o c level n : ℕ} {text : List ℕ} (inside : List ℕ) → AreMatched o c inside → Unwinds o c level text n → Unwinds o c level (o ∷ inside ++ c ∷ text) (length inside + 2 + n)
grow_pair {o = o} {c = c} inside enclosed (here x rest matched) =
    let e : length (o ∷ inside ++ c ∷ x) ≡ length inside + 2 + length x = omega (arith, length-append inside (c ∷ x)) in
    unwinds_at (ap (λ t. o ∷ t) (append_assoc inside (c ∷ x) (c ∷ rest))) e (here (o ∷ inside ++ c ∷ x) rest (pair inside x enclosed matched))
grow_pair {o = o} {c = c} inside enclosed (more x text {n = n} matched u) =
    let e : length (o ∷ inside ++ c ∷ x) + 1 + n ≡ length inside + 2 + (length x + 1 + n) = omega (arith, length-append inside (c ∷ x)) in
    unwinds_at (ap (λ t. o ∷ t) (append_assoc inside (c ∷ x) (c ∷ text))) e (more (o ∷ inside ++ c ∷ x) text (pair inside x enclosed matched) u)

-- what a scan has found
abbrev Found : ℕ → ℕ → ℕ → List ℕ → ℕ → ℕ → Type 0
Found o c level text place n = (m : ℕ) × ((n ≡ place + m) × Unwinds o c level text m)

open_up : {o c level m : ℕ} {bs : List ℕ} (place n : ℕ) → Unwinds o c (suc level) bs m → n ≡ place + 1 + m → Found o c level (o ∷ bs) place n
open_up place n (more x text {n = k} matched u) e = (length x + 2 + k, (omega arith, grow_pair x matched u))

close_up : {o c level m : ℕ} {bs : List ℕ} (place n : ℕ) → Unwinds o c level bs m → n ≡ place + 1 + m → Found o c (suc level) (c ∷ bs) place n
close_up {m = m} {bs = bs} place n u e = (0 + 1 + m, (omega arith, more [] bs none u))

some_none : {A : Type 0} {x : A} → None ≡ Some x → ⊥
some_none e = cc

found_close : (o c : ℕ) (bs : List ℕ) (level place n : ℕ) → eqb c o ≡ false → ((l p k : ℕ) → closing o c l p bs ≡ Some k → Found o c l bs p k) → closing o c level place (c ∷ bs) ≡ Some n → Found o c level (c ∷ bs) place n
found_close o c bs zero place n differ further h =
    let same : Some place ≡ Some n = sym (at_closing o c zero place bs differ) ∙ h in
    let equal : place ≡ n = cc in
    (0, (omega arith, here [] bs none))
found_close o c bs (suc level) place n differ further h =
    let one : level + 1 ≡ suc level = omega arith in
    let r = further level (place + 1) n (sym (ap (λ l. closing o c l place (c ∷ bs)) (sym one) ∙ at_inner o c level place bs differ) ∙ h) in
    close_up place n r.1.1 r.1.0

found : (o c : ℕ) → eqb c o ≡ false → (text : List ℕ) (level place n : ℕ) → closing o c level place text ≡ Some n → Found o c level text place n
found o c differ [] level place n h = absurd (some_none h)
found o c differ (b ∷ bs) level place n h =
    elim (eqb_tells b o) as (λ _. Found o c level (b ∷ bs) place n) [
      | inl e ↦
          let one : level + 1 ≡ suc level = omega arith in
          let opened : closing o c (level + 1) (place + 1) bs ≡ Some n = sym (ap (λ x. closing o c level place (x ∷ bs)) e.1 ∙ at_opening o c level place bs) ∙ h in
          let r = found o c differ bs (level + 1) (place + 1) n opened in
          subst (λ x. Found o c level (x ∷ bs) place n) (sym e.1) (open_up place n (subst (λ l. Unwinds o c l bs r.0) one r.1.1) r.1.0)
      | inr e ↦ elim (eqb_tells b c) as (λ _. Found o c level (b ∷ bs) place n) [
        | inl f ↦ subst (λ x. Found o c level (x ∷ bs) place n) (sym f.1)
            (found_close o c bs level place n differ (λ l p k g. found o c differ bs l p k g) (sym (ap (λ x. closing o c level place (x ∷ bs)) f.1) ∙ h))
        | inr f ↦
            let r = found o c differ bs level (place + 1) n (sym (at_other o c level place b bs e.0 f.0) ∙ h) in
            (r.0 + 1, (omega arith, grow_byte b e.1 f.1 r.1.1))
      ]
    ]

-- where a closing bracket is found, what is before it matches
pub record Closes (o c : ℕ) (text : List ℕ) (n : ℕ) : Type 0 where
  pub inside : List ℕ
  pub rest : List ℕ
  pub cut : text ≡ inside ++ c ∷ rest
  pub matched : AreMatched o c inside
  pub at : n ≡ length inside

unwound : {o c m : ℕ} {text : List ℕ} (n : ℕ) → Unwinds o c zero text m → n ≡ 0 + m → Closes o c text n
unwound n (here x rest matched) e = record { inside = x; rest = rest; cut = refl; matched = matched; at = omega arith }

pub closes : (o c : ℕ) (text : List ℕ) (n : ℕ) → eqb c o ≡ false → closing o c 0 0 text ≡ Some n → Closes o c text n
closes o c text n differ h = let r = found o c differ text 0 0 n h in unwound n r.1.1 r.1.0

-- where none is found, the bracket stays open
pub stays_open : (o c : ℕ) (text : List ℕ) → eqb c o ≡ false → closing o c 0 0 text ≡ None → StaysOpen o c text
stays_open o c text differ h inside rest cut matched =
    some_none (sym h ∙ ap (closing o c 0 0) cut ∙ closes_at inside rest differ matched)

pub none_found : (o c : ℕ) (text : List ℕ) → eqb c o ≡ false → StaysOpen o c text → closing o c 0 0 text ≡ None
none_found o c text differ open_end =
    let P : Option ℕ → Type 0 = λ r. closing o c 0 0 text ≡ r → r ≡ None in
    elim (closing o c 0 0 text) as P [
      | Some n ↦ λ e. let k = closes o c text n differ e in absurd (open_end k.inside k.rest k.cut k.matched)
      | None ↦ λ e. refl
    ] refl
