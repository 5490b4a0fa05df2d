-- One more pattern, among those that are looked up or those that are compared.
use Rattle.std.proofs.Common.{◌≡◌, ℕ, Bool, true, false, List, [], ◌∷◌, ◌++◌, Less, Equal, Greater, refl, ap, sym, ◌∙◌}
use Rattle.std.specs.Prelude.{◌||◌, None, if◌then◌else◌}
use Rattle.std.specs.List.{list_any}
use Rattle.std.specs.Cmp.Lexicographic.{slice_cmp}
use Rattle.std.specs.Ordering.{nat_cmp, is_eq, match_ordering}
use Rattle.std.specs.BTreeSet.{insert_key}
use Rattle.std.proofs.lemmas.Map.Lookups.{exact_bytes}
use Rattle.std.proofs.lemmas.Map.Text.{is_eq-slice_cmp}
use Rattle.std.proofs.lemmas.Cmp.{nat_list_eq_equiv}
use Rattle.std.proofs.lemmas.List.Folds.{list_any-append}
use Rattle.br_path.specs.Text.{is_text}
use Rattle.mk_expand.specs.Lists.{Misses, Equals, fit_at, is_fit}

swapped : (a b c : Bool) → (a || (b || c)) ≡ (b || (a || c))
swapped true true c = refl
swapped true false c = refl
swapped false true c = refl
swapped false false c = refl

ended : (a b c : Bool) → (a || (c || (b || false))) ≡ (b || (a || c))
ended true true c = refl
ended true false c = refl
ended false true true = refl
ended false true false = refl
ended false false true = refl
ended false false false = refl

again : (a c : Bool) → (a || c) ≡ (a || (a || c))
again true c = refl
again false c = refl

before : (a b c : Bool) → ((b || a) || c) ≡ (b || (a || c))
before a true c = refl
before a false c = refl

-- one more at the end of those that are compared
pub compared_more : {X : Type 0} (test : X → Bool) (plain b : Bool) (old new : List X) (x : X) → new ≡ old ++ x ∷ [] → test x ≡ b →
    (plain || list_any test new) ≡ (b || (plain || list_any test old))
compared_more test plain b old new x is fits =
    ap (λ xs. plain || list_any test xs) is
    ∙ (ap (λ r. plain || r) (list_any-append test old (x ∷ []))
    ∙ (ended plain (test x) (list_any test old) ∙ ap (λ r. r || (plain || list_any test old)) fits))

module _ {X : Type 0} (shown : X → List ℕ) (word : List ℕ) where
  inserted : (keys : List X) (k : X) → list_any (λ x. is_eq (slice_cmp nat_cmp word (shown x))) (insert_key (λ a b. slice_cmp nat_cmp (shown a) (shown b)) keys k) ≡ (is_eq (slice_cmp nat_cmp word (shown k)) || list_any (λ x. is_eq (slice_cmp nat_cmp word (shown x))) keys)
  inserted [] k = refl
  inserted (x ∷ keys) k =
      elim (slice_cmp nat_cmp (shown k) (shown x)) as (λ r. slice_cmp nat_cmp (shown k) (shown x) ≡ r → list_any (λ x. is_eq (slice_cmp nat_cmp word (shown x))) (match_ordering r (k ∷ x ∷ keys) (x ∷ keys) (x ∷ insert_key (λ a b. slice_cmp nat_cmp (shown a) (shown b)) keys k)) ≡ (is_eq (slice_cmp nat_cmp word (shown k)) || list_any (λ x. is_eq (slice_cmp nat_cmp word (shown x))) (x ∷ keys))) [
        | Less ↦ λ e. refl
        | Equal ↦ λ e. again (is_eq (slice_cmp nat_cmp word (shown x))) (list_any (λ x. is_eq (slice_cmp nat_cmp word (shown x))) keys)
            ∙ ap (λ t. is_eq (slice_cmp nat_cmp word t) || list_any (λ x. is_eq (slice_cmp nat_cmp word (shown x))) (x ∷ keys)) (sym (exact_bytes (shown k) (shown x) e))
        | Greater ↦ λ e. ap (λ r. is_eq (slice_cmp nat_cmp word (shown x)) || r) (inserted keys k)
            ∙ swapped (is_eq (slice_cmp nat_cmp word (shown x))) (is_eq (slice_cmp nat_cmp word (shown k))) (list_any (λ x. is_eq (slice_cmp nat_cmp word (shown x))) keys)
      ] refl

  -- one more among those that are looked up
  pub looked_more : (keys new : List X) (k : X) (b others : Bool) → new ≡ insert_key (λ a b. slice_cmp nat_cmp (shown a) (shown b)) keys k → is_eq (slice_cmp nat_cmp word (shown k)) ≡ b →
      (list_any (λ x. is_eq (slice_cmp nat_cmp word (shown x))) new || others) ≡ (b || (list_any (λ x. is_eq (slice_cmp nat_cmp word (shown x))) keys || others))
  looked_more keys new k b others is same =
      ap (λ ks. list_any (λ x. is_eq (slice_cmp nat_cmp word (shown x))) ks || others) is
      ∙ (ap (λ r. r || others) (inserted keys k ∙ ap (λ r. r || list_any (λ x. is_eq (slice_cmp nat_cmp word (shown x))) keys) same)
      ∙ before (list_any (λ x. is_eq (slice_cmp nat_cmp word (shown x))) keys) b others)

-- a word that is looked up as a pattern without a `%` is the one that fits it
pub plain-fit : (word pattern : List ℕ) → is_eq (slice_cmp nat_cmp word pattern) ≡ is_fit (fit_at pattern word None)
plain-fit word pattern = is_eq-slice_cmp word pattern ∙ (nat_list_eq_equiv.symm word pattern ∙ by (is_text pattern word))
  where
    by : (same : Bool) → same ≡ is_fit (if same then Equals else Misses)
    by true = refl
    by false = refl
