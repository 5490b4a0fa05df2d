-- What is known of symbols once one more is known.
use Rattle.std.proofs.Common.{◌≡◌, ℕ, Bool, true, false, cond, List, [], ◌∷◌, Option, Some, None, refl, ap, sym, subst, ◌∙◌}
use Rattle.std.specs.Option.{option_map}
use Rattle.std.specs.Map.{lookup}
use Rattle.std.specs.Cmp.{IsEquivalence}
use Rattle.std.specs.Cmp.Lexicographic.{nat_list_eq_equiv}
use Rattle.std.specs.HashMap.Eq.{lookup_congr}
use Rattle.indexmap.specs.IndexMap.{insert_entry}
use Rattle.br_path.specs.Text.{is_text}
use Rattle.kc_syntax.specs.declared.reader.Known.{Known}
use Rattle.kc_syntax.specs.State.{Symbols, known}
use Rattle.kc_syntax.specs.Sound.{IsPlaced, IsFitMember}

module _ {K V : Type 0} (eq : K → K → Bool) (laws : IsEquivalence eq) where
  twice : (b : Bool) (v w : V) (rest : Option V) → cond b (Some v) rest ≡ cond b (Some v) (cond b (Some w) rest)
  twice true v w rest = refl
  twice false v w rest = refl

  apart : (here there : Bool) (v w : V) (rest : Option V) → (here ≡ true → there ≡ true → ⊥) → cond here (Some w) (cond there (Some v) rest) ≡ cond there (Some v) (cond here (Some w) rest)
  apart true true v w rest both = absurd (both refl refl)
  apart true false v w rest both = refl
  apart false there v w rest both = refl

  -- the key is the entry's, or another
  at_entry : (b : Bool) (e : K × V) (es put : List (K × V)) (k : K) (v : V) (q : K) → eq k e.0 ≡ b → lookup (eq q) put ≡ cond (eq q k) (Some v) (lookup (eq q) es) → lookup (eq q) (cond b ((e.0, v) ∷ es) (e ∷ put)) ≡ cond (eq q k) (Some v) (cond (eq q e.0) (Some e.1) (lookup (eq q) es))
  at_entry true e es put k v q is rest =
      let same : eq q e.0 ≡ eq q k = laws.symm q e.0 ∙ sym (laws.congr k e.0 q is) ∙ laws.symm k q in
      rw same (twice (eq q k) v e.1 (lookup (eq q) es))
  at_entry false e es put k v q is rest =
      rw rest (apart (eq q e.0) (eq q k) v e.1 (lookup (eq q) es)
      (λ here there. let own : eq q e.0 ≡ eq k e.0 = laws.congr q k e.0 there in cc))

  -- the entry of the key that is put, and else the one that was there
  lookup-put : (es : List (K × V)) (k : K) (v : V) (q : K) → lookup (eq q) (insert_entry eq es k v) ≡ cond (eq q k) (Some v) (lookup (eq q) es)
  lookup-put [] k v q = refl
  lookup-put (e ∷ es) k v q = at_entry (eq k e.0) e es (insert_entry eq es k v) k v q refl (lookup-put es k v q)

pub known_put : (symbols : Symbols) (symbol : List ℕ) (v : Known) (q : List ℕ) → known (insert_entry is_text symbols symbol v) q ≡ cond (is_text q symbol) (Some v) (known symbols q)
known_put symbols symbol v q = lookup-put is_text nat_list_eq_equiv symbols symbol v q

-- a symbol that is the same text is known by the same
pub known_same : (symbols : Symbols) (symbol q : List ℕ) → is_text q symbol ≡ true → known symbols q ≡ known symbols symbol
known_same symbols symbol q same = lookup_congr is_text nat_list_eq_equiv.congr symbols q symbol same

module _ (symbols : Symbols) (symbol : List ℕ) (v : Known) where
  -- an entry that is placed stays so, where its own symbol gets no other choice
  pub placed_put : (q : List ℕ) (choice : Option ℕ) → IsPlaced symbols q choice → (is_text q symbol ≡ true → v.choice ≡ choice) → IsPlaced (insert_entry is_text symbols symbol v) q choice
  placed_put q choice placed own = rw (known_put symbols symbol v q) (by (is_text q symbol) own placed)
    where
      by : (b : Bool) → (b ≡ true → v.choice ≡ choice) → option_map (λ k. k.choice) (known symbols q) ≡ Some choice → option_map (λ k. k.choice) (cond b (Some v) (known symbols q)) ≡ Some choice
      by true own placed = ap (λ c. Some c) (own refl)
      by false own placed = placed

  pub placed_own : IsPlaced (insert_entry is_text symbols symbol v) symbol v.choice
  placed_own = rw (known_put symbols symbol v symbol, nat_list_eq_equiv.refl symbol) refl

  pub fit_put : ((q : List ℕ) (k : Known) → known symbols q ≡ Some k → IsFitMember k) → IsFitMember v → (q : List ℕ) (k : Known) → known (insert_entry is_text symbols symbol v) q ≡ Some k → IsFitMember k
  fit_put fit own q k e = by (is_text q symbol) (sym (known_put symbols symbol v q) ∙ e)
    where
      by : (b : Bool) → cond b (Some v) (known symbols q) ≡ Some k → IsFitMember k
      by true e = let same : v ≡ k = cc in subst IsFitMember same own
      by false e = fit q k e
