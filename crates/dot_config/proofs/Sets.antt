-- Sets of symbols, by the texts of their names.
use Rattle.std.proofs.Common.{ℕ, ◌≡◌, Bool, true, false, cond, List, [], ◌∷◌, ◌++◌, map, refl, sym, ap, subst, ◌∙◌, true≢false}
use Rattle.std.specs.Prelude.{◌||◌, nat_eq}
use Rattle.std.specs.Bool.{Decides}
use Rattle.std.specs.List.{list_any}
use Rattle.std.specs.Cmp.Lexicographic.{pointwise}
use Rattle.std.proofs.lemmas.List.{map-append}
use Rattle.std.proofs.lemmas.List.Folds.{list_any-append}
use Rattle.std.proofs.lemmas.Bool.Decides.{same_from_decides, Decides-like}
use Rattle.std.proofs.lemmas.Slice.Eq.{bytes_eq-Decides}
use Rattle.indexmap.specs.IndexSet.{insert_key}
use Rattle.br_path.specs.Text.{is_text}
use Rattle.dot_config.specs.Symbols.{has}
use Rattle.dot_config.proofs.Cuts.{same_texts}

pub is_text-flip : (text other : List ℕ) → is_text text other ≡ is_text other text
is_text-flip text other =
    same_from_decides (is_text text other) (is_text other text) (bytes_eq-Decides text other)
    (Decides-like (is_text other text) sym sym (bytes_eq-Decides other text))

or_swap : (x y : Bool) → (x || (y || false)) ≡ (y || x)
or_swap true true = refl
or_swap true false = refl
or_swap false true = refl
or_swap false false = refl

module _ {K : Type 0} (shown : K → List ℕ) where
  -- a symbol is found among the keys as it is among their texts
  pub has-map : (symbol : List ℕ) (keys : List K) → list_any (λ key. pointwise nat_eq symbol (shown key)) keys ≡ has symbol (map shown keys)
  has-map symbol [] = refl
  has-map symbol (key ∷ keys) =
      ap (λ b. b || list_any (λ k. pointwise nat_eq symbol (shown k)) keys) (is_text-flip symbol (shown key)) ∙ ap (λ b. is_text (shown key) symbol || b) (has-map symbol keys)

  already : (keys : List K) (key : K) (other : List ℕ) → list_any (λ k. pointwise nat_eq (shown key) (shown k)) keys ≡ true → has other (map shown keys) ≡ (is_text (shown key) other || has other (map shown keys))
  already keys key other there = by (is_text (shown key) other) refl
    where
      by : (b : Bool) → is_text (shown key) other ≡ b → has other (map shown keys) ≡ (b || has other (map shown keys))
      by false e = refl
      by true e = subst (λ s. has s (map shown keys) ≡ true) (same_texts (shown key) other e) (sym (has-map (shown key) keys) ∙ there)

  -- the symbols with one more
  pub has-insert_key : (keys : List K) (key : K) (other : List ℕ) → has other (map shown (insert_key (λ a b. pointwise nat_eq (shown a) (shown b)) keys key)) ≡ (is_text (shown key) other || has other (map shown keys))
  has-insert_key keys key other = by (list_any (λ k. pointwise nat_eq (shown key) (shown k)) keys) refl
    where
      by : (b : Bool) → list_any (λ k. pointwise nat_eq (shown key) (shown k)) keys ≡ b → has other (map shown (cond b keys (keys ++ key ∷ []))) ≡ (is_text (shown key) other || has other (map shown keys))
      by true e = already keys key other e
      by false e =
          ap (has other) (map-append shown keys (key ∷ []))
          ∙ list_any-append (λ name. is_text name other) (map shown keys) (shown key ∷ [])
          ∙ or_swap (has other (map shown keys)) (is_text (shown key) other)
