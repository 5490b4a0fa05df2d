-- The set of the declared symbols.
use Rattle.std.proofs.Common.{ℕ, ◌≡◌, ◌+◌, ◌<◌, ◌^◌, nat_lt, Bool, true, false, cond, not, ◌||◌, List, [], ◌∷◌, ◌++◌, length, map, fold, get_or, drop, Some, None, position, refl, sym, ap, ap₂, subst, ◌∙◌}
use Rattle.std.specs.List.{list_any, position_or_len, IsDistinct}
use Rattle.std.specs.List.Sorted.{IsSorted, IsPermutation}
use Rattle.std.specs.Cmp.Lexicographic.{slice_cmp}
use Rattle.std.specs.Ordering.{nat_cmp}
use Rattle.std.proofs.lemmas.List.{map-append, length-map, drop_more}
use Rattle.std.proofs.lemmas.List.Sorted.{list_any-IsPermutation}
use Rattle.indexmap.specs.IndexSet.{insert_key}
use Rattle.br_path.specs.Text.{is_text}
use Rattle.kc_menu.specs.declared.menu.KcEntry.{KcEntry}
use Rattle.kc_equations.specs.Names.{is_declared}
use Rattle.kc_equations.specs.Solution.{put_symbol, symbols_of}
use Rattle.kc_equations.proofs.Runs.{declared_is}
use Rattle.kc_solve.specs.Symbols.{AreSymbols}
use Rattle.kc_solve.proofs.Places.{sorted_texts}

module _ {K : Type 0} (shown : K → List ℕ) where
  abbrev pub same : K → K → Bool
  same a b = is_text (shown a) (shown b)

  pub any_map : (s : List ℕ) (keys : List K) → list_any (is_text s) (map shown keys) ≡ list_any (λ k. is_text s (shown k)) keys
  any_map s [] = refl
  any_map s (k ∷ keys) = ap (λ b. is_text s (shown k) || b) (any_map s keys)

  -- a key that is put into a set
  pub insert_key_map : (keys : List K) (k : K) → map shown (insert_key same keys k) ≡ put_symbol (map shown keys) (shown k)
  insert_key_map keys k =
      elim (list_any (same k) keys) as (λ b. list_any (same k) keys ≡ b → map shown (cond b keys (keys ++ k ∷ [])) ≡ put_symbol (map shown keys) (shown k)) [
        | true ↦ λ there. sym (ap (λ b. cond b (map shown keys) (map shown keys ++ shown k ∷ [])) (any_map (shown k) keys ∙ there))
        | false ↦ λ new. map-append shown keys (k ∷ []) ∙ sym (ap (λ b. cond b (map shown keys) (map shown keys ++ shown k ∷ [])) (any_map (shown k) keys ∙ new))
      ] refl

  first_map : (test : List ℕ → Bool) (keys : List K) → position_or_len test (map shown keys) ≡ position_or_len (λ k. test (shown k)) keys
  first_map test [] = refl
  first_map test (k ∷ keys) = ap (λ n. cond (not (test (shown k))) (1 + n) 0) (first_map test keys)

  -- the place of a key is that of its text
  pub position_map : (test : List ℕ → Bool) (keys : List K) → position test (map shown keys) ≡ position (λ k. test (shown k)) keys
  position_map test keys = ap₂ (λ n m. cond (nat_lt n m) (Some n) None) (first_map test keys) (length-map keys shown)

  pub sorted_set : (keys : List K) → length keys < 2 ^ 32 → IsSorted (λ a b. slice_cmp nat_cmp (shown a) (shown b)) keys → IsDistinct same keys → AreSymbols (map shown keys)
  sorted_set keys few sorted apart = record { few = subst (λ n. n < 2 ^ 32) (sym (length-map keys shown)) few; rising = sorted_texts shown keys sorted apart }

  -- in another order the same symbols are declared
  pub any_sorted : (old new : List K) (entries : List KcEntry) → map shown old ≡ symbols_of entries → IsPermutation old new → (s : List ℕ) → list_any (is_text s) (map shown new) ≡ is_declared entries s
  any_sorted old new entries are moved s =
      any_map s new
      ∙ (sym (list_any-IsPermutation (λ k. is_text s (shown k)) old new moved)
      ∙ (sym (any_map s old) ∙ (ap (list_any (is_text s)) are ∙ declared_is entries s)))

  -- one key more, and the entries that are left give the rest of the symbols
  pub set_more : (old new : List K) (k : K) (entries : List KcEntry) (place : ℕ) (e : KcEntry) (whole : List (List ℕ))
      → place < length entries → e ≡ get_or entries place e → shown k ≡ e.symbol → new ≡ insert_key same old k
      → fold (λ symbols x. put_symbol symbols x.symbol) (map shown old) (drop place entries) ≡ whole
      → fold (λ symbols x. put_symbol symbols x.symbol) (map shown new) (drop (place + 1) entries) ≡ whole
  set_more old new k entries place e whole short is shows made before =
      let all : List (List ℕ) → List KcEntry → List (List ℕ) = fold (λ symbols x. put_symbol symbols x.symbol) in
      let rest : List KcEntry = drop (place + 1) entries in
      ap (λ keys. all (map shown keys) rest) made
      ∙ (ap (λ symbols. all symbols rest) (insert_key_map old k)
      ∙ (ap (λ s. all (put_symbol (map shown old) s) rest) shows
      ∙ (ap (λ x. all (map shown old) (x ∷ rest)) is
      ∙ (sym (ap (all (map shown old)) (drop_more entries place e short)) ∙ before))))
