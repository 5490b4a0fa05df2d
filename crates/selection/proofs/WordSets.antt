-- Words that are put into a set.
use Rattle.std.proofs.Common.{ℕ, ◌≡◌, Bool, true, false, cond, ◌||◌, List, [], ◌∷◌, ◌++◌, map, fold, refl, sym, ap, ◌∙◌}
use Rattle.std.specs.List.{list_any}
use Rattle.std.proofs.lemmas.List.{map-append}
use Rattle.indexmap.specs.IndexSet.{insert_key}
use Rattle.br_path.specs.Text.{is_text}
use Rattle.selection.specs.Lists.{put_word}

module _ {K : Type 0} (shown : K → List ℕ) where
  abbrev pub same : K → K → Bool
  same a b = is_text (shown a) (shown b)

  any_map : (s : List ℕ) (keys : List K) → list_any (is_text s) (map shown keys) ≡ list_any (λ k. is_text s (shown k)) keys
  any_map s [] = refl
  any_map s (k ∷ keys) = ap (λ b. is_text s (shown k) || b) (any_map s keys)

  -- a word that is put into a set
  pub insert_word : (keys : List K) (k : K) → map shown (insert_key same keys k) ≡ put_word (map shown keys) (shown k)
  insert_word keys k =
      elim (list_any (same k) keys) as (λ b. list_any (same k) keys ≡ b → map shown (cond b keys (keys ++ k ∷ [])) ≡ put_word (map shown keys) (shown k)) [
        | true ↦ λ there. sym (ap (λ b. cond b (map shown keys) (map shown keys ++ shown k ∷ [])) (any_map (shown k) keys ∙ there))
        | false ↦ λ new. map-append shown keys (k ∷ []) ∙ sym (ap (λ b. cond b (map shown keys) (map shown keys ++ shown k ∷ [])) (any_map (shown k) keys ∙ new))
      ] refl

  -- a word that is left is put next
  pub set_step : (keys new : List K) (k : K) (left rest whole : List (List ℕ)) → fold put_word (map shown keys) left ≡ whole → left ≡ shown k ∷ rest → new ≡ insert_key same keys k →
      fold put_word (map shown new) rest ≡ whole
  set_step keys new k left rest whole so_far is put =
      ap (λ more. fold put_word more rest) (ap (map shown) put ∙ insert_word keys k) ∙ (ap (fold put_word (map shown keys)) (sym is) ∙ so_far)
