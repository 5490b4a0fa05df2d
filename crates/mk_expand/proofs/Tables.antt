-- A table whose keys are seen through a function.
use Rattle.std.proofs.Common.{◌≡◌, ℕ, Bool, true, false, cond, List, [], ◌∷◌, map, Some, None, refl, ap, sym, ◌∙◌}
use Rattle.std.specs.Map.{lookup, set_value}
use Rattle.mk_expand.specs.declared.vars.Variable.{Variable}
use Rattle.br_path.specs.Text.{is_text}
use Rattle.mk_expand.specs.Vars.{put, with_more, appended}
use Rattle.indexmap.specs.IndexMap.{insert_entry}

module _ {K V : Type 0} (shown : K → List ℕ) where
  pub lookup-map : (test : List ℕ → Bool) (es : List (K × V)) → lookup test (map (λ e. (shown e.0, e.1)) es) ≡ lookup (λ k. test (shown k)) es
  lookup-map test [] = refl
  lookup-map test (e ∷ es) = ap (cond (test (shown e.0)) _) (lookup-map test es)

  pub insert-map : (same : List ℕ → List ℕ → Bool) (es : List (K × V)) (k : K) (v : V) →
      insert_entry same (map (λ e. (shown e.0, e.1)) es) (shown k) v ≡ map (λ e. (shown e.0, e.1)) (insert_entry (λ a b. same (shown a) (shown b)) es k v)
  insert-map same [] k v = refl
  insert-map same (e ∷ es) k v =
      elim (same (shown k) (shown e.0)) as (λ b. cond b ((shown e.0, v) ∷ map (λ e. (shown e.0, e.1)) es) ((shown e.0, e.1) ∷ insert_entry same (map (λ e. (shown e.0, e.1)) es) (shown k) v) ≡ map (λ e. (shown e.0, e.1)) (cond b ((e.0, v) ∷ es) (e ∷ insert_entry (λ a b. same (shown a) (shown b)) es k v)))
      [ true ↦ refl | false ↦ ap (λ r. (shown e.0, e.1) ∷ r) (insert-map same es k v) ]

  -- a value set where the key is found
  set-map : (same : List ℕ → List ℕ → Bool) (es : List (K × V)) (k : List ℕ) (old v : V) → lookup (λ x. same k (shown x)) es ≡ Some old →
      map (λ e. (shown e.0, e.1)) (set_value (λ x. same k (shown x)) es v) ≡ insert_entry same (map (λ e. (shown e.0, e.1)) es) k v
  set-map same [] k old v found = cc
  set-map same (e ∷ es) k old v found =
      elim (same k (shown e.0)) as (λ b. cond b (Some e.1) (lookup (λ x. same k (shown x)) es) ≡ Some old → map (λ e. (shown e.0, e.1)) (cond b ((e.0, v) ∷ es) (e ∷ set_value (λ x. same k (shown x)) es v)) ≡ cond b ((shown e.0, v) ∷ map (λ e. (shown e.0, e.1)) es) ((shown e.0, e.1) ∷ insert_entry same (map (λ e. (shown e.0, e.1)) es) k v))
      [ true ↦ λ found. refl | false ↦ λ found. ap (λ r. (shown e.0, e.1) ∷ r) (set-map same es k old v found) ] found

module _ {K : Type 0} (shown : K → List ℕ) (es : List (K × Variable)) (name more : List ℕ) where
  -- the variable that is found, with a text appended
  pub appended_found : (now : List (K × Variable)) (old new : Variable) → now ≡ set_value (λ x. is_text name (shown x)) es new → lookup (λ x. is_text name (shown x)) es ≡ Some old →
      new ≡ with_more (Some old) more → map (λ e. (shown e.0, e.1)) now ≡ appended (map (λ e. (shown e.0, e.1)) es) name more
  appended_found now old new is found lengthened =
      ap (map (λ e. (shown e.0, e.1))) is
      ∙ (set-map shown is_text es name old new found
      ∙ ap (put (map (λ e. (shown e.0, e.1)) es) name) (lengthened ∙ ap (λ old. with_more old more) (sym (lookup-map shown (is_text name) es ∙ found))))

  -- the variable that isn't
  pub appended_unset : lookup (λ x. is_text name (shown x)) es ≡ None → put (map (λ e. (shown e.0, e.1)) es) name (record { simple = false; text = more }) ≡ appended (map (λ e. (shown e.0, e.1)) es) name more
  appended_unset unset = ap (λ old. put (map (λ e. (shown e.0, e.1)) es) name (with_more old more)) (sym (lookup-map shown (is_text name) es ∙ unset))
