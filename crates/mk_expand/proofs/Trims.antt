-- The end of a text without the bytes that pass a test.
use Rattle.std.proofs.Common.{◌≡◌, ℕ, Bool, true, false, cond, List, [], ◌∷◌, ◌++◌, refl, ap, ◌∙◌}
use Rattle.mk_expand.specs.Words.{onto_back, without_back}

module _ (test : ℕ → Bool) where
  pub without_back-dropped : (front : List ℕ) (last : ℕ) → test last ≡ true → without_back test (front ++ last ∷ []) ≡ without_back test front
  without_back-dropped [] last e = ap (λ q. cond q [] (last ∷ [])) e
  without_back-dropped (b ∷ front) last e = ap (onto_back test b) (without_back-dropped front last e)

  onto_filled : (b : ℕ) (front : List ℕ) (last : ℕ) → onto_back test b (front ++ last ∷ []) ≡ b ∷ (front ++ last ∷ [])
  onto_filled b [] last = refl
  onto_filled b (c ∷ front) last = refl

  pub without_back-kept : (front : List ℕ) (last : ℕ) → test last ≡ false → without_back test (front ++ last ∷ []) ≡ front ++ last ∷ []
  without_back-kept [] last e = ap (λ q. cond q [] (last ∷ [])) e
  without_back-kept (b ∷ front) last e = ap (onto_back test b) (without_back-kept front last e) ∙ onto_filled b front last

pub ruleset trims = (without_back-dropped, without_back-kept)
