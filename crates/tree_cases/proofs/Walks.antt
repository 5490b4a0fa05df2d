-- A text whose bytes pass a test.
use Rattle.std.proofs.Common.{ℕ, ◌≡◌, Bool, true, false, List, get_or, All, IsTrue, refl, sym, ◌∙◌}
use Rattle.std.specs.List.{list_all}
use Rattle.std.proofs.lemmas.Bool.{true≢false}
use Rattle.std.proofs.lemmas.List.Folds.{list_all_at}

pub All-passed : (test : ℕ → Bool) (text : List ℕ) → list_all test text ≡ true → All (λ byte. IsTrue (test byte)) text
All-passed test text all k d less = by (test (get_or text k d)) refl
  where
    by : (b : Bool) → test (get_or text k d) ≡ b → test (get_or text k d) ≡ true
    by true is = is
    by false is = absurd (true≢false (sym all ∙ list_all_at test text k d less is))
