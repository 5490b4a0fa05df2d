-- A pattern, divided at its `%`.
use Rattle.std.proofs.Common.{◌≡◌, ℕ, eqb, List, ◌++◌, take, drop, Some, ap, sym, ◌∙◌}
use Rattle.std.proofs.lemmas.List.{drop-drop}
use Rattle.std.specs.Prelude.{position}
use Rattle.mk_expand.specs.Lists.{fit_round, fit_at, fit, with_stem}

pub fit_divided : (pattern word before rest after : List ℕ) (place : ℕ) → position (λ b. eqb b 37) pattern ≡ Some place →
    before ≡ take place pattern → rest ≡ drop place pattern → after ≡ drop 1 rest → fit_round before after word ≡ fit pattern word
fit_divided pattern word before rest after place e front back behind =
    ap (λ b. fit_round b after word) front
    ∙ (ap (λ a. fit_round (take place pattern) a word) (behind ∙ (ap (drop 1) back ∙ drop-drop 1 place pattern)) ∙ ap (fit_at pattern word) (sym e))

pub filled_divided : (text stem before rest after : List ℕ) (place : ℕ) → position (λ b. eqb b 37) text ≡ Some place →
    before ≡ take place text → rest ≡ drop place text → after ≡ drop 1 rest → (before ++ (stem ++ after)) ≡ with_stem text stem (position (λ b. eqb b 37) text)
filled_divided text stem before rest after place e front back behind =
    ap (λ b. b ++ (stem ++ after)) front
    ∙ (ap (λ a. take place text ++ (stem ++ a)) (behind ∙ (ap (drop 1) back ∙ drop-drop 1 place text)) ∙ ap (with_stem text stem) (sym e))
