-- Whether one of the tasks so far failed.
use Rattle.std.proofs.Common.{ℕ, ◌≡◌, ◌+◌, ◌||◌, Bool, [], ◌∷◌, ap, sym, ◌∙◌}
use Rattle.std.specs.List.{list_any, range_with_len}
use Rattle.std.proofs.Math.Bool.{or-false}
use Rattle.std.proofs.lemmas.List.Folds.{list_any-append}
use Rattle.build_report.proofs.OneMore.{range_more}

-- with one more
pub any_after : (p : ℕ → Bool) (n : ℕ) (some one : Bool) → some ≡ list_any p (range_with_len 0 n) → one ≡ p n → (some || one) ≡ list_any p (range_with_len 0 (n + 1))
any_after p n some one so_far is =
    ap (λ b. b || one) so_far ∙ ap (λ b. list_any p (range_with_len 0 n) || b) (is ∙ sym (or-false (p n)))
    ∙ sym (ap (list_any p) (range_more n) ∙ list_any-append p (range_with_len 0 n) (n ∷ []))
