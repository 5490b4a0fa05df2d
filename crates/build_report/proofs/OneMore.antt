-- The numbers from 0 on, one more.
use Rattle.std.proofs.Common.{ℕ, ◌≡◌, ◌+◌, List, [], ◌∷◌, ◌++◌, flat_map, sym, ap, ◌∙◌, append_assoc, arith}
use Rattle.std.specs.List.{range_with_len}
use Rattle.std.proofs.lemmas.Grind.{flat_map-append}
use Rattle.std.proofs.lemmas.List.{map-id, append-nil}
use Rattle.std.proofs.lemmas.List.FromFn.{map-range_with_len_more}

-- one more
pub range_more : (n : ℕ) → range_with_len 0 (n + 1) ≡ range_with_len 0 n ++ n ∷ []
range_more n =
    sym (map-id (range_with_len 0 (n + 1))) ∙ map-range_with_len_more (λ k. k) 0 n n (omega arith) ∙ ap (λ xs. xs ++ n ∷ []) (map-id (range_with_len 0 n))

-- what each number gives, after a text
pub lines_more : (f : ℕ → List ℕ) (first : List ℕ) (n : ℕ) → (first ++ flat_map f (range_with_len 0 n)) ++ f n ≡ first ++ flat_map f (range_with_len 0 (n + 1))
lines_more f first n =
    append_assoc first (flat_map f (range_with_len 0 n)) (f n)
    ∙ ap (λ l. first ++ l) (sym (ap (flat_map f) (range_more n) ∙ flat_map-append f (range_with_len 0 n) (n ∷ []) ∙ ap (λ l. flat_map f (range_with_len 0 n) ++ l) (append-nil (f n))))
