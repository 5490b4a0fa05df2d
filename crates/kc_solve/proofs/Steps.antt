-- Loops over the symbols by their places.
use Rattle.std.proofs.Common.{ℕ, ◌+◌, ◌≡◌, ◌<◌, Bool, true, false, cond, List, [], ◌∷◌, length, drop, filter, find, Some, sym, ap, ◌∙◌}
use Rattle.std.proofs.lemmas.List.{drop_more}
use Rattle.kc_solve.specs.Symbols.{symbol_at}

module _ (test : List ℕ → Bool) (symbols : List (List ℕ)) (place : ℕ) (short : place < length symbols) where
  pub find_past : test (symbol_at symbols place) ≡ false → find test (drop (place + 1) symbols) ≡ find test (drop place symbols)
  find_past fails = sym (ap (find test) (drop_more symbols place [] short) ∙ ap (λ b. cond b (Some (symbol_at symbols place)) (find test (drop (place + 1) symbols))) fails)

  pub find_here : test (symbol_at symbols place) ≡ true → find test (drop place symbols) ≡ Some (symbol_at symbols place)
  find_here passes = ap (find test) (drop_more symbols place [] short) ∙ ap (λ b. cond b (Some (symbol_at symbols place)) (find test (drop (place + 1) symbols))) passes

  pub filter_past : test (symbol_at symbols place) ≡ false → filter test (drop (place + 1) symbols) ≡ filter test (drop place symbols)
  filter_past fails = sym (ap (filter test) (drop_more symbols place [] short) ∙ ap (λ b. cond b (symbol_at symbols place ∷ filter test (drop (place + 1) symbols)) (filter test (drop (place + 1) symbols))) fails)

  pub filter_here : test (symbol_at symbols place) ≡ true → filter test (drop place symbols) ≡ symbol_at symbols place ∷ filter test (drop (place + 1) symbols)
  filter_here passes = ap (filter test) (drop_more symbols place [] short) ∙ ap (λ b. cond b (symbol_at symbols place ∷ filter test (drop (place + 1) symbols)) (filter test (drop (place + 1) symbols))) passes

pub ruleset finding = (find_past, find_here)

pub ruleset filtering = (filter_past, filter_here)
