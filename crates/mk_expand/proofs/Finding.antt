-- The first of a list that passes a test, from one place on.
use Rattle.std.proofs.Common.{◌≡◌, ℕ, suc, ◌+◌, ◌<◌, Bool, false, cond, List, length, get_or, drop, Some, ap, ◌∙◌, arith}
use Rattle.std.proofs.Math.Seq.{drop-cons}
use Rattle.std.specs.Prelude.{find}

-- a place where the test fails is passed over
pub find_past : {X : Type 0} (test : X → Bool) (xs : List X) (place : ℕ) (x : X) → place < length xs → test (get_or xs place x) ≡ false →
    find test (drop place xs) ≡ find test (drop (place + 1) xs)
find_past test xs place x low fails =
    ap (find test) (drop-cons xs place x low)
    ∙ (ap (λ b. cond b (Some (get_or xs place x)) (find test (drop (suc place) xs))) fails ∙ ap (λ n. find test (drop n xs)) (let e : suc place ≡ place + 1 = omega arith in e))
