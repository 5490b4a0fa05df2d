-- Bytes that are put in parts.
use Rattle.std.proofs.Common.{◌≡◌, ℕ, ◌+◌, ◌-◌, Bool, true, false, cond, leb, List, ◌++◌, length, Result, Ok, Err, refl, ap, sym, ◌∙◌, arith, append_assoc, length-append}
use Rattle.std.proofs.lemmas.Bool.Decides.{nat_tests}
use Rattle.mk_expand.specs.declared.fault.ExpandFault.{ExpandFault}
use Rattle.mk_expand.specs.declared.fault.ExpandFault.TheVariants.{TooCostly}
use Rattle.mk_expand.specs.Draft.{State, put}

module _ (a b w : List ℕ) (k : ℕ) where
  pub put_append : put a (w, k) ≡ Ok (w ++ a, k + length a) → put (a ++ b) (w, k) ≡ put b (w ++ a, k + length a)
  put_append e =
      let fits : leb (length a) (1048576 - k) ≡ true = fits_of (leb (length a) (1048576 - k)) e in
      let n : length (a ++ b) ≡ length a + length b = length-append a b in
      let same : leb (length (a ++ b)) (1048576 - k) ≡ leb (length b) (1048576 - (k + length a)) = rw n (tests fits) in
      let state : ◌≡◌ {A = State} (w ++ (a ++ b), k + length (a ++ b)) ((w ++ a) ++ b, k + length a + length b) =
      ap (λ w. (w, k + length (a ++ b))) (sym (append_assoc w a b)) ∙ ap (λ m. ((w ++ a) ++ b, m)) (let e : k + length (a ++ b) ≡ k + length a + length b = omega arith in e) in
      ap (λ q. cond q (Ok (w ++ (a ++ b), k + length (a ++ b))) (Err TooCostly)) same
      ∙ ap (λ s. cond (leb (length b) (1048576 - (k + length a))) (Ok s) (Err TooCostly)) state
    where
      fits_of : (q : Bool) → ◌≡◌ {A = Result State ExpandFault} (cond q (Ok (w ++ a, k + length a)) (Err TooCostly)) (Ok (w ++ a, k + length a)) → q ≡ true
      fits_of true e = refl
      fits_of false e = cc

      tests : leb (length a) (1048576 - k) ≡ true → leb (length a + length b) (1048576 - k) ≡ leb (length b) (1048576 - (k + length a))
      tests h = grind (arith, nat_tests)

pub state_of_put : (a w : List ℕ) (k : ℕ) (t : State) → put a (w, k) ≡ Ok t → t ≡ (w ++ a, k + length a)
state_of_put a w k t = state_by (leb (length a) (1048576 - k))
  where
    state_by : (q : Bool) → ◌≡◌ {A = Result State ExpandFault} (cond q (Ok (w ++ a, k + length a)) (Err TooCostly)) (Ok t) → t ≡ (w ++ a, k + length a)
    state_by true e = cc
    state_by false e = cc

-- what is put after a part that was put
pub put_on : (a b : List ℕ) (s t : State) → put a s ≡ Ok t → put (a ++ b) s ≡ put b t
put_on a b (w, k) t e =
    let is = state_of_put a w k t e in
    put_append a b w k (e ∙ ap (λ t. Ok t) is) ∙ ap (put b) (sym is)

-- a part that can't be put
pub put_stop : (a b : List ℕ) (s : State) (f : ExpandFault) → put a s ≡ Err f → put (a ++ b) s ≡ Err f
put_stop a b (w, k) f = stop_by (leb (length a) (1048576 - k)) refl
  where
    stop_by : (q : Bool) → leb (length a) (1048576 - k) ≡ q → ◌≡◌ {A = Result State ExpandFault} (cond q (Ok (w ++ a, k + length a)) (Err TooCostly)) (Err f) → put (a ++ b) (w, k) ≡ Err f
    stop_by true q e = cc
    stop_by false q e =
        let n : length (a ++ b) ≡ length a + length b = length-append a b in
        let over : leb (length (a ++ b)) (1048576 - k) ≡ false = rw n (grind (arith, nat_tests)) in
        ap (λ q. cond q (Ok (w ++ (a ++ b), k + length (a ++ b))) (Err TooCostly)) over ∙ e
