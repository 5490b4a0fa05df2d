-- Steps of the pass: what each gives of a state, within the limit and past it.
use Rattle.std.proofs.Common.{◌≡◌, ℕ, zero, suc, ◌+◌, ◌-◌, ◌<◌, ◌≤◌, true, false, cond, leb, ltb, List, [], ◌∷◌, ◌++◌, length, drop, Result, Ok, Err, refl, ap, sym, ◌∙◌, subst, arith}
use Rattle.std.proofs.lemmas.Bool.Decides.{nat_tests}
use Rattle.mk_expand.specs.declared.fault.ExpandFault.{ExpandFault}
use Rattle.mk_expand.specs.declared.fault.ExpandFault.TheVariants.{TooCostly}
use Rattle.mk_expand.specs.Draft.{State, ◌>>=◌, pay, put, cost_limit, IsRun}
use Rattle.mk_expand.specs.Piece.{piece_of, piece_len}
use Rattle.mk_expand.specs.Pass.{Run, Insides, piece_run, walk}

pub bind_ok : {S T : Type 0} {r : Result S ExpandFault} {x : S} (next : S → Result T ExpandFault) → r ≡ Ok x → (r >>= next) ≡ next x
bind_ok next e = ap (λ r. r >>= next) e

pub bind_err : {S T : Type 0} {r : Result S ExpandFault} {f : ExpandFault} (next : S → Result T ExpandFault) → r ≡ Err f → (r >>= next) ≡ Err f
bind_err next e = ap (λ r. r >>= next) e

pub pay_ok : (w : List ℕ) (k : ℕ) → k < cost_limit → pay (w, k) ≡ Ok (w, k + 1)
pay_ok w k h = let e : ltb k 1048576 ≡ true = grind (arith, nat_tests) in ap (λ b. cond b (Ok (w, k + 1)) (Err TooCostly)) e

pub pay_over : (w : List ℕ) (k : ℕ) → cost_limit ≤ k → pay (w, k) ≡ Err TooCostly
pay_over w k h = let e : ltb k 1048576 ≡ false = grind (arith, nat_tests) in ap (λ b. cond b (Ok (w, k + 1)) (Err TooCostly)) e

pub put_ok : (bytes w : List ℕ) (k : ℕ) → k + length bytes ≤ cost_limit → put bytes (w, k) ≡ Ok (w ++ bytes, k + length bytes)
put_ok bytes w k h =
    let e : leb (length bytes) (1048576 - k) ≡ true = grind (arith, nat_tests) in
    ap (λ b. cond b (Ok (w ++ bytes, k + length bytes)) (Err TooCostly)) e

pub put_over : (bytes w : List ℕ) (k : ℕ) → k ≤ cost_limit → cost_limit < k + length bytes → put bytes (w, k) ≡ Err TooCostly
put_over bytes w k low h =
    let e : leb (length bytes) (1048576 - k) ≡ false = grind (arith, nat_tests) in
    ap (λ b. cond b (Ok (w ++ bytes, k + length bytes)) (Err TooCostly)) e

pub walk-drop : (insides : Insides) (skip : ℕ) (text : List ℕ) (s : State) → walk insides skip text s ≡ walk insides 0 (drop skip text) s
walk-drop insides zero [] s = refl
walk-drop insides zero (b ∷ text) s = refl
walk-drop insides (suc skip) [] s = refl
walk-drop insides (suc skip) (b ∷ text) s = walk-drop insides skip text s

-- a piece that is read, with a state
pub walk_on : (insides : Insides) (b : ℕ) (text rest : List ℕ) (s t : State) →
    drop (piece_len b text) text ≡ rest → piece_run insides (piece_of b text) s ≡ Ok t → walk insides 0 (b ∷ text) s ≡ walk insides 0 rest t
walk_on insides b text rest s t e r =
    bind_ok (walk insides (piece_len b text) text) r ∙ (walk-drop insides (piece_len b text) text t ∙ ap (λ rest. walk insides 0 rest t) e)

pub walk_stop : (insides : Insides) (b : ℕ) (text : List ℕ) (s : State) (f : ExpandFault) →
    piece_run insides (piece_of b text) s ≡ Err f → walk insides 0 (b ∷ text) s ≡ Err f
walk_stop insides b text s f r = bind_err (walk insides (piece_len b text) text) r

-- an answer of the code is that of a definition which computes to the same
pub as_run : {A : Type 0} {run other : Run} (result : Result A ExpandFault) (new : State) → run ≡ other → IsRun other result new → IsRun run result new
as_run result new e r = subst (λ run. IsRun run result new) (sym e) r
