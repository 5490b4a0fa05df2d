-- A plain name between the brackets of a reference is a text that comes to the same.
use Rattle.std.proofs.Common.{◌≡◌, ◌≢◌, inl, inr, ℕ, suc, ◌+◌, ◌≤◌, Bool, true, false, ◌||◌, not, cond, ltb, List, [], ◌∷◌, ◌++◌, length, drop, Some, None, Ok, Err, refl, ap, sym, ◌∙◌, arith, append-nil, add-zero}
use Rattle.std.specs.Prelude.{position}
use Rattle.std.specs.List.{list_any, position_or_len}
use Rattle.std.proofs.lemmas.Bool.{cases_lt}
use Rattle.std.proofs.lemmas.Bool.Decides.{nat_tests}
use Rattle.mk_expand.specs.declared.bracket.Bracket.TheVariants.{Round}
use Rattle.mk_expand.specs.declared.locals.Local.{Local}
use Rattle.mk_expand.specs.declared.fault.ExpandFault.{ExpandFault}
use Rattle.mk_expand.specs.declared.fault.ExpandFault.TheVariants.{TooCostly}
use Rattle.mk_expand.specs.Bracket.{IsNested}
use Rattle.mk_expand.specs.Words.{is_blank}
use Rattle.mk_expand.specs.Call.{Name, inside_of, inside_at}
use Rattle.mk_expand.specs.Piece.{piece_of, piece_len}
use Rattle.mk_expand.specs.Meaning.{Environment}
use Rattle.mk_expand.specs.Draft.{State, ◌>>=◌, put, cost_limit}
use Rattle.mk_expand.specs.Pass.{Run, Insides, piece_run, walk, by_name, called, inside_run, text_run}
use Rattle.mk_expand.specs.Answer.{outside, IsValue, IsFault}
use Rattle.mk_expand.specs.Reference.{text_of, reference_run, is_mark, IsPlain, spelled_out}
use Rattle.mk_expand.proofs.Steps.{put_ok, put_over, walk-drop, walk_on, walk_stop}
use Rattle.mk_expand.proofs.Puts.{put_on, put_stop}
use Rattle.mk_expand.proofs.Reading.{byte_piece, reference_piece, reference_rest}
use Rattle.mk_expand.proofs.Complete.{by_name_ok}
use Rattle.mk_expand.proofs.Over.{by_name_err}
use Rattle.mk_expand.proofs.Exact.{exact}
use Rattle.mk_expand.proofs.Exactness.{value_of_run, fault_of_run, run_of_value}
use Rattle.mk_expand.proofs.ByName.{run_of_text, run_of_fault, run_fits, run_over}

both_false : (a b : Bool) → (a || b) ≡ false → (a ≡ false) × (b ≡ false)
both_false true b e = absurd cc
both_false false b e = (refl, e)

-- a byte that isn't a mark isn't this one
unmarked : (mark b : ℕ) → is_mark mark ≡ true → is_mark b ≡ false → b ≢ mark
unmarked mark b is e same = let never : true ≡ false = sym is ∙ (ap is_mark (sym same) ∙ e) in cc

plain_nested : (level : ℕ) (name : List ℕ) → IsPlain name → level ≡ 0 → IsNested Round level name
plain_nested level [] p e = e
plain_nested level (b ∷ name) p e =
    let q = both_false (is_mark b) (list_any is_mark name) p in
    inr (inr (unmarked 40 b refl q.0, unmarked 41 b refl q.0, plain_nested level name q.1 e))

plain_length : (name : List ℕ) → IsPlain name → position_or_len is_blank name ≡ length name
plain_length [] p = refl
plain_length (b ∷ name) p =
    let q = both_false (is_mark b) (list_any is_mark name) p in
    let blank : is_blank b ≡ false = (both_false (is_blank b) _ q.0).0 in
    let rest = plain_length name q.1 in
    ap (λ t. cond (not t) (1 + position_or_len is_blank name) 0) blank ∙ (let longer : 1 + position_or_len is_blank name ≡ suc (length name) = omega arith in longer)

unbounded : (n : ℕ) → ltb n n ≡ false
unbounded n = grind (arith, nat_tests)

plain_position : (name : List ℕ) → IsPlain name → position is_blank name ≡ None
plain_position name p =
    ap (λ n. cond (ltb n (length name)) (Some n) None) (plain_length name p)
    ∙ ap (λ t. cond t (Some (length name)) None) (unbounded (length name))

plain_name : (name : List ℕ) → IsPlain name → inside_of Round name ≡ Name
plain_name name p = ap (inside_at Round name) (plain_position name p)

-- a text without marks is put as it is
plain_run : (insides : Insides) (text w : List ℕ) (k : ℕ) → k ≤ cost_limit → IsPlain text → walk insides 0 text (w, k) ≡ put text (w, k)
plain_run insides [] w k low p = sym (put_ok [] w k (omega arith) ∙ (ap (λ w. Ok (w, k + 0)) (append-nil w) ∙ ap (λ k. Ok (w, k)) (add-zero k)))
plain_run insides (b ∷ text) w k low p =
    let q = both_false (is_mark b) (list_any is_mark text) p in
    let r = byte_piece b text (unmarked 36 b refl q.0) in
    let one : piece_run insides (piece_of b text) (w, k) ≡ put (b ∷ []) (w, k) = ap (λ p. piece_run insides p (w, k)) r.0 in
    elim (cases_lt cost_limit (k + 1)) as (λ _. walk insides 0 (b ∷ text) (w, k) ≡ put (b ∷ text) (w, k)) [
      | inr here ↦
          let put_one : put (b ∷ []) (w, k) ≡ Ok (w ++ b ∷ [], k + 1) = put_ok (b ∷ []) w k here in
          walk_on insides b text text (w, k) (w ++ b ∷ [], k + 1) (ap (λ n. drop n text) r.1) (one ∙ put_one)
          ∙ (plain_run insides text (w ++ b ∷ []) (k + 1) here q.1
          ∙ sym (put_on (b ∷ []) text (w, k) (w ++ b ∷ [], k + 1) put_one))
      | inl past ↦
          let over : put (b ∷ []) (w, k) ≡ Err TooCostly = put_over (b ∷ []) w k low past in
          walk_stop insides b text (w, k) TooCostly (one ∙ over) ∙ sym (put_stop (b ∷ []) text (w, k) TooCostly over)
    ]

-- the last piece of a text
walk_last : (insides : Insides) (b : ℕ) (text : List ℕ) (s : State) → drop (piece_len b text) text ≡ [] → walk insides 0 (b ∷ text) s ≡ piece_run insides (piece_of b text) s
walk_last insides b text s e = by (piece_run insides (piece_of b text) s)
  where
    by : (r : Run) → (r >>= walk insides (piece_len b text) text) ≡ r
    by (Ok t) = walk-drop insides (piece_len b text) text t ∙ ap (λ rest. walk insides 0 rest t) e
    by (Err f) = refl

module _ (vars : Environment) (depth : ℕ) (locals : List Local) (name : List ℕ) (plain : IsPlain name) where
  -- a plain name is what it is expanded to
  named_run : by_name vars (text_run vars depth) (outside locals) name ([], 0) ≡ reference_run vars depth locals name
  named_run =
      elim (cases_lt cost_limit (1 + length name)) as (λ _. by_name vars (text_run vars depth) (outside locals) name ([], 0) ≡ reference_run vars depth locals name) [
        | inr here ↦
            by_name_ok vars (text_run vars depth) (outside locals) name [] name 0 (1 + length name) (reference_run vars depth locals name) (omega arith)
            (plain_run (inside_run vars depth (outside locals)) name [] 1 (omega arith) plain ∙ put_ok name [] 1 here)
            (sym (run_fits vars depth locals name here))
        | inl past ↦
            by_name_err vars (text_run vars depth) (outside locals) TooCostly name [] 0 (omega arith)
            (plain_run (inside_run vars depth (outside locals)) name [] 1 (omega arith) plain ∙ put_over name [] 1 (omega arith) past)
            ∙ sym (run_over vars depth locals name past)
      ]

  pub spelled_run : text_run vars (suc depth) (outside locals) (spelled_out name) ([], 0) ≡ reference_run vars depth locals name
  spelled_run =
      let nested = plain_nested 0 name plain refl in
      walk_last (inside_run vars (suc depth) (outside locals)) 36 (40 ∷ name ++ 41 ∷ []) ([], 0) (reference_rest Round name [] nested)
      ∙ (ap (λ p. piece_run (inside_run vars (suc depth) (outside locals)) p ([], 0)) (reference_piece Round name [] nested)
      ∙ (ap (λ i. called vars (text_run vars depth) (outside locals) i name ([], 0)) (plain_name name plain)
      ∙ named_run))

  pub answer_of_value : (bytes : List ℕ) → IsValue vars (suc depth) (outside locals) (spelled_out name) bytes → text_of (reference_run vars depth locals name) ≡ Ok bytes
  answer_of_value bytes (cost, has, low) =
      ap text_of (sym spelled_run ∙ run_of_value vars (suc depth) (outside locals) (spelled_out name) has low)

  pub value_of_answer : (bytes : List ℕ) → text_of (reference_run vars depth locals name) ≡ Ok bytes → IsValue vars (suc depth) (outside locals) (spelled_out name) bytes
  value_of_answer bytes e =
      let run = run_of_text bytes (reference_run vars depth locals name) e in
      value_of_run vars (suc depth) (outside locals) (spelled_out name) (bytes, run.0) (spelled_run ∙ run.1)

  pub answer_of_fault : (cause : ExpandFault) → IsFault vars (suc depth) (outside locals) (spelled_out name) cause → text_of (reference_run vars depth locals name) ≡ Err cause
  answer_of_fault cause failure = ap text_of (sym spelled_run ∙ exact failure [])

  pub fault_of_answer : (cause : ExpandFault) → text_of (reference_run vars depth locals name) ≡ Err cause → IsFault vars (suc depth) (outside locals) (spelled_out name) cause
  fault_of_answer cause e =
      fault_of_run vars (suc depth) (outside locals) (spelled_out name) cause (spelled_run ∙ run_of_fault cause (reference_run vars depth locals name) e)
