-- A step again and again.
use Rattle.std.proofs.Common.{◌≡◌, ℕ, zero, suc, ◌<◌, ◌≤◌, Bool, true, false, List, [], ◌∷◌, length, Ok, Err, refl, sym, ap, ◌∙◌, subst, arith}
use Rattle.std.proofs.lemmas.Bool.{true≢false}
use Rattle.br_path.specs.Gives.{◌>>=◌}
use Rattle.sh_words.specs.declared.fault.WordFault.{WordFault}
use Rattle.sh_words.specs.Left.{Left, Reading, at_most, repeated}

-- nothing is to be done where nothing is left, and a step takes a byte at least
pub record Shrinks {A : Type 0} (is_done : List ℕ → Bool) (step : A → Left → Reading A) : Type 0 where
  pub at_end : is_done [] ≡ true
  pub shrinks : (value next : A) (rest behind : Left) → is_done rest.text ≡ false → step value rest ≡ Ok (next, behind) → length behind.text < length rest.text

-- how a step again and again comes to what it comes to
pub data Runs {A : Type 0} (is_done : List ℕ → Bool) (step : A → Left → Reading A) : A → Left → Reading A → Type 0 where
  ends : (value : A) (rest : Left) → is_done rest.text ≡ true → Runs is_done step value rest (Ok (value, rest))
  fails : (value : A) (rest : Left) (why : WordFault) → is_done rest.text ≡ false → step value rest ≡ Err why → Runs is_done step value rest (Err why)
  goes : (value after : A) (rest behind : Left) (result : Reading A) → is_done rest.text ≡ false → step value rest ≡ Ok (after, behind) →
      Runs is_done step after behind result → Runs is_done step value rest result

module _ {A : Type 0} (is_done : List ℕ → Bool) (step : A → Left → Reading A) (s : Shrinks is_done step) where
  done_at_most : (most : ℕ) (value : A) (rest : Left) → is_done rest.text ≡ true → at_most is_done step most value rest ≡ Ok (value, rest)
  done_at_most zero value rest is = refl
  done_at_most (suc most) value rest is = rw is refl

  step_at_most : (most : ℕ) (value : A) (rest : Left) → is_done rest.text ≡ false →
      at_most is_done step (suc most) value rest ≡ (step value rest >>= λ next. at_most is_done step most next.0 next.1)
  step_at_most most value rest isnt = rw isnt refl

  done_empty : (text : List ℕ) → length text ≤ 0 → is_done text ≡ true
  done_empty [] none = s.at_end
  done_empty (byte ∷ text) none = absurd (omega (arith, none))

  onward : (n m : ℕ) (rest : Left) (outcome : Reading A) →
      ((value : A) (behind : Left) → length behind.text ≤ n → length behind.text ≤ m → at_most is_done step n value behind ≡ at_most is_done step m value behind) →
      ((next : A) (behind : Left) → outcome ≡ Ok (next, behind) → length behind.text < length rest.text) →
      length rest.text ≤ suc n → length rest.text ≤ suc m →
      (outcome >>= λ next. at_most is_done step n next.0 next.1) ≡ (outcome >>= λ next. at_most is_done step m next.0 next.1)
  onward n m rest (Ok (next, behind)) same shrinks under over =
      same next behind (omega (arith, shrinks next behind refl)) (omega (arith, shrinks next behind refl))
  onward n m rest (Err why) same shrinks under over = refl

  by_test : (t : Bool) (n m : ℕ) (value : A) (rest : Left) → is_done rest.text ≡ t →
      ((m : ℕ) (value : A) (behind : Left) → length behind.text ≤ n → length behind.text ≤ m → at_most is_done step n value behind ≡ at_most is_done step m value behind) →
      length rest.text ≤ suc n → length rest.text ≤ m → at_most is_done step (suc n) value rest ≡ at_most is_done step m value rest
  by_test true n m value rest is same under over = done_at_most (suc n) value rest is ∙ sym (done_at_most m value rest is)
  by_test false n zero value rest isnt same under over = absurd (true≢false (sym (done_empty rest.text over) ∙ isnt))
  by_test false n (suc m) value rest isnt same under over =
      step_at_most n value rest isnt
      ∙ (onward n m rest (step value rest) (λ v b. same m v b) (λ next behind e. s.shrinks value next rest behind isnt e) under over
      ∙ sym (step_at_most m value rest isnt))

  -- as often as there are bytes is often enough
  same_at_most : (n m : ℕ) (value : A) (rest : Left) → length rest.text ≤ n → length rest.text ≤ m → at_most is_done step n value rest ≡ at_most is_done step m value rest
  same_at_most zero m value rest under over = sym (done_at_most m value rest (done_empty rest.text under))
  same_at_most (suc n) m value rest under over = by_test (is_done rest.text) n m value rest refl (λ k v b. same_at_most n k v b) under over

  pub repeated_done : (value : A) (rest : Left) → is_done rest.text ≡ true → repeated is_done step value rest ≡ Ok (value, rest)
  unfolding repeated
  repeated_done value rest is = done_at_most (length rest.text) value rest is

  repeated_once : (value : A) (rest : Left) → is_done rest.text ≡ false → repeated is_done step value rest ≡ (step value rest >>= λ next. at_most is_done step (length rest.text) next.0 next.1)
  unfolding repeated
  repeated_once value rest isnt =
      same_at_most (length rest.text) (suc (length rest.text)) value rest (omega arith) (omega arith) ∙ step_at_most (length rest.text) value rest isnt

  pub repeated_step : (value next : A) (rest behind : Left) → is_done rest.text ≡ false → step value rest ≡ Ok (next, behind) →
      repeated is_done step value rest ≡ repeated is_done step next behind
  unfolding repeated
  repeated_step value next rest behind isnt e =
      repeated_once value rest isnt
      ∙ (ap (λ outcome. outcome >>= λ n. at_most is_done step (length rest.text) n.0 n.1) e
      ∙ same_at_most (length rest.text) (length behind.text) next behind (omega (arith, s.shrinks value next rest behind isnt e)) (omega arith))

  pub repeated_fault : (value : A) (rest : Left) (why : WordFault) → is_done rest.text ≡ false → step value rest ≡ Err why → repeated is_done step value rest ≡ Err why
  repeated_fault value rest why isnt e = repeated_once value rest isnt ∙ ap (λ outcome. outcome >>= λ n. at_most is_done step (length rest.text) n.0 n.1) e

  run_onward : (most : ℕ) (value : A) (rest : Left) (outcome : Reading A) → is_done rest.text ≡ false → step value rest ≡ outcome →
      ((next : A) (behind : Left) → length behind.text < length rest.text → Runs is_done step next behind (at_most is_done step most next behind)) →
      Runs is_done step value rest (outcome >>= λ next. at_most is_done step most next.0 next.1)
  run_onward most value rest (Ok (after, behind)) isnt e run =
      Runs.goes value after rest behind (at_most is_done step most after behind) isnt e (run after behind (s.shrinks value after rest behind isnt e))
  run_onward most value rest (Err why) isnt e run = Runs.fails value rest why isnt e

  run_by_test : (t : Bool) (most : ℕ) (value : A) (rest : Left) → is_done rest.text ≡ t →
      ((next : A) (behind : Left) → length behind.text < length rest.text → Runs is_done step next behind (at_most is_done step most next behind)) →
      Runs is_done step value rest (at_most is_done step (suc most) value rest)
  run_by_test true most value rest is run = subst (Runs is_done step value rest) (sym (done_at_most (suc most) value rest is)) (Runs.ends value rest is)
  run_by_test false most value rest isnt run =
      subst (Runs is_done step value rest) (sym (step_at_most most value rest isnt)) (run_onward most value rest (step value rest) isnt refl run)

  runs_at_most : (most : ℕ) (value : A) (rest : Left) → length rest.text ≤ most → Runs is_done step value rest (at_most is_done step most value rest)
  runs_at_most zero value rest under = Runs.ends value rest (done_empty rest.text under)
  runs_at_most (suc most) value rest under = run_by_test (is_done rest.text) most value rest refl (λ next behind less. runs_at_most most next behind (omega (arith, less, under)))

  pub runs_repeated : (value : A) (rest : Left) → Runs is_done step value rest (repeated is_done step value rest)
  unfolding repeated
  runs_repeated value rest = runs_at_most (length rest.text) value rest (omega arith)
