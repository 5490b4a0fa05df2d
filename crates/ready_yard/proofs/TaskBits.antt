-- Tasks as bits of words.
use Rattle.std.proofs.Common.{◌≡◌, ℕ, ◌+◌, ◌-◌, ◌*◌, ◌%◌, ◌<◌, List, true, false, sym, ap, ◌∙◌, arith, get_or, inl, inr}
use Rattle.std.specs.Prelude.{nat_eq}
use Rattle.std.specs.Int.{bit_at}
use Rattle.std.proofs.lemmas.Bool.{cases_lt, eq-eqb, ne_eqb}
use Rattle.std.proofs.lemmas.Nat.{div-mul-add, mod-mul-add}
use Rattle.ready_yard.specs.TaskBits.{has}

-- a task by its word and its bit there
pub has_at : (words : List ℕ) (place word bit : ℕ) → bit < 64 → word ≡ get_or words place 0 → has words (place * 64 + bit) ≡ nat_eq (bit_at word bit) 1
has_at words place word bit lt is =
    ap (λ p. nat_eq (bit_at (get_or words p 0) ((place * 64 + bit) % 64)) 1) (div-mul-add place 64 bit lt)
    ∙ ap (λ b. nat_eq (bit_at (get_or words place 0) b) 1) (mod-mul-add place 64 bit lt)
    ∙ ap (λ x. nat_eq (bit_at x bit) 1) (sym is)

pub first_has : (words : List ℕ) (place word bit : ℕ) → bit < 64 → word ≡ get_or words place 0 → bit_at word bit ≡ 1 → has words (place * 64 + bit) ≡ true
first_has words place word bit lt is on = has_at words place word bit lt is ∙ eq-eqb (bit_at word bit) 1 on

pub first_least : (words : List ℕ) (place word bit : ℕ) → bit < 64 → word ≡ get_or words place 0 → ((i : ℕ) → i < bit → bit_at word i ≡ 0) → ((task : ℕ) → task < place * 64 → has words task ≡ false)
    → (other : ℕ) → other < place * 64 + bit → has words other ≡ false
first_least words place word bit lt is off before other below = elim (cases_lt other (place * 64)) [
  | inl less ↦ before other less
  | inr past ↦
      let rest : ℕ = other - place * 64 in
      let same : other ≡ place * 64 + rest = omega (arith, past) in
      let none : bit_at word rest ≡ 0 = off rest (omega (arith, past, below)) in
      ap (has words) same ∙ has_at words place word rest (omega (arith, past, below, lt)) is ∙ ne_eqb (bit_at word rest) 1 (λ e. omega (arith, none, e))
]
