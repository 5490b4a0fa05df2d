-- Sets of tasks as words of 64 bits.
use Rattle.std.specs.Prelude.{◌≡◌, ℕ, ◌/◌, ◌%◌, List, Bool, true, slice_index_or, nat_eq}
use Rattle.std.specs.Int.{bit_at}

-- whether a task is in the set
abbrev pub has : List ℕ → ℕ → Bool
has words task = nat_eq (bit_at (slice_index_or words (task / 64) 0) (task % 64)) 1

-- whether a task is in the set is b from then on, and of the others it is as before
pub record IsPut (words : List ℕ) (task : ℕ) (b : Bool) (new : List ℕ) : Type 0 where
  pub here : has new task ≡ b
  pub others : (other : ℕ) → (other ≡ task → ⊥) → has new other ≡ has words other

-- a task is put in if it waits for nothing, and else nothing changes
pub record IsPutIf (unmet : ℕ) (words : List ℕ) (task : ℕ) (new : List ℕ) : Type 0 where
  pub put : unmet ≡ 0 → IsPut words task true new
  pub kept : (unmet ≡ 0 → ⊥) → new ≡ words
