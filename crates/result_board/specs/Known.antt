-- What notes know.
use Rattle.std.specs.Prelude.{◌≡◌, ℕ, ◌+◌, ◌-◌, ◌^◌, ◌≤◌, min, Option, Some}

-- each task that was known is known, with the same value
abbrev pub Keeps : {X : Type 0} → (ℕ → Option X) → (ℕ → Option X) → Type 0
Keeps {X} old new = (t : ℕ) (v : X) → old t ≡ Some v → new t ≡ Some v

-- of each task that both know, they know one value
abbrev pub Agree : {X : Type 0} → (ℕ → Option X) → (ℕ → Option X) → Type 0
Agree {X} left right = (t : ℕ) (v w : X) → left t ≡ Some v → right t ≡ Some w → v ≡ w

-- a count rose: it never falls, and is greater than before, or stands at its end
abbrev pub Rose : ℕ → ℕ → Type 0
Rose before now = (before ≤ now) × (min (before + 1) (2 ^ 64 - 1) ≤ now)
