-- What a sink takes.
use Rattle.std.specs.Prelude.{◌≡◌, ℕ, ◌≤◌, ◌<◌, List, ◌++◌, length, take, Option, Some, Result, Ok, Err}
use Rattle.feed_io.specs.declared.sink.SinkError.{SinkError}

-- the bytes are appended to those that a sink holds, where it tells them
abbrev pub Appended : Option (List ℕ) → List ℕ → Option (List ℕ) → Type 0
Appended old bytes new = (before : List ℕ) → old ≡ Some before → new ≡ Some (before ++ bytes)

-- one put appends a front of the piece, one byte at least where there is one; one that fails appends nothing
abbrev pub IsPut : Option (List ℕ) → List ℕ → Result ℕ SinkError → Option (List ℕ) → Type 0
IsPut old piece (Ok count) new = (count ≤ length piece) × (0 < length piece → 0 < count) × Appended old (take count piece) new
IsPut old piece (Err error) new = new ≡ old
