-- What calls of a reader do, by what is left of its text.
use Rattle.std.specs.Prelude.{◌≡◌, ◌≢◌, ℕ, ◌+◌, List, [], ◌∷◌, Option, Some, None, Result, Ok, Err}
use Rattle.sh_words.specs.declared.reader.Reader.{Reader}
use Rattle.sh_words.specs.declared.fault.WordFault.{WordFault}
use Rattle.sh_words.specs.declared.fault.WordFault.TheVariants.{Memory}
use Rattle.sh_words.specs.Left.{Left, left, Reading}

abbrev pub shown : Reader → Left
shown r = record { place = r.place; text = r.rest.now }

-- the next byte is taken, with its place; or nothing is left
abbrev pub IsTake : Left → Left → Option (ℕ × ℕ) → Type 0
IsTake old new None = (old.text ≡ []) × (new ≡ old)
IsTake old new (Some taken) = (old ≡ left taken.0 (taken.1 ∷ new.text)) × (new.place ≡ taken.0 + 1)

-- the first byte of a text
abbrev pub first : List ℕ → Option ℕ
first [] = None
first (byte ∷ text) = Some byte

-- an answer, and what is left then
abbrev pub with_left : {A : Type 0} → Result A WordFault → Left → Reading A
with_left (Ok value) rest = Ok (value, rest)
with_left (Err fault) rest = Err fault

-- a reading goes on as another, or ends in a fault
abbrev pub GoesOn : {A : Type 0} → Reading A → Result (Unit {0}) WordFault → Reading A → Type 0
GoesOn meant (Ok done) next = meant ≡ next
GoesOn meant (Err fault) next = fault ≢ Memory → meant ≡ Err fault
