-- The first place in a line where a pattern stands.
use Rattle.std.specs.Prelude.{◌≡◌, ℕ, zero, suc, ◌+◌, ◌≤◌, Bool, true, false, List, [], ◌∷◌, length, Option, Some, None}
use Rattle.sh_text.specs.declared.script.Pattern.{Pattern}
use Rattle.sh_text.specs.Editing.{stands}

-- the pattern stands nowhere in a rest of a line
abbrev pub StandsNowhere : Pattern → Bool → List ℕ → Type 0
StandsNowhere pattern beginning [] = stands pattern beginning [] ≡ false
StandsNowhere pattern beginning (byte ∷ rest) = (stands pattern beginning (byte ∷ rest) ≡ false) × StandsNowhere pattern false rest

-- it stands at a place, and nowhere before
abbrev pub StandsFirst : Pattern → Bool → ℕ → List ℕ → Type 0
StandsFirst pattern beginning zero rest = stands pattern beginning rest ≡ true
StandsFirst pattern beginning (suc place) [] = ⊥
StandsFirst pattern beginning (suc place) (byte ∷ rest) = (stands pattern beginning (byte ∷ rest) ≡ false) × StandsFirst pattern false place rest

-- the first place where it stands, if there is one
abbrev pub IsFound : Pattern → Bool → List ℕ → Option ℕ → Type 0
IsFound pattern beginning rest None = StandsNowhere pattern beginning rest
IsFound pattern beginning rest (Some place) = (place + length pattern.bytes ≤ length rest) × StandsFirst pattern beginning place rest
