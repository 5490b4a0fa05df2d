-- The brackets of references: where one closes, and where commas divide its inside.
use Rattle.std.specs.Prelude.{◌≡◌, ◌≢◌, ◌⊎◌, ℕ, ◌+◌, ◌-◌, ◌<◌, ◌&&◌, ◌==◌, List, [], ◌∷◌, ◌++◌, Option, None, Some, if◌then◌else◌}
use Rattle.mk_expand.specs.declared.bracket.Bracket.{Bracket}
use Rattle.mk_expand.specs.declared.bracket.Bracket.TheVariants.{Round, Curly}

-- the byte that opens a bracket
abbrev pub opening : Bracket → ℕ
opening Round = 40
opening Curly = 123

-- the byte that closes it
abbrev pub closing : Bracket → ℕ
closing Round = 41
closing Curly = 125

-- each bracket of this kind that is opened in the text is closed in it, and so many more
abbrev pub IsNested : Bracket → ℕ → List ℕ → Type 0
IsNested kind level [] = level ≡ 0
IsNested kind level (b ∷ text) =
    ((b ≡ opening kind) × IsNested kind (level + 1) text)
    ⊎ ((b ≡ closing kind) × (0 < level) × IsNested kind (level - 1) text)
    ⊎ ((b ≢ opening kind) × (b ≢ closing kind) × IsNested kind level text)

-- no bracket of this kind closes what is open before the text
abbrev pub IsUnclosed : Bracket → List ℕ → Type 0
IsUnclosed kind text = (inside rest : List ℕ) → text ≡ inside ++ closing kind ∷ rest → IsNested kind 0 inside → ⊥

-- the place of the bracket that closes what is open before the text, at a level and a place of the reading
abbrev pub close_of : Bracket → ℕ → ℕ → List ℕ → Option ℕ
close_of kind level place [] = None
close_of kind level place (b ∷ text) =
    if b == opening kind then close_of kind (level + 1) (place + 1) text else
    if b == closing kind then (if level == 0 then Some place else close_of kind (level - 1) (place + 1) text) else
    close_of kind level (place + 1) text

-- the place of the first comma outside nested brackets, at a level and a place of the reading
abbrev pub comma_of : Bracket → ℕ → ℕ → List ℕ → Option ℕ
comma_of kind level place [] = None
comma_of kind level place (b ∷ text) =
    if b == opening kind then comma_of kind (level + 1) (place + 1) text else
    if b == closing kind then comma_of kind (level - 1) (place + 1) text else
    if b == 44 && level == 0 then Some place else
    comma_of kind level (place + 1) text
