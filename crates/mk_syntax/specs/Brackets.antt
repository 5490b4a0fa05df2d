-- Where brackets close, and where commas divide.
use Rattle.std.specs.Prelude.{ℕ, ◌+◌, ◌-◌, ◌==◌, ◌&&◌, Option, Some, None, List, [], ◌∷◌, if◌then◌else◌}

-- the place of the bracket that closes one opened before the text, where `level` more are open
abbrev pub closing : ℕ → ℕ → ℕ → ℕ → List ℕ → Option ℕ
closing opening closes level place [] = None
closing opening closes level place (b ∷ bs) =
    if b == opening then closing opening closes (level + 1) (place + 1) bs
    else (if b == closes then (if level == 0 then Some place else closing opening closes (level - 1) (place + 1) bs)
    else closing opening closes level (place + 1) bs)

-- the place of the first comma outside nested round brackets, where `level` are open; one that closes none counts for nothing
abbrev pub comma : ℕ → ℕ → List ℕ → Option ℕ
comma level place [] = None
comma level place (b ∷ bs) =
    if b == 40 then comma (level + 1) (place + 1) bs
    else (if b == 41 then comma (level - 1) (place + 1) bs
    else (if b == 44 && level == 0 then Some place
    else comma level (place + 1) bs))
