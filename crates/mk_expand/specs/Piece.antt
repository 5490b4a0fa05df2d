-- The first piece of a text, as the reading finds it.
use Rattle.std.specs.Prelude.{ℕ, suc, ◌+◌, ◌==◌, List, [], ◌∷◌, take, Option, None, Some, if◌then◌else◌}
use Rattle.mk_expand.specs.declared.bracket.Bracket.{Bracket}
use Rattle.mk_expand.specs.declared.bracket.Bracket.TheVariants.{Round, Curly}
use Rattle.mk_expand.specs.Bracket.{close_of}

-- a byte; a `$` that begins nothing; a reference that doesn't close; a reference by its brackets and its inside
pub data Piece : Type 0 where
  Byte : ℕ → Piece
  Stray : Piece
  Unclosed : Piece
  Reference : Bracket → List ℕ → Piece

-- a reference in a text after its bracket, by the place where it closes
abbrev pub reference_at : Bracket → List ℕ → Option ℕ → Piece
reference_at kind text None = Unclosed
reference_at kind text (Some place) = Reference kind (take place text)

-- the piece that begins with a `$`, by what stands after it
abbrev pub behind_dollar : List ℕ → Piece
behind_dollar [] = Stray
behind_dollar (b ∷ text) =
    if b == 36 then Byte 36 else
    if b == 40 then reference_at Round text (close_of Round 0 0 text) else
    if b == 123 then reference_at Curly text (close_of Curly 0 0 text) else
    Stray

-- the first piece of a text, by its first byte and the rest
abbrev pub piece_of : ℕ → List ℕ → Piece
piece_of b text = if b == 36 then behind_dollar text else Byte b

-- how many bytes of a text after its bracket a reference takes, by the place where it closes
abbrev pub closed_len : Option ℕ → ℕ
closed_len None = 0
closed_len (Some place) = place + 1

abbrev pub dollar_len : List ℕ → ℕ
dollar_len [] = 0
dollar_len (b ∷ text) =
    if b == 36 then 1 else
    if b == 40 then suc (closed_len (close_of Round 0 0 text)) else
    if b == 123 then suc (closed_len (close_of Curly 0 0 text)) else
    0

-- how many bytes the first piece takes after its first
abbrev pub piece_len : ℕ → List ℕ → ℕ
piece_len b text = if b == 36 then dollar_len text else 0
