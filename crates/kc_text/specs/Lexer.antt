-- The parts of a line: a step for each byte, from a start, and an end.
use Rattle.std.specs.Prelude.{ℕ, Bool, ◌||◌, ◌&&◌, ◌==◌, List, [], ◌∷◌, ◌++◌, fold, Option, Some, None, if◌then◌else◌}
use Rattle.kc_text.specs.Bytes as byte_is
use Rattle.kc_text.specs.declared.part.Part.{Part}
use Rattle.kc_text.specs.declared.part.Part.TheVariants.{Word as WordPart, Quoted, Or, And, Not, Same, Differ, Open, Close, Other}
use Rattle.kc_text.specs.declared.lexer.Mode.{Mode}
use Rattle.kc_text.specs.declared.lexer.Mode.TheVariants.{Between, Word, Quote, Escape, Sign, Comment}

-- the parts that are read, the text of the one that has begun, and what that is
pub record Lexer : Type 0 where
  pub parts : List Part
  pub text : List ℕ
  pub mode : Mode

-- a part is read whole
abbrev pub put_part : Lexer → Part → Lexer
put_part l part = record { parts = l.parts ++ part ∷ []; text = l.text; mode = Between }

abbrev pub put_word : Lexer → Lexer
put_word l = record { parts = l.parts ++ WordPart l.text ∷ []; text = []; mode = Between }

abbrev pub put_quoted : Lexer → Lexer
put_quoted l = record { parts = l.parts ++ Quoted l.text ∷ []; text = []; mode = Between }

-- a byte belongs to the part that has begun
abbrev pub keep : Lexer → ℕ → Mode → Lexer
keep l byte mode = record { parts = l.parts; text = l.text ++ byte ∷ []; mode = mode }

-- a byte belongs to no part's text
abbrev pub enter : Lexer → Mode → Lexer
enter l mode = record { parts = l.parts; text = l.text; mode = mode }

abbrev pub is_quote : ℕ → Bool
is_quote byte = (byte == 34) || (byte == 39)

-- `|`, `&` and `!` may begin an operator of two bytes
abbrev pub is_sign : ℕ → Bool
is_sign byte = (byte == 124) || (byte == 38) || (byte == 33)

-- the part that one byte is
unfoldable pub single : ℕ → Part
single byte =
    if byte == 33 then Not else if byte == 61 then Same else if byte == 40 then Open else if byte == 41 then Close else Other

-- `||` or `&&`
unfoldable pub double : ℕ → Option Part
double byte = if byte == 124 then Some Or else if byte == 38 then Some And else None

-- the operator that two bytes are
unfoldable pub pair : ℕ → ℕ → Option Part
pair first second =
    if first == second then double first else if (first == 33) && (second == 61) then Some Differ else None

-- a byte after what is read whole: a `#` begins a comment
unfoldable pub begin : Lexer → ℕ → Lexer
begin l byte =
    if byte_is.blank byte then enter l Between else
    if byte == 35 then enter l Comment else
    if is_quote byte then enter l (Quote byte) else
    if is_sign byte then enter l (Sign byte) else
    if byte_is.of_word byte then keep l byte Word else put_part l (single byte)

-- a byte after a word's byte
unfoldable pub in_word : Lexer → ℕ → Lexer
in_word l byte = if byte_is.of_word byte then keep l byte Word else begin (put_word l) byte

-- a byte inside quotes, where a backslash takes the next byte as it is
unfoldable pub in_quote : Lexer → ℕ → ℕ → Lexer
in_quote l quote byte =
    if byte == quote then put_quoted l else if byte == 92 then enter l (Escape quote) else keep l byte (Quote quote)

-- a byte after one that may begin an operator of two bytes
abbrev pub behind : Lexer → ℕ → ℕ → Option Part → Lexer
behind l sign byte (Some part) = put_part l part
behind l sign byte None = begin (put_part l (single sign)) byte

unfoldable pub behind_sign : Lexer → ℕ → ℕ → Lexer
behind_sign l sign byte = behind l sign byte (pair sign byte)

abbrev pub step_in : Mode → Lexer → ℕ → Lexer
step_in Between l byte = begin l byte
step_in Word l byte = in_word l byte
step_in (Quote quote) l byte = in_quote l quote byte
step_in (Escape quote) l byte = keep l byte (Quote quote)
step_in (Sign sign) l byte = behind_sign l sign byte
step_in Comment l byte = l

unfoldable pub step : Lexer → ℕ → Lexer
step l byte = step_in l.mode l byte

-- the parts at a line's end; none inside quotes
abbrev pub finish_in : Mode → Lexer → Option (List Part)
finish_in Between l = Some l.parts
finish_in Word l = Some (put_word l).parts
finish_in (Quote quote) l = None
finish_in (Escape quote) l = None
finish_in (Sign sign) l = Some (put_part l (single sign)).parts
finish_in Comment l = Some l.parts

unfoldable pub finish : Lexer → Option (List Part)
finish l = finish_in l.mode l

abbrev pub start : Lexer
start = record { parts = []; text = []; mode = Between }

-- the parts of a line
unfoldable pub parts : List ℕ → Option (List Part)
parts line = finish (fold step start line)
