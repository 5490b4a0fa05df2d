-- The pieces of a word. Each is put after what the word has so far.
use Rattle.std.specs.Prelude.{ℕ, ◌+◌, Bool, true, false, ◌==◌, List, [], ◌∷◌, ◌++◌, Ok, Err, if◌then◌else◌}
use Rattle.sh_words.specs.declared.fault.WordFault.TheVariants.{OpenQuote, Unsupported}
use Rattle.sh_words.specs.Left.{left, Reading}
use Rattle.sh_words.specs.Bytes.{behind_backslash, is_bare, is_unsupported}

-- after `'`: all to the next one, as it is
abbrev pub single : List ℕ → ℕ → List ℕ → Reading (List ℕ)
single word place [] = Err OpenQuote
single word place (byte ∷ text) =
    if byte == 39 then Ok (word, left (place + 1) text) else single (word ++ byte ∷ []) (place + 1) text

-- after `"`: all to the next one; a backslash may stand right before the text
abbrev pub double : Bool → List ℕ → ℕ → List ℕ → Reading (List ℕ)
double backslash word place [] = Err OpenQuote
double true word place (byte ∷ text) = double false (word ++ behind_backslash byte) (place + 1) text
double false word place (byte ∷ text) =
    if byte == 34 then Ok (word, left (place + 1) text) else
    if byte == 92 then double true word (place + 1) text else
    if is_bare byte then Err (Unsupported byte place) else
    double false (word ++ byte ∷ []) (place + 1) text

-- after a backslash at a place outside quotes: the next byte, as it is
abbrev pub escaped : List ℕ → ℕ → List ℕ → Reading (List ℕ)
escaped word place [] = Err (Unsupported 92 place)
escaped word place (byte ∷ text) = Ok (word ++ byte ∷ [], left (place + 2) text)

-- a piece that begins with a byte at a place: a text in quotes, a byte after a backslash, or a byte as it is
abbrev pub piece_at : List ℕ → ℕ → ℕ → List ℕ → Reading (List ℕ)
piece_at word place byte text =
    if byte == 39 then single word (place + 1) text else
    if byte == 34 then double false word (place + 1) text else
    if byte == 92 then escaped word place text else
    if is_unsupported byte then Err (Unsupported byte place) else
    Ok (word ++ byte ∷ [], left (place + 1) text)
