-- What a line says, found byte by byte; none where it has no form.
use Rattle.std.specs.Prelude.{ℕ, ◌+◌, ◌-◌, Bool, false, not, ◌&&◌, ◌||◌, ◌==◌, List, [], ◌∷◌, take, drop, length, position, Option, Some, None, codes, if◌then◌else◌}
use Rattle.std.specs.Option.{option_map, option_and_then}
use Rattle.std.specs.Borrow.{Bor}
use Rattle.br_path.specs.Text.{is_text}
use Rattle.kc_menu.specs.declared.wishes.WishValue.{WishValue}
use Rattle.kc_menu.specs.declared.wishes.WishValue.TheVariants.{No, Word, Quoted}
use Rattle.dot_config.specs.declared.line.Said.{Said}
use Rattle.dot_config.specs.declared.line.Said.TheVariants.{Nothing, Asks}
use Rattle.dot_config.specs.Line.{is_symbol, is_word, is_blank}

-- what stands after the prefix
abbrev pub behind : List ℕ → List ℕ → Option (List ℕ)
behind prefix text = if is_text (take (length prefix) text) prefix then Some (drop (length prefix) text) else None

-- what stands before the suffix
abbrev pub before : List ℕ → List ℕ → Option (List ℕ)
before suffix text =
    if is_text (drop (length text - length suffix) text) suffix then Some (take (length text - length suffix) text) else None

abbrev pub if_symbol : List ℕ → Option (List ℕ)
if_symbol symbol = if is_symbol symbol then Some symbol else None

-- the symbol of a line `# S is not set`
abbrev pub unset_symbol : List ℕ → Option (List ℕ)
unset_symbol line = option_and_then if_symbol (option_and_then (before (codes " is not set")) (behind (codes "# ") line))

abbrev pub said_of_unset : Option (List ℕ) → Said
said_of_unset (Some symbol) = Asks symbol No
said_of_unset None = Nothing

-- a line that begins with `#`
unfoldable pub comment : List ℕ → Said
comment line = said_of_unset (unset_symbol line)

abbrev pub is_comment : List ℕ → Bool
is_comment [] = false
is_comment (byte ∷ bytes) = byte == 35

abbrev pub is_plain : ℕ → Bool
is_plain byte = not (byte == 34) && not (byte == 92)

-- the next byte of a quoted text, and what stands after it; none at the closing quote, and where the text ends
unfoldable pub next_byte : List ℕ → Option (ℕ × List ℕ)
next_byte [] = None
next_byte (byte ∷ []) = if is_plain byte then Some (byte, []) else None
next_byte (byte ∷ next ∷ rest) =
    if byte == 92 then Some (next, rest) else if is_plain byte then Some (byte, next ∷ rest) else None

abbrev pub seen_byte : ℕ × Bor (List ℕ) → ℕ × List ℕ
seen_byte found = (found.0, found.1.now)

abbrev pub put_byte : ℕ → Option (List ℕ) → Option (List ℕ)
put_byte byte (Some text) = Some (byte ∷ text)
put_byte byte None = None

-- the text in front of a closing quote that nothing follows
unfoldable pub unquoted : List ℕ → Option (List ℕ)
unquoted [] = None
unquoted (byte ∷ []) = if byte == 34 then Some [] else None
unquoted (byte ∷ next ∷ rest) =
    if byte == 92 then put_byte next (unquoted rest) else
    if byte == 34 then None else put_byte byte (unquoted (next ∷ rest))

abbrev pub word_of : List ℕ → Option WishValue
word_of word = if is_word word then Some (Word word) else None

-- what stands after the `=`
unfoldable pub value_of : List ℕ → Option WishValue
value_of [] = None
value_of (byte ∷ bytes) = if byte == 34 then option_map Quoted (unquoted bytes) else word_of (byte ∷ bytes)

unfoldable pub assignment : List ℕ → List ℕ → Option Said
assignment symbol value = if is_symbol symbol then option_map (Asks symbol) (value_of value) else None

abbrev pub assigned_at : List ℕ → Option ℕ → Option Said
assigned_at line (Some place) = assignment (take place line) (drop (place + 1) line)
assigned_at line None = None

-- the first `=` ends the symbol
unfoldable pub assigned : List ℕ → Option Said
assigned line = assigned_at line (position (λ byte. byte == 61) line)

unfoldable pub said_by : List ℕ → Option Said
said_by line = if is_blank line then Some Nothing else if is_comment line then Some (comment line) else assigned line
