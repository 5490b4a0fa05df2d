-- Lines: words, and perhaps an operator with its target.
use Rattle.std.specs.Prelude.{ℕ, ◌+◌, Bool, true, false, ◌==◌, List, [], ◌∷◌, ◌++◌, Some, None, is_some, Result, Ok, Err, if◌then◌else◌}
use Rattle.br_path.specs.Gives.{◌>>=◌}
use Rattle.br_path.specs.Text.{is_blank}
use Rattle.sh_words.specs.declared.fault.WordFault.{WordFault}
use Rattle.sh_words.specs.declared.fault.WordFault.TheVariants.{Unsupported}
use Rattle.sh_words.specs.declared.line.Line.{Line}
use Rattle.sh_words.specs.Left.{Left, left, Reading, repeated, behind_blanks}
use Rattle.sh_words.specs.Words.{word_of}
use Rattle.sh_words.specs.Bytes.{is_over}

-- a word after the others
abbrev pub with_word : Line → List ℕ → Line
with_word line word = record { words = line.words ++ word ∷ []; into = line.into }

-- a word as the target
abbrev pub with_target : Line → Bool → List ℕ → Line
with_target line append word = record { words = line.words; into = Some (record { append = append; word = word }) }

-- after a `>`: whether another one follows, which belongs to it, and what is left then
abbrev pub second : ℕ → List ℕ → Bool × Left
second place [] = (false, left place [])
second place (byte ∷ text) = if byte == 62 then (true, left (place + 1) text) else (false, left place (byte ∷ text))

-- the target of an operator at a place
abbrev pub target : Line → ℕ → Bool → Left → Reading Line
target line place append rest =
    if is_over rest.text then Err (Unsupported 62 place) else word_of rest >>= λ next. Ok (with_target line append next.0, next.1)

-- an operator that begins at a place with a `>`, and its target; a line has one at most
abbrev pub redirect : Line → ℕ → List ℕ → Reading Line
redirect line place text =
    if is_some line.into then Err (Unsupported 62 place) else
    target line place (second (place + 1) text).0 (behind_blanks (second (place + 1) text).1.place (second (place + 1) text).1.text)

-- the same of the operator that a text begins with
abbrev pub redirect_in : Line → ℕ → List ℕ → Reading Line
redirect_in line place [] = Ok (line, left place [])
redirect_in line place (byte ∷ text) = redirect line place text

-- what a text begins with: a blank, an operator with its target, or a word
abbrev pub item_in : Line → ℕ → List ℕ → Reading Line
item_in line place [] = Ok (line, left place [])
item_in line place (byte ∷ text) =
    if is_blank byte then Ok (line, left (place + 1) text) else
    if byte == 62 then redirect line place text else
    word_of (left place (byte ∷ text)) >>= λ next. Ok (with_word line next.0, next.1)

abbrev pub item : Line → Left → Reading Line
item line rest = item_in line rest.place rest.text

abbrev pub no_words : Line
no_words = record { words = []; into = None }

-- the line that a text is, or its first fault
unfoldable pub line_of : List ℕ → Result Line WordFault
line_of text = repeated is_over item no_words (left 0 text) >>= λ done. Ok done.0
