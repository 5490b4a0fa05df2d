-- Words: pieces one after another, with nothing between them.
use Rattle.std.specs.Prelude.{ℕ, ◌+◌, ◌==◌, List, [], ◌∷◌, Option, Some, None, Ok, Err, if◌then◌else◌}
use Rattle.br_path.specs.Text.{is_digit}
use Rattle.sh_words.specs.declared.fault.WordFault.{WordFault}
use Rattle.sh_words.specs.declared.fault.WordFault.TheVariants.{Unsupported}
use Rattle.sh_words.specs.Left.{Left, left, Reading, repeated}
use Rattle.sh_words.specs.Pieces.{piece_at}
use Rattle.sh_words.specs.Bytes.{ends_word}

-- the piece that a text begins with
abbrev pub piece_in : List ℕ → ℕ → List ℕ → Reading (List ℕ)
piece_in word place [] = Ok (word, left place [])
piece_in word place (byte ∷ text) = piece_at word place byte text

abbrev pub piece : List ℕ → Left → Reading (List ℕ)
piece word rest = piece_in word rest.place rest.text

-- the place of an operator that a text begins with, or that stands after digits alone
abbrev pub operator_behind_digits : ℕ → List ℕ → Option ℕ
operator_behind_digits place [] = None
operator_behind_digits place (byte ∷ text) =
    if byte == 62 then Some place else if is_digit byte then operator_behind_digits (place + 1) text else None

-- an operator at a place is at fault
abbrev pub operator_fault : Option ℕ → Option WordFault
operator_fault (Some place) = Some (Unsupported 62 place)
operator_fault None = None

-- what keeps a word from beginning: `~`, an operator, and digits alone right before one
abbrev pub begin_fault : ℕ → List ℕ → Option WordFault
begin_fault place [] = None
begin_fault place (byte ∷ text) = if byte == 126 then Some (Unsupported 126 place) else operator_fault (operator_behind_digits place (byte ∷ text))

-- all pieces up to the word's end, unless there is a fault
abbrev pub word_unless : Option WordFault → Left → Reading (List ℕ)
word_unless (Some fault) rest = Err fault
word_unless None rest = repeated ends_word piece [] rest

-- the word that a text begins with
unfoldable pub word_of : Left → Reading (List ℕ)
word_of rest = word_unless (begin_fault rest.place rest.text) rest
