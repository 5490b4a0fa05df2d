-- What words say by a table, from the first word on.
use Rattle.std.specs.Prelude.{◌≡◌, ◌≢◌, ℕ, ◌+◌, Bool, false, ◌&&◌, ◌==◌, List, [], ◌∷◌, Option, Some, None, Result, Ok, Err, codes, is_none, if◌then◌else◌}
use Rattle.br_path.specs.Path.{Names}
use Rattle.br_path.specs.Text.{is_text}
use Rattle.br_path.specs.Gives.{◌>>=◌}
use Rattle.opt_table.specs.declared.table.OptRow.{OptRow}
use Rattle.opt_table.specs.declared.fault.OptFault.{OptFault}
use Rattle.opt_table.specs.declared.fault.OptFault.TheVariants.{Unknown, NeedsValue, Memory}
use Rattle.opt_table.specs.declared.reading.Waiting.{Waiting}
use Rattle.opt_table.specs.Table.{Rows, row_of}
use Rattle.opt_table.specs.Given.{Read, plain, with_value, nothing, joined, only_given, only_operands}

-- what a word says: what it gives, and perhaps a letter that waits for the next word
pub record Said : Type 0 where
  pub read : Read
  pub waiting : Option Waiting

-- 1. A group of letters, the word of which has a place.

-- a letter with a value: the rest of the word is the value, or it waits for the next word
abbrev pub with_rest : ℕ → ℕ → List ℕ → Said
with_rest place letter [] = record { read = nothing; waiting = Some (record { letter = letter; place = place }) }
with_rest place letter (byte ∷ bytes) = record { read = only_given (with_value letter (byte ∷ bytes) ∷ []); waiting = None }

-- what was read, and after it what is said further
abbrev pub grown : Read → Result Said OptFault → Result Said OptFault
grown read further = further >>= λ said. Ok (record { read = joined read said.read; waiting = said.waiting })

-- a letter by its row, with the rest of the word, and with what that says where it is letters too
abbrev pub by_row : Option OptRow → ℕ → ℕ → List ℕ → Result Said OptFault → Result Said OptFault
by_row None place letter rest further = Err (Unknown place)
by_row (Some row) place letter rest further = if row.value then Ok (with_rest place letter rest) else grown (only_given (plain letter ∷ [])) further

-- the letters of a group, from the first one on
abbrev pub group_of : Rows → ℕ → List ℕ → Result Said OptFault
group_of rows place [] = Ok (record { read = nothing; waiting = None })
group_of rows place (letter ∷ rest) = by_row (row_of rows letter) place letter rest (group_of rows place rest)

-- 2. A word.

-- the letters of a group: what stands after the `-` of a longer word
abbrev pub letters_of : List ℕ → Option (List ℕ)
letters_of [] = None
letters_of (byte ∷ []) = None
letters_of (byte ∷ letter ∷ rest) = if byte == 45 then Some (letter ∷ rest) else None

-- the letters of a word that begins with `--`, which is no group
abbrev pub is_long : List ℕ → Bool
is_long [] = false
is_long (letter ∷ rest) = letter == 45

-- a word that isn't `--`: an operand, or a group
abbrev pub word_by : Option (List ℕ) → Rows → ℕ → List ℕ → Result Said OptFault
word_by None rows place word = Ok (record { read = only_operands (word ∷ []); waiting = None })
word_by (Some group) rows place word = if is_long group then Err (Unknown place) else group_of rows place group

-- a word, which is the value of a letter that waits for it
abbrev pub said_of : Rows → ℕ → Option Waiting → List ℕ → Result Said OptFault
said_of rows place (Some waiting) word = Ok (record { read = only_given (with_value waiting.letter word ∷ []); waiting = None })
said_of rows place None word = word_by (letters_of word) rows place word

-- 3. Words.

-- `--` where no letter waits for a value
abbrev pub is_end : Option Waiting → List ℕ → Bool
is_end waiting word = is_none waiting && is_text word (codes "--")

-- the end of the words: no letter may wait for a value there
abbrev pub ended : Option Waiting → Result Read OptFault
ended None = Ok nothing
ended (Some waiting) = Err (NeedsValue waiting.place)

-- what was read, and after it what is read further
abbrev pub behind : Read → Result Read OptFault → Result Read OptFault
behind read further = further >>= λ more. Ok (joined read more)

-- words from a place on, where a letter may wait for the first of them
abbrev pub words_from : Rows → Names → ℕ → Option Waiting → Result Read OptFault
words_from rows [] place waiting = ended waiting
words_from rows (word ∷ words) place waiting =
    if is_end waiting word then Ok (only_operands words) else
    said_of rows place waiting word >>= λ said. behind said.read (words_from rows words (place + 1) said.waiting)

-- what words say by the rows of a table
abbrev pub options_of : Rows → Names → Result Read OptFault
options_of rows words = words_from rows words 0 None

-- a word that is taken: what was read, and the letter that waits, are what is meant; out of memory may be answered whatever is meant
abbrev pub IsTaken : Result Said OptFault → Result (Option Waiting) OptFault → Read → Type 0
IsTaken meant (Ok waiting) read = meant ≡ Ok (record { read = read; waiting = waiting })
IsTaken meant (Err fault) read = fault ≢ Memory → meant ≡ Err fault
