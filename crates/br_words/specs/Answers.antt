-- What an answer to words says.
use Rattle.std.specs.Prelude.{◌≡◌, ℕ, List, Result, Ok, Err}
use Rattle.br_path.specs.Path.{Names}
use Rattle.br_path.specs.declared.values.Bytes.{Bytes}
use Rattle.br_words.specs.declared.command.Words.{Words}
use Rattle.br_words.specs.declared.command.WordsFault.{WordsFault}
use Rattle.br_words.specs.declared.command.WordsFault.TheVariants.{At, Memory}
use Rattle.br_words.specs.Command.{IsCommand, IsMisfit}
use Rattle.br_words.specs.Reading.{Reading}

-- the words are the command, or the place is that of the first that doesn't fit; nothing is said of out of memory
abbrev pub IsReading : Names → Result Words WordsFault → Type 0
IsReading words (Ok command) = IsCommand words command
IsReading words (Err (At place)) = IsMisfit words place
IsReading words (Err Memory) = Unit {0}

-- the answer is what was read, unless memory was wanting
abbrev pub Gives : Reading → Result Words WordsFault → Type 0
Gives reading (Ok command) = reading ≡ Ok command
Gives reading (Err (At place)) = reading ≡ Err place
Gives reading (Err Memory) = Unit {0}

-- likewise of the word that is shown
abbrev pub Tells : Result (List ℕ) ℕ → Result Bytes WordsFault → Type 0
Tells reading (Ok word) = reading ≡ Ok word
Tells reading (Err (At place)) = reading ≡ Err place
Tells reading (Err Memory) = Unit {0}
