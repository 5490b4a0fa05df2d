-- Words from the front: the command, or the place of the first word that doesn't fit.
use Rattle.std.specs.Prelude.{ℕ, ◌+◌, ◌-◌, ◌*◌, Bool, true, false, ◌&&◌, nat_le, nat_eq, List, [], ◌∷◌, Option, Some, None, Result, Ok, Err, codes, if◌then◌else◌}
use Rattle.std.specs.Cmp.Lexicographic.{pointwise}
use Rattle.br_path.specs.Path.{Names}
use Rattle.br_words.specs.declared.command.Words.{Words}
use Rattle.br_words.specs.declared.command.Words.TheVariants.{Build, Config, Plan, ShowDepends, ShowRecursive, ShowRdepends}

abbrev pub Reading : Type 0
Reading = Result Words ℕ

abbrev pub is_text : List ℕ → List ℕ → Bool
is_text = pointwise nat_eq

abbrev pub is_digit : ℕ → ℕ → Bool
is_digit least byte = nat_le least byte && nat_le byte 57

-- a digit but 0
abbrev pub one_digit : ℕ → Option ℕ
one_digit byte = if is_digit 49 byte then Some (byte - 48) else None

abbrev pub with_tens : Option ℕ → ℕ → Option ℕ
with_tens None second = None
with_tens (Some tens) second =
    if is_digit 48 second && nat_le (tens * 10 + (second - 48)) 64 then Some (tens * 10 + (second - 48)) else None

abbrev pub two_digits : ℕ → ℕ → Option ℕ
two_digits first second = with_tens (one_digit first) second

-- the number of workers that a word says
abbrev pub workers_of : List ℕ → Option ℕ
workers_of (byte ∷ []) = one_digit byte
workers_of (first ∷ second ∷ []) = two_digits first second
workers_of _ = None

-- a command that ends before a place
abbrev pub ended : ℕ → Words → Names → Reading
ended place command [] = Ok command
ended place command (word ∷ words) = Err place

-- the one word after the first
abbrev pub only_word : Names → Result (List ℕ) ℕ
only_word [] = Err 1
only_word (word ∷ []) = Ok word
only_word (word ∷ next ∷ words) = Err 2

abbrev pub shown : (List ℕ → Words) → Result (List ℕ) ℕ → Reading
shown command (Ok word) = Ok (command word)
shown command (Err place) = Err place

-- the number of workers that words begin with, at a place, and what is after it
abbrev pub jobs_behind : ℕ → Option ℕ → (ℕ → Reading) → Reading
jobs_behind place None next = Err place
jobs_behind place (Some workers) next = next workers

abbrev pub jobs : ℕ → (Names → ℕ → Reading) → Names → Reading
jobs place next [] = Err place
jobs place next (word ∷ words) = jobs_behind place (workers_of word) (next words)

-- after `build -j N`
abbrev pub behind_jobs : Names → ℕ → Reading
behind_jobs [] workers = Ok (Build workers false)
behind_jobs (word ∷ words) workers = if is_text word (codes "--trace") then ended 4 (Build workers true) words else Err 3

-- after `build --trace -j N`
abbrev pub traced : Names → ℕ → Reading
traced words workers = ended 4 (Build workers true) words

-- after `build --trace`
abbrev pub behind_trace : Names → Reading
behind_trace [] = Ok (Build 1 true)
behind_trace (word ∷ words) =
    if is_text word (codes "-j") then jobs 3 traced words else Err 2

-- after `build`
abbrev pub options : Names → Reading
options [] = Ok (Build 1 false)
options (word ∷ words) =
    if is_text word (codes "-j") then jobs 2 behind_jobs words else
    if is_text word (codes "--trace") then behind_trace words else Err 1

-- the show commands
abbrev pub show : List ℕ → Names → Reading
show word words =
    if is_text word (codes "show-depends") then shown ShowDepends (only_word words) else
    if is_text word (codes "show-recursive-depends") then shown ShowRecursive (only_word words) else
    if is_text word (codes "show-rdepends") then shown ShowRdepends (only_word words) else Err 0

unfoldable pub read : Names → Reading
read [] = Err 0
read (word ∷ words) =
    if is_text word (codes "build") then options words else
    if is_text word (codes "config") then ended 1 Config words else
    if is_text word (codes "plan") then ended 1 Plan words else show word words
