-- The commands, as the words that they are given by, and the first word that fits none.
use Rattle.std.specs.Prelude.{◌≡◌, ◌⊎◌, ℕ, ◌+◌, ◌*◌, ◌<◌, ◌≤◌, Bool, true, false, List, [], ◌∷◌, ◌++◌, length, take, codes}
use Rattle.br_path.specs.Path.{Names}
use Rattle.br_words.specs.declared.command.Words.{Words}
use Rattle.br_words.specs.declared.command.Words.TheVariants.{Build, Config, Plan, ShowDepends, ShowRecursive, ShowRdepends}

-- a digit, by its byte
abbrev pub IsDigit : ℕ → ℕ → Type 0
IsDigit byte value = (value < 10) × (byte ≡ 48 + value)

-- a number from 1 to 64, by its decimal digits, the first of which isn't 0
pub data IsWorkers : List ℕ → ℕ → Type 0 where
  one : (byte value : ℕ) → IsDigit byte value → 1 ≤ value → IsWorkers (byte ∷ []) value
  two : (first tens second ones : ℕ) → IsDigit first tens → 1 ≤ tens → IsDigit second ones → tens * 10 + ones ≤ 64 → IsWorkers (first ∷ second ∷ []) (tens * 10 + ones)

-- the options of `build`: `-j N` and `--trace`, each at most once, in either order; one worker unless it is said
pub data IsBuild : Names → ℕ → Bool → Type 0 where
  none : IsBuild [] 1 false
  jobs : (text : List ℕ) (workers : ℕ) → IsWorkers text workers → IsBuild (codes "-j" ∷ text ∷ []) workers false
  traced : IsBuild (codes "--trace" ∷ []) 1 true
  jobs_traced : (text : List ℕ) (workers : ℕ) → IsWorkers text workers → IsBuild (codes "-j" ∷ text ∷ codes "--trace" ∷ []) workers true
  traced_jobs : (text : List ℕ) (workers : ℕ) → IsWorkers text workers → IsBuild (codes "--trace" ∷ codes "-j" ∷ text ∷ []) workers true

-- the words of a command
pub data IsCommand : Names → Words → Type 0 where
  build : (options : Names) (workers : ℕ) (trace : Bool) → IsBuild options workers trace → IsCommand (codes "build" ∷ options) (Build workers trace)
  config : IsCommand (codes "config" ∷ []) Config
  plan : IsCommand (codes "plan" ∷ []) Plan
  depends : (name : List ℕ) → IsCommand (codes "show-depends" ∷ name ∷ []) (ShowDepends name)
  recursive : (name : List ℕ) → IsCommand (codes "show-recursive-depends" ∷ name ∷ []) (ShowRecursive name)
  rdepends : (name : List ℕ) → IsCommand (codes "show-rdepends" ∷ name ∷ []) (ShowRdepends name)

-- some command begins with the words
pub record Begins (words : Names) : Type 0 where
  pub rest : Names
  pub command : Words
  pub is : IsCommand (words ++ rest) command

-- the place of the first word that doesn't fit, or the number of words where one is missing: a command begins with the words
-- before it, and none with one more, or, at the end, the words are no command
pub record IsMisfit (words : Names) (place : ℕ) : Type 0 where
  pub within : place ≤ length words
  pub front : Begins (take place words)
  pub no_further : place < length words → Begins (take (place + 1) words) → ⊥
  pub no_command : (command : Words) → IsCommand words command → ⊥

-- words have one command, or one place of the first that doesn't fit, and not both
pub record HasOneAnswer (words : Names) : Type 0 where
  pub some : ((command : Words) × IsCommand words command) ⊎ ((place : ℕ) × IsMisfit words place)
  pub command : (a b : Words) → IsCommand words a → IsCommand words b → a ≡ b
  pub place : (p q : ℕ) → IsMisfit words p → IsMisfit words q → p ≡ q
  pub apart : (command : Words) (place : ℕ) → IsCommand words command → IsMisfit words place → ⊥
