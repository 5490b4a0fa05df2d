-- What the reader holds and answers, as the definitions see it.
use Rattle.std.specs.Prelude.{ℕ, ◌≡◌, List, reverse, Result, Ok, Err}
use Rattle.std.specs.Borrow.{Bor}
use Rattle.br_path.specs.Path.{Names, parts as path_parts}
use Rattle.kc_syntax.specs.declared.error.KcFault.{KcFault}
use Rattle.kc_syntax.specs.declared.error.KcError.{KcError}
use Rattle.kc_syntax.specs.declared.error.KcError.TheVariants.{Fault, Memory}
use Rattle.kc_syntax.specs.declared.reader.Reader.{Reader}
use Rattle.kc_syntax.specs.State.{State}
use Rattle.kc_syntax.specs.Step.{Outcome}

abbrev pub shown : Reader → State
shown r = record { entries = r.entries.items; choices = r.choices.items; blocks = reverse r.blocks.items; owner = r.owner; sources = r.sources; symbols = r.symbols.entries }

-- the fault is the outcome's; out of memory may be answered whatever that is
abbrev pub Fails : {A : Type 0} → Result A KcFault → KcError → Type 0
Fails outcome (Fault fault) = outcome ≡ Err fault
Fails outcome Memory = Unit {0}

-- what is known then is the outcome's, or the fault is
abbrev pub Follows : Outcome → Result Unit KcError → State → Type 0
Follows outcome (Ok done) new = outcome ≡ Ok new
Follows outcome (Err error) new = Fails outcome error

-- the answer is the outcome's value, or the fault is its
abbrev pub Answers : {A : Type 0} → Result A KcFault → Result A KcError → Type 0
Answers outcome (Ok value) = outcome ≡ Ok value
Answers outcome (Err error) = Fails outcome error

-- a file that is found, with its path
abbrev pub seen : Names × Bor (List ℕ) → Names × List ℕ
seen file = (file.0, file.1.now)

-- the file whose path a text is
abbrev pub named : List ℕ → List ℕ → Names × List ℕ
named text bytes = (path_parts text, bytes)
