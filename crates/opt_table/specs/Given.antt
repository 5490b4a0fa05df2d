-- What was read of the words of a command: the letters that were given, and the operands.
use Rattle.std.specs.Prelude.{ℕ, Bool, ◌==◌, List, [], ◌∷◌, ◌++◌, Option, Some, None, reverse, if◌then◌else◌}
use Rattle.std.specs.List.{list_any}
use Rattle.std.specs.Option.{option_or}
use Rattle.br_path.specs.Path.{Names}
use Rattle.opt_table.specs.declared.options.Given.{Given}

-- the letters that were given, with their values, and the operands, both in their order
pub record Read : Type 0 where
  pub given : List Given
  pub operands : Names

-- a letter that was given without a value
abbrev pub plain : ℕ → Given
plain letter = record { letter = letter; value = None }

-- a letter that was given with a value
abbrev pub with_value : ℕ → List ℕ → Given
with_value letter value = record { letter = letter; value = Some value }

-- the letter was given
abbrev pub has : Read → ℕ → Bool
has read letter = list_any (λ given. given.letter == letter) read.given

-- the first value of a letter
abbrev pub first_value : List Given → ℕ → Option (List ℕ)
first_value [] letter = None
first_value (given ∷ more) letter = option_or (if given.letter == letter then given.value else None) (first_value more letter)

-- the last value of a letter counts
abbrev pub value_of : Read → ℕ → Option (List ℕ)
value_of read letter = first_value (reverse read.given) letter

-- nothing was read
abbrev pub nothing : Read
nothing = record { given = []; operands = [] }

-- what was read, and after it more
abbrev pub joined : Read → Read → Read
joined read more = record { given = read.given ++ more.given; operands = read.operands ++ more.operands }

-- letters alone
abbrev pub only_given : List Given → Read
only_given given = record { given = given; operands = [] }

-- operands alone
abbrev pub only_operands : Names → Read
only_operands words = record { given = []; operands = words }
