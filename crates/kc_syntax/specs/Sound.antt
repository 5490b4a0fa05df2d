-- What holds of all that is read.
use Rattle.std.specs.Prelude.{ℕ, ◌≡◌, ◌<◌, List, length, All, Option, Some}
use Rattle.std.specs.Option.{option_map}
use Rattle.kc_values.specs.declared.kind.Kind.{Kind}
use Rattle.kc_values.specs.declared.kind.Kind.TheVariants as kind
use Rattle.kc_syntax.specs.declared.reader.Known.{Known}
use Rattle.kc_syntax.specs.State.{State, Symbols, known}

-- the symbol is known, and so is that its entries stand in this choice
abbrev pub IsPlaced : Symbols → List ℕ → Option ℕ → Type 0
IsPlaced symbols symbol choice = option_map (λ k. k.choice) (known symbols symbol) ≡ Some choice

-- a choice, where there is one, is one of so many
abbrev pub IsThere : ℕ → Option ℕ → Type 0
IsThere count choice = (place : ℕ) → choice ≡ Some place → place < count

-- a member of a choice is a bool, where it has a type
abbrev pub IsFitMember : Known → Type 0
IsFitMember k = (place : ℕ) (type : Kind) → k.choice ≡ Some place → k.kind ≡ Some type → type ≡ kind.Bool

-- each entry's symbol is known with the entry's choice, the choices of entries and blocks are there, and members are bools
pub record IsSound (s : State) : Type 0 where
  pub placed : All (λ entry. IsPlaced s.symbols entry.symbol entry.choice) s.entries
  pub there : All (λ entry. IsThere (length s.choices) entry.choice) s.entries
  pub around : All (λ open_block. IsThere (length s.choices) open_block.choice) s.blocks
  pub fit : (symbol : List ℕ) (k : Known) → known s.symbols symbol ≡ Some k → IsFitMember k
