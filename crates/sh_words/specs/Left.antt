-- A text that is read from its front.
use Rattle.std.specs.Prelude.{ℕ, zero, suc, ◌+◌, Bool, List, [], ◌∷◌, length, Result, Ok, if◌then◌else◌}
use Rattle.br_path.specs.Gives.{◌>>=◌}
use Rattle.br_path.specs.Text.{is_blank}
use Rattle.sh_words.specs.declared.fault.WordFault.{WordFault}

-- what is left of a text, from a place on
pub record Left : Type 0 where
  pub place : ℕ
  pub text : List ℕ

abbrev pub left : ℕ → List ℕ → Left
left place text = record { place = place; text = text }

-- what is read, and what is left then; or a fault
abbrev pub Reading : Type 0 → Type 0
Reading A = Result (A × Left) WordFault

module _ {A : Type 0} (is_done : List ℕ → Bool) (step : A → Left → Reading A) where
  -- a step again and again, until nothing is to be done; at most so often
  abbrev pub at_most : ℕ → A → Left → Reading A
  at_most zero value rest = Ok (value, rest)
  at_most (suc most) value rest = if is_done rest.text then Ok (value, rest) else step value rest >>= λ next. at_most most next.0 next.1

  -- a step that takes a byte at least, until nothing is to be done
  unfoldable pub repeated : A → Left → Reading A
  repeated value rest = at_most (length rest.text) value rest

-- what is left after the blanks that a text begins with
abbrev pub behind_blanks : ℕ → List ℕ → Left
behind_blanks place [] = left place []
behind_blanks place (byte ∷ text) = if is_blank byte then behind_blanks (place + 1) text else left place (byte ∷ text)
