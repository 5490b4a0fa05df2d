-- The wishes of a text, and its fault.
use Rattle.std.specs.Prelude.{ℕ, ◌+◌, ◌≡◌, List, [], ◌∷◌, ◌++◌, length, All, if◌then◌else◌}
use Rattle.std.specs.List.{list_any, AllZip}
use Rattle.kc_text.specs.Lines.{raw_lines}
use Rattle.br_path.specs.Text.{is_text}
use Rattle.kc_menu.specs.declared.wishes.Wish.{Wish}
use Rattle.dot_config.specs.declared.line.Said.{Said}
use Rattle.dot_config.specs.declared.line.Said.TheVariants.{Nothing, Asks}
use Rattle.dot_config.specs.declared.error.WishError.{WishError}
use Rattle.dot_config.specs.declared.error.WishError.TheVariants.{Line, Memory}
use Rattle.dot_config.specs.Line.{IsLine, HasForm}

-- the wish that a line of this number makes
abbrev pub wish_at : ℕ → Said → List Wish
wish_at number Nothing = []
wish_at number (Asks symbol value) = record { symbol = symbol; value = value; line = number } ∷ []

-- the wishes of lines, of which the first has this number
abbrev pub wishes_from : ℕ → List Said → List Wish
wishes_from number [] = []
wishes_from number (said ∷ more) = wish_at number said ++ wishes_from (number + 1) more

-- the wishes whose symbol stands in no later one
abbrev pub last_wishes : List Wish → List Wish
last_wishes [] = []
last_wishes (wish ∷ later) =
    if list_any (λ other. is_text other.symbol wish.symbol) later then last_wishes later else wish ∷ last_wishes later

-- each line has a form, and these are the wishes that they make
pub record AreMadeBy (lines : List (List ℕ)) (wishes : List Wish) : Type 0 where
  pub said : List Said
  pub forms : AllZip IsLine lines said
  pub made : wishes ≡ wishes_from 1 said

-- each line of the text has a form, and these are the last wishes of each symbol
pub record IsReading (text : List ℕ) (wishes : List Wish) : Type 0 where
  pub all : List Wish
  pub forms : AreMadeBy (raw_lines text) all
  pub last : wishes ≡ last_wishes all

-- the first line that has no form
pub record IsFirstFault (text : List ℕ) (number : ℕ) : Type 0 where
  pub front : List (List ℕ)
  pub line : List ℕ
  pub back : List (List ℕ)
  pub cut : raw_lines text ≡ front ++ line ∷ back
  pub place : number ≡ length front + 1
  pub legal : All HasForm front
  pub fault : HasForm line → ⊥

abbrev pub IsWishFault : List ℕ → WishError → Type 0
IsWishFault text (Line number) = IsFirstFault text number
IsWishFault text Memory = Unit {0}

-- a line of this number has no form
abbrev pub IsLineFault : List ℕ → ℕ → WishError → Type 0
IsLineFault line number (Line found) = (found ≡ number) × (HasForm line → ⊥)
IsLineFault line number Memory = Unit {0}
