-- What a condition asks.
use Rattle.std.specs.Prelude.{ℕ, ◌+◌, ◌==◌, ◌&&◌, not, Bool, true, false, Option, Some, None, List, if◌then◌else◌, length, take, drop, option_map, option_and_then, bytes_eq, codes}
use Rattle.mk_syntax.specs.declared.recipe.Test.{Test}
use Rattle.mk_syntax.specs.declared.recipe.Test.TheVariants.{Equal, Defined}
use Rattle.mk_syntax.specs.Blanks.{skip_blanks, trim_end, behind}
use Rattle.mk_syntax.specs.Brackets.{closing, comma}
use Rattle.mk_syntax.specs.Assignment.{name_length}

-- the text up to its closing bracket, which is its last byte
abbrev pub up_to_bracket : List ℕ → Option (List ℕ)
up_to_bracket text = option_and_then (λ place. if place + 1 == length text then Some (take place text) else None) (closing 40 41 0 0 text)

-- the two sides of the comma, without the blanks right before and right after it
abbrev pub divided : List ℕ → Option (List ℕ × List ℕ)
divided text =
    option_and_then (λ place. option_map (λ right. (trim_end (take place text), right)) (up_to_bracket (skip_blanks (drop (place + 1) text)))) (comma 0 0 text)

-- `(A,B)`
abbrev pub sides_of : List ℕ → Option (List ℕ × List ℕ)
sides_of text = option_and_then divided (behind (codes "(") text)

-- the test that `(A,B)` is
abbrev pub equality_of : Bool → List ℕ → Option Test
equality_of wanted text = option_map (λ sides. Equal sides.0 sides.1 wanted) (sides_of text)

-- the test that a name is
abbrev pub definedness_of : Bool → List ℕ → Option Test
definedness_of wanted text =
    if not (length text == 0) && name_length text == length text then Some (Defined text wanted) else None

-- the four conditions, by their word and what follows it
abbrev pub test_of : List ℕ → List ℕ → Option Test
test_of word text =
    if bytes_eq word (codes "ifeq") then equality_of true text
    else (if bytes_eq word (codes "ifneq") then equality_of false text
    else (if bytes_eq word (codes "ifdef") then definedness_of true text
    else (if bytes_eq word (codes "ifndef") then definedness_of false text
    else None)))
