-- Names, and lines that set a variable.
use Rattle.std.specs.Prelude.{ℕ, ◌==◌, ◌&&◌, not, Bool, nat_le, Option, None, List, if◌then◌else◌, take, drop, option_map, codes}
use Rattle.std.specs.List.{position_or_len, list_any}
use Rattle.std.specs.Option.{option_or}
use Rattle.mk_syntax.specs.declared.recipe.What.{What}
use Rattle.mk_syntax.specs.declared.recipe.What.TheVariants.{Set}
use Rattle.mk_syntax.specs.declared.recipe.How.{How}
use Rattle.mk_syntax.specs.declared.recipe.How.TheVariants.{Later, Now, Append, IfUnset}
use Rattle.mk_syntax.specs.Blanks.{skip_blanks, behind}

-- a name has bytes from 0x21 to 0x7E, except for some
abbrev pub is_name_byte : ℕ → Bool
is_name_byte b = nat_le 33 b && nat_le b 126 && not (list_any (λ c. c == b) (codes ":#=$()?+"))

-- how many bytes of a name a text begins with
abbrev pub name_length : List ℕ → ℕ
name_length text = position_or_len (λ b. not (is_name_byte b)) text

-- the text after an operator, with what the operator means
abbrev pub assigned : How → List ℕ → List ℕ → Option (How × List ℕ)
assigned how operator text = option_map (λ value. (how, value)) (behind operator text)

-- the four operators
abbrev pub operator_of : List ℕ → Option (How × List ℕ)
operator_of text =
    option_or (assigned Later (codes "=") text)
    (option_or (assigned Now (codes ":=") text)
    (option_or (assigned Append (codes "+=") text)
    (assigned IfUnset (codes "?=") text)))

-- `N = V` and the like: a name, an operator with any blanks round it, and the rest, with the blanks at its end
abbrev pub assignment_of : List ℕ → Option What
assignment_of text =
    if name_length text == 0 then None
    else option_map (λ set. Set (take (name_length text) text) set.0 (skip_blanks set.1)) (operator_of (skip_blanks (drop (name_length text) text)))
