-- Each line is of one row.
use Rattle.std.specs.Prelude.{ℕ, ◌==◌, ◌||◌, Bool, true, false, Option, Some, None, List, if◌then◌else◌, length, take, drop, nat_eq, bytes_eq, codes}
use Rattle.std.specs.List.{starts_with}
use Rattle.mk_syntax.specs.declared.recipe.What.TheVariants.{If, ElseIf, Else, EndIf, Make}
use Rattle.mk_syntax.specs.declared.recipe.What.{What}
use Rattle.mk_syntax.specs.declared.recipe.Test.{Test}
use Rattle.mk_syntax.specs.declared.fault.MkKind.TheVariants.{BadLine, StrayElse, Unsupported}
use Rattle.mk_syntax.specs.declared.row.Row.{Row}
use Rattle.mk_syntax.specs.declared.row.Row.TheVariants.{Nothing, Says, Opens, Loose, Refused}
use Rattle.mk_syntax.specs.declared.row.Inside.{Inside}
use Rattle.mk_syntax.specs.declared.row.Inside.TheVariants as inside
use Rattle.mk_syntax.specs.Blanks.{skip_blanks, trim_end, first_word, behind_word}
use Rattle.mk_syntax.specs.Comment.{without_comment}
use Rattle.mk_syntax.specs.Assignment.{name_length, assignment_of}
use Rattle.mk_syntax.specs.Condition.{test_of}

-- after the name that a `define` sets stands nothing, or an `=`
abbrev pub ends_definition : List ℕ → Bool
ends_definition text = length text == 0 || bytes_eq text (codes "=")

-- `define` and what follows it
abbrev pub definition_row : List ℕ → Row
definition_row text =
    if name_length text == 0 then Refused BadLine
    else (if ends_definition (skip_blanks (drop (name_length text) text)) then Opens (take (name_length text) text)
    else Refused BadLine)

-- a branch of a condition, where a test follows `else`
abbrev pub branch_row : Option Test → Row
branch_row (Some test) = Says (ElseIf test)
branch_row None = Loose

-- `else` and what follows it
abbrev pub else_row : List ℕ → Row
else_row text = if length text == 0 then Says Else else branch_row (test_of (first_word text) (behind_word text))

-- `endif` and what follows it
abbrev pub end_row : List ℕ → Row
end_row text = if length text == 0 then Says EndIf else Loose

-- the first words of make's own lines that recipes don't have
abbrev pub is_unsupported : List ℕ → Bool
is_unsupported word =
    bytes_eq word (codes "include") || bytes_eq word (codes "-include") || bytes_eq word (codes "sinclude") || bytes_eq word (codes "override")
    || bytes_eq word (codes "export") || bytes_eq word (codes "unexport") || bytes_eq word (codes "private") || bytes_eq word (codes "vpath")

-- a whole line that begins with none of the words of a recipe, and its first word
abbrev pub other_row : List ℕ → List ℕ → Row
other_row text word =
    if is_unsupported word then Refused (Unsupported word)
    else (if bytes_eq text (codes "$(eval $(generic-package))") then Says (Make false)
    else (if bytes_eq text (codes "$(eval $(host-generic-package))") then Says (Make true)
    else (if starts_with nat_eq text (codes "$(") then Refused (Unsupported word)
    else Refused BadLine)))

-- a condition begins, where its word and a test stand there
abbrev pub condition_row : Option Test → Row → Row
condition_row (Some test) other = Says (If test)
condition_row None other = other

-- a line by its first word and what follows it
abbrev pub word_row : List ℕ → List ℕ → List ℕ → Row
word_row text word further =
    if length text == 0 then Nothing
    else (if bytes_eq word (codes "define") then definition_row further
    else (if bytes_eq word (codes "else") then else_row further
    else (if bytes_eq word (codes "endif") then end_row further
    else (if bytes_eq word (codes "endef") then Refused StrayElse
    else condition_row (test_of word further) (other_row text word)))))

-- a line that sets no variable
abbrev pub keyword_row : List ℕ → Row
keyword_row text = word_row text (first_word text) (behind_word text)

-- a line that sets a variable keeps the blanks at its end, and any other loses them
abbrev pub text_row : List ℕ → Option What → Row
text_row text (Some what) = Says what
text_row text None = keyword_row (trim_end text)

-- the row of a line outside `define`, less its comment and the blanks before it
abbrev pub row_of_text : List ℕ → Row
row_of_text text = text_row text (assignment_of text)

-- the row of a line outside `define`
unfoldable pub row_of : List ℕ → Row
row_of line = row_of_text (skip_blanks (without_comment 0 line))

-- after `endef` stands nothing, or a comment
abbrev pub end_of_definition : List ℕ → Inside
end_of_definition text = if length text == 0 || starts_with nat_eq text (codes "#") then inside.Ends else inside.Refused BadLine

-- a line in a `define` by its first word and what follows it
abbrev pub inside_row : List ℕ → List ℕ → Inside
inside_row word further =
    if bytes_eq word (codes "endef") then end_of_definition further
    else (if bytes_eq word (codes "define") then inside.Refused (Unsupported word)
    else inside.Text)

-- the row of a line in a `define`
unfoldable pub inside_of : List ℕ → Inside
inside_of line = inside_row (first_word (skip_blanks line)) (behind_word (skip_blanks line))
