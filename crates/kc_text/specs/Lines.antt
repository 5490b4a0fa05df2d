-- The lines of a text: a step for each raw line, from a start, and an end.
use Rattle.br_path.specs.Text.{is_text}
use Rattle.std.specs.Prelude.{ℕ, ◌+◌, ◌-◌, ◌*◌, ◌/◌, Bool, false, ◌||◌, ◌&&◌, ◌==◌, nat_eq, nat_le, List, [], ◌∷◌, ◌++◌, length, take, Option, Some, None, if◌then◌else◌, codes}
use Rattle.std.specs.List.{slice_split, slice_get, list_all}
use Rattle.std.specs.Cmp.Lexicographic.{pointwise}
use Rattle.kc_text.specs.Bytes as byte_is
use Rattle.kc_text.specs.Lexer.{parts}
use Rattle.kc_text.specs.declared.part.Part.{Part}
use Rattle.kc_text.specs.declared.part.Part.TheVariants.{Word}
use Rattle.kc_text.specs.declared.part.Line.{Line}
use Rattle.kc_text.specs.declared.lines.Help.{Help}
use Rattle.kc_text.specs.declared.lines.Help.TheVariants.{Out, First, Indent}

-- the lines that are whole, the raw lines that wait for the next, the number of the first of these, and the help block
pub record Gathered : Type 0 where
  pub lines : List Line
  pub carry : List ℕ
  pub first : ℕ
  pub help : Help

-- the pieces between the newlines; after the last newline there may stand nothing
unfoldable pub raw_lines : List ℕ → List (List ℕ)
raw_lines text = slice_split (λ byte. byte == 10) text

unfoldable pub is_blank_line : List ℕ → Bool
is_blank_line raw = list_all byte_is.blank raw

-- the column that a blank leads to; a tab leads to the next multiple of 8
abbrev pub indent_from : ℕ → List ℕ → ℕ
indent_from column [] = column
indent_from column (byte ∷ bytes) =
    if byte == 32 then indent_from (column + 1) bytes else
    if byte == 9 then indent_from ((column / 8 + 1) * 8) bytes else column

-- the column of the first byte that is no blank
unfoldable pub indent : List ℕ → ℕ
indent raw = indent_from 0 raw

abbrev pub is_backslash : Option ℕ → Bool
is_backslash (Some byte) = byte == 92
is_backslash None = false

-- a raw line ends in a backslash
abbrev pub joins : List ℕ → Bool
joins raw = is_backslash (slice_get raw (length raw - 1))

unfoldable pub is_help : List ℕ → Bool
is_help word = is_text word (codes "help") || is_text word (codes "---help---")

-- a line of one such word begins a block of help
abbrev pub help_behind_word : List ℕ → List Part → Help
help_behind_word word rest = if (length rest == 0) && is_help word then First else Out

abbrev pub help_behind_parts : List Part → Help
help_behind_parts (Word word ∷ rest) = help_behind_word word rest
help_behind_parts _ = Out

abbrev pub help_behind : Option (List Part) → Help
help_behind (Some found) = help_behind_parts found
help_behind None = Out

abbrev pub is_empty : Option (List Part) → Bool
is_empty (Some found) = length found == 0
is_empty None = false

-- where a raw line stands that comes after `help`: blank lines change nothing, the first other one gives the indent
unfoldable pub help_first : List ℕ → Help
help_first raw = if is_blank_line raw then First else if indent raw == 0 then Out else Indent (indent raw)

-- where one stands that comes after a line of the block: outside if it is indented less
unfoldable pub help_inside : ℕ → List ℕ → Help
help_inside least raw = if is_blank_line raw || nat_le least (indent raw) then Indent least else Out

abbrev pub help_after : Help → List ℕ → Help
help_after Out raw = Out
help_after First raw = help_first raw
help_after (Indent least) raw = help_inside least raw

-- the number of a joined line is that of its first raw line
abbrev pub first_of : List ℕ → ℕ → ℕ → ℕ
first_of carry first number = if length carry == 0 then number else first

-- a raw line after those that wait, whose last byte is a backslash: a space stands for it and its newline
abbrev pub joined : List ℕ → List ℕ → List ℕ
joined [] raw = raw
joined (byte ∷ bytes) raw = (take (length bytes) (byte ∷ bytes) ++ 32 ∷ []) ++ raw

abbrev pub join : Gathered → List ℕ → Gathered
join g raw = record { lines = g.lines; carry = joined g.carry raw; first = g.first; help = g.help }

-- a line without parts is left out
unfoldable pub put_parts : Gathered → Option (List Part) → Gathered
put_parts g found =
    if is_empty found then g else
    record { lines = g.lines ++ record { number = g.first; parts = found } ∷ []; carry = g.carry; first = g.first; help = help_behind found }

-- what waits is a whole line
unfoldable pub put_line : Gathered → Gathered
put_line g = put_parts (record { lines = g.lines; carry = []; first = g.first; help = g.help }) (parts g.carry)

-- a raw line outside help
unfoldable pub plain : Gathered → ℕ → List ℕ → Gathered
plain g number raw =
    let next = join (record { lines = g.lines; carry = g.carry; first = first_of g.carry g.first number; help = g.help }) raw in
    if joins raw then next else put_line next

abbrev pub take_as : Help → Gathered → ℕ → List ℕ → Gathered
take_as Out g number raw = plain (record { lines = g.lines; carry = g.carry; first = g.first; help = Out }) number raw
take_as First g number raw = record { lines = g.lines; carry = g.carry; first = g.first; help = First }
take_as (Indent least) g number raw = record { lines = g.lines; carry = g.carry; first = g.first; help = Indent least }

-- a raw line with its number
unfoldable pub take_line : Gathered → ℕ → List ℕ → Gathered
take_line g number raw = take_as (help_after g.help raw) g number raw

-- raw lines, of which the first has the number
abbrev pub gather : Gathered → ℕ → List (List ℕ) → Gathered
gather g number [] = g
gather g number (raw ∷ raws) = gather (take_line g number raw) (number + 1) raws

-- the last raw line has no newline, so a backslash at its end joins nothing
unfoldable pub finish : Gathered → List Line
finish g = if length g.carry == 0 then g.lines else (put_line g).lines

abbrev pub start : Gathered
start = record { lines = []; carry = []; first = 0; help = Out }

-- the lines of a text that aren't empty
unfoldable pub lines : List ℕ → List Line
lines text = finish (gather start 1 (raw_lines text))
