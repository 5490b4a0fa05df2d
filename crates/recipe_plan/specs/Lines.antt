-- The lines that a text has for a shell.
use Rattle.std.specs.Prelude.{ℕ, Bool, ◌==◌, ◌||◌, not, List, map, filter, take, drop, length}
use Rattle.std.specs.List.{list_all, list_any, position, slice_split}
use Rattle.std.specs.Option.{unwrap_or}
use Rattle.mk_expand.specs.Words.{is_blank}
use Rattle.plan_rows.specs.declared.rows.CommandLine.{CommandLine}

-- a byte that is dropped at the front of a line: a blank, `@` or `-`
abbrev pub is_mark : ℕ → Bool
is_mark byte = is_blank byte || byte == 64 || byte == 45

-- where the front of such bytes ends
abbrev pub front_length : List ℕ → ℕ
front_length line = unwrap_or (position (λ byte. not (is_mark byte)) line) (length line)

-- a line of a shell: what stands after its front; a `-` in the front says that its failure is ignored
abbrev pub command_line : List ℕ → CommandLine
command_line line = record { ignore = list_any (λ byte. byte == 45) (take (front_length line) line); text = drop (front_length line) line }

-- a line has another byte than blanks
abbrev pub is_filled_line : List ℕ → Bool
is_filled_line line = not (list_all is_blank line)

-- the lines of a text, without those of blanks alone
abbrev pub command_lines : List ℕ → List CommandLine
command_lines text = map command_line (filter is_filled_line (slice_split (λ byte. byte == 10) text))
