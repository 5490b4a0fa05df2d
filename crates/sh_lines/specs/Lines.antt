-- What a line does.
use Rattle.std.specs.Prelude.{ℕ, Bool, ◌||◌, ◌==◌, List, [], ◌∷◌, codes, Option, Some, None, is_some, Result, Ok, Err}
use Rattle.std.specs.List.{list_any}
use Rattle.br_path.specs.Path.{Names}
use Rattle.br_path.specs.Text.{is_text}
use Rattle.br_path.specs.Files.{FileMap}
use Rattle.tree_worlds.specs.Program.{Program, Done, Refuse, ◌>>=◌}
use Rattle.tree_worlds.specs.declared.reason.Reason.{Reason}
use Rattle.tree_worlds.specs.declared.reason.Reason.TheVariants.{Syntax}
use Rattle.sh_places.specs.Parts.{attempt, choose}
use Rattle.sh_words.specs.declared.fault.WordFault.{WordFault}
use Rattle.sh_words.specs.declared.line.Line.{Line}
use Rattle.sh_words.specs.declared.line.Redirect.{Redirect}
use Rattle.sh_words.specs.Lines.{line_of}
use Rattle.sh_files.specs.Commands as file_commands
use Rattle.sh_text.specs.Commands as text_commands

-- 1. The first word.

-- words with which a shell opens, divides and closes the parts of its grammar
abbrev pub opens_part : List ℕ → Bool
opens_part word = is_text word (codes "if") || is_text word (codes "for") || is_text word (codes "while") || is_text word (codes "until") || is_text word (codes "case") || is_text word (codes "!") || is_text word (codes "{")

abbrev pub divides_part : List ℕ → Bool
divides_part word = is_text word (codes "then") || is_text word (codes "else") || is_text word (codes "elif") || is_text word (codes "do")

abbrev pub closes_part : List ℕ → Bool
closes_part word = is_text word (codes "fi") || is_text word (codes "done") || is_text word (codes "esac") || is_text word (codes "}")

-- a word with `=` is an assignment
abbrev pub is_shell_word : List ℕ → Bool
is_shell_word word = list_any (λ byte. byte == 61) word || opens_part word || divides_part word || closes_part word

abbrev pub is_text_command : List ℕ → Bool
is_text_command name = is_text name (codes "printf") || is_text name (codes "echo") || is_text name (codes "sed")

-- 2. A line of words.

-- no words ask for nothing, but a target without words is refused
abbrev pub no_words : Option Redirect → Program (Unit {0})
no_words None = Done tt
no_words (Some target) = Refuse Syntax

-- a command by its name; the commands on files have no output for a target
abbrev pub named : FileMap → Line → List ℕ → Names → Program (Unit {0})
named files line name words =
    choose (is_shell_word name) (Refuse Syntax) (
    choose (is_text_command name) (text_commands.command files line) (
    choose (is_some line.into) (Refuse Syntax) (
    file_commands.command files name words)))

abbrev pub does : FileMap → Line → Names → Program (Unit {0})
does files line [] = no_words line.into
does files line (name ∷ words) = named files line name words

-- 3. A text.

abbrev pub or_syntax : Result Line WordFault → Result Line Reason
or_syntax (Ok line) = Ok line
or_syntax (Err fault) = Err Syntax

-- the words that a text is split into; what can't be split is refused
abbrev pub words_of : List ℕ → Result Line Reason
words_of text = or_syntax (line_of text)

abbrev pub line : FileMap → List ℕ → Program (Unit {0})
line files text = attempt (words_of text) >>= λ line. does files line line.words
