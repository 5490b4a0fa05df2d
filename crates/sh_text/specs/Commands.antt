-- The commands on texts.
use Rattle.std.specs.Prelude.{ℕ, List, [], ◌∷◌, codes, Option, Some, None}
use Rattle.br_path.specs.Path.{Names}
use Rattle.br_path.specs.Text.{is_text}
use Rattle.br_path.specs.Files.{FileMap}
use Rattle.tree_worlds.specs.Program.{Program, Done, Refuse}
use Rattle.tree_worlds.specs.declared.reason.Reason.TheVariants.{NotFound, Syntax}
use Rattle.sh_places.specs.Parts.{attempt, choose}
use Rattle.sh_words.specs.declared.line.Line.{Line}
use Rattle.sh_words.specs.declared.line.Redirect.{Redirect}
use Rattle.sh_text.specs.Printing.{printed, echoed}
use Rattle.sh_text.specs.Redirection.{put_through}
use Rattle.sh_text.specs.Sed.{sed}

-- no words ask for nothing, but a target without words is refused
abbrev pub no_words : Option Redirect → Program (Unit {0})
no_words None = Done tt
no_words (Some target) = Refuse Syntax

-- a command by its name
abbrev pub named : FileMap → Option Redirect → List ℕ → Names → Program (Unit {0})
named files into name words =
    choose (is_text name (codes "printf")) (put_through files into (attempt (printed words))) (
    choose (is_text name (codes "echo")) (put_through files into (attempt (echoed words))) (
    choose (is_text name (codes "sed")) (sed files into words) (
    Refuse NotFound)))

abbrev pub by_words : FileMap → Option Redirect → Names → Program (Unit {0})
by_words files into [] = no_words into
by_words files into (name ∷ words) = named files into name words

-- what a line does
abbrev pub command : FileMap → Line → Program (Unit {0})
command files line = by_words files line.into line.words
