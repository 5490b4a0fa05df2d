-- The first words of lines.
use Rattle.std.specs.Prelude.{ℕ, ◌||◌, List, Option, Some, None, codes, if◌then◌else◌}
use Rattle.std.specs.Option.{option_or}
use Rattle.br_path.specs.Text.{is_text}
use Rattle.kc_rows.specs.declared.keyword.Keyword.{Keyword}
use Rattle.kc_rows.specs.declared.keyword.Keyword.TheVariants.{MainMenu, Source, Menu, EndMenu, If, EndIf, Choice, EndChoice, Comment, Config, Bool as BoolWord, Text, Int, Prompt, DefBool, Default, Depends, Select, Help, DashedHelp}

unfoldable pub block_word : List ℕ → Option Keyword
block_word word =
    if is_text word (codes "config") || is_text word (codes "menuconfig") then Some Config else
    if is_text word (codes "source") then Some Source else
    if is_text word (codes "if") then Some If else
    if is_text word (codes "endif") then Some EndIf else
    if is_text word (codes "menu") then Some Menu else
    if is_text word (codes "endmenu") then Some EndMenu else
    if is_text word (codes "choice") then Some Choice else
    if is_text word (codes "endchoice") then Some EndChoice else
    if is_text word (codes "comment") then Some Comment else
    if is_text word (codes "mainmenu") then Some MainMenu else None

unfoldable pub type_word : List ℕ → Option Keyword
type_word word =
    if is_text word (codes "bool") then Some BoolWord else
    if is_text word (codes "string") then Some Text else
    if is_text word (codes "int") then Some Int else None

unfoldable pub attribute_word : List ℕ → Option Keyword
attribute_word word =
    if is_text word (codes "depends") then Some Depends else
    if is_text word (codes "select") then Some Select else
    if is_text word (codes "default") then Some Default else
    if is_text word (codes "help") then Some Help else
    if is_text word (codes "---help---") then Some DashedHelp else
    if is_text word (codes "prompt") then Some Prompt else
    if is_text word (codes "def_bool") then Some DefBool else None

-- what a word says at the front of a line
unfoldable pub keyword : List ℕ → Option Keyword
keyword word = option_or (block_word word) (option_or (type_word word) (attribute_word word))
