-- sed.
use Rattle.std.specs.Prelude.{ℕ, Bool, true, false, ◌&&◌, ◌||◌, nat_eq, nat_lt, List, [], ◌∷◌, ◌++◌, length, codes, Option, Some, None, ok_or, Result, Ok, Err, if◌then◌else◌}
use Rattle.std.specs.List.{starts_with}
use Rattle.std.specs.Option.{option_and_then, option_or}
use Rattle.br_path.specs.Path.{Names}
use Rattle.br_path.specs.Text.{is_text}
use Rattle.br_path.specs.Files.{FileMap}
use Rattle.opt_table.specs.declared.fault.OptFault.{OptFault}
use Rattle.opt_table.specs.Given.{Read, has, value_of}
use Rattle.opt_table.specs.Reading.{options_of}
use Rattle.opt_table.specs.Table.{rows_of}
use Rattle.tree_ops.specs.declared.change.ChangeFault.TheVariants.{Absent, IsDir}
use Rattle.tree_ops.specs.Change.{MakeFile, Remove}
use Rattle.tree_worlds.specs.Program.{Program, Done, Refuse, Look, ◌>>=◌}
use Rattle.tree_worlds.specs.declared.operand.Operand.{Operand}
use Rattle.tree_worlds.specs.declared.reason.Reason.{Reason}
use Rattle.tree_worlds.specs.declared.reason.Reason.TheVariants.{Syntax, Operand as no_operand, Option as no_option, Change as for_change}
use Rattle.sh_places.specs.declared.spot.Spot.{Spot}
use Rattle.sh_places.specs.declared.kind.Kind.{Kind}
use Rattle.sh_places.specs.declared.kind.Kind.TheVariants.{Dir, Link, File}
use Rattle.sh_places.specs.Looks.{kind_at, bytes_at, mode_at}
use Rattle.sh_places.specs.Parts.{attempt, choose, each, act_in, read, resolve, find}
use Rattle.sh_words.specs.declared.line.Redirect.{Redirect}
use Rattle.sh_text.specs.declared.script.Script.{Script}
use Rattle.sh_text.specs.Scripts.{script_of}
use Rattle.sh_text.specs.Editing.{edited_text}
use Rattle.sh_text.specs.Redirection.{open_into, put_output}

-- 1. The options: `i`, and `e` with a value.

-- a word longer than `-i` that begins so
abbrev pub is_suffixed : List ℕ → Bool
is_suffixed word = starts_with nat_eq word (codes "-i") && nat_lt 2 (length word)

-- such a word stands before `--`, and isn't the value of an `e` that ends the word before it
abbrev pub has_suffix : Bool → Names → Bool
has_suffix waiting [] = false
has_suffix true (word ∷ words) = has_suffix false words
has_suffix false (word ∷ words) = if is_text word (codes "--") then false else is_suffixed word || has_suffix (is_text word (codes "-e")) words

abbrev pub or_option : Result Read OptFault → Result Read Reason
or_option (Ok read) = Ok read
or_option (Err fault) = Err no_option

abbrev pub options : Names → Result Read Reason
options words = if has_suffix false words then Err no_option else or_option (options_of (rows_of (codes "i") (codes "e")) words)

-- 2. The script, which is the value of `e` or the first operand, and the files.

abbrev pub first : Names → Option (List ℕ)
first [] = None
first (word ∷ words) = Some word

abbrev pub behind : Names → Names
behind [] = []
behind (word ∷ words) = words

abbrev pub files_by : Option (List ℕ) → Names → Names
files_by None operands = behind operands
files_by (Some script) operands = operands

abbrev pub file_words : Read → Names
file_words read = files_by (value_of read 101) read.operands

abbrev pub script_word : Read → Option (List ℕ)
script_word read = option_or (value_of read 101) (first read.operands)

-- the script, where files are named
abbrev pub script_before : Names → Option Script → Result Script Reason
script_before [] script = Err no_operand
script_before (file ∷ files) script = ok_or script no_operand

abbrev pub script_for : Read → Result Script Reason
script_for read = script_before (file_words read) (option_and_then script_of (script_word read))

-- 3. Files.

-- the edited text of a file, followed
abbrev pub edited_at : Script → List ℕ → Option Kind → Program (List ℕ)
edited_at script bytes None = Refuse (for_change Absent)
edited_at script bytes (Some Link) = Refuse (for_change Absent)
edited_at script bytes (Some (Dir mode)) = Refuse (for_change IsDir)
edited_at script bytes (Some (File label)) = Done (edited_text script bytes)

abbrev pub edited_file : FileMap → Script → List ℕ → Program (List ℕ)
edited_file files script word = find files word true >>= λ place. Look >>= λ world. edited_at script (bytes_at world files place) (kind_at world files place)

-- the edited texts of files, joined after an output
abbrev pub edited_files : FileMap → Script → List ℕ → Names → Program (List ℕ)
edited_files files script output [] = Done output
edited_files files script output (word ∷ words) = edited_file files script word >>= λ text. edited_files files script (output ++ text) words

-- a new file in the place of what stands there
abbrev pub replace : Spot → ℕ → List ℕ → Program (Unit {0})
replace place mode text = act_in place.site (Remove place.path) >>= λ _. act_in place.site (MakeFile place.path mode text)

-- a file read following, and a new one with its mode at the name itself, unfollowed
abbrev pub edit_operand : FileMap → Script → Operand → Program (Unit {0})
edit_operand files script operand =
    resolve operand true >>= λ source.
    Look >>= λ world.
    edited_at script (bytes_at world files source) (kind_at world files source) >>= λ text.
    resolve operand false >>= λ place.
    replace place (mode_at world source) text

abbrev pub edit_file : FileMap → Script → List ℕ → Program (Unit {0})
edit_file files script word = read files word >>= edit_operand files script

-- 4. sed: with `i` file by file in place, and without a target; else the edited texts are the output.

abbrev pub edit_all : FileMap → Read → Program (Unit {0})
edit_all files read = attempt (script_for read) >>= λ script. each (edit_file files script) (file_words read)

abbrev pub sed_in_place : FileMap → Option Redirect → Read → Program (Unit {0})
sed_in_place files None read = edit_all files read
sed_in_place files (Some target) read = Refuse Syntax

abbrev pub put_edited : FileMap → Option Spot → Read → Program (Unit {0})
put_edited files place read =
    attempt (script_for read) >>= λ script. edited_files files script [] (file_words read) >>= λ output. put_output place output

abbrev pub sed_through : FileMap → Option Redirect → Read → Program (Unit {0})
sed_through files into read = open_into files into >>= λ place. put_edited files place read

abbrev pub sed_with : FileMap → Option Redirect → Read → Program (Unit {0})
sed_with files into read = choose (has read 105) (sed_in_place files into read) (sed_through files into read)

abbrev pub sed : FileMap → Option Redirect → Names → Program (Unit {0})
sed files into words = attempt (options words) >>= λ read. sed_with files into read
