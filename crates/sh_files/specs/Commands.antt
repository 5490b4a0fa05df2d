-- The commands on files, with the letters that each takes.
use Rattle.std.specs.Prelude.{ℕ, Bool, ◌||◌, not, List, [], codes, Result, Ok, Err}
use Rattle.br_path.specs.Path.{Names}
use Rattle.br_path.specs.Text.{is_text}
use Rattle.br_path.specs.Files.{FileMap}
use Rattle.opt_table.specs.Given.{Read, has, value_of}
use Rattle.opt_table.specs.Reading.{options_of}
use Rattle.opt_table.specs.Table.{Rows, rows_of}
use Rattle.opt_table.specs.declared.fault.OptFault.{OptFault}
use Rattle.tree_worlds.specs.Program.{Program, Done, Refuse, ◌>>=◌}
use Rattle.tree_worlds.specs.declared.reason.Reason.{Reason}
use Rattle.tree_worlds.specs.declared.reason.Reason.TheVariants.{NotFound, Option as no_option, False as no_truth}
use Rattle.sh_places.specs.Parts.{attempt, choose}
use Rattle.sh_files.specs.Folders.{mkdir}
use Rattle.sh_files.specs.Install.{install}
use Rattle.sh_files.specs.Copying.{cp}
use Rattle.sh_files.specs.Linking.{ln}
use Rattle.sh_files.specs.Removing.{rm}
use Rattle.sh_files.specs.Moving.{mv}
use Rattle.sh_files.specs.ChangingModes.{chmod}
use Rattle.sh_files.specs.Touching.{touch}
use Rattle.sh_files.specs.declared.copying.Manner.{Manner}

abbrev pub optioned : Result Read OptFault → Result Read Reason
optioned (Err fault) = Err no_option
optioned (Ok read) = Ok read

-- what words say by the rows of a command
abbrev pub read_by : Rows → Names → Result Read Reason
read_by rows words = optioned (options_of rows words)

-- a command by its letters without a value and those with one
abbrev pub with_options : List ℕ → List ℕ → Names → (Read → Program (Unit {0})) → Program (Unit {0})
with_options letters with_value words next = attempt (read_by (rows_of letters with_value) words) >>= next

-- a letter in either of two spellings
abbrev pub either : Read → ℕ → ℕ → Bool
either read letter other = has read letter || has read other

-- `a` is `d`, `r` and `p`; `R` is `r`; sources are followed unless one of `P`, `d`, `r` is given
abbrev pub manner_of : Read → Manner
manner_of read =
    let links = either read 100 97 in
    let folders = either read 114 82 || has read 97 in
    record { links = links; modes = either read 112 97; folders = folders; follow = not (has read 80 || links || folders) }

abbrev pub install_words : FileMap → Names → Program (Unit {0})
install_words files words = with_options (codes "Dcdpv") (codes "mt") words
    (λ read. install files (has read 100) (has read 68) (value_of read 116) (value_of read 109) read.operands)

abbrev pub cp_words : FileMap → Names → Program (Unit {0})
cp_words files words = with_options (codes "PRadfprv") (codes "t") words (λ read. cp files (manner_of read) (value_of read 116) read.operands)

abbrev pub ln_words : FileMap → Names → Program (Unit {0})
ln_words files words = with_options (codes "fnsv") [] words (λ read. ln files (has read 102) (has read 110) (has read 115) read.operands)

abbrev pub mkdir_words : FileMap → Names → Program (Unit {0})
mkdir_words files words = with_options (codes "pv") (codes "m") words (λ read. mkdir files (has read 112) (value_of read 109) read.operands)

abbrev pub rm_words : FileMap → Names → Program (Unit {0})
rm_words files words = with_options (codes "Rfrv") [] words (λ read. rm files (has read 102) (either read 114 82) read.operands)

abbrev pub mv_words : FileMap → Names → Program (Unit {0})
mv_words files words = with_options (codes "fv") [] words (λ read. mv files read.operands)

abbrev pub chmod_words : FileMap → Names → Program (Unit {0})
chmod_words files words = with_options (codes "Rfv") [] words (λ read. chmod files (has read 82) read.operands)

abbrev pub touch_words : FileMap → Names → Program (Unit {0})
touch_words files words = with_options (codes "c") [] words (λ read. touch files (has read 99) read.operands)

-- what a command does with its words
abbrev pub command : FileMap → List ℕ → Names → Program (Unit {0})
command files name words =
    choose (is_text name (codes "install")) (install_words files words) (
    choose (is_text name (codes "cp")) (cp_words files words) (
    choose (is_text name (codes "ln")) (ln_words files words) (
    choose (is_text name (codes "mkdir")) (mkdir_words files words) (
    choose (is_text name (codes "rm")) (rm_words files words) (
    choose (is_text name (codes "mv")) (mv_words files words) (
    choose (is_text name (codes "chmod")) (chmod_words files words) (
    choose (is_text name (codes "touch")) (touch_words files words) (
    choose (is_text name (codes "true")) (Done tt) (
    choose (is_text name (codes "false")) (Refuse no_truth) (
    Refuse NotFound))))))))))
