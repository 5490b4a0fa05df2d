-- printf and echo: what they put out.
use Rattle.std.specs.Prelude.{ℕ, Bool, ◌||◌, List, [], ◌∷◌, ◌++◌, option_map, ok_or, Result, Ok, Err, codes, if◌then◌else◌}
use Rattle.br_path.specs.Path.{Names}
use Rattle.br_path.specs.Text.{is_text}
use Rattle.tree_worlds.specs.declared.reason.Reason.{Reason}
use Rattle.tree_worlds.specs.declared.reason.Reason.TheVariants.{Operand as no_operand, Option as no_option}
use Rattle.sh_text.specs.Formats.{format_of, put_out}

-- what a command puts out, or why it fails
abbrev pub Output : Type 0
Output = Result (List ℕ) Reason

-- 1. printf.

-- a first word `--` is dropped
abbrev pub without_end : Names → Names
without_end [] = []
without_end (word ∷ words) = if is_text word (codes "--") then words else word ∷ words

-- the first word is the format, the others are for it
abbrev pub put_by_first : Names → Output
put_by_first [] = Err no_operand
put_by_first (format ∷ words) = ok_or (option_map (λ parts. put_out parts words) (format_of format)) no_operand

abbrev pub printed : Names → Output
printed words = put_by_first (without_end words)

-- 2. echo.

-- words, a gap before the first and a blank before each other
abbrev pub row_behind : List ℕ → Names → List ℕ
row_behind gap [] = []
row_behind gap (word ∷ words) = gap ++ (word ++ row_behind (32 ∷ []) words)

-- words with a blank between two
abbrev pub row : Names → List ℕ
row words = row_behind [] words

abbrev pub line : Names → List ℕ
line words = row words ++ 10 ∷ []

abbrev pub is_refused : List ℕ → Bool
is_refused word = is_text word (codes "-e") || is_text word (codes "-E")

-- a first word `-n` is dropped with the newline; `-e` and `-E` are no words to begin with
abbrev pub echoed : Names → Output
echoed [] = Ok (line [])
echoed (word ∷ words) =
    if is_refused word then Err no_option else
    if is_text word (codes "-n") then Ok (row words) else Ok (line (word ∷ words))
