-- The values of a package's variables, and the lines that they have.
use Rattle.std.specs.Prelude.{ℕ, ◌+◌, nat_le, List, [], ◌∷◌, ◌++◌, length, Result, Ok, Err, codes, if◌then◌else◌}
use Rattle.mk_expand.specs.declared.locals.Local.{Local}
use Rattle.mk_expand.specs.declared.fault.ExpandFault.{ExpandFault}
use Rattle.mk_expand.specs.declared.fault.ExpandFault.TheVariants.{TooCostly}
use Rattle.mk_expand.specs.Words.{words}
use Rattle.mk_expand.specs.Vars.{Table, found}
use Rattle.mk_expand.specs.Reference.{reference_answer}
use Rattle.plan_rows.specs.declared.rows.CommandLine.{CommandLine}
use Rattle.recipe_set.specs.declared.packages.Made.{Made}
use Rattle.recipe_set.specs.declared.fault.PlanFault.{PlanFault}
use Rattle.recipe_set.specs.declared.fault.PlanFault.TheVariants.{Expand}
use Rattle.recipe_plan.specs.Answers.{◌>>=◌, in_turn}
use Rattle.recipe_plan.specs.Lines.{command_lines}

-- the folder that a package is built in
abbrev pub build_folder : Made → List ℕ
build_folder made = codes "/output/build/" ++ made.name

-- `@D` stands for it in the texts of the package
abbrev pub locals_of : Made → List Local
locals_of made = record { name = codes "@D"; bytes = build_folder made } ∷ []

-- a fault of an expansion names the package and the variable
abbrev pub of_variable : Made → List ℕ → Result (List ℕ) ExpandFault → Result (List ℕ) PlanFault
of_variable made variable (Ok text) = Ok text
of_variable made variable (Err fault) = Err (Expand made.name variable fault)

-- the value of a variable of a package
abbrev pub value : Table → Made → List ℕ → Result (List ℕ) PlanFault
value vars made variable = of_variable made variable (reference_answer (found vars) (locals_of made) variable)

-- lines, and how many bytes the texts of the task have up to their end
abbrev pub Texts : Type 0
Texts = List CommandLine × ℕ

-- the most bytes that the texts of one task may have
abbrev pub text_limit : ℕ
text_limit = 262144

-- the lines of a variable's text after others; a text that passes the limit is at fault
abbrev pub put_text : Made → List ℕ → Texts → List ℕ → Result Texts PlanFault
put_text made variable texts text =
    if nat_le (texts.1 + length text) text_limit then Ok (texts.0 ++ command_lines text, texts.1 + length text) else Err (Expand made.name variable TooCostly)

-- the lines of a variable's value after others
abbrev pub put_variable : Table → Made → Texts → List ℕ → Result Texts PlanFault
put_variable vars made texts variable = value vars made variable >>= λ text. put_text made variable texts text

-- the lines of the hooks that a variable names, after texts of so many bytes
abbrev pub hooks : Table → Made → ℕ → List ℕ → Result Texts PlanFault
hooks vars made bytes variable = value vars made variable >>= λ names. in_turn (put_variable vars made) ([], bytes) (words names)
