-- What each line does to what is read so far, and which fault it is.
use Rattle.std.specs.Prelude.{◌≡◌, ℕ, true, false, Option, Some, None, Result, Ok, Err, List, [], ◌∷◌, ◌++◌, if◌then◌else◌}
use Rattle.std.specs.List.{join_with_byte}
use Rattle.mk_syntax.specs.declared.lines.Line.{Line}
use Rattle.mk_syntax.specs.declared.recipe.Statement.{Statement}
use Rattle.mk_syntax.specs.declared.recipe.What.{What}
use Rattle.mk_syntax.specs.declared.recipe.What.TheVariants.{Set, Define, If, ElseIf, Else, EndIf, Make}
use Rattle.mk_syntax.specs.declared.fault.MkError.{MkError}
use Rattle.mk_syntax.specs.declared.fault.MkError.TheVariants.{Fault, Memory}
use Rattle.mk_syntax.specs.declared.fault.MkFault.{MkFault}
use Rattle.mk_syntax.specs.declared.fault.MkKind.{MkKind}
use Rattle.mk_syntax.specs.declared.fault.MkKind.TheVariants.{BadLine, OpenDefine, OpenIf, StrayElse}
use Rattle.mk_syntax.specs.declared.row.Row.{Row}
use Rattle.mk_syntax.specs.declared.row.Row.TheVariants.{Nothing, Says, Opens, Loose, Refused}
use Rattle.mk_syntax.specs.declared.row.Inside.{Inside}
use Rattle.mk_syntax.specs.declared.row.Inside.TheVariants as inside
use Rattle.mk_syntax.specs.declared.unfinished.Condition.{Condition}
use Rattle.mk_syntax.specs.declared.unfinished.Definition.{Definition}
use Rattle.mk_syntax.specs.declared.reader.Reader.{Reader}
use Rattle.mk_syntax.specs.Unfinished.{outermost}
use Rattle.mk_syntax.specs.Row.{row_of, inside_of}

-- a reading goes on or ends in a fault
abbrev pub Run : Type 0
Run = Result Reader MkFault

-- a fault of a line
abbrev pub refused : ℕ → MkKind → Run
refused number kind = Err (record { line = number; kind = kind })

-- a statement after those that are read, where these conditions stand open, innermost first
abbrev pub added : List Statement → List Condition → ℕ → What → Run
added statements conditions number what =
    Ok (record { statements = statements ++ record { line = number; what = what } ∷ []; conditions = conditions; definition = None })

-- `else` with a test: in a condition that has had no plain `else`
abbrev pub else_if : List Statement → List Condition → ℕ → What → Run
else_if statements [] number what = refused number StrayElse
else_if statements (inner ∷ outer) number what =
    if inner.past_else then refused number BadLine else added statements (inner ∷ outer) number what

-- a plain `else`: the first one of its condition
abbrev pub plain_else : List Statement → List Condition → ℕ → Run
plain_else statements [] number = refused number StrayElse
plain_else statements (inner ∷ outer) number =
    if inner.past_else then refused number StrayElse
    else added statements (record { line = inner.line; past_else = true } ∷ outer) number Else

-- `endif`: of the innermost condition
abbrev pub end_if : List Statement → List Condition → ℕ → Run
end_if statements [] number = refused number StrayElse
end_if statements (inner ∷ outer) number = added statements outer number EndIf

-- a statement by its kind
abbrev pub said : List Statement → List Condition → ℕ → What → Run
said statements conditions number (Set name how text) = added statements conditions number (Set name how text)
said statements conditions number (Define name text) = added statements conditions number (Define name text)
said statements conditions number (Make host) = added statements conditions number (Make host)
said statements conditions number (If test) = added statements (record { line = number; past_else = false } ∷ conditions) number (If test)
said statements conditions number (ElseIf test) = else_if statements conditions number (ElseIf test)
said statements conditions number Else = plain_else statements conditions number
said statements conditions number EndIf = end_if statements conditions number

-- a malformed `else` or `endif`
abbrev pub loose : List Condition → ℕ → Run
loose [] number = refused number StrayElse
loose (inner ∷ outer) number = refused number BadLine

-- a line outside `define`
abbrev pub outside : List Statement → List Condition → ℕ → Row → Run
outside statements conditions number Nothing = Ok (record { statements = statements; conditions = conditions; definition = None })
outside statements conditions number (Says what) = said statements conditions number what
outside statements conditions number (Opens name) =
    Ok (record { statements = statements; conditions = conditions; definition = Some (record { line = number; name = name; body = [] }) })
outside statements conditions number Loose = loose conditions number
outside statements conditions number (Refused kind) = refused number kind

-- a line in a `define`
abbrev pub within : List Statement → List Condition → Definition → Line → Inside → Run
within statements conditions definition line inside.Text =
    Ok (record { statements = statements; conditions = conditions; definition = Some (record { line = definition.line; name = definition.name; body = definition.body ++ line.bytes ∷ [] }) })
within statements conditions definition line inside.Ends =
    added statements conditions definition.line (Define definition.name (join_with_byte 10 definition.body))
within statements conditions definition line (inside.Refused kind) = refused line.number kind

-- a line, where a `define` may stand open
abbrev pub next_in : List Statement → List Condition → Line → Option Definition → Run
next_in statements conditions line None = outside statements conditions line.number (row_of line.bytes)
next_in statements conditions line (Some definition) = within statements conditions definition line (inside_of line.bytes)

-- a line
abbrev pub next : Reader → Line → Run
next reader line = next_in reader.statements reader.conditions line reader.definition

-- lines, one after another: the first fault ends it
abbrev pub after : List Line → Run → Run
after [] run = run
after (line ∷ lines) (Ok reader) = after lines (next reader line)
after (line ∷ lines) (Err fault) = Err fault

-- nothing is read yet
abbrev pub start : Reader
start = record { statements = []; conditions = []; definition = None }

-- an open `define` stands inside all open conditions
abbrev pub first_open : Option Condition → Option Definition → Option MkFault
first_open (Some condition) definition = Some (record { line = condition.line; kind = OpenIf })
first_open None (Some definition) = Some (record { line = definition.line; kind = OpenDefine })
first_open None None = None

-- what stands open at the end, by the least line that opens it
abbrev pub left_open : List Condition → Option Definition → Option MkFault
left_open conditions definition = first_open (outermost conditions) definition

-- the end of a recipe
abbrev pub closed : List Statement → Option MkFault → Result (List Statement) MkFault
closed statements None = Ok statements
closed statements (Some fault) = Err fault

-- the end of a reading
abbrev pub finished : Run → Result (List Statement) MkFault
finished (Ok reader) = closed reader.statements (left_open reader.conditions reader.definition)
finished (Err fault) = Err fault

-- what lines are: statements, or the first fault
abbrev pub reading : List Line → Result (List Statement) MkFault
reading lines = finished (after lines (Ok start))

-- a step of the reader is a run's
abbrev pub IsStep : Run → Result Unit MkError → Reader → Type 0
IsStep run (Ok done) reader = run ≡ Ok reader
IsStep run (Err (Fault fault)) reader = run ≡ Err fault
IsStep run (Err Memory) reader = Unit {0}

-- a result is that of a whole reading
abbrev pub IsReading : {A : Type 0} → Result A MkFault → Result A MkError → Type 0
IsReading run (Ok value) = run ≡ Ok value
IsReading run (Err (Fault fault)) = run ≡ Err fault
IsReading run (Err Memory) = Unit {0}
