-- The grammar of recipes: conditions and definitions matched as brackets, and each line of one row.
use Rattle.std.specs.Prelude.{◌≡◌, ℕ, Bool, true, false, Some, None, Err, List, [], ◌∷◌, ◌++◌, map, All}
use Rattle.std.specs.List.{join_with_byte}
use Rattle.mk_syntax.specs.declared.lines.Line.{Line}
use Rattle.mk_syntax.specs.declared.recipe.Statement.{Statement}
use Rattle.mk_syntax.specs.declared.recipe.What.{What}
use Rattle.mk_syntax.specs.declared.recipe.Test.{Test}
use Rattle.mk_syntax.specs.declared.recipe.What.TheVariants.{Set, Define, If, ElseIf, Else, EndIf, Make}
use Rattle.mk_syntax.specs.declared.fault.MkError.{MkError}
use Rattle.mk_syntax.specs.declared.fault.MkError.TheVariants.{Fault, Memory}
use Rattle.mk_syntax.specs.declared.fault.MkFault.{MkFault}
use Rattle.mk_syntax.specs.declared.row.Row.TheVariants.{Nothing, Says, Opens}
use Rattle.mk_syntax.specs.declared.row.Inside.TheVariants.{Text, Ends}
use Rattle.mk_syntax.specs.declared.unfinished.Condition.{Condition}
use Rattle.mk_syntax.specs.declared.reader.Reader.{Reader}
use Rattle.mk_syntax.specs.Row.{row_of, inside_of}
use Rattle.mk_syntax.specs.Reading.{next, left_open}

-- a statement that begins at a line
abbrev pub at_line : Line → What → Statement
at_line line what = record { line = line.number; what = what }

-- a statement that is no part of a condition
abbrev pub IsPlain : What → Type 0
IsPlain (Set name how text) = Unit {0}
IsPlain (Define name text) = Unit {0}
IsPlain (Make host) = Unit {0}
IsPlain (If test) = ⊥
IsPlain (ElseIf test) = ⊥
IsPlain Else = ⊥
IsPlain EndIf = ⊥

-- a line of a `define` that is text
abbrev pub IsText : Line → Type 0
IsText line = inside_of line.bytes ≡ Text

-- the lines of a `define`, with newlines between them
abbrev pub lines_text : List Line → List ℕ
lines_text body = join_with_byte 10 (map (λ line. line.bytes) body)

mutual
  -- a block is nothing, or a block and after it a line without effect, a plain statement, a definition or a condition
  pub data IsBlock : List Line → List Statement → Type 0 where
    nothing : IsBlock [] []
    blank : (front : List Line) (line : Line) {statements : List Statement} → IsBlock front statements → row_of line.bytes ≡ Nothing → IsBlock (front ++ line ∷ []) statements
    plain : (front : List Line) (line : Line) (statements : List Statement) (what : What) → IsBlock front statements → row_of line.bytes ≡ Says what → IsPlain what → IsBlock (front ++ line ∷ []) (statements ++ at_line line what ∷ [])
    defined : (front : List Line) (line : Line) (body : List Line) (end : Line) (statements : List Statement) (name : List ℕ) → IsBlock front statements → row_of line.bytes ≡ Opens name → All IsText body → inside_of end.bytes ≡ Ends → IsBlock ((front ++ line ∷ body) ++ end ∷ []) (statements ++ at_line line (Define name (lines_text body)) ∷ [])
    conditional : (front part : List Line) (end : Line) (statements inner : List Statement) {number : ℕ} {past_else : Bool} → IsBlock front statements → IsBranches number past_else part inner → row_of end.bytes ≡ Says EndIf → IsBlock ((front ++ part) ++ end ∷ []) ((statements ++ inner) ++ at_line end EndIf ∷ [])

  -- the branches of a condition up to its `endif`: where it begins, and whether it has had a plain `else`
  pub data IsBranches : ℕ → Bool → List Line → List Statement → Type 0 where
    first : (line : Line) (block : List Line) (test : Test) (statements : List Statement) → row_of line.bytes ≡ Says (If test) → IsBlock block statements → IsBranches line.number false (line ∷ block) (at_line line (If test) ∷ statements)
    further : {number : ℕ} (part : List Line) (line : Line) (block : List Line) (before : List Statement) (test : Test) (statements : List Statement) → IsBranches number false part before → row_of line.bytes ≡ Says (ElseIf test) → IsBlock block statements → IsBranches number false (part ++ line ∷ block) (before ++ at_line line (ElseIf test) ∷ statements)
    last : {number : ℕ} (part : List Line) (line : Line) (block : List Line) (before : List Statement) (statements : List Statement) → IsBranches number false part before → row_of line.bytes ≡ Says Else → IsBlock block statements → IsBranches number true (part ++ line ∷ block) (before ++ at_line line Else ∷ statements)

-- a recipe is a block
abbrev pub IsRecipeOf : List Line → List Statement → Type 0
IsRecipeOf = IsBlock

-- how a recipe may begin, outside `define`: a block, and after it branches of conditions that stand open, innermost first
pub data IsBeginning : List Line → List Statement → List Condition → Type 0 where
  whole : {front : List Line} {statements : List Statement} → IsBlock front statements → IsBeginning front statements []
  branching : (front part : List Line) (statements branches : List Statement) {conditions : List Condition} {number : ℕ} {past_else : Bool} → IsBeginning front statements conditions → IsBranches number past_else part branches → IsBeginning (front ++ part) (statements ++ branches) (record { line = number; past_else = past_else } ∷ conditions)

-- lines with which a recipe may begin, and what they leave open
pub data Leaves : List Line → Reader → Type 0 where
  undefined : {front : List Line} {statements : List Statement} {conditions : List Condition} → IsBeginning front statements conditions → Leaves front (record { statements = statements; conditions = conditions; definition = None })
  defining : (front : List Line) (line : Line) (body : List Line) {name : List ℕ} {statements : List Statement} {conditions : List Condition} → IsBeginning front statements conditions → row_of line.bytes ≡ Opens name → All IsText body → Leaves (front ++ line ∷ body) (record { statements = statements; conditions = conditions; definition = Some (record { line = line.number; name = name; body = map (λ text. text.bytes) body }) })

-- the first fault: of the first line that nothing allows after those before it, or else of what the end leaves open
pub data IsFirstFault (lines : List Line) (fault : MkFault) : Type 0 where
  at_a_line : (front : List Line) (line : Line) (back : List Line) (reader : Reader) → lines ≡ front ++ line ∷ back → Leaves front reader → next reader line ≡ Err fault → IsFirstFault lines fault
  at_the_end : (reader : Reader) → Leaves lines reader → left_open reader.conditions reader.definition ≡ Some fault → IsFirstFault lines fault

-- why a recipe isn't read: its first fault, or out of memory
abbrev pub IsErrorOf : List Line → MkError → Type 0
IsErrorOf lines (Fault fault) = IsFirstFault lines fault
IsErrorOf lines Memory = Unit {0}
