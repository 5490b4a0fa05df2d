-- The rows of the table of lines. Each function here is given the parts after a line's first word.
use Rattle.std.specs.Prelude.{ℕ, ◌+◌, Bool, ◌==◌, ◌&&◌, nat_lt, List, [], ◌∷◌, length, Option, Some, None, codes, if◌then◌else◌}
use Rattle.std.specs.Option.{option_map}
use Rattle.std.specs.List.{list_all}
use Rattle.kc_text.specs.Bytes as byte_is
use Rattle.br_path.specs.Text.{is_text}
use Rattle.kc_text.specs.declared.part.Part.{Part}
use Rattle.kc_text.specs.declared.part.Part.TheVariants.{Word as WordPart, Quoted as QuotedPart}
use Rattle.kc_expr.specs.Read.{expression, given}
use Rattle.kc_values.specs.declared.kind.Kind.{Kind}
use Rattle.kc_values.specs.declared.kind.Kind.TheVariants.{Bool as BoolKind, Text as TextKind, Int as IntKind}
use Rattle.kc_expr.specs.declared.expr.Atom.TheVariants.{Word}
use Rattle.kc_expr.specs.declared.expr.Expr.{Expr, True, Holds}
use Rattle.kc_rows.specs.Keyword.{keyword}
use Rattle.kc_rows.specs.declared.keyword.Keyword.{Keyword}
use Rattle.kc_rows.specs.declared.keyword.Keyword.TheVariants.{MainMenu as KeyMainMenu, Source as KeySource, Menu as KeyMenu, EndMenu as KeyEndMenu, If as KeyIf, EndIf as KeyEndIf, Choice as KeyChoice, EndChoice as KeyEndChoice, Comment as KeyComment, Config as KeyConfig, Bool as KeyBool, Text as KeyText, Int as KeyInt, Prompt as KeyPrompt, DefBool as KeyDefBool, Default as KeyDefault, Depends as KeyDepends, Select as KeySelect, Help as KeyHelp, DashedHelp as KeyDashedHelp}
use Rattle.kc_rows.specs.declared.row.Row.{Row}
use Rattle.kc_rows.specs.declared.row.Row.TheVariants.{MainMenu, Source, Menu, EndMenu, If, EndIf, Choice, EndChoice, Comment, Config, Typed, Prompt, DefBool, Default, Depends, Select, Help, DashedHelp}

-- what is read, where nothing stands after it
abbrev pub alone : {A : Type 0} → List Part → A → Option A
alone [] found = Some found
alone (part ∷ parts) found = None

-- a quoted text
abbrev pub quoted : {A : Type 0} → List Part → A → Option A
quoted (QuotedPart text ∷ rest) found = alone rest found
quoted _ found = None

-- a quoted path
abbrev pub source : List Part → Option Row
source (QuotedPart path ∷ rest) = alone rest (Source path)
source _ = None

-- a condition with nothing after it
unfoldable pub whole : List Part → Option Expr
whole parts = given (expression parts) None (λ r. alone r.1 r.0)

-- the parts after a word that is wanted
abbrev pub behind_word : List ℕ → List Part → Option (List Part)
behind_word wanted (WordPart word ∷ rest) = if is_text word wanted then Some rest else None
behind_word wanted _ = None

-- nothing, or `if` and a condition
abbrev pub condition : List Part → Option Expr
condition [] = Some True
condition (part ∷ parts) = given (behind_word (codes "if") (part ∷ parts)) None whole

-- one or more letters, digits and `_`
unfoldable pub is_symbol : List ℕ → Bool
is_symbol word = nat_lt 0 (length word) && list_all byte_is.of_symbol word

-- the name of a symbol, and the parts after it
abbrev pub symbol : List Part → Option (List ℕ × List Part)
symbol (WordPart word ∷ rest) = if is_symbol word then Some (word, rest) else None
symbol _ = None

-- a quoted text, and perhaps a condition
abbrev pub prompted : List Part → Option Expr
prompted (QuotedPart text ∷ rest) = condition rest
prompted _ = None

-- a condition, or the bare word `m`, which no condition has but which may name a symbol
abbrev pub value : List Part → Option (Expr × List Part)
value parts = given (behind_word (codes "m") parts) (expression parts) (λ rest. Some (Holds (Word (codes "m")), rest))

-- a condition
abbrev pub begin_if : List Part → Option Row
begin_if rest = option_map (λ e. If e) (whole rest)

-- the name of a symbol
abbrev pub config : List Part → Option Row
config rest = given (symbol rest) None (λ r. alone r.1 (Config r.0))

-- nothing, or a prompt
abbrev pub typed : Kind → List Part → Option Row
typed kind [] = Some (Typed kind None)
typed kind (part ∷ parts) = option_map (λ e. Typed kind (Some e)) (prompted (part ∷ parts))

-- a quoted text, and perhaps a condition on it
abbrev pub prompt : List Part → Option Row
prompt rest = option_map (λ e. Prompt e) (prompted rest)

-- a condition as the value, and perhaps another on it
abbrev pub def_bool : List Part → Option Row
def_bool rest = given (expression rest) None (λ r. option_map (λ e. DefBool r.0 e) (condition r.1))

-- a value, and perhaps a condition on it
abbrev pub defaulted : List Part → Option Row
defaulted rest =
    given (value rest) None (λ r. option_map (λ e. Default r.0 (length r.1 + 1 == length rest) e) (condition r.1))

-- a condition
abbrev pub depends_on : List Part → Option Row
depends_on rest = option_map (λ e. Depends e) (whole rest)

-- `on` and a condition
abbrev pub depends : List Part → Option Row
depends rest = given (behind_word (codes "on") rest) None depends_on

-- the name of a symbol, and perhaps a condition
abbrev pub select : List Part → Option Row
select rest = given (symbol rest) None (λ r. option_map (λ e. Select r.0 e) (condition r.1))

-- the row that a first word and the parts after it are
unfoldable pub row_behind : Keyword → List Part → Option Row
row_behind KeyMainMenu rest = quoted rest MainMenu
row_behind KeySource rest = source rest
row_behind KeyMenu rest = quoted rest Menu
row_behind KeyEndMenu rest = alone rest EndMenu
row_behind KeyIf rest = begin_if rest
row_behind KeyEndIf rest = alone rest EndIf
row_behind KeyChoice rest = alone rest Choice
row_behind KeyEndChoice rest = alone rest EndChoice
row_behind KeyComment rest = quoted rest Comment
row_behind KeyConfig rest = config rest
row_behind KeyBool rest = typed BoolKind rest
row_behind KeyText rest = typed TextKind rest
row_behind KeyInt rest = typed IntKind rest
row_behind KeyPrompt rest = prompt rest
row_behind KeyDefBool rest = def_bool rest
row_behind KeyDefault rest = defaulted rest
row_behind KeyDepends rest = depends rest
row_behind KeySelect rest = select rest
row_behind KeyHelp rest = alone rest Help
row_behind KeyDashedHelp rest = alone rest DashedHelp

-- a word, and what may stand after it
abbrev pub row_at : List Part → Option Row
row_at (WordPart word ∷ rest) = given (keyword word) None (λ k. row_behind k rest)
row_at _ = None

-- the row of a line; none where it has the form of no row
unfoldable pub row : List Part → Option Row
row parts = row_at parts
