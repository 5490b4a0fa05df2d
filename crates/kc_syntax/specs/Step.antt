-- What each line does, and where it may not stand.
use Rattle.std.specs.Prelude.{ℕ, ◌+◌, ◌-◌, slice_get, Bool, true, false, ◌&&◌, ◌==◌, not, nat_lt, List, [], ◌∷◌, ◌++◌, length, Option, Some, None, Result, Ok, Err, codes, if◌then◌else◌}
use Rattle.std.specs.Option.{option_map, option_map_or, is_some}
use Rattle.br_path.specs.Path.{Names}
use Rattle.br_path.specs.Text.{is_text}
use Rattle.kc_values.specs.declared.kind.Kind.{Kind}
use Rattle.kc_values.specs.declared.kind.Kind.TheVariants as kind
use Rattle.kc_expr.specs.declared.expr.Atom.{Atom}
use Rattle.kc_expr.specs.declared.expr.Atom.TheVariants.{Word}
use Rattle.kc_expr.specs.declared.expr.Expr.{Expr, Holds}
use Rattle.kc_rows.specs.Row.{is_symbol}
use Rattle.kc_rows.specs.declared.row.Row.{Row}
use Rattle.kc_rows.specs.declared.row.Row.TheVariants.{MainMenu, Source, Menu, EndMenu, If, EndIf, Choice, EndChoice, Comment, Config, Typed, Prompt, DefBool, Default, Depends, Select, Help, DashedHelp}
use Rattle.kc_syntax.specs.declared.block.Block.{Block}
use Rattle.kc_syntax.specs.declared.block.Block.TheVariants as block
use Rattle.kc_syntax.specs.declared.block.Open.{Open}
use Rattle.kc_syntax.specs.declared.block.Owner.{Owner}
use Rattle.kc_syntax.specs.declared.block.Owner.TheVariants as owner
use Rattle.kc_syntax.specs.declared.draft.Draft.{Draft}
use Rattle.kc_syntax.specs.declared.error.KcFault.{KcFault}
use Rattle.kc_syntax.specs.declared.error.KcKind.{KcKind}
use Rattle.kc_syntax.specs.declared.error.KcKind.TheVariants.{BadLine, OpenBlock, TwoTypes, TooMany}
use Rattle.kc_syntax.specs.declared.reader.Known.{Known}
use Rattle.kc_syntax.specs.Events.{Event, row_at, source_at, file_begins, file_ends, fault_at}
use Rattle.kc_syntax.specs.State.{State, is_full, enclosing_choice, conditions_of, outer_of, is_file, first_line, known, with_prompt, with_default, with_select, with_depends, with_choice_prompt, with_choice_default, with_choice_depends, with_condition, with_block, with_choice, with_symbol, with_known}

-- what is known after a line, or its fault
abbrev pub Outcome : Type 0
Outcome = Result State KcFault

abbrev pub refused : Names → ℕ → KcKind → Outcome
refused file line fault = Err (record { file = file; line = line; kind = fault })

abbrev pub then_do : Outcome → (State → State) → Outcome
then_do (Ok s) f = Ok (f s)
then_do (Err fault) f = Err fault

-- a line that may not stand in a choice
abbrev pub out_of_choice : State → Names → ℕ → Outcome → Outcome
out_of_choice s file line outcome = if is_some (enclosing_choice s.blocks) then refused file line BadLine else outcome

-- a block begins, unless 64 are open
abbrev pub begin_block : State → Names → ℕ → Block → Option ℕ → List Expr → Owner → Outcome
begin_block s file line kind choice conditions takes =
    if is_full s.blocks then refused file line BadLine
    else Ok (record (with_block kind line choice conditions s) { owner = takes })

abbrev pub main_menu : State → Names → ℕ → Outcome
main_menu s file line = out_of_choice s file line (Ok (record s { owner = owner.Nobody }))

abbrev pub begin_menu : State → Names → ℕ → Outcome
begin_menu s file line = out_of_choice s file line (begin_block s file line block.Menu (enclosing_choice s.blocks) [] owner.Menu)

abbrev pub begin_if : State → Expr → Names → ℕ → Outcome
begin_if s e file line = begin_block s file line block.If (enclosing_choice s.blocks) (e ∷ []) owner.Nobody

abbrev pub begin_choice : State → Names → ℕ → Outcome
begin_choice s file line =
    out_of_choice s file line (begin_block (with_choice s) file line block.Choice (Some (length s.choices)) [] owner.Choice)

abbrev pub same_block : Block → Block → Bool
same_block block.Menu block.Menu = true
same_block block.If block.If = true
same_block block.Choice block.Choice = true
same_block block.File block.File = true
same_block _ _ = false

-- the innermost block is of this kind
abbrev pub is_inside : List Open → Block → Bool
is_inside [] kind = false
is_inside (inner ∷ outer) kind = same_block inner.block kind

-- an end closes the innermost block of its file, which is of its kind
abbrev pub end_block : State → Names → ℕ → Block → Outcome
end_block s file line kind =
    if is_inside s.blocks kind then Ok (record s { blocks = outer_of s.blocks; owner = owner.Nobody }) else refused file line OpenBlock

abbrev pub same_place : Option ℕ → Option ℕ → Bool
same_place None None = true
same_place (Some place) (Some other) = place == other
same_place _ _ = false

-- a symbol with an entry inside a choice has all its entries inside that one
abbrev pub may_stand : State → List ℕ → Bool
may_stand s symbol = option_map_or (λ k. same_place k.choice (enclosing_choice s.blocks)) (known s.symbols symbol) true

-- one entry more, with the conditions of the blocks round it
abbrev pub with_entry : List ℕ → Names → ℕ → State → State
with_entry symbol file line s = record s {
  entries = s.entries ++ record { symbol = symbol; file = file; line = line; prompts = []; defaults = []; selects = []; depends = conditions_of s.blocks; choice = enclosing_choice s.blocks } ∷ [];
  owner = owner.Entry;
}

-- `config`: an entry begins
abbrev pub begin_entry : State → List ℕ → Names → ℕ → Outcome
begin_entry s symbol file line =
    if not (may_stand s symbol) then refused file line BadLine else
    if nat_lt (length s.entries) 65536 then Ok (with_entry symbol file line (with_symbol symbol s)) else refused file line TooMany

abbrev pub same_kind : Kind → Kind → Bool
same_kind kind.Bool kind.Bool = true
same_kind kind.Text kind.Text = true
same_kind kind.Int kind.Int = true
same_kind _ _ = false

-- the symbol has the type, or none yet
abbrev pub may_have : Kind → Option Kind → Bool
may_have type found = option_map_or (λ other. same_kind other type) found true

-- a symbol gets a type: a member of a choice is a bool, and a second type is the first
abbrev pub typed_as : State → List ℕ → Kind → Names → ℕ → Option Known → Outcome
typed_as s symbol type file line None = Ok s
typed_as s symbol type file line (Some k) =
    if is_some k.choice && not (same_kind type kind.Bool) then refused file line BadLine else
    if may_have type k.kind then Ok (with_known symbol (record { kind = Some type; choice = k.choice }) s) else refused file line TwoTypes

-- the symbol of the last entry
abbrev pub last_symbol : List Draft → Option (List ℕ)
last_symbol entries = option_map (λ entry. entry.symbol) (slice_get entries (length entries - 1))

-- the last entry's symbol gets a type
abbrev pub type_entry : State → Kind → Names → ℕ → Outcome
type_entry s type file line =
    option_map_or (λ symbol. typed_as s symbol type file line (known s.symbols symbol)) (last_symbol s.entries) (Ok s)

abbrev pub with_some_prompt : Option Expr → State → State
with_some_prompt prompt s = option_map_or (λ e. with_prompt e s) prompt s

abbrev pub with_some_choice_prompt : Option Expr → State → State
with_some_choice_prompt prompt s = option_map_or (λ e. with_choice_prompt e s) prompt s

abbrev pub choice_type : State → Kind → Option Expr → Names → ℕ → Outcome
choice_type s type prompt file line =
    if same_kind type kind.Bool then Ok (with_some_choice_prompt prompt s) else refused file line BadLine

-- `bool`, `string` or `int`, perhaps with a prompt; a choice is a `bool`
abbrev pub type_line : State → Kind → Option Expr → Names → ℕ → Owner → Outcome
type_line s type prompt file line owner.Entry = then_do (type_entry s type file line) (with_some_prompt prompt)
type_line s type prompt file line owner.Choice = choice_type s type prompt file line
type_line s type prompt file line owner.Menu = refused file line BadLine
type_line s type prompt file line owner.Comment = refused file line BadLine
type_line s type prompt file line owner.Nobody = refused file line BadLine

-- `prompt`
abbrev pub prompt_line : State → Expr → Names → ℕ → Owner → Outcome
prompt_line s e file line owner.Entry = Ok (with_prompt e s)
prompt_line s e file line owner.Choice = Ok (with_choice_prompt e s)
prompt_line s e file line owner.Menu = refused file line BadLine
prompt_line s e file line owner.Comment = refused file line BadLine
prompt_line s e file line owner.Nobody = refused file line BadLine

abbrev pub entry_def_bool : State → Expr → Expr → Names → ℕ → Outcome
entry_def_bool s value condition file line =
    then_do (type_entry s kind.Bool file line) (with_default (record { value = value; single = false; condition = condition; file = file; line = line }))

-- `def_bool`
abbrev pub def_bool_line : State → Expr → Expr → Names → ℕ → Owner → Outcome
def_bool_line s value condition file line owner.Entry = entry_def_bool s value condition file line
def_bool_line s value condition file line owner.Choice = refused file line BadLine
def_bool_line s value condition file line owner.Menu = refused file line BadLine
def_bool_line s value condition file line owner.Comment = refused file line BadLine
def_bool_line s value condition file line owner.Nobody = refused file line BadLine

-- the word that a value is
abbrev pub word_of : Expr → Option (List ℕ)
word_of (Holds (Word word)) = Some word
word_of _ = None

-- the bare word `m`, which may be the name of a symbol, and stands in no expression
abbrev pub is_m : Expr → Bool
is_m value = option_map_or (λ word. is_text word (codes "m")) (word_of value) false

-- the symbol that a value is which has no brackets round it
abbrev pub symbol_of : Expr → Bool → Option (List ℕ)
symbol_of value single =
    option_map_or (λ word. if single && is_symbol word then Some word else None) (word_of value) None

abbrev pub entry_default : State → Expr → Bool → Expr → Names → ℕ → Outcome
entry_default s value single condition file line =
    if is_m value then refused file line BadLine
    else Ok (with_default (record { value = value; single = single; condition = condition; file = file; line = line }) s)

abbrev pub choice_default : State → Expr → Bool → Expr → Names → ℕ → Outcome
choice_default s value single condition file line =
    option_map_or (λ symbol. Ok (with_choice_default (record { symbol = symbol; condition = condition }) s)) (symbol_of value single) (refused file line BadLine)

-- `default`: an entry has a value, a choice has a symbol
abbrev pub default_line : State → Expr → Bool → Expr → Names → ℕ → Owner → Outcome
default_line s value single condition file line owner.Entry = entry_default s value single condition file line
default_line s value single condition file line owner.Choice = choice_default s value single condition file line
default_line s value single condition file line owner.Menu = refused file line BadLine
default_line s value single condition file line owner.Comment = refused file line BadLine
default_line s value single condition file line owner.Nobody = refused file line BadLine

-- `depends on`: that of a menu or choice holds for all that stands in it, that of a comment for nothing
abbrev pub depends_line : State → Expr → Names → ℕ → Owner → Outcome
depends_line s e file line owner.Entry = Ok (with_depends e s)
depends_line s e file line owner.Choice = Ok (with_condition e (with_choice_depends e s))
depends_line s e file line owner.Menu = Ok (with_condition e s)
depends_line s e file line owner.Comment = Ok s
depends_line s e file line owner.Nobody = refused file line BadLine

-- `select`
abbrev pub select_line : State → List ℕ → Expr → Names → ℕ → Owner → Outcome
select_line s symbol e file line owner.Entry = Ok (with_select (record { symbol = symbol; condition = e }) s)
select_line s symbol e file line owner.Choice = refused file line BadLine
select_line s symbol e file line owner.Menu = refused file line BadLine
select_line s symbol e file line owner.Comment = refused file line BadLine
select_line s symbol e file line owner.Nobody = refused file line BadLine

-- `help`
abbrev pub help_line : State → Names → ℕ → Owner → Outcome
help_line s file line owner.Entry = Ok s
help_line s file line owner.Choice = Ok s
help_line s file line owner.Menu = refused file line BadLine
help_line s file line owner.Comment = refused file line BadLine
help_line s file line owner.Nobody = refused file line BadLine

-- `---help---`
abbrev pub dashed_help_line : State → Names → ℕ → Owner → Outcome
dashed_help_line s file line owner.Entry = Ok s
dashed_help_line s file line owner.Choice = refused file line BadLine
dashed_help_line s file line owner.Menu = refused file line BadLine
dashed_help_line s file line owner.Comment = refused file line BadLine
dashed_help_line s file line owner.Nobody = refused file line BadLine

-- a line by its row; a source line is none here, since its file stands in its place
abbrev pub row_step : State → Names → ℕ → Row → Outcome
row_step s file line MainMenu = main_menu s file line
row_step s file line (Source path) = Ok s
row_step s file line Menu = begin_menu s file line
row_step s file line EndMenu = end_block s file line block.Menu
row_step s file line (If e) = begin_if s e file line
row_step s file line EndIf = end_block s file line block.If
row_step s file line Choice = begin_choice s file line
row_step s file line EndChoice = end_block s file line block.Choice
row_step s file line Comment = Ok (record s { owner = owner.Comment })
row_step s file line (Config symbol) = begin_entry s symbol file line
row_step s file line (Typed type prompt) = type_line s type prompt file line s.owner
row_step s file line (Prompt e) = prompt_line s e file line s.owner
row_step s file line (DefBool value condition) = def_bool_line s value condition file line s.owner
row_step s file line (Default value single condition) = default_line s value single condition file line s.owner
row_step s file line (Depends e) = depends_line s e file line s.owner
row_step s file line (Select symbol e) = select_line s symbol e file line s.owner
row_step s file line Help = help_line s file line s.owner
row_step s file line DashedHelp = dashed_help_line s file line s.owner

-- a source line is counted, and ends the attribute lines before it
abbrev pub source_step : State → Names → ℕ → Outcome
source_step s file line =
    if nat_lt s.sources 65536 then Ok (record s { owner = owner.Nobody; sources = s.sources + 1 }) else refused file line TooMany

-- a file begins, and counts as a block
abbrev pub enter_file : State → State
enter_file s = with_block block.File 0 (enclosing_choice s.blocks) [] s

-- a file ends, in which all blocks are closed
abbrev pub leave_file : State → Names → List Open → Outcome
leave_file s file [] = refused file 0 OpenBlock
leave_file s file (inner ∷ outer) =
    if is_file inner.block then Ok (record s { blocks = outer }) else refused file (first_line inner.line outer) OpenBlock

-- what is met does this
unfoldable pub step : State → Event → Outcome
step s (row_at file line row) = row_step s file line row
step s (source_at file line) = source_step s file line
step s file_begins = Ok (enter_file s)
step s (file_ends file) = leave_file s file s.blocks
step s (fault_at file line fault) = refused file line fault
