-- What each line does to the blocks that are open.
use Rattle.std.proofs.Common.{◌≡◌, ℕ, Bool, true, false, List, [], ◌∷◌, ◌++◌, Option, Some, None, Result, Ok, Err, refl, ap, sym, ◌∙◌}
use Rattle.std.specs.Prelude.{nat_lt, not, ◌&&◌, if◌then◌else◌, length}
use Rattle.std.specs.Option.{option_map_or, is_some}
use Rattle.br_path.specs.Path.{Names}
use Rattle.kc_values.specs.declared.kind.Kind.{Kind}
use Rattle.kc_values.specs.declared.kind.Kind.TheVariants as kind
use Rattle.kc_expr.specs.declared.expr.Expr.{Expr}
use Rattle.kc_rows.specs.declared.row.Row.{Row}
use Rattle.kc_rows.specs.declared.row.Row.TheVariants.{MainMenu, Source, Menu, EndMenu, If, EndIf, Choice, EndChoice, Comment, Config, Typed, Prompt, DefBool, Default, Depends, Select, Help, DashedHelp}
use Rattle.kc_syntax.specs.declared.block.Block.{Block}
use Rattle.kc_syntax.specs.declared.block.Block.TheVariants as block
use Rattle.kc_syntax.specs.declared.block.Open.{Open}
use Rattle.kc_syntax.specs.declared.block.Owner.{Owner}
use Rattle.kc_syntax.specs.declared.block.Owner.TheVariants as owner
use Rattle.kc_syntax.specs.declared.error.KcKind.TheVariants.{BadLine, OpenBlock, TwoTypes, TooMany}
use Rattle.kc_syntax.specs.declared.reader.Known.{Known}
use Rattle.kc_syntax.specs.Events.{Event, row_at, source_at, file_begins, file_ends, fault_at}
use Rattle.kc_syntax.specs.Grammar.{begins, ends, behind}
use Rattle.kc_syntax.specs.State.{State, known, is_file, is_full, enclosing_choice, outer_of, on_first, first_line, with_block, with_choice, with_symbol, with_known}
use Rattle.kc_syntax.specs.Step.{Outcome, refused, then_do, out_of_choice, begin_block, end_block, is_inside, same_block, may_stand, with_entry, begin_entry, same_kind, may_have, typed_as, type_entry, with_some_prompt, with_some_choice_prompt, choice_type, type_line, is_m, symbol_of, prompt_line, def_bool_line, default_line, depends_line, select_line, help_line, dashed_help_line, row_step, leave_file, step, last_symbol}

-- the same blocks, of which the innermost may put more conditions on what stands in it
pub data IsSame : List Open → List Open → Type 0 where
  none : IsSame [] []
  some : (o p : Open) (outer : List Open) → o.block ≡ p.block → IsSame (o ∷ outer) (p ∷ outer)

-- what a line that is allowed does to the blocks
pub data Moves (s : State) (event : Event) (t : State) : Type 0 where
  stays : begins event ≡ None → ends event ≡ None → IsSame s.blocks t.blocks → Moves s event t
  opens : (k : Block) (inner : Open) → begins event ≡ Some k → t.blocks ≡ inner ∷ s.blocks → inner.block ≡ k → Moves s event t
  closes : (k : Block) (inner : Open) (outer : List Open) → begins event ≡ None → ends event ≡ Some k → s.blocks ≡ inner ∷ outer → inner.block ≡ k → ((r : State) → r.blocks ≡ outer → t ≡ behind k r s) → Moves s event t

-- the same of what a line comes to
abbrev pub MovesTo : State → Event → Outcome → Type 0
MovesTo s event (Ok t) = Moves s event t
MovesTo s event (Err fault) = Unit {0}

same_blocks : (blocks : List Open) → IsSame blocks blocks
same_blocks [] = none
same_blocks (inner ∷ outer) = some inner inner outer refl

-- a line that leaves the blocks as they are, or puts a condition on the innermost
abbrev Keeps : State → Outcome → Type 0
Keeps s (Ok t) = IsSame s.blocks t.blocks
Keeps s (Err fault) = Unit {0}

keeps_if : (s : State) (b : Bool) (x y : Outcome) → Keeps s x → Keeps s y → Keeps s (if b then x else y)
keeps_if s true x y keeps_x keeps_y = keeps_x
keeps_if s false x y keeps_x keeps_y = keeps_y

keeps_option : {A : Type 0} (s : State) (o : Option A) (f : A → Outcome) (d : Outcome) → ((x : A) → Keeps s (f x)) → Keeps s d → Keeps s (option_map_or f o d)
keeps_option s None f d keeps_f keeps_d = keeps_d
keeps_option s (Some x) f d keeps_f keeps_d = keeps_f x

keeps_then : (s : State) (o : Outcome) (f : State → State) → ((t : State) → IsSame s.blocks t.blocks → IsSame s.blocks (f t).blocks) → Keeps s o → Keeps s (then_do o f)
keeps_then s (Ok t) f keeps ok = keeps t ok
keeps_then s (Err fault) f keeps ok = tt

same_condition : (e : Expr) (blocks : List Open) → IsSame blocks (on_first (λ b. record b { conditions = b.conditions ++ e ∷ [] }) blocks)
same_condition e [] = none
same_condition e (inner ∷ outer) = some inner _ outer refl

module _ (s : State) (file : Names) (line : ℕ) where
  keeps_symbol : (symbol : List ℕ) → IsSame s.blocks (with_symbol symbol s).blocks
  keeps_symbol symbol = by (is_some (known s.symbols symbol)) _ (same_blocks s.blocks)
    where
      by : (b : Bool) (t : State) → IsSame s.blocks t.blocks → IsSame s.blocks (if b then s else t).blocks
      by true t same = same_blocks s.blocks
      by false t same = same

  keeps_entry : (symbol : List ℕ) → Keeps s (begin_entry s symbol file line)
  keeps_entry symbol =
      keeps_if s (not (may_stand s symbol)) (refused file line BadLine) _ tt
      (keeps_if s (nat_lt (length s.entries) 65536) (Ok (with_entry symbol file line (with_symbol symbol s))) (refused file line TooMany) (keeps_symbol symbol) tt)

  keeps_typed : (symbol : List ℕ) (type : Kind) (o : Option Known) → Keeps s (typed_as s symbol type file line o)
  keeps_typed symbol type None = same_blocks s.blocks
  keeps_typed symbol type (Some k) =
      keeps_if s (is_some k.choice && not (same_kind type kind.Bool)) (refused file line BadLine) _ tt
      (keeps_if s (may_have type k.kind) (Ok (with_known symbol (record { kind = Some type; choice = k.choice }) s)) (refused file line TwoTypes) (same_blocks s.blocks) tt)

  keeps_type_entry : (type : Kind) → Keeps s (type_entry s type file line)
  keeps_type_entry type =
      keeps_option s (last_symbol s.entries) (λ symbol. typed_as s symbol type file line (known s.symbols symbol)) (Ok s) (λ symbol. keeps_typed symbol type (known s.symbols symbol)) (same_blocks s.blocks)

  keeps_type : (type : Kind) (prompt : Option Expr) (o : Owner) → Keeps s (type_line s type prompt file line o)
  keeps_type type prompt owner.Entry = keeps_then s (type_entry s type file line) (with_some_prompt prompt) (by prompt) (keeps_type_entry type)
    where
      by : (p : Option Expr) (t : State) → IsSame s.blocks t.blocks → IsSame s.blocks (with_some_prompt p t).blocks
      by None t same = same
      by (Some e) t same = same
  keeps_type type prompt owner.Choice = keeps_if s (same_kind type kind.Bool) (Ok (with_some_choice_prompt prompt s)) (refused file line BadLine) (by prompt) tt
    where
      by : (p : Option Expr) → IsSame s.blocks (with_some_choice_prompt p s).blocks
      by None = same_blocks s.blocks
      by (Some e) = same_blocks s.blocks
  keeps_type type prompt owner.Menu = tt
  keeps_type type prompt owner.Comment = tt
  keeps_type type prompt owner.Nobody = tt

  keeps_prompt : (e : Expr) (o : Owner) → Keeps s (prompt_line s e file line o)
  keeps_prompt e owner.Entry = same_blocks s.blocks
  keeps_prompt e owner.Choice = same_blocks s.blocks
  keeps_prompt e owner.Menu = tt
  keeps_prompt e owner.Comment = tt
  keeps_prompt e owner.Nobody = tt

  keeps_def_bool : (value condition : Expr) (o : Owner) → Keeps s (def_bool_line s value condition file line o)
  keeps_def_bool value condition owner.Entry = keeps_then s (type_entry s kind.Bool file line) _ (λ t same. same) (keeps_type_entry kind.Bool)
  keeps_def_bool value condition owner.Choice = tt
  keeps_def_bool value condition owner.Menu = tt
  keeps_def_bool value condition owner.Comment = tt
  keeps_def_bool value condition owner.Nobody = tt

  keeps_default : (value : Expr) (single : Bool) (condition : Expr) (o : Owner) → Keeps s (default_line s value single condition file line o)
  keeps_default value single condition owner.Entry = keeps_if s (is_m value) (refused file line BadLine) _ tt (same_blocks s.blocks)
  keeps_default value single condition owner.Choice = keeps_option s (symbol_of value single) _ (refused file line BadLine) (λ symbol. same_blocks s.blocks) tt
  keeps_default value single condition owner.Menu = tt
  keeps_default value single condition owner.Comment = tt
  keeps_default value single condition owner.Nobody = tt

  keeps_depends : (e : Expr) (o : Owner) → Keeps s (depends_line s e file line o)
  keeps_depends e owner.Entry = same_blocks s.blocks
  keeps_depends e owner.Choice = same_condition e s.blocks
  keeps_depends e owner.Menu = same_condition e s.blocks
  keeps_depends e owner.Comment = same_blocks s.blocks
  keeps_depends e owner.Nobody = tt

  keeps_select : (symbol : List ℕ) (e : Expr) (o : Owner) → Keeps s (select_line s symbol e file line o)
  keeps_select symbol e owner.Entry = same_blocks s.blocks
  keeps_select symbol e owner.Choice = tt
  keeps_select symbol e owner.Menu = tt
  keeps_select symbol e owner.Comment = tt
  keeps_select symbol e owner.Nobody = tt

  keeps_help : (o : Owner) → Keeps s (help_line s file line o)
  keeps_help owner.Entry = same_blocks s.blocks
  keeps_help owner.Choice = same_blocks s.blocks
  keeps_help owner.Menu = tt
  keeps_help owner.Comment = tt
  keeps_help owner.Nobody = tt

  keeps_dashed_help : (o : Owner) → Keeps s (dashed_help_line s file line o)
  keeps_dashed_help owner.Entry = same_blocks s.blocks
  keeps_dashed_help owner.Choice = tt
  keeps_dashed_help owner.Menu = tt
  keeps_dashed_help owner.Comment = tt
  keeps_dashed_help owner.Nobody = tt

-- a line that keeps the blocks, and neither begins nor ends one
moves_plain : (s : State) (event : Event) (o : Outcome) → begins event ≡ None → ends event ≡ None → Keeps s o → MovesTo s event o
moves_plain s event (Ok t) begin_none end_none keeps = stays begin_none end_none keeps
moves_plain s event (Err fault) begin_none end_none keeps = tt

moves_if : (s : State) (event : Event) (b : Bool) (x y : Outcome) → MovesTo s event x → MovesTo s event y → MovesTo s event (if b then x else y)
moves_if s event true x y moves_x moves_y = moves_x
moves_if s event false x y moves_x moves_y = moves_y

-- a block begins
moves_begin : (s : State) (event : Event) (file : Names) (line : ℕ) (r : State) (k : Block) (choice : Option ℕ) (conditions : List Expr) (takes : Owner) → begins event ≡ Some k → r.blocks ≡ s.blocks → MovesTo s event (begin_block r file line k choice conditions takes)
moves_begin s event file line r k choice conditions takes is same =
    moves_if s event (is_full r.blocks) (refused file line BadLine) _ tt
    (opens k (record { block = k; line = line; choice = choice; conditions = conditions }) is (ap (λ bs. record { block = k; line = line; choice = choice; conditions = conditions } ∷ bs) same) refl)

same_block-true : (a b : Block) → same_block a b ≡ true → a ≡ b
same_block-true block.Menu block.Menu e = refl
same_block-true block.If block.If e = refl
same_block-true block.Choice block.Choice e = refl
same_block-true block.File block.File e = refl
same_block-true block.Menu block.If e = absurd (cc)
same_block-true block.Menu block.Choice e = absurd (cc)
same_block-true block.Menu block.File e = absurd (cc)
same_block-true block.If block.Menu e = absurd (cc)
same_block-true block.If block.Choice e = absurd (cc)
same_block-true block.If block.File e = absurd (cc)
same_block-true block.Choice block.Menu e = absurd (cc)
same_block-true block.Choice block.If e = absurd (cc)
same_block-true block.Choice block.File e = absurd (cc)
same_block-true block.File block.Menu e = absurd (cc)
same_block-true block.File block.If e = absurd (cc)
same_block-true block.File block.Choice e = absurd (cc)

-- a block ends
moves_end : (s : State) (event : Event) (file : Names) (line : ℕ) (k : Block) → begins event ≡ None → ends event ≡ Some k → ((r : State) → behind k r s ≡ record s { blocks = r.blocks; owner = owner.Nobody }) → MovesTo s event (end_block s file line k)
moves_end s event file line k begin_none is closed = of s.blocks refl
  where
    shut : List Open → State
    shut outer = record s { blocks = outer; owner = owner.Nobody }

    by : (inner : Open) (outer : List Open) (b : Bool) → s.blocks ≡ inner ∷ outer → same_block inner.block k ≡ b → MovesTo s event (if b then Ok (shut outer) else refused file line OpenBlock)
    by inner outer true cut fits =
        closes k inner outer begin_none is cut (same_block-true inner.block k fits) (λ r same. ap shut (sym same) ∙ sym (closed r))
    by inner outer false cut fits = tt

    of : (bs : List Open) → s.blocks ≡ bs → MovesTo s event (if is_inside bs k then Ok (shut (outer_of bs)) else refused file line OpenBlock)
    of [] cut = tt
    of (inner ∷ outer) cut = by inner outer (same_block inner.block k) cut refl

is_file-true : (k : Block) → is_file k ≡ true → k ≡ block.File
is_file-true block.File e = refl
is_file-true block.Menu e = absurd (cc)
is_file-true block.If e = absurd (cc)
is_file-true block.Choice e = absurd (cc)

moves_leave : (s : State) (file : Names) (bs : List Open) → s.blocks ≡ bs → MovesTo s (file_ends file) (leave_file s file bs)
moves_leave s file [] cut = tt
moves_leave s file (inner ∷ outer) cut = by (is_file inner.block) refl
  where
    by : (b : Bool) → is_file inner.block ≡ b → MovesTo s (file_ends file) (if b then Ok (record s { blocks = outer }) else refused file (first_line inner.line outer) OpenBlock)
    by true fits = closes block.File inner outer refl refl cut (is_file-true inner.block fits) (λ r same. ap (λ bs. record s { blocks = bs }) (sym same))
    by false fits = tt

moves_out_of_choice : (s : State) (event : Event) (file : Names) (line : ℕ) (o : Outcome) → MovesTo s event o → MovesTo s event (out_of_choice s file line o)
moves_out_of_choice s event file line o moves = moves_if s event (is_some (enclosing_choice s.blocks)) (refused file line BadLine) o tt moves

moves_row : (s : State) (file : Names) (line : ℕ) (row : Row) → MovesTo s (row_at file line row) (row_step s file line row)
moves_row s file line MainMenu = moves_out_of_choice s _ file line _ (stays refl refl (same_blocks s.blocks))
moves_row s file line (Source path) = stays refl refl (same_blocks s.blocks)
moves_row s file line Menu = moves_out_of_choice s _ file line _ (moves_begin s _ file line s block.Menu (enclosing_choice s.blocks) [] owner.Menu refl refl)
moves_row s file line EndMenu = moves_end s _ file line block.Menu refl refl (λ r. refl)
moves_row s file line (If e) = moves_begin s _ file line s block.If (enclosing_choice s.blocks) (e ∷ []) owner.Nobody refl refl
moves_row s file line EndIf = moves_end s _ file line block.If refl refl (λ r. refl)
moves_row s file line Choice =
    moves_out_of_choice s _ file line _ (moves_begin s _ file line (with_choice s) block.Choice (Some (length s.choices)) [] owner.Choice refl refl)
moves_row s file line EndChoice = moves_end s _ file line block.Choice refl refl (λ r. refl)
moves_row s file line Comment = stays refl refl (same_blocks s.blocks)
moves_row s file line (Config symbol) = moves_plain s _ _ refl refl (keeps_entry s file line symbol)
moves_row s file line (Typed type prompt) = moves_plain s _ _ refl refl (keeps_type s file line type prompt s.owner)
moves_row s file line (Prompt e) = moves_plain s _ _ refl refl (keeps_prompt s file line e s.owner)
moves_row s file line (DefBool value condition) = moves_plain s _ _ refl refl (keeps_def_bool s file line value condition s.owner)
moves_row s file line (Default value single condition) = moves_plain s _ _ refl refl (keeps_default s file line value single condition s.owner)
moves_row s file line (Depends e) = moves_plain s _ _ refl refl (keeps_depends s file line e s.owner)
moves_row s file line (Select symbol e) = moves_plain s _ _ refl refl (keeps_select s file line symbol e s.owner)
moves_row s file line Help = moves_plain s _ _ refl refl (keeps_help s file line s.owner)
moves_row s file line DashedHelp = moves_plain s _ _ refl refl (keeps_dashed_help s file line s.owner)

-- what a line does to the blocks
pub moves_step : (s : State) (event : Event) → MovesTo s event (step s event)
unfolding step
moves_step s (row_at file line row) = moves_row s file line row
moves_step s (source_at file line) = moves_if s _ (nat_lt s.sources 65536) _ (refused file line TooMany) (stays refl refl (same_blocks s.blocks)) tt
moves_step s file_begins = opens block.File _ refl refl refl
moves_step s (file_ends file) = moves_leave s file s.blocks refl
moves_step s (fault_at file line fault) = tt
