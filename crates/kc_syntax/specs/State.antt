-- What is known at a place of the files.
use Rattle.std.specs.Prelude.{ℕ, Bool, true, false, not, nat_lt, List, [], ◌∷◌, ◌++◌, count_by, flat_map, reverse, Option, Some, None, if◌then◌else◌}
use Rattle.std.specs.Option.{is_some}
use Rattle.std.specs.Map.{lookup}
use Rattle.indexmap.specs.IndexMap.{insert_entry}
use Rattle.br_path.specs.Text.{is_text}
use Rattle.kc_expr.specs.declared.expr.Expr.{Expr}
use Rattle.kc_menu.specs.declared.menu.KcChoice.{KcChoice}
use Rattle.kc_menu.specs.declared.menu.SymbolIf.{SymbolIf}
use Rattle.kc_syntax.specs.declared.block.Block.{Block}
use Rattle.kc_syntax.specs.declared.block.Block.TheVariants as block
use Rattle.kc_syntax.specs.declared.block.Open.{Open}
use Rattle.kc_syntax.specs.declared.block.Owner.{Owner}
use Rattle.kc_syntax.specs.declared.block.Owner.TheVariants as owner
use Rattle.kc_syntax.specs.declared.draft.Draft.{Draft}
use Rattle.kc_syntax.specs.declared.draft.DraftDefault.{DraftDefault}
use Rattle.kc_syntax.specs.declared.reader.Known.{Known}

-- symbols with what is known of them, in the order of their first entries
abbrev pub Symbols : Type 0
Symbols = List (List ℕ × Known)

-- the entries and choices so far, the blocks that are open, the innermost first, what attribute lines belong to, how many
-- source lines there were, and what is known of each symbol that has an entry
pub record State : Type 0 where
  pub entries : List Draft
  pub choices : List KcChoice
  pub blocks : List Open
  pub owner : Owner
  pub sources : ℕ
  pub symbols : Symbols

abbrev pub start : State
start = record { entries = []; choices = []; blocks = []; owner = owner.Nobody; sources = 0; symbols = [] }

abbrev pub is_file : Block → Bool
is_file block.File = true
is_file block.Menu = false
is_file block.If = false
is_file block.Choice = false

abbrev pub is_block : Open → Bool
is_block open_block = not (is_file open_block.block)

-- 64 blocks are open, which files don't count as
abbrev pub is_full : List Open → Bool
is_full blocks = not (nat_lt (count_by is_block blocks) 64)

-- the choice that a place is inside of
abbrev pub enclosing_choice : List Open → Option ℕ
enclosing_choice [] = None
enclosing_choice (inner ∷ outer) = inner.choice

-- the conditions of all open blocks, the outermost first
abbrev pub conditions_of : List Open → List Expr
conditions_of blocks = flat_map (λ open_block. open_block.conditions) (reverse blocks)

-- the blocks round the innermost
abbrev pub outer_of : List Open → List Open
outer_of [] = []
outer_of (inner ∷ outer) = outer

-- the first line of the outermost block that is open in the innermost file, where one inside all these begins at a line
abbrev pub first_line : ℕ → List Open → ℕ
first_line line [] = line
first_line line (inner ∷ outer) = if is_file inner.block then line else first_line inner.line outer

-- what is known of a symbol
abbrev pub known : Symbols → List ℕ → Option Known
known symbols symbol = lookup (is_text symbol) symbols

-- the last of a list is changed
abbrev pub on_last : {A : Type 0} → (A → A) → List A → List A
on_last f [] = []
on_last f (x ∷ []) = f x ∷ []
on_last f (x ∷ y ∷ xs) = x ∷ on_last f (y ∷ xs)

-- the first of a list is changed
abbrev pub on_first : {A : Type 0} → (A → A) → List A → List A
on_first f [] = []
on_first f (x ∷ xs) = f x ∷ xs

-- a prompt, default, select or dependency of the last entry
abbrev pub with_prompt : Expr → State → State
with_prompt e s = record s { entries = on_last (λ d. record d { prompts = d.prompts ++ e ∷ [] }) s.entries }

abbrev pub with_default : DraftDefault → State → State
with_default given s = record s { entries = on_last (λ d. record d { defaults = d.defaults ++ given ∷ [] }) s.entries }

abbrev pub with_select : SymbolIf → State → State
with_select select s = record s { entries = on_last (λ d. record d { selects = d.selects ++ select ∷ [] }) s.entries }

abbrev pub with_depends : Expr → State → State
with_depends e s = record s { entries = on_last (λ d. record d { depends = d.depends ++ e ∷ [] }) s.entries }

-- a prompt, default or dependency of the last choice
abbrev pub with_choice_prompt : Expr → State → State
with_choice_prompt e s = record s { choices = on_last (λ c. record c { prompts = c.prompts ++ e ∷ [] }) s.choices }

abbrev pub with_choice_default : SymbolIf → State → State
with_choice_default default s = record s { choices = on_last (λ c. record c { defaults = c.defaults ++ default ∷ [] }) s.choices }

abbrev pub with_choice_depends : Expr → State → State
with_choice_depends e s = record s { choices = on_last (λ c. record c { depends = c.depends ++ e ∷ [] }) s.choices }

-- a condition that the innermost block puts on what stands in it
abbrev pub with_condition : Expr → State → State
with_condition e s = record s { blocks = on_first (λ b. record b { conditions = b.conditions ++ e ∷ [] }) s.blocks }

-- one block more is open
abbrev pub with_block : Block → ℕ → Option ℕ → List Expr → State → State
with_block kind line choice conditions s = record s { blocks = record { block = kind; line = line; choice = choice; conditions = conditions } ∷ s.blocks }

-- one choice more, with the conditions of the blocks round it
abbrev pub with_choice : State → State
with_choice s = record s { choices = s.choices ++ record { prompts = []; defaults = []; depends = conditions_of s.blocks } ∷ [] }

-- the symbol is known, and stands in the choice that the place is inside of
abbrev pub with_symbol : List ℕ → State → State
with_symbol symbol s =
    if is_some (known s.symbols symbol) then s else
    record s { symbols = insert_entry is_text s.symbols symbol (record { kind = None; choice = enclosing_choice s.blocks }) }

-- a symbol that is known has this type
abbrev pub with_known : List ℕ → Known → State → State
with_known symbol k s = record s { symbols = insert_entry is_text s.symbols symbol k }
