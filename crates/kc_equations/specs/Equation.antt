-- The text of each symbol by the texts of all: one equation a symbol.
use Rattle.std.specs.Prelude.{ℕ, Bool, false, ◌&&◌, ◌||◌, ◌==◌, List, [], ◌∷◌, map, filter, find, flat_map, reverse, Option, Some, None, unwrap_or, option_map, option_and_then, slice_get, codes, if◌then◌else◌}
use Rattle.std.specs.List.{list_any}
use Rattle.std.specs.Option.{option_map_or, option_or}
use Rattle.br_path.specs.Text.{is_text}
use Rattle.kc_values.specs.Values.{Table, find as valued, is_y, is_yes}
use Rattle.kc_expr.specs.Holds.{holds, text_of}
use Rattle.kc_expr.specs.declared.expr.Expr.{Expr, Holds}
use Rattle.kc_values.specs.declared.kind.Kind.{Kind}
use Rattle.kc_values.specs.declared.kind.Kind.TheVariants.{Bool as BoolKind, Text as TextKind, Int as IntKind}
use Rattle.kc_menu.specs.Menu.{Declared}
use Rattle.kc_menu.specs.Visible.{all_hold, some_holds, shows, is_visible}
use Rattle.kc_menu.specs.declared.menu.KcDefault.{KcDefault}
use Rattle.kc_menu.specs.declared.menu.SymbolIf.{SymbolIf}
use Rattle.kc_menu.specs.declared.menu.KcEntry.{KcEntry}
use Rattle.kc_menu.specs.declared.menu.KcChoice.{KcChoice}
use Rattle.kc_menu.specs.declared.wishes.Wish.{Wish}
use Rattle.kc_menu.specs.declared.wishes.WishValue.{WishValue}
use Rattle.kc_menu.specs.declared.wishes.WishValue.TheVariants.{No, Word, Quoted}

-- ---- what concerns a symbol

-- the entries of a symbol, in reading order
unfoldable pub entries_of : List KcEntry → List ℕ → List KcEntry
entries_of entries symbol = filter (λ e. is_text e.symbol symbol) entries

-- the selects that name a symbol, each with its entry
unfoldable pub selects_of : List KcEntry → List ℕ → List (KcEntry × SymbolIf)
selects_of entries symbol = flat_map (λ e. map (λ s. (e, s)) (filter (λ s. is_text s.symbol symbol) e.selects)) entries

-- the entries of the members of the choice at a place
unfoldable pub members_of : List KcEntry → ℕ → List KcEntry
members_of entries place = filter (λ e. option_map_or (λ other. other == place) e.choice false) entries

-- the choice at a place, with the entries of its members
unfoldable pub choice_at : Declared → ℕ → Option (KcChoice × List KcEntry)
choice_at menu place = option_map (λ choice. (choice, members_of menu.entries place)) (slice_get menu.choices place)

-- the wish for a symbol; no symbol has two
unfoldable pub wish_of : List Wish → List ℕ → Option WishValue
wish_of wishes symbol = option_map (λ w. w.value) (find (λ w. is_text w.symbol symbol) wishes)

-- ---- what counts

-- a default or select of an entry counts: its own condition and all dependencies of the entry hold
abbrev pub counts : Table → KcEntry → Expr → Bool
counts values e condition = all_hold e.depends values && holds values condition

-- the symbol is visible: one of its entries has a prompt that counts
abbrev pub is_shown : Table → List KcEntry → Bool
is_shown values own = list_any (λ e. shows e values) own

-- the first default that counts
abbrev pub default_of : Table → List KcEntry → Option KcDefault
default_of values [] = None
default_of values (e ∷ own) = option_or (find (λ d. counts values e d.condition) e.defaults) (default_of values own)

-- a bare word that a bool takes
abbrev pub fitting_word : List ℕ → Option (List ℕ)
fitting_word word = if is_y word || is_text word (codes "n") then Some word else None

-- the text of a wish that fits the type: a bare `y` or `n`, or n by `# S is not set`, for a bool; a quoted text for a
-- string; a bare word for an int
abbrev pub fitting : Kind → WishValue → Option (List ℕ)
fitting BoolKind No = Some (codes "n")
fitting BoolKind (Word word) = fitting_word word
fitting BoolKind (Quoted text) = None
fitting TextKind No = None
fitting TextKind (Word word) = None
fitting TextKind (Quoted text) = Some text
fitting IntKind No = None
fitting IntKind (Word word) = Some word
fitting IntKind (Quoted text) = None

-- the text that is wished: where the symbol is visible, and the wish fits
unfoldable pub wished : Table → Kind → Option WishValue → List KcEntry → Option (List ℕ)
wished values kind wish own = if is_shown values own then option_and_then (fitting kind) wish else None

-- ---- bools outside choices

abbrev pub yes_or_no : Bool → List ℕ
yes_or_no b = if b then codes "y" else codes "n"

-- before the selects: the wish, else the first default that counts, else n
unfoldable pub base : Table → Option WishValue → List KcEntry → Bool
base values wish own =
    unwrap_or (option_or (option_map is_y (wished values BoolKind wish own)) (option_map (λ d. holds values d.value) (default_of values own))) false

-- a select is effective: its entry's symbol is y, and it counts; it doesn't ask the dependencies of the selected symbol
abbrev pub is_effective : Table → KcEntry → SymbolIf → Bool
is_effective values e s = is_yes (valued e.symbol values) && counts values e s.condition

abbrev pub is_selected : Table → List (KcEntry × SymbolIf) → Bool
is_selected values selects = list_any (λ x. is_effective values x.0 x.1) selects

abbrev pub bool_text : Table → Option WishValue → List KcEntry → List (KcEntry × SymbolIf) → List ℕ
bool_text values wish own selects = yes_or_no (base values wish own || is_selected values selects)

-- ---- strings and ints

-- the text that a default stands for; it is an atom
abbrev pub default_text : Table → Expr → List ℕ
default_text values (Holds atom) = text_of values atom
default_text values _ = []

-- the wish, else the first default that counts, else nothing
unfoldable pub value_text : Table → Kind → Option WishValue → List KcEntry → List ℕ
value_text values kind wish own =
    unwrap_or (option_or (wished values kind wish own) (option_map (λ d. default_text values d.value) (default_of values own))) []

-- ---- members of choices

-- a choice is visible: one of its prompts has a condition that holds, and its dependencies hold
abbrev pub shows_choice : Table → KcChoice → Bool
shows_choice values choice = some_holds choice.prompts values && all_hold choice.depends values

abbrev pub is_wished_y : WishValue → Bool
is_wished_y (Word word) = is_y word
is_wished_y No = false
is_wished_y (Quoted text) = false

-- of the visible members whose wish is y, the one whose line comes last; wishes stand in the order of their lines
unfoldable pub wished_member : Table → List Wish → List KcEntry → Option (List ℕ)
wished_member values wishes members =
    option_map (λ w. w.symbol) (find (λ w. is_wished_y w.value && is_visible members w.symbol values) (reverse wishes))

-- that of the first default whose condition holds and whose member is visible
unfoldable pub default_member : Table → KcChoice → List KcEntry → Option (List ℕ)
default_member values choice members =
    option_map (λ d. d.symbol) (find (λ d. holds values d.condition && is_visible members d.symbol values) choice.defaults)

-- the first visible member
unfoldable pub first_member : Table → List KcEntry → Option (List ℕ)
first_member values members = option_map (λ e. e.symbol) (find (λ e. is_visible members e.symbol values) members)

-- the member that a choice takes; none unless the choice is visible and one of its members is
unfoldable pub taken : Table → List Wish → KcChoice → List KcEntry → Option (List ℕ)
taken values wishes choice members =
    if shows_choice values choice
    then option_or (wished_member values wishes members) (option_or (default_member values choice members) (first_member values members))
    else None

abbrev pub member_text : Option (List ℕ) → List ℕ → List ℕ
member_text found symbol = yes_or_no (option_map_or (λ member. is_text member symbol) found false)

-- ---- all symbols

-- by the type, outside choices
abbrev pub text_by_kind : Table → Kind → Option WishValue → List KcEntry → List (KcEntry × SymbolIf) → List ℕ
text_by_kind values BoolKind wish own selects = bool_text values wish own selects
text_by_kind values TextKind wish own selects = value_text values TextKind wish own
text_by_kind values IntKind wish own selects = value_text values IntKind wish own

-- the member that the choice at a place takes
abbrev pub taken_at : Declared → List Wish → Table → ℕ → Option (List ℕ)
taken_at menu wishes values place = option_and_then (λ c. taken values wishes c.0 c.1) (choice_at menu place)

-- the text of a symbol with this entry: a member's by its choice, others' by the type
abbrev pub text_with : Declared → List Wish → Table → List ℕ → KcEntry → List ℕ
text_with menu wishes values symbol e =
    option_map_or (λ place. member_text (taken_at menu wishes values place) symbol) e.choice
    (text_by_kind values e.kind (wish_of wishes symbol) (entries_of menu.entries symbol) (selects_of menu.entries symbol))

-- the text of a symbol, by the texts of all
unfoldable pub equation : Declared → List Wish → Table → List ℕ → List ℕ
equation menu wishes values symbol =
    option_map_or (text_with menu wishes values symbol) (slice_get (entries_of menu.entries symbol) 0) []
