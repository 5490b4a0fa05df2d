-- The menu of the files, or their first fault.
use Rattle.std.specs.Prelude.{ℕ, ◌≡◌, Bool, true, false, ◌&&◌, ◌||◌, List, [], ◌∷◌, Option, Some, None, Result, Ok, Err, if◌then◌else◌}
use Rattle.std.specs.Option.{option_and_then, option_map_or}
use Rattle.br_path.specs.Files.{FileMap}
use Rattle.kc_values.specs.declared.kind.Kind.{Kind}
use Rattle.kc_values.specs.declared.kind.Kind.TheVariants as kind
use Rattle.kc_expr.specs.declared.expr.Expr.{Expr, Holds}
use Rattle.kc_menu.specs.Menu.{Declared}
use Rattle.kc_menu.specs.declared.menu.KcDefault.{KcDefault}
use Rattle.kc_menu.specs.declared.menu.KcEntry.{KcEntry}
use Rattle.kc_syntax.specs.declared.draft.Draft.{Draft}
use Rattle.kc_syntax.specs.declared.draft.DraftDefault.{DraftDefault}
use Rattle.kc_syntax.specs.declared.error.KcFault.{KcFault}
use Rattle.kc_syntax.specs.declared.error.KcKind.TheVariants.{BadLine, NoType}
use Rattle.kc_syntax.specs.Events.{Event, all_events}
use Rattle.kc_syntax.specs.State.{State, Symbols, start, known}
use Rattle.kc_syntax.specs.Step.{Outcome, step, same_kind}

infixl 10 ◌>>=◌
abbrev pub ◌>>=◌ : {A B : Type 0} → Result A KcFault → (A → Result B KcFault) → Result B KcFault
(Ok a) >>= f = f a
(Err fault) >>= f = Err fault

-- all that is met, in turn, up to a fault
abbrev pub run : List Event → State → Outcome
run [] s = Ok s
run (event ∷ events) s = step s event >>= run events

-- each of a list, in turn, up to a fault
abbrev pub each : {A B : Type 0} → (A → Result B KcFault) → List A → Result (List B) KcFault
each f [] = Ok []
each f (x ∷ xs) = f x >>= λ y. each f xs >>= λ ys. Ok (y ∷ ys)

abbrev pub is_one_atom : Expr → Bool
is_one_atom (Holds atom) = true
is_one_atom _ = false

-- the default of a bool is an expression, that of others an atom, which has no brackets round it
abbrev pub may_be_default : Kind → DraftDefault → Bool
may_be_default type given = same_kind type kind.Bool || (given.single && is_one_atom given.value)

-- a default as it stands in the menu
abbrev pub default_of : Kind → DraftDefault → Result KcDefault KcFault
default_of type given =
    if may_be_default type given then Ok (record { value = given.value; condition = given.condition })
    else Err (record { file = given.file; line = given.line; kind = BadLine })

-- an entry as it stands in the menu, where its symbol has a type
abbrev pub typed_entry : Draft → Kind → Result KcEntry KcFault
typed_entry entry type =
    each (default_of type) entry.defaults >>= λ defaults. Ok (record {
      symbol = entry.symbol;
      kind = type;
      prompts = entry.prompts;
      defaults = defaults;
      selects = entry.selects;
      depends = entry.depends;
      choice = entry.choice;
    })

-- the type of a symbol
abbrev pub kind_of : Symbols → List ℕ → Option Kind
kind_of symbols symbol = option_and_then (λ k. k.kind) (known symbols symbol)

-- an entry as it stands in the menu, or its first fault that only the whole shows
abbrev pub entry_of : Symbols → Draft → Result KcEntry KcFault
entry_of symbols entry =
    option_map_or (typed_entry entry) (kind_of symbols entry.symbol) (Err (record { file = entry.file; line = entry.line; kind = NoType }))

-- the whole as it stands at the end, or the first fault that only the whole shows
abbrev pub closed : State → Result Declared KcFault
closed s = each (entry_of s.symbols) s.entries >>= λ entries. Ok (record { entries = entries; choices = s.choices })

-- the menu of the files, or their first fault
unfoldable pub menu_of : FileMap → Result Declared KcFault
menu_of files = run (all_events files) start >>= closed
