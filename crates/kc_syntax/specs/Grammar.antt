-- The grammar of the files: blocks matched as brackets, and each line of a row that may stand there.
use Rattle.std.specs.Prelude.{◌≡◌, ℕ, List, [], ◌∷◌, ◌++◌, Option, Some, None, Ok, Err}
use Rattle.br_path.specs.Files.{FileMap}
use Rattle.kc_menu.specs.Menu.{Declared}
use Rattle.kc_rows.specs.declared.row.Row.{Row}
use Rattle.kc_rows.specs.declared.row.Row.TheVariants.{Menu, EndMenu, If, EndIf, Choice, EndChoice}
use Rattle.kc_syntax.specs.declared.block.Block.{Block}
use Rattle.kc_syntax.specs.declared.block.Block.TheVariants as kind
use Rattle.kc_syntax.specs.declared.block.Owner.TheVariants as owner
use Rattle.kc_syntax.specs.declared.error.KcFault.{KcFault}
use Rattle.kc_syntax.specs.Events.{Event, row_at, file_begins, file_ends, all_events}
use Rattle.kc_syntax.specs.State.{State, start}
use Rattle.kc_syntax.specs.Step.{step}
use Rattle.kc_syntax.specs.Reading.{closed}

-- the block that a line begins
abbrev pub row_begins : Row → Option Block
row_begins Menu = Some kind.Menu
row_begins (If e) = Some kind.If
row_begins Choice = Some kind.Choice
row_begins _ = None

abbrev pub begins : Event → Option Block
begins (row_at file line row) = row_begins row
begins file_begins = Some kind.File
begins _ = None

-- the block that a line ends
abbrev pub row_ends : Row → Option Block
row_ends EndMenu = Some kind.Menu
row_ends EndIf = Some kind.If
row_ends EndChoice = Some kind.Choice
row_ends _ = None

abbrev pub ends : Event → Option Block
ends (row_at file line row) = row_ends row
ends (file_ends file) = Some kind.File
ends _ = None

-- after a block of this kind: what stands in it is read, the blocks round it are those that were round its first line,
-- and no attribute line may follow; after a file one may where it may at the file's end
abbrev pub behind : Block → State → State → State
behind kind.File before inside = record inside { blocks = before.blocks }
behind kind.Menu before inside = record inside { blocks = before.blocks; owner = owner.Nobody }
behind kind.If before inside = record inside { blocks = before.blocks; owner = owner.Nobody }
behind kind.Choice before inside = record inside { blocks = before.blocks; owner = owner.Nobody }

-- what is met is read whole, from what is known before it to what is known after it: it is nothing, a line that neither
-- begins nor ends a block, or a block from its first line to its last
pub data IsRead : State → List Event → State → Type 0 where
  nothing : (s : State) → IsRead s [] s
  line : (s t u : State) (event : Event) (events : List Event) → begins event ≡ None → ends event ≡ None → step s event ≡ Ok t → IsRead t events u → IsRead s (event ∷ events) u
  block : (s t u v : State) (which : Block) (first last : Event) (inside events : List Event) → begins first ≡ Some which → ends last ≡ Some which → step s first ≡ Ok t → IsRead t inside u → IsRead (behind which s u) events v → IsRead s (first ∷ (inside ++ last ∷ events)) v

-- the menu of the files: they are read whole, and stand so at the end
abbrev pub IsMenuOf : FileMap → Declared → Type 0
IsMenuOf files menu = (last : State) × IsRead start (all_events files) last × (closed last ≡ Ok menu)

-- how files may begin: with what is read whole, and then perhaps with the first line of a block and, inside of that, with
-- what is read whole again, and so on
pub data IsFront : List Event → State → Type 0 where
  whole : (events : List Event) (s : State) → IsRead start events s → IsFront events s
  inside : (front : List Event) (s t u : State) (which : Block) (first : Event) (events : List Event) → IsFront front s → begins first ≡ Some which → step s first ≡ Ok t → IsRead t events u → IsFront (front ++ first ∷ events) u

-- the first fault of the files: of the first line that no row allows after those before it, or else the first that only
-- the whole shows
pub data IsFirstFault (files : FileMap) (fault : KcFault) : Type 0 where
  at_a_line : (front back : List Event) (event : Event) (s : State) → all_events files ≡ front ++ event ∷ back → IsFront front s → step s event ≡ Err fault → IsFirstFault files fault
  at_the_end : (last : State) → IsRead start (all_events files) last → closed last ≡ Err fault → IsFirstFault files fault
