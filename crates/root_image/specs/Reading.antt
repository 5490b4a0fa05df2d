-- Reading the lines of an image, one after another, up to the first fault.
use Rattle.std.specs.Prelude.{◌≡◌, ℕ, ◌+◌, ◌-◌, Bool, true, false, ◌==◌, min, List, [], ◌∷◌, ◌++◌, length, Option, Some, None, Result, Ok, Err, if◌then◌else◌}
use Rattle.std.specs.List.{slice_split}
use Rattle.br_path.specs.Path.{Names, parent_of}
use Rattle.root_image.specs.declared.root.RootEntry.{RootEntry}
use Rattle.root_image.specs.declared.root.RootEntry.TheVariants.{Dir, Link, First, Same}
use Rattle.root_image.specs.declared.fault.ImageKind.{ImageKind}
use Rattle.root_image.specs.declared.fault.ImageKind.TheVariants.{Cut, Form, Order, Parent, Group, Size, Count, After}
use Rattle.root_image.specs.declared.fault.ImageFault.{ImageFault}
use Rattle.root_image.specs.declared.fault.ImageError.{ImageError}
use Rattle.root_image.specs.declared.fault.ImageError.TheVariants.{Fault, Memory}
use Rattle.root_image.specs.Lines.{Entries, Line, HeadLine, DirLine, LinkLine, FileLine, SameLine, TextLine, BytesLine, EndLine}
use Rattle.root_image.specs.Roots.{last_of, rises, has_place, has_first, is_link_text}
use Rattle.root_image.specs.Words.{path_at, entry_line, head_line, text_line, bytes_line}

-- where the reader stands: before the first line, between entries, in a file with its bytes so far, in a link, in another
-- name of a file, or after the last line
pub data Place : Type 0 where
  AtHead : Place
  Between : Place
  InFile : (path : Names) (mode size : ℕ) (bytes : List ℕ) → Place
  InLink : (path : Names) → Place
  InSame : (path : Names) → Place
  Ended : Place

pub record State : Type 0 where
  pub entries : Entries
  pub place : Place

abbrev pub start : State
start = record { entries = []; place = AtHead }

abbrev pub unless : Option ImageKind → State → Result State ImageKind
unless None state = Ok state
unless (Some kind) state = Err kind

abbrev pub checked : Bool → ImageKind → State → Result State ImageKind
checked true kind state = Ok state
checked false kind state = Err kind

abbrev pub at_place : Entries → Place → State
at_place entries place = record { entries = entries; place = place }

abbrev pub with_entry : Entries → Names → RootEntry → State
with_entry entries path entry = at_place (entries ++ (path, entry) ∷ []) Between

-- why no entry can stand at the path, a folder or not: the first is the root as a folder; every other is above the last one,
-- and in a folder that is there
abbrev pub first_fault : Names → Bool → Option ImageKind
first_fault [] true = None
first_fault [] false = Some Form
first_fault (name ∷ names) folder = Some Form

abbrev pub parent_fault : Entries → Names → Option ImageKind
parent_fault entries path = if has_place entries (parent_of path) then None else Some Parent

abbrev pub fault_behind : Option (Names × RootEntry) → Entries → Names → Bool → Option ImageKind
fault_behind None entries path folder = first_fault path folder
fault_behind (Some last) entries path folder = if rises (Some last) path then parent_fault entries path else Some Order

abbrev pub head_fault : Entries → Names → Bool → Option ImageKind
head_fault entries path folder = fault_behind (last_of entries) entries path folder

-- a file of which all bytes are there has ended
abbrev pub in_file : Entries → Names → ℕ → ℕ → List ℕ → State
in_file entries path mode size bytes =
    if length bytes == size then with_entry entries path (First mode bytes) else at_place entries (InFile path mode size bytes)

-- the last line; there is one entry at least
abbrev pub ended : Entries → ℕ → Result State ImageKind
ended [] count = Err Form
ended (entry ∷ entries) count = checked (count == length (entry ∷ entries)) Count (at_place (entry ∷ entries) Ended)

-- another name of the file at a path
abbrev pub same_as : Entries → Names → Option Names → Result State ImageKind
same_as entries path None = Err Form
same_as entries path (Some first) = checked (has_first entries first) Group (with_entry entries path (Same first))

-- a line that begins an entry, or the last one
abbrev pub on_entry : Entries → Line → Result State ImageKind
on_entry entries (DirLine mode path) = unless (head_fault entries path true) (with_entry entries path (Dir mode))
on_entry entries (LinkLine path) = unless (head_fault entries path false) (at_place entries (InLink path))
on_entry entries (FileLine mode size path) = unless (head_fault entries path false) (in_file entries path mode size [])
on_entry entries (SameLine path) = unless (head_fault entries path false) (at_place entries (InSame path))
on_entry entries (EndLine count) = ended entries count
on_entry entries HeadLine = Err Form
on_entry entries (TextLine text) = Err Form
on_entry entries (BytesLine bytes) = Err Form

-- a line in a place
abbrev pub step_in : Entries → Place → Line → Result State ImageKind
step_in entries AtHead HeadLine = Ok (at_place entries Between)
step_in entries AtHead other = Err Form
step_in entries Between line = on_entry entries line
step_in entries (InLink path) (TextLine text) = checked (is_link_text text) Form (with_entry entries path (Link text))
step_in entries (InLink path) other = Err Form
step_in entries (InSame path) (TextLine text) = same_as entries path (path_at text)
step_in entries (InSame path) other = Err Form
step_in entries (InFile path mode size bytes) (BytesLine piece) =
    checked (length piece == min 32 (size - length bytes)) Size (in_file entries path mode size (bytes ++ piece))
step_in entries (InFile path mode size bytes) other = Err Form
step_in entries Ended other = Err After

-- the line that a text is in a place
abbrev pub line_in : Place → List ℕ → Option Line
line_in AtHead text = head_line text
line_in Between text = entry_line text
line_in (InLink path) text = text_line text
line_in (InSame path) text = text_line text
line_in (InFile path mode size bytes) text = bytes_line text
line_in Ended text = None

-- a text that is no line: after the end no line can stand
abbrev pub no_line : Place → ImageKind
no_line AtHead = Form
no_line Between = Form
no_line (InLink path) = Form
no_line (InSame path) = Form
no_line (InFile path mode size bytes) = Form
no_line Ended = After

abbrev pub on_line : Entries → Place → Option Line → Result State ImageKind
on_line entries place None = Err (no_line place)
on_line entries place (Some line) = step_in entries place line

abbrev pub step : State → List ℕ → Result State ImageKind
step state text = on_line state.entries state.place (line_in state.place text)

-- what follows the last newline: nothing, after the last line
abbrev pub end_in : Entries → Place → ℕ → List ℕ → Result Entries ImageFault
end_in entries Ended number [] = Ok entries
end_in entries Ended number (byte ∷ bytes) = Err (record { line = number; kind = After })
end_in entries other number rest = Err (record { line = number; kind = Cut })

abbrev pub at_end : State → ℕ → List ℕ → Result Entries ImageFault
at_end state number rest = end_in state.entries state.place number rest

abbrev pub go_on : Result State ImageKind → ℕ → (State → Result Entries ImageFault) → Result Entries ImageFault
go_on (Ok state) number next = next state
go_on (Err kind) number next = Err (record { line = number; kind = kind })

-- the lines from a number on, and what follows the last newline
abbrev pub read_from : State → ℕ → List (List ℕ) → Result Entries ImageFault
read_from state number [] = at_end state number []
read_from state number (rest ∷ []) = at_end state number rest
read_from state number (line ∷ next ∷ lines) = go_on (step state line) number (λ new. read_from new (number + 1) (next ∷ lines))

-- the parts of a text between its newlines, one more than it has newlines
abbrev pub lines_of : List ℕ → List (List ℕ)
lines_of text = slice_split (λ byte. byte == 10) text

-- the root that a text is the image of, or its first fault
abbrev pub image_of : List ℕ → Result Entries ImageFault
image_of text = read_from start 1 (lines_of text)

-- what is answered is what is meant, or out of memory
abbrev pub Answers : Result Entries ImageFault → Result Entries ImageError → Type 0
Answers meant (Ok root) = meant ≡ Ok root
Answers meant (Err (Fault fault)) = meant ≡ Err fault
Answers meant (Err Memory) = Unit {0}
