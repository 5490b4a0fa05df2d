-- The reader of the code, seen as the state that is meant.
use Rattle.std.specs.Prelude.{◌≡◌, ℕ, ◌+◌, ◌-◌, ◌^◌, Bool, min, List, [], ◌∷◌, Option, Some, None, Result, Ok, Err, if◌then◌else◌}
use Rattle.std.specs.Option.{option_map}
use Rattle.br_path.specs.Path.{Names}
use Rattle.root_image.specs.declared.fault.ImageKind.{ImageKind}
use Rattle.root_image.specs.declared.fault.ImageKind.TheVariants.{Form, Group, Cut, After}
use Rattle.root_image.specs.declared.fault.ImageFault.{ImageFault}
use Rattle.root_image.specs.declared.fault.Refusal.{Refusal}
use Rattle.root_image.specs.declared.fault.Refusal.TheVariants.{Fault as refused, Memory as no_memory}
use Rattle.root_image.specs.declared.place.Reader.{Reader}
use Rattle.root_image.specs.declared.place.Stand.{Stand}
use Rattle.root_image.specs.declared.place.Stand.TheVariants.{Head as head_stand, Between as between_stand, Link as link_stand, Same as same_stand, File as file_stand, End as end_stand}
use Rattle.root_image.specs.declared.fault.ImageError.{ImageError}
use Rattle.root_image.specs.declared.fault.ImageError.TheVariants.{Fault, Memory}
use Rattle.root_image.specs.Lines.{Entries, Line, HeadLine, DirLine, LinkLine, FileLine, SameLine, TextLine, BytesLine, EndLine}
use Rattle.root_image.specs.Roots.{has_first}
use Rattle.root_image.specs.Reading.{Place, AtHead, Between, InFile, InLink, InSame, Ended, State, at_place, head_fault, line_in, on_line, at_end, go_on}

-- where the reader stands, as the place of a state
abbrev pub place_of : Stand → Place
place_of head_stand = AtHead
place_of between_stand = Between
place_of (link_stand path) = InLink path
place_of (same_stand path) = InSame path
place_of (file_stand file) = InFile file.path file.mode file.size file.bytes.items
place_of end_stand = Ended

-- what is answered is what is meant, or out of memory
abbrev pub Found : {A : Type 0} → Result A ImageKind → Result A Refusal → Type 0
Found meant (Ok value) = meant ≡ Ok value
Found meant (Err (refused kind)) = meant ≡ Err kind
Found meant (Err no_memory) = Unit {0}

-- the state that is meant is the one of these entries and this stand
abbrev pub Stepped : Result State ImageKind → Result Stand Refusal → Entries → Type 0
Stepped meant (Ok stand) entries = meant ≡ Ok (at_place entries (place_of stand))
Stepped meant (Err (refused kind)) entries = meant ≡ Err kind
Stepped meant (Err no_memory) entries = Unit {0}

-- the path of an entry, if one can stand there
abbrev pub placed : Option ImageKind → Names → Result Names ImageKind
placed None path = Ok path
placed (Some kind) path = Err kind

abbrev pub headed : Entries → Bool → Option Names → Result Names ImageKind
headed entries folder None = Err Form
headed entries folder (Some path) = placed (head_fault entries path folder) path

-- the first name of a file that stands
abbrev pub first_of : Entries → Option Names → Result Names ImageKind
first_of entries None = Err Form
first_of entries (Some first) = if has_first entries first then Ok first else Err Group

abbrev pub Taken : Result State ImageKind → Result (Unit {0}) Refusal → State → Type 0
Taken meant (Ok done) new = meant ≡ Ok new
Taken meant (Err (refused kind)) new = meant ≡ Err kind
Taken meant (Err no_memory) new = Unit {0}

abbrev pub state_of : Reader → State
state_of reader = at_place reader.entries.items (place_of reader.stand)

-- a line as it is read: a number that fits no word is read as the greatest, since no text and no list is so long
abbrev pub most : ℕ
most = 2 ^ 64 - 1

abbrev pub capped : Line → Line
capped (FileLine mode size path) = FileLine mode (min size most) path
capped (EndLine count) = EndLine (min count most)
capped HeadLine = HeadLine
capped (DirLine mode path) = DirLine mode path
capped (LinkLine path) = LinkLine path
capped (SameLine path) = SameLine path
capped (TextLine text) = TextLine text
capped (BytesLine bytes) = BytesLine bytes

-- a size and what stands after it, likewise
abbrev pub capped_word : Option (ℕ × List ℕ) → Option (ℕ × List ℕ)
capped_word None = None
capped_word (Some word) = Some (min word.0 most, word.1)

abbrev pub read_step : State → List ℕ → Result State ImageKind
read_step state text = on_line state.entries state.place (option_map capped (line_in state.place text))

-- the lines of a text, each by a step
abbrev pub read_by : (State → List ℕ → Result State ImageKind) → State → ℕ → List (List ℕ) → Result Entries ImageFault
read_by take state number [] = at_end state number []
read_by take state number (rest ∷ []) = at_end state number rest
read_by take state number (line ∷ next ∷ lines) = go_on (take state line) number (λ new. read_by take new (number + 1) (next ∷ lines))

-- what is wrong with what follows the last newline: nothing may follow, and only after the last line
abbrev pub end_kind : Place → List ℕ → Option ImageKind
end_kind Ended [] = None
end_kind Ended (byte ∷ bytes) = Some After
end_kind AtHead rest = Some Cut
end_kind Between rest = Some Cut
end_kind (InLink path) rest = Some Cut
end_kind (InSame path) rest = Some Cut
end_kind (InFile path mode size bytes) rest = Some Cut

-- a refusal at a line
abbrev pub error_at : ℕ → Refusal → ImageError
error_at line (refused kind) = Fault (record { line = line; kind = kind })
error_at line no_memory = Memory

-- an error is the fault that is meant, or out of memory
abbrev pub Refuses : Result Entries ImageFault → ImageError → Type 0
Refuses meant (Fault fault) = meant ≡ Err fault
Refuses meant Memory = Unit {0}
