-- What is met in reading order: the lines of the files, each sourced file in its place.
use Rattle.std.specs.Prelude.{ℕ, zero, suc, ◌≡◌, Bool, List, [], ◌∷◌, ◌++◌, flat_map, Option, Some, None, codes, if◌then◌else◌}
use Rattle.std.specs.List.{list_any}
use Rattle.std.specs.Option.{option_map_or, is_some}
use Rattle.std.specs.FinMap as fin
use Rattle.std.specs.Cmp.Lexicographic.{pointwise}
use Rattle.br_path.specs.Path.{Names, parts as path_parts}
use Rattle.br_path.specs.PathFault.{path_fault}
use Rattle.br_path.specs.Files.{FileMap}
use Rattle.kc_text.specs.declared.part.Part.{Part}
use Rattle.kc_text.specs.declared.part.Line.{Line}
use Rattle.kc_text.specs.Lines.{lines}
use Rattle.br_path.specs.Text.{is_text}
use Rattle.kc_rows.specs.Row.{row}
use Rattle.kc_rows.specs.declared.row.Row.{Row}
use Rattle.kc_rows.specs.declared.row.Row.TheVariants.{Source}
use Rattle.kc_syntax.specs.declared.error.KcKind.{KcKind}
use Rattle.kc_syntax.specs.declared.error.KcKind.TheVariants.{NoFile, BadLine, BadString, Loop}

pub data Event : Type 0 where
  -- a line, with its row
  row_at : (file : Names) (line : ℕ) (row : Row) → Event
  -- a source line, after which its file stands
  source_at : (file : Names) (line : ℕ) → Event
  -- a file begins
  file_begins : Event
  -- a file ends
  file_ends : (file : Names) → Event
  -- a line that is at fault whatever stands before it
  fault_at : (file : Names) (line : ℕ) (kind : KcKind) → Event

-- what a source line stands for, by its file, its number and the path that it names
abbrev pub Sourced : Type 0
Sourced = Names → ℕ → List ℕ → List Event

-- a line of a row
abbrev pub row_events : Sourced → Names → ℕ → Row → List Event
row_events sourced file line (Source path) = sourced file line path
row_events sourced file line found = row_at file line found ∷ []

-- a line has the form of one row at most
abbrev pub parts_events : Sourced → Names → ℕ → List Part → List Event
parts_events sourced file line parts = option_map_or (row_events sourced file line) (row parts) (fault_at file line BadLine ∷ [])

-- a line in which a quote doesn't close has no parts
abbrev pub line_events : Sourced → Names → Line → List Event
line_events sourced file line =
    option_map_or (parts_events sourced file line.number) line.parts (fault_at file line.number BadString ∷ [])

-- a file
unfoldable pub file_events : Sourced → Names → List ℕ → List Event
file_events sourced file bytes = file_begins ∷ (flat_map (line_events sourced file) (lines bytes) ++ file_ends file ∷ [])

-- the bytes of the file whose path a text is; a text that is no path is no file's
unfoldable pub file_at : FileMap → List ℕ → Option (List ℕ)
file_at files text = if is_some (path_fault text) then None else fin.get files (path_parts text)

-- the file is being read
abbrev pub is_reading : List Names → Names → Bool
is_reading reading file = list_any (λ other. pointwise is_text other file) reading

-- a source line where these files are being read, and so many sources more may be open
unfoldable pub source_events : ℕ → FileMap → List Names → Sourced
source_events zero files reading file line path =
    option_map_or (λ bytes. fault_at file line BadLine ∷ []) (file_at files path) (fault_at file line NoFile ∷ [])
source_events (suc depth) files reading file line path =
    option_map_or
    (λ bytes. if is_reading reading (path_parts path) then fault_at file line Loop ∷ [] else
    source_at file line ∷ file_events (source_events depth files (reading ++ path_parts path ∷ [])) (path_parts path) bytes)
    (file_at files path) (fault_at file line NoFile ∷ [])

abbrev pub config_in : Names
config_in = codes "Config.in" ∷ []

-- all that is met: `Config.in`, in which 64 sources may be open
unfoldable pub all_events : FileMap → List Event
all_events files =
    option_map_or (λ bytes. file_events (source_events 64 files (config_in ∷ [])) config_in bytes)
    (fin.get files config_in) (fault_at config_in 0 NoFile ∷ [])
