-- The image of a root: its lines, as what they say, and their text.
use Rattle.std.specs.Prelude.{ℕ, ◌+◌, ◌/◌, zero, suc, List, [], ◌∷◌, ◌++◌, map, flat_map, length, take, drop, codes}
use Rattle.std.specs.Fmt.{decimal}
use Rattle.hex.specs.Hex.{encode_lower}
use Rattle.br_path.specs.Mode.{octal}
use Rattle.br_path.specs.Path.{Names, path_text}
use Rattle.root_image.specs.declared.root.RootEntry.{RootEntry}
use Rattle.root_image.specs.declared.root.RootEntry.TheVariants.{Dir, Link, First, Same}

-- entries by their paths, in order
abbrev pub Entries : Type 0
Entries = List (Names × RootEntry)

pub data Line : Type 0 where
  HeadLine : Line
  DirLine : (mode : ℕ) (path : Names) → Line
  LinkLine : (path : Names) → Line
  FileLine : (mode size : ℕ) (path : Names) → Line
  SameLine : (path : Names) → Line
  TextLine : (text : List ℕ) → Line
  BytesLine : (bytes : List ℕ) → Line
  EndLine : (count : ℕ) → Line

-- a path as it stands in a line: a slash, and its names with a slash between two
abbrev pub rooted : Names → List ℕ
rooted path = 47 ∷ path_text path

-- the text of a line, without its newline
abbrev pub line_text : Line → List ℕ
line_text HeadLine = codes "rootfs 1"
line_text (DirLine mode path) = codes "d " ++ octal mode ++ codes " " ++ rooted path
line_text (LinkLine path) = codes "l " ++ rooted path
line_text (FileLine mode size path) = codes "f " ++ octal mode ++ codes " " ++ (decimal size ++ (codes " " ++ rooted path))
line_text (SameLine path) = codes "h " ++ rooted path
line_text (TextLine text) = codes "> " ++ text
line_text (BytesLine bytes) = codes "= " ++ encode_lower bytes
line_text (EndLine count) = codes "end " ++ decimal count

-- so many pieces of 32 bytes, the last of what is left
abbrev pub pieces_from : ℕ → List ℕ → List (List ℕ)
pieces_from zero bytes = []
pieces_from (suc count) bytes = take 32 bytes ∷ pieces_from count (drop 32 bytes)

-- the bytes of a file in pieces of 32, the last of 1 to 32
abbrev pub pieces : List ℕ → List (List ℕ)
pieces bytes = pieces_from ((length bytes + 31) / 32) bytes

-- the lines of an entry
abbrev pub entry_lines : Names → RootEntry → List Line
entry_lines path (Dir mode) = DirLine mode path ∷ []
entry_lines path (Link text) = LinkLine path ∷ TextLine text ∷ []
entry_lines path (First mode bytes) = FileLine mode (length bytes) path ∷ map BytesLine (pieces bytes)
entry_lines path (Same first) = SameLine path ∷ TextLine (rooted first) ∷ []

abbrev pub all_lines : Entries → List Line
all_lines entries = flat_map (λ entry. entry_lines entry.0 entry.1) entries

-- the lines of a root: a first line, those of its entries, and a last line with their number
abbrev pub image_lines : Entries → List Line
image_lines root = HeadLine ∷ all_lines root ++ EndLine (length root) ∷ []

-- lines, each with a newline after it
abbrev pub lines_text : List Line → List ℕ
lines_text lines = flat_map (λ line. line_text line ++ 10 ∷ []) lines

-- the image of a root
abbrev pub image_text : Entries → List ℕ
image_text root = lines_text (image_lines root)
