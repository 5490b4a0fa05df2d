-- The files of a feed's list, or its first fault.
use Rattle.std.specs.Prelude.{◌≡◌, ◌≢◌, ℕ, ◌+◌, ◌<◌, ◌≤◌, List, ◌∷◌, ◌++◌, map, length, sum_by, All, AllPairs, None, Result, Ok, Err}
use Rattle.std.specs.FinMap as fin
use Rattle.br_path.specs.Path.{Names, parts, StartsWith}
use Rattle.br_path.specs.PathFault.{path_fault}
use Rattle.br_path.specs.Files.{FileMap, Clashes}
use Rattle.feed_io.specs.declared.feed.FeedFile.{FeedFile}
use Rattle.feed_io.specs.declared.read.ReadFault.{ReadFault}
use Rattle.feed_io.specs.declared.read.ReadFault.TheVariants.{Feed, TooManyFiles, TooLarge, BadPath, Twice, Memory}

-- a file's place, as the names in its path's text
abbrev pub place_of : FeedFile → Names
place_of file = parts file.path

-- the files of a list, as a map
abbrev pub files_of : List FeedFile → FileMap
files_of list = fin.from_entries (map (λ file. (place_of file, file.bytes)) list)

abbrev pub total_size : List FeedFile → ℕ
total_size list = sum_by (λ file. length file.bytes) list

-- neither path is the other's head
abbrev pub AreApart : FeedFile → FeedFile → Type 0
AreApart a b = (StartsWith (place_of a) (place_of b) → ⊥) × (StartsWith (place_of b) (place_of a) → ⊥)

-- a list without fault: at most 65,536 files, each with a path, none at or above another's, of at most 67,108,864 bytes together
pub record IsFaultless (list : List FeedFile) : Type 0 where
  pub few : length list ≤ 65536
  pub paths : All (λ file. path_fault file.path ≡ None) list
  pub apart : AllPairs AreApart list
  pub small : total_size list ≤ 67108864

-- the fault of a file after a faultless list, the first of these: one file too many; a text that is no path, by the file's
-- number from 0; a path at, above or below one that is there; too many bytes together
abbrev pub HasFault : List FeedFile → FeedFile → ReadFault → Type 0
HasFault before file Feed = ⊥
HasFault before file Memory = ⊥
HasFault before file TooManyFiles = length before ≡ 65536
HasFault before file (BadPath number) = (length before < 65536) × (path_fault file.path ≢ None) × (number ≡ length before)
HasFault before file (Twice at) =
    (length before < 65536) × (path_fault file.path ≡ None) × Clashes (files_of before) (place_of file) × (at ≡ place_of file)
HasFault before file TooLarge =
    (length before < 65536) × (path_fault file.path ≡ None) × (Clashes (files_of before) (place_of file) → ⊥) × (67108864 < total_size before + length file.bytes)

-- the fault of a list: that of its first file at fault
pub record IsFirstReadFault (list : List FeedFile) (fault : ReadFault) : Type 0 where
  pub before : List FeedFile
  pub file : FeedFile
  pub behind : List FeedFile
  pub cut : list ≡ before ++ file ∷ behind
  pub faultless : IsFaultless before
  pub cause : HasFault before file fault

-- what reading a list answers: its files where it has no fault, else its fault; a failing feed and out of memory may be
-- answered whatever the list
abbrev pub IsReading : List FeedFile → Result FileMap ReadFault → Type 0
IsReading list (Ok files) = IsFaultless list × (files ≡ files_of list)
IsReading list (Err Feed) = Unit {0}
IsReading list (Err Memory) = Unit {0}
IsReading list (Err fault) = IsFirstReadFault list fault
