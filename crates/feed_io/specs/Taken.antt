-- What reading has taken so far.
use Rattle.std.specs.Prelude.{◌≡◌, ◌≢◌, ℕ, List, ◌++◌, length, Option, Some, None}
use Rattle.feed_io.specs.declared.feed.FeedFile.{FeedFile}
use Rattle.feed_io.specs.declared.feed.FeedError.{FeedError}
use Rattle.feed_io.specs.declared.feed.FeedError.TheVariants as why
use Rattle.feed_io.specs.declared.read.ReadFault.{ReadFault}
use Rattle.feed_io.specs.declared.read.ReadFault.TheVariants.{Feed, TooManyFiles, TooLarge, BadPath, Twice, Memory}
use Rattle.feed_io.specs.declared.read.Taken.{Taken}
use Rattle.br_path.specs.PathFault.{path_fault}
use Rattle.feed_io.specs.Reading.{files_of, total_size, IsFaultless, HasFault}

-- so many files without fault are taken, each into the map, and the size of their contents together is known
pub record IsTaken (before : List FeedFile) (number : ℕ) (taken : Taken) : Type 0 where
  pub faultless : IsFaultless before
  pub files : taken.files ≡ files_of before
  pub size : taken.size ≡ total_size before
  pub count : number ≡ length before

-- of a feed that tells its files, those taken are the first, and the rest are left
pub record IsBegun (told left : Option (List FeedFile)) (before : List FeedFile) (number : ℕ) (taken : Taken) : Type 0 where
  pub rest : (list : List FeedFile) → told ≡ Some list → (behind : List FeedFile) × (list ≡ before ++ behind) × (left ≡ Some behind)
  pub front : IsTaken before number taken

-- why the file after those taken isn't taken; out of memory may be answered whatever the file
abbrev pub IsRefused : List FeedFile → FeedFile → ReadFault → Type 0
IsRefused before file Feed = ⊥
IsRefused before file Memory = Unit {0}
IsRefused before file TooManyFiles = HasFault before file TooManyFiles
IsRefused before file TooLarge = HasFault before file TooLarge
IsRefused before file (BadPath number) = HasFault before file (BadPath number)
IsRefused before file (Twice at) = HasFault before file (Twice at)

-- why the text of a file's path isn't read
abbrev pub IsBadPath : FeedFile → ℕ → ReadFault → Type 0
IsBadPath file number Feed = ⊥
IsBadPath file number Memory = Unit {0}
IsBadPath file number TooManyFiles = ⊥
IsBadPath file number TooLarge = ⊥
IsBadPath file number (BadPath at) = (at ≡ number) × (path_fault file.path ≢ None)
IsBadPath file number (Twice at) = ⊥

-- what a feed's error is to its reader
abbrev pub read_fault : FeedError → ReadFault
read_fault why.Failed = Feed
read_fault why.Memory = Memory
