-- What a feed gives.
use Rattle.std.specs.Prelude.{◌≡◌, List, [], ◌∷◌, Option, Some, None, Result, Ok, Err}
use Rattle.feed_io.specs.declared.feed.FeedFile.{FeedFile}
use Rattle.feed_io.specs.declared.feed.FeedError.{FeedError}

-- one call of a feed that tells its files takes the first file left, or finds none left; one that fails takes none
abbrev pub Takes : Option (List FeedFile) → Result (Option FeedFile) FeedError → Option (List FeedFile) → Type 0
Takes old (Ok (Some file)) new = (files : List FeedFile) → old ≡ Some files → (rest : List FeedFile) × (files ≡ file ∷ rest) × (new ≡ Some rest)
Takes old (Ok None) new = (files : List FeedFile) → old ≡ Some files → (files ≡ []) × (new ≡ Some [])
Takes old (Err error) new = new ≡ old
