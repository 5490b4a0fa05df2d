-- What a feed over files in memory is to its callers.
use Rattle.std.specs.Prelude.{ℕ, List}
use Rattle.feed_io.specs.declared.feed.FeedFile.{FeedFile}

-- the files left, the calls that fail, counted from 1, and the counts of calls and of faults, which stand still at their end
pub record FeedState : Type 0 where
  pub left : List FeedFile
  pub fails : List ℕ
  pub calls : ℕ
  pub faults : ℕ
