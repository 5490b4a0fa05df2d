-- What a feed over a folder is to its callers.
use Rattle.std.specs.Prelude.{ℕ}

-- how often it was asked, and how often it failed
pub record Counts : Type 0 where
  pub calls : ℕ
  pub faults : ℕ
