-- What every line keeps.
use Rattle.std.specs.Prelude.{ℕ, List}
use Rattle.tree_worlds.specs.World.{WorldData}
use Rattle.tree_worlds.specs.Kept.{left_by}
use Rattle.pkg_steps.specs.Lines.{Shell}

-- what each line and the copy of the source keep, wherever they end
pub record KeepsEach (kept : WorldData → WorldData → Type 0) (shell : Shell) : Type 0 where
  pub line : (text : List ℕ) (world : WorldData) → kept world (left_by (shell.line text world))
  pub copy : (world : WorldData) → kept world (left_by (shell.copy world))
