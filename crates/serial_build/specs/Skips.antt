-- Why a task is skipped.
use Rattle.std.specs.Prelude.{ℕ, ◌<◌, List, Contains}
use Rattle.task_shelves.specs.Grounded.{IsBuilt}
use Rattle.serial_build.specs.Serial.{Shelves}

-- the least of a task's needs that isn't built
pub record IsLeastUnbuilt (needs : List ℕ) (shelves : Shelves) (by : ℕ) : Type 0 where
  pub needed : Contains needs by
  pub unbuilt : IsBuilt (shelves by) → ⊥
  pub before : (need : ℕ) → Contains needs need → need < by → IsBuilt (shelves need)
