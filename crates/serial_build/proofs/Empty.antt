-- Shelves of tasks none of which has run.
use Rattle.std.proofs.Common.{ℕ, ◌≡◌, ◌≤◌, ◌<◌, ◌⊎◌, inl, inr, List, length, All, Some, None, slice_get, slice_index_or, sym, ap, subst, ◌∙◌}
use Rattle.std.proofs.lemmas.Option.{slice_get_cases}
use Rattle.tree_ops.specs.declared.entry.Label.{Label}
use Rattle.std.specs.Prelude.{Bool}
use Rattle.tree_ops.specs.Tree.{Tree}
use Rattle.task_shelves.specs.declared.shelf.Shelf.{Shelf}
use Rattle.task_shelves.specs.declared.shelf.Shelf.TheVariants.{Skipped}
use Rattle.task_shelves.specs.Sealed.{IsSealedShelf}
use Rattle.task_shelves.specs.Shelf.{no_shelf, shelf_data}
use Rattle.serial_build.specs.Serial.{shelf_or, shelves_data}

abbrev pub AreNone : {T : Type 0} → List (Shelf T) → Type 0
AreNone items = All (λ shelf. shelf ≡ Skipped 0) items

-- each stands for none
pub none_at : {T : Type 0} (tree : T → Tree) (items : List (Shelf T)) → AreNone items → (task : ℕ) → shelves_data tree items task ≡ no_shelf
none_at {T = T} tree items are task = by (slice_get_cases items task).1
  where
    by : ((x : Shelf T) × (task < length items) × (slice_get items task ≡ Some x) × (slice_index_or items task x ≡ x)) ⊎ ((length items ≤ task) × (slice_get items task ≡ None)) → shelf_or tree (slice_get items task) ≡ no_shelf
    by (inl (x, below, is, same)) = ap (shelf_or tree) is ∙ ap (shelf_data tree) (sym same ∙ are task x below)
    by (inr (past, is)) = ap (shelf_or tree) is

-- and has no trees
pub none_sealed : {T : Type 0} (tree : T → Tree) (sealed : T → Label → Bool) (items : List (Shelf T)) → AreNone items → All (IsSealedShelf tree sealed) items
none_sealed tree sealed items are k d below = subst (IsSealedShelf tree sealed) (sym (are k d below)) tt
