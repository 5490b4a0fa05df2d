-- The tasks of the selected packages, and what they need.
use Rattle.std.specs.Prelude.{◌≡◌, ℕ, ◌+◌, ◌*◌, ◌⊎◌, ◌↔◌, List, ◌∷◌, ◌++◌, [], length, flat_map, Contains, slice_get, Option, Some, codes}
use Rattle.std.specs.List.{position}
use Rattle.dep_graph.specs.Needs.{Needs, needs_of, IsNeeds}
use Rattle.br_path.specs.Text.{is_text}
use Rattle.plan_rows.specs.declared.rows.Part.{Part}
use Rattle.plan_rows.specs.declared.rows.Part.TheVariants.{Prep, Make}
use Rattle.selection.specs.declared.listed.Listed.{Listed}

-- the task of a package, by its place among the selected ones: its prep, or its make, which is the next
abbrev pub task_at : Part → ℕ → ℕ
task_at Prep place = 2 * place
task_at Make place = 2 * place + 1

-- the names of the tasks, by their numbers
abbrev pub names_of : List Listed → List (List ℕ)
names_of chosen = flat_map (λ item. (item.made.name ++ codes ":prep") ∷ (item.made.name ++ codes ":make") ∷ []) chosen

-- the place of the package of a name
abbrev pub place_of : List Listed → List ℕ → Option ℕ
place_of chosen name = position (λ item. is_text name item.made.name) chosen

-- a task is the prep, or the make, of a package with one of these names
abbrev pub IsTaskOf : List Listed → Part → List (List ℕ) → ℕ → Type 0
IsTaskOf chosen part names task = (name : List ℕ) × (place : ℕ) × Contains names name × (place_of chosen name ≡ Some place) × (task ≡ task_at part place)

-- a prep needs the makes of the packages that must be made before it is extracted, and the preps of those that must be extracted before it is patched
abbrev pub PrepNeeds : List Listed → Listed → ℕ → Type 0
PrepNeeds chosen item need = IsTaskOf chosen Make item.extract need ⊎ IsTaskOf chosen Prep item.patch need

-- a make needs the prep of its package, and the makes of the packages that it depends on or that must be made before it is extracted
abbrev pub MakeNeeds : List Listed → ℕ → Listed → ℕ → Type 0
MakeNeeds chosen prep item need = (need ≡ prep) ⊎ IsTaskOf chosen Make (item.depends ++ item.extract) need

-- what the tasks of the selected packages need
pub record AreNeeds (chosen : List Listed) (needs : Needs) : Type 0 where
  pub rising : IsNeeds needs
  pub count : length needs ≡ 2 * length chosen
  pub prep : (place : ℕ) (item : Listed) → slice_get chosen place ≡ Some item →
      (need : ℕ) → Contains (needs_of needs (task_at Prep place)) need ↔ PrepNeeds chosen item need
  pub make : (place : ℕ) (item : Listed) → slice_get chosen place ≡ Some item →
      (need : ℕ) → Contains (needs_of needs (task_at Make place)) need ↔ MakeNeeds chosen (task_at Prep place) item need

-- a task needs those of which something holds from then on, beside what it needed, and nothing else changes
pub record AreAdded (old : Needs) (task : ℕ) (Added : ℕ → Type 0) (new : Needs) : Type 0 where
  pub count : length new ≡ length old
  pub needs : (other need : ℕ) → Contains (needs_of new other) need ↔ (Contains (needs_of old other) need ⊎ ((other ≡ task) × Added need))
