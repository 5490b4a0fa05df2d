-- The search in depth: what it has met so far, and its steps.
use Rattle.std.specs.Prelude.{◌≡◌, ℕ, ◌+◌, ◌-◌, ◌<◌, ◌≤◌, Bool, true, false, List, [], ◌∷◌, ◌++◌, length, drop, reverse, replicate, slice_index, slice_index_or, slice_set, nat_eq, ◌==◌, if◌then◌else◌, Option, Some, None}
use Rattle.std.specs.List.{IsDistinct, slice_get}
use Rattle.std.specs.Option.{option_map}
use Rattle.cycle_walks.specs.declared.depth_first.Mark.{Mark}
use Rattle.cycle_walks.specs.declared.depth_first.Mark.TheVariants.{Unmet, Open, Done}
use Rattle.cycle_walks.specs.declared.depth_first.Descent.{Descent}
use Rattle.cycle_walks.specs.Graph.{Rows, row, is_in, names}
use Rattle.cycle_walks.specs.Order.{AreInOrder}
use Rattle.cycle_walks.specs.Walks.{OnCycle}

-- a mark for each node; the nodes that are open, the one met last first; the nodes that are done, in order
pub record State : Type 0 where
  pub marks : List Mark
  pub path : List ℕ
  pub order : List ℕ

abbrev pub shown : Descent → State
shown descent = record { marks = descent.marks.items; path = reverse descent.path.items; order = descent.order.items }

-- the mark of a node
abbrev pub mark_at : List Mark → ℕ → Mark
mark_at marks node = slice_index_or marks node Unmet

abbrev pub is_open : Mark → Bool
is_open Unmet = false
is_open (Open count) = true
is_open Done = false

abbrev pub is_done : Mark → Bool
is_done Unmet = false
is_done (Open count) = false
is_done Done = true

-- ---- steps

abbrev pub unmet : ℕ → State
unmet count = record { marks = replicate count Unmet; path = []; order = [] }

abbrev pub met : State → ℕ → ℕ → State
met s node len = record { marks = slice_set s.marks node (Open len); path = node ∷ s.path; order = s.order }

abbrev pub passed : State → ℕ → ℕ → State
passed s node place = record { marks = slice_set s.marks node (Open place); path = s.path; order = s.order }

abbrev pub finished : State → ℕ → State
finished s node = record { marks = slice_set s.marks node Done; path = drop 1 s.path; order = s.order ++ node ∷ [] }

-- the node that was met last of those that are open
abbrev pub top_of : List ℕ → Option ℕ
top_of [] = None
top_of (top ∷ rest) = Some top

-- the last of the places in a row that are still to be looked at, and the node there
abbrev pub next_in : List ℕ → Mark → Option (ℕ × ℕ)
next_in row Unmet = None
next_in row (Open count) = if count == 0 then None else option_map (λ node. (count - 1, node)) (slice_get row (count - 1))
next_in row Done = None

-- ---- what the steps keep

-- each node is named by the one after it
abbrev pub IsLinked : (ℕ → ℕ → Bool) → List ℕ → Type 0
IsLinked names [] = Unit {0}
IsLinked names (node ∷ []) = Unit {0}
IsLinked names (node ∷ before ∷ rest) = (names before node ≡ true) × IsLinked names (before ∷ rest)

pub record IsDescent (rows : Rows) (s : State) : Type 0 where
  pub marked : length s.marks ≡ length rows
  -- the path has the open nodes, each once, and each is named by the one before
  pub open_is : (node : ℕ) → is_in s.path node ≡ is_open (mark_at s.marks node)
  pub apart : IsDistinct nat_eq s.path
  pub linked : IsLinked (names rows) s.path
  -- of an open node's row, those that aren't to be looked at any more are done
  pub within : (node count : ℕ) → mark_at s.marks node ≡ Open count → count ≤ length (row rows node)
  pub looked : (node count place : ℕ) → mark_at s.marks node ≡ Open count → count ≤ place → place < length (row rows node)
      → is_done (mark_at s.marks (slice_index (row rows node) place)) ≡ true
  -- the order has the nodes that are done
  pub done_is : (node : ℕ) → is_in s.order node ≡ is_done (mark_at s.marks node)
  pub in_order : AreInOrder (names rows) s.order

-- how many steps are left at most with a node that has a row of this length
abbrev pub left_with : ℕ → Mark → ℕ
left_with len Unmet = len + 2
left_with len (Open count) = count + 1
left_with len Done = 0

-- how many steps are left at most with all nodes
abbrev pub left : Rows → List Mark → ℕ
left [] marks = 0
left (row ∷ rows) [] = 0
left (row ∷ rows) (mark ∷ marks) = left_with (length row) mark + left rows marks

-- what was met stays so
abbrev pub KeepsMet : List Mark → List Mark → Type 0
KeepsMet old new = (node : ℕ) → mark_at new node ≡ Unmet → mark_at old node ≡ Unmet

-- a step leaves fewer, or gives a node on a cycle
abbrev pub Steps : Rows → State → Option ℕ → State → Type 0
Steps rows old None new = IsDescent rows new × KeepsMet old.marks new.marks × (left rows new.marks < left rows old.marks)
Steps rows old (Some node) new = (node < length rows) × OnCycle (names rows) node

-- the search is through with a node and all that it leads to, or gives a node on a cycle
abbrev pub Descends : Rows → ℕ → State → Option ℕ → State → Type 0
Descends rows start old None new = IsDescent rows new × KeepsMet old.marks new.marks × (mark_at new.marks start ≡ Unmet → ⊥) × (new.path ≡ [])
Descends rows start old (Some node) new = (node < length rows) × OnCycle (names rows) node
