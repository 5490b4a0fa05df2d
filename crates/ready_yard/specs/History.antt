-- Histories of turns, and which of them are legal.
use Rattle.std.specs.Prelude.{◌≡◌, ℕ, ◌<◌, ◌≤◌, List, [], ◌∷◌, ◌++◌, length, Bool, true, false, ◌&&◌, not, Option, Some, None, if◌then◌else◌, nat_eq, nat_lt}
use Rattle.std.specs.List.{list_any, list_all, fold, count_by}
use Rattle.dep_graph.specs.Needs.{Needs, needs_of}
use Rattle.ready_yard.specs.declared.turn.Turn.{Turn}
use Rattle.ready_yard.specs.declared.turn.Turn.TheVariants.{Start, End}
use Rattle.ready_yard.specs.declared.yard.Take.{Take}
use Rattle.ready_yard.specs.declared.yard.Take.TheVariants as take

-- whether a turn starts a task
abbrev pub starts : ℕ → Turn → Bool
starts t (Start w k) = nat_eq k t
starts t (End w k) = false

-- whether a turn ends a task
abbrev pub ends : ℕ → Turn → Bool
ends t (Start w k) = false
ends t (End w k) = nat_eq k t

-- whether a task has started in a history, and whether it has ended
abbrev pub started : List Turn → ℕ → Bool
started h t = list_any (starts t) h

abbrev pub ended : List Turn → ℕ → Bool
ended h t = list_any (ends t) h

-- what a worker runs after a turn, if it ran r before
abbrev pub runs_after : ℕ → Option ℕ → Turn → Option ℕ
runs_after w r (Start v t) = if nat_eq v w then Some t else r
runs_after w r (End v t) = if nat_eq v w then None else r

-- what a worker runs after a history
abbrev pub runs : List Turn → ℕ → Option ℕ
runs h w = fold (runs_after w) None h

-- a task of the graph that never started and whose needs have all ended
abbrev pub is_ready : Needs → List Turn → ℕ → Bool
is_ready g h t = nat_lt t (length g) && (not (started h t) && list_all (ended h) (needs_of g t))

-- how many needs of a task have not ended
abbrev pub unmet : Needs → List Turn → ℕ → ℕ
unmet g h t = count_by (λ need. not (ended h need)) (needs_of g t)

-- the least task that is ready
pub record IsLeastReady (g : Needs) (h : List Turn) (t : ℕ) : Type 0 where
  pub ready : is_ready g h t ≡ true
  pub least : (k : ℕ) → k < t → is_ready g h k ≡ false

-- a turn may follow a history: one of n workers, which runs nothing, starts the least task that is ready; or a worker
-- ends the task that it runs
abbrev pub MayFollow : Needs → ℕ → List Turn → Turn → Type 0
MayFollow g n h (Start w t) = (1 ≤ w) × (w ≤ n) × (runs h w ≡ None) × IsLeastReady g h t
MayFollow g n h (End w t) = runs h w ≡ Some t

-- each of these turns may follow the past and those before it
abbrev pub IsLegalFrom : Needs → ℕ → List Turn → List Turn → Type 0
IsLegalFrom g n past [] = Unit {0}
IsLegalFrom g n past (x ∷ xs) = MayFollow g n past x × IsLegalFrom g n (past ++ x ∷ []) xs

-- a legal history of a graph and n workers
abbrev pub IsLegal : Needs → ℕ → List Turn → Type 0
IsLegal g n h = IsLegalFrom g n [] h

-- every task has ended
abbrev pub IsWhole : Needs → List Turn → Type 0
IsWhole g h = (t : ℕ) → t < length g → ended h t ≡ true

-- no task is ready
abbrev pub NoneReady : Needs → List Turn → Type 0
NoneReady g h = (k : ℕ) → is_ready g h k ≡ false

-- no worker runs a task, and some worker does
abbrev pub NoneRuns : List Turn → Type 0
NoneRuns h = (w : ℕ) → runs h w ≡ None

abbrev pub SomeRuns : List Turn → Type 0
SomeRuns h = (w : ℕ) × (t : ℕ) × (runs h w ≡ Some t)

-- what a worker that asks is told, and the history after it
abbrev pub Takes : Needs → List Turn → ℕ → Take → List Turn → Type 0
Takes g old w (take.Job t) new = IsLeastReady g old t × (new ≡ old ++ Start w t ∷ [])
Takes g old w take.Wait new = NoneReady g old × SomeRuns old × (new ≡ old)
Takes g old w take.End new = NoneReady g old × NoneRuns old × (new ≡ old)
