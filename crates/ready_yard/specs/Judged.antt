-- What a list of turns is judged to be.
use Rattle.std.specs.Prelude.{◌≡◌, ℕ, ◌+◌, ◌<◌, ◌≤◌, List, take, length, true, false, Bool, Option, Some, None, slice_index_or}
use Rattle.std.specs.List.{list_all}
use Rattle.dep_graph.specs.Needs.{Needs, needs_of}
use Rattle.ready_yard.specs.declared.turn.Turn.{Turn}
use Rattle.ready_yard.specs.declared.turn.Turn.TheVariants.{Start, End}
use Rattle.ready_yard.specs.declared.checker.Why.{Why}
use Rattle.ready_yard.specs.declared.checker.Why.TheVariants.{NoSuchWorker, WorkerBusy, NoSuchTask, StartedTwice, NeedNotEnded, NotLeast, NotRunning}
use Rattle.ready_yard.specs.declared.checker.Judgement.{Judgement}
use Rattle.ready_yard.specs.declared.checker.Judgement.TheVariants.{Whole, Unfinished, Wrong}
use Rattle.ready_yard.specs.History.{started, ended, runs, is_ready, MayFollow, IsLegal, IsWhole}

-- why the start of a task may not follow a history
abbrev pub IsBadStart : Needs → ℕ → List Turn → ℕ → ℕ → Why → Type 0
IsBadStart g n h w t NoSuchWorker = (1 ≤ w) × (w ≤ n) → ⊥
IsBadStart g n h w t WorkerBusy = (k : ℕ) × (runs h w ≡ Some k)
IsBadStart g n h w t NoSuchTask = length g ≤ t
IsBadStart g n h w t StartedTwice = started h t ≡ true
IsBadStart g n h w t NeedNotEnded = list_all (ended h) (needs_of g t) ≡ false
IsBadStart g n h w t NotLeast = (is_ready g h t ≡ true) × ((k : ℕ) × (k < t) × (is_ready g h k ≡ true))
IsBadStart g n h w t NotRunning = ⊥

-- why the end of a task may not
abbrev pub IsBadEnd : List Turn → ℕ → ℕ → Why → Type 0
IsBadEnd h w t NotRunning = runs h w ≡ Some t → ⊥
IsBadEnd h w t NoSuchWorker = ⊥
IsBadEnd h w t WorkerBusy = ⊥
IsBadEnd h w t NoSuchTask = ⊥
IsBadEnd h w t StartedTwice = ⊥
IsBadEnd h w t NeedNotEnded = ⊥
IsBadEnd h w t NotLeast = ⊥

abbrev pub IsBad : Needs → ℕ → List Turn → Turn → Why → Type 0
IsBad g n h (Start w t) why = IsBadStart g n h w t why
IsBad g n h (End w t) why = IsBadEnd h w t why

-- a turn may follow a history, or why it may not
abbrev pub IsFault : Needs → ℕ → List Turn → Turn → Option Why → Type 0
IsFault g n h turn None = MayFollow g n h turn
IsFault g n h turn (Some why) = IsBad g n h turn why

-- the turn at a place of a list
abbrev pub turn_at : List Turn → ℕ → Turn
turn_at h place = slice_index_or h place (End 0 0)

-- a list of turns is a legal and whole history, a legal one that isn't whole, or none; then the turn at a place is the
-- first that may not follow those before it
abbrev pub IsJudged : Needs → ℕ → List Turn → Judgement → Type 0
IsJudged g n h Whole = IsLegal g n h × IsWhole g h
IsJudged g n h Unfinished = IsLegal g n h × (IsWhole g h → ⊥)
IsJudged g n h (Wrong place why) = (place < length h) × IsLegal g n (take place h) × (MayFollow g n (take place h) (turn_at h place) → ⊥)
    × IsBad g n (take place h) (turn_at h place) why × (IsLegal g n h → ⊥)

-- for each task whether it has started and whether it has ended, and for each worker what it runs
pub record IsPast (g : Needs) (n : ℕ) (begun over : List Bool) (hands : List (Option ℕ)) (h : List Turn) : Type 0 where
  pub begun_len : length begun ≡ length g
  pub begun_is : (t : ℕ) → slice_index_or begun t false ≡ started h t
  pub over_len : length over ≡ length g
  pub over_is : (t : ℕ) → slice_index_or over t false ≡ ended h t
  pub hands_len : length hands ≡ n + 1
  pub hands_is : (w : ℕ) → slice_index_or hands w None ≡ runs h w
