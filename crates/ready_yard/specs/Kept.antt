-- What a yard keeps.
use Rattle.std.specs.Prelude.{◌≡◌, ℕ, ◌+◌, ◌-◌, ◌*◌, ◌<◌, ◌≤◌, List, length, Bool, true, false, ◌&&◌, Option, Some, None, slice_index_or, nat_eq, nat_lt}
use Rattle.std.specs.List.{list_all, sum_by}
use Rattle.dep_graph.specs.Needs.{Needs, needs_of}
use Rattle.dep_graph.specs.Waiting.{count_of, AreUsers}
use Rattle.ready_yard.specs.declared.turn.Turn.{Turn}
use Rattle.ready_yard.specs.History.{started, ended, runs, is_ready, unmet, IsLegal}
use Rattle.ready_yard.specs.TaskBits.{has}

-- what follows of a legal history
pub record IsSound (g : Needs) (n : ℕ) (h : List Turn) : Type 0 where
  pub open_ : (w t : ℕ) → runs h w ≡ Some t → (1 ≤ w) × (w ≤ n) × (t < length g) × (started h t ≡ true) × (ended h t ≡ false)
  pub alone : (w v t : ℕ) → runs h w ≡ Some t → runs h v ≡ Some t → w ≡ v
  pub begun : (t : ℕ) → ended h t ≡ true → started h t ≡ true
  pub busy : (t : ℕ) → started h t ≡ true → ended h t ≡ false → (w : ℕ) × (runs h w ≡ Some t)
  pub met : (t : ℕ) → started h t ≡ true → list_all (ended h) (needs_of g t) ≡ true

-- for each task how many of its needs have not ended, and the tasks that are ready
pub record IsWaiting (g : Needs) (h : List Turn) (counts words : List ℕ) : Type 0 where
  pub few : length g ≤ 512
  pub sized : length counts ≡ length g
  pub counts_are : (t : ℕ) → slice_index_or counts t 0 ≡ unmet g h t
  pub ready_are : (t : ℕ) → has words t ≡ is_ready g h t

-- of the tasks below a bound those are in the set that wait for nothing
abbrev pub AreFirstReady : List ℕ → ℕ → List ℕ → Type 0
AreFirstReady counts bound words = (t : ℕ) → has words t ≡ (nat_lt t bound && nat_eq (slice_index_or counts t 0) 0)

-- some tasks wait for one need fewer each, as often as they are listed, and those that wait for nothing then are put in
pub record IsMet (counts words users new words_new : List ℕ) : Type 0 where
  pub sized : length new ≡ length counts
  pub fewer : (t : ℕ) → slice_index_or new t 0 ≡ slice_index_or counts t 0 - count_of t users
  pub put : (t : ℕ) → 0 < count_of t users → slice_index_or new t 0 ≡ 0 → has words_new t ≡ true
  pub kept : (t : ℕ) → (0 < count_of t users → slice_index_or new t 0 ≡ 0 → ⊥) → has words_new t ≡ has words t

-- what is left of a task's two turns: one where it hasn't come
abbrev pub left : Bool → ℕ
left true = 0
left false = 1

-- turns have room: each task has two at most
pub record HasRoom (g : Needs) (h : List Turn) (room : ℕ) : Type 0 where
  pub begun : List Bool
  pub over : List Bool
  pub begun_len : length begun ≡ length g
  pub begun_is : (t : ℕ) → slice_index_or begun t false ≡ started h t
  pub over_len : length over ≡ length g
  pub over_is : (t : ℕ) → slice_index_or over t false ≡ ended h t
  pub count : length h + (sum_by left begun + sum_by left over) ≡ 2 * length g
  pub space : 2 * length g ≤ room

pub record IsYard (g : Needs) (n : ℕ) (users : Needs) (counts words : List ℕ) (hands : List (Option ℕ)) (h : List Turn) (room : ℕ) : Type 0 where
  pub users_are : AreUsers g users
  pub users_len : length users ≡ length g
  pub waiting : IsWaiting g h counts words
  pub hands_len : length hands ≡ n + 1
  pub hands_is : (w : ℕ) → slice_index_or hands w None ≡ runs h w
  pub legal : IsLegal g n h
  pub sound : IsSound g n h
  pub room_is : HasRoom g h room
