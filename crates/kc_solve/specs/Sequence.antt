-- The graph of the symbols, and what keeps them from being ordered.
use Rattle.std.specs.Prelude.{ℕ, ◌≡◌, ◌<◌, ⊤, List, length}
use Rattle.cycle_walks.specs.Graph.{Rows, IsGraph}
use Rattle.cycle_walks.specs.Graph.{names as names_node}
use Rattle.kc_menu.specs.Menu.{Declared}
use Rattle.kc_equations.specs.Faults.{IsLeast}
use Rattle.kc_equations.specs.Names.{names}
use Rattle.kc_equations.specs.Walks.{OnCycle}
use Rattle.kc_equations.specs.declared.fault.SolveFault.{SolveFault}
use Rattle.kc_equations.specs.declared.fault.SolveFault.TheVariants.{SelectOfChoice, SelectOfValue, Cycle, BadNumber, Memory}
use Rattle.kc_solve.specs.Filled.{names_at}

-- a graph of the symbols by their places: each names those that its equation does
pub record IsNameGraph (menu : Declared) (symbols : List (List ℕ)) (rows : Rows) : Type 0 where
  pub graph : IsGraph rows
  pub nodes : length rows ≡ length symbols
  pub names : (place other : ℕ) → place < length symbols → other < length symbols → names_node rows place other ≡ names_at menu symbols place other

-- the least symbol on a cycle
abbrev pub IsLeastOnCycle : Declared → List ℕ → Type 0
IsLeastOnCycle menu symbol = IsLeast (OnCycle (names menu)) symbol

-- that symbol, or out of memory
abbrev pub IsCycleFault : Declared → SolveFault → Type 0
IsCycleFault menu (SelectOfChoice symbol) = ⊥
IsCycleFault menu (SelectOfValue symbol) = ⊥
IsCycleFault menu (Cycle symbol) = IsLeastOnCycle menu symbol
IsCycleFault menu (BadNumber symbol) = ⊥
IsCycleFault menu Memory = ⊤
