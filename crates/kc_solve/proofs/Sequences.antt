-- Orders and cycles of the graph of symbols are those of their names.
use Rattle.std.proofs.Common.{ℕ, ◌≡◌, ◌<◌, ◌↔◌, nat_lt, true, ◌&&◌, List, [], length, get_or, Contains, sym, ap, ap₂, subst, ◌∙◌, inl, inr}
use Rattle.std.proofs.lemmas.Bool.{and_parts, ltb-true, lt-ltb, cases_lt, false≢true}
use Rattle.std.proofs.lemmas.List.{get_or_past}
use Rattle.cycle_walks.specs.Graph.{Rows, is_in}
use Rattle.cycle_walks.specs.Graph.{names as names_node}
use Rattle.cycle_walks.specs.Order.{IsOrder}
use Rattle.cycle_walks.specs.Walks as node
use Rattle.cycle_walks.proofs.Ordered.{no_cycle}
use Rattle.kc_menu.specs.Menu.{Declared}
use Rattle.kc_menu.specs.declared.wishes.Wish.{Wish}
use Rattle.kc_equations.specs.Faults.{NoNamedMember, NoNamedValue, NoCycle, IsFirstFault}
use Rattle.kc_equations.specs.declared.fault.SolveFault.{SolveFault}
use Rattle.kc_equations.specs.declared.fault.SolveFault.TheVariants.{SelectOfChoice, SelectOfValue, Cycle, BadNumber, Memory}
use Rattle.kc_solve.specs.Filled.{names_at, names_within}
use Rattle.kc_solve.specs.Index.{AreDeclared}
use Rattle.kc_solve.specs.Sequence.{IsNameGraph, IsLeastOnCycle, IsCycleFault}
use Rattle.kc_solve.specs.Symbols.{AreSymbols, symbol_at}
use Rattle.kc_solve.proofs.CycleLaws.{least_symbol, no_cycle_down}

pub within_parts : (menu : Declared) (symbols : List (List ℕ)) (s t : ℕ) → names_within menu symbols s t ≡ true → (s < length symbols) × (t < length symbols) × (names_at menu symbols s t ≡ true)
within_parts menu symbols s t step =
    let whole = and_parts (nat_lt s (length symbols) && nat_lt t (length symbols)) (names_at menu symbols s t) step in
    let both = and_parts (nat_lt s (length symbols)) (nat_lt t (length symbols)) whole.0 in
    (ltb-true s (length symbols) both.0, ltb-true t (length symbols) both.1, whole.1)

pub within_same : (menu : Declared) (symbols : List (List ℕ)) (s t : ℕ) → s < length symbols → t < length symbols → names_within menu symbols s t ≡ names_at menu symbols s t
within_same menu symbols s t first second =
    ap₂ (λ a b. (a && b) && names_at menu symbols s t) (lt-ltb s (length symbols) first) (lt-ltb t (length symbols) second)

-- where nothing is selected that can't be, a cycle is the first fault
pub cycle_first : (menu : Declared) (wishes : List Wish) (fault : SolveFault) → NoNamedMember menu → NoNamedValue menu → IsCycleFault menu fault → IsFirstFault menu wishes fault
cycle_first menu wishes (SelectOfChoice symbol) members plain is = absurd is
cycle_first menu wishes (SelectOfValue symbol) members plain is = absurd is
cycle_first menu wishes (Cycle symbol) members plain is = (members, plain, is)
cycle_first menu wishes (BadNumber symbol) members plain is = absurd is
cycle_first menu wishes Memory members plain is = tt

-- a node that names another is there
names_short : (rows : Rows) (s t : ℕ) → names_node rows s t ≡ true → s < length rows
names_short rows s t step =
    elim (cases_lt s (length rows)) [
      | inl short ↦ short
      | inr past ↦ absurd (false≢true (sym (ap (λ r. is_in r t) (get_or_past rows s [] past)) ∙ step))
    ]

module _ (menu : Declared) (symbols : List (List ℕ)) (are : AreSymbols symbols) (declared : AreDeclared menu symbols) where
  -- where the symbols can be ordered there is no cycle
  pub acyclic : (order : List ℕ) → IsOrder (length symbols) (names_within menu symbols) order → NoCycle menu
  acyclic order is =
      no_cycle_down menu symbols are declared (names_within menu symbols) (λ s t step. let parts = within_parts menu symbols s t step in (parts.0, parts.1)) (within_same menu symbols)
      (no_cycle (length symbols) (names_within menu symbols) order (λ s t step. (within_parts menu symbols s t step).1) is)

  module _ (rows : Rows) (graph : IsNameGraph menu symbols rows) where
    -- an order of the graph's nodes is one of the symbols
    pub order_up : (order : List ℕ) → IsOrder (length rows) (names_node rows) order → IsOrder (length symbols) (names_within menu symbols) order
    order_up order is = record {
      nodes = λ place. subst (λ n. Contains order place ↔ (place < n)) graph.nodes (is.nodes place);
      in_order = λ i short. record {
        fresh = (is.in_order i short).fresh;
        named = λ other step.
            let parts = within_parts menu symbols (get_or order i 0) other step in
            (is.in_order i short).named other (graph.names (get_or order i 0) other parts.0 parts.1 ∙ parts.2);
      };
    }

    -- the least node on a cycle is the least symbol on one
    pub least_up : (place : ℕ) → place < length symbols → node.IsLeast (node.OnCycle (names_node rows)) place → IsLeastOnCycle menu (symbol_at symbols place)
    least_up =
        least_symbol menu symbols are declared (names_node rows)
        (λ s t step. (subst (λ n. s < n) graph.nodes (names_short rows s t step), subst (λ n. t < n) graph.nodes (graph.graph.closed s t step)))
        graph.names
