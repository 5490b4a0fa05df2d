-- Statements that are read one by one.
use Rattle.std.proofs.Common.{◌≡◌, ℕ, Ok, Err, Result, List, [], ◌∷◌, sym, subst}
use Rattle.mk_syntax.specs.declared.recipe.Statement.{Statement}
use Rattle.recipe_set.specs.declared.draft.Draft.{Draft}
use Rattle.recipe_set.specs.declared.reader.Reader.{Reader}
use Rattle.recipe_set.specs.declared.fault.PlanFault.{PlanFault}
use Rattle.recipe_set.specs.Block.{whats}
use Rattle.recipe_set.specs.Steps.{Steps, Runs, finished, stopped, onward, at}

module _ (folder : List ℕ) (draft : Draft) (recipe : List Statement) where
  -- what the statements that are left lead to, all statements lead to
  abbrev pub Leads : Reader → List Statement → Type 0
  Leads reader left = (end : Result Reader PlanFault) → Runs folder reader (whats left) end → Runs folder (at draft []) (whats recipe) end

  pub next_leads : (reader next : Reader) (left : List Statement) (statement : Statement) (rest : List Statement) → Leads reader left → left ≡ statement ∷ rest → Steps folder reader statement.what (Ok next) → Leads next rest
  next_leads reader next left statement rest leads is step end runs =
      leads end (subst (λ statements. Runs folder reader (whats statements) end) (sym is) (onward next step runs))

  pub stop_leads : (reader : Reader) (left : List Statement) (statement : Statement) (rest : List Statement) (fault : PlanFault) → Leads reader left → left ≡ statement ∷ rest → Steps folder reader statement.what (Err fault) → Runs folder (at draft []) (whats recipe) (Err fault)
  stop_leads reader left statement rest fault leads is step =
      leads (Err fault) (subst (λ statements. Runs folder reader (whats statements) (Err fault)) (sym is) (stopped fault step))

  pub end_leads : (reader : Reader) (left : List Statement) → Leads reader left → left ≡ [] → Runs folder (at draft []) (whats recipe) (Ok reader)
  end_leads reader left leads is = leads (Ok reader) (subst (λ statements. Runs folder reader (whats statements) (Ok reader)) (sym is) finished)
