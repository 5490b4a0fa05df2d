-- What the statements of a recipe come to one by one is what the recipe makes of what is read before it.
use Rattle.std.proofs.Common.{◌≡◌, ◌≢◌, ℕ, ◌+◌, ◌≤◌, true, false, cond, Ok, Err, Result, IfOk, IfErr, List, [], ◌∷◌, length, sym, refl, ap, ◌∙◌, subst, arith}
use Rattle.std.specs.Prelude.{◌==◌}
use Rattle.std.proofs.lemmas.List.{append-nil}
use Rattle.mk_syntax.specs.declared.recipe.Statement.{Statement}
use Rattle.mk_syntax.specs.declared.recipe.What.{What}
use Rattle.mk_syntax.specs.declared.fault.MkFault.{MkFault}
use Rattle.mk_syntax.specs.Lines.{joined_lines, line_count}
use Rattle.mk_syntax.specs.Grammar.{IsRecipeOf, IsFirstFault}
use Rattle.recipe_set.specs.declared.draft.Draft.{Draft}
use Rattle.recipe_set.specs.declared.branch.Branch.{Branch}
use Rattle.recipe_set.specs.declared.reader.Reader.{Reader}
use Rattle.recipe_set.specs.declared.fault.PlanFault.{PlanFault}
use Rattle.recipe_set.specs.declared.fault.PlanFault.TheVariants.{WrongName, Recipe, Memory}
use Rattle.recipe_set.specs.Fault.{HoldsNoMemory}
use Rattle.recipe_set.specs.Names.{is_allowed}
use Rattle.recipe_set.specs.Block.{Block, flat, whats}
use Rattle.recipe_set.specs.Effect.{Outcome}
use Rattle.recipe_set.specs.Reading.{Reads, ReadsRecipe, wrong_name, no_recipe, recipe, recipe_path}
use Rattle.recipe_set.specs.Steps.{IsAnswer, Runs, finished, at, kept}
use Rattle.recipe_set.proofs.Blocks.{recipe_block}
use Rattle.recipe_set.proofs.Matching.{Onward, reads_on}
use Rattle.recipe_set.proofs.Total.{reads_some}
use Rattle.recipe_set.proofs.Once.{runs_once}

module _ (folder : List ℕ) (draft : Draft) where
  ends : (end : Outcome) → Onward folder end [] [] (kept [] end)
  ends (Ok new) = finished
  ends (Err fault) = refl

  -- the statements of a block come to what the block makes
  pub reads_run : (block : Block) (statements : List What) (end : Outcome) → flat block ≡ statements → Reads folder (Ok draft) block end → Runs folder (at draft []) statements (kept [] end)
  reads_run block statements end is reads =
      subst (λ whats. Runs folder (at draft []) whats (kept [] end)) (append-nil (flat block) ∙ is) (reads_on folder reads [] [] (kept [] end) refl (ends end))

  record Made_of (block : Block) (last : Result Reader PlanFault) : Type 0 where
    end : Outcome
    reads : Reads folder (Ok draft) block end
    is : last ≡ kept [] end

  run_reads : (block : Block) (statements : List What) (last : Result Reader PlanFault) → flat block ≡ statements → Runs folder (at draft []) statements last → Made_of block last
  run_reads block statements last is runs =
      let some = reads_some folder block (Ok draft) in
      record { end = some.0; reads = some.1; is = runs_once folder runs (reads_run block statements some.0 is some.1) }

  kept_ok : (end : Outcome) (new : Draft) (around : List Branch) → ◌≡◌ {A = Result Reader PlanFault} (Ok (at new around)) (kept [] end) → end ≡ Ok new
  kept_ok (Ok other) new around is =
      let same : at new around ≡ at other [] = cc in
      let answer : Draft → Outcome = λ d. Ok d in
      ap (λ r. answer r.draft) (sym same)
  kept_ok (Err fault) new around is = absurd (cc)

  kept_err : (end : Outcome) (fault : PlanFault) → ◌≡◌ {A = Result Reader PlanFault} (Err fault) (kept [] end) → end ≡ Err fault
  kept_err (Ok other) fault is = absurd (cc)
  kept_err (Err other) fault is = let same : fault ≡ other = cc in let answer : PlanFault → Outcome = λ f. Err f in ap answer (sym same)

  module _ (earlier : List (List ℕ)) (text : List ℕ) (statements : List Statement) (allowed : is_allowed earlier folder ≡ true) (is_recipe : IsRecipeOf (joined_lines text) statements) where
    comes_to : (last : Result Reader PlanFault) (answer : Outcome) → Runs folder (at draft []) (whats statements) last → ((end : Outcome) → last ≡ kept [] end → end ≡ answer) → ReadsRecipe earlier draft folder text answer
    comes_to last answer runs same =
        let one = recipe_block is_recipe in
        let made = run_reads one.0 (whats statements) last one.1 runs in
        recipe statements one.0 allowed is_recipe one.1 (subst (Reads folder (Ok draft) one.0) (same made.end made.is) made.reads)

    -- a recipe that is read to its end
    pub recipe_read : (new : Draft) (around : List Branch) → Runs folder (at draft []) (whats statements) (Ok (at new around)) → ReadsRecipe earlier draft folder text (Ok new)
    recipe_read new around runs = comes_to (Ok (at new around)) (Ok new) runs (λ end. kept_ok end new around)

    -- a recipe that is read up to a fault
    pub recipe_stopped : (fault : PlanFault) → Runs folder (at draft []) (whats statements) (Err fault) → ReadsRecipe earlier draft folder text (Err fault)
    recipe_stopped fault runs = comes_to (Err fault) (Err fault) runs (λ end. kept_err end fault)

module _ (earlier : List (List ℕ)) (draft : Draft) (folder text : List ℕ) (path : List (List ℕ)) (placed : path ≡ recipe_path folder) where
  -- a recipe whose folder's name is wrong
  pub named_wrong : is_allowed earlier folder ≡ false → ReadsRecipe earlier draft folder text (Err (WrongName path))
  named_wrong refused = subst (λ p. ReadsRecipe earlier draft folder text (Err (WrongName p))) (sym placed) (wrong_name refused)

  -- a recipe that isn't one
  pub not_read : (fault : MkFault) → is_allowed earlier folder ≡ true → IsFirstFault (joined_lines text) fault → ReadsRecipe earlier draft folder text (Err (Recipe path fault))
  not_read fault allowed is_fault = subst (λ p. ReadsRecipe earlier draft folder text (Err (Recipe p fault))) (sym placed) (no_recipe fault allowed is_fault)

-- a recipe that is read
pub statements_read : (earlier : List (List ℕ)) (draft : Draft) (folder text : List ℕ) → is_allowed earlier folder ≡ true → (statements : List Statement) (result : Outcome) → IsRecipeOf (joined_lines text) statements →
    IfOk result (λ new. (around : List Branch) × Runs folder (at draft []) (whats statements) (Ok (at new around))) →
    IfErr result (λ fault. fault ≢ Memory → Runs folder (at draft []) (whats statements) (Err fault)) → IfErr result HoldsNoMemory → IsAnswer (ReadsRecipe earlier draft folder text) result
statements_read earlier draft folder text allowed statements (Ok new) is_recipe runs never held = recipe_read folder draft earlier text statements allowed is_recipe new runs.0 runs.1
statements_read earlier draft folder text allowed statements (Err fault) is_recipe never runs held = (held, λ some. recipe_stopped folder draft earlier text statements allowed is_recipe fault (runs some))

-- a text has no more lines than bytes
pub line_count-length : (text : List ℕ) → line_count text ≤ length text
line_count-length [] = omega arith
line_count-length (b ∷ []) = omega arith
line_count-length (b ∷ c ∷ text) =
    let more : line_count (c ∷ text) ≤ length (c ∷ text) = line_count-length (c ∷ text) in
    elim (b == 10) as (λ t. cond t (line_count (c ∷ text) + 1) (line_count (c ∷ text)) ≤ length (b ∷ c ∷ text)) [ true ↦ omega arith | false ↦ omega arith ]
