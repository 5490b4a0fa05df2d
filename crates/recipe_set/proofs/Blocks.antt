-- Each recipe is a block: its conditions can be matched.
use Rattle.std.proofs.Common.{◌≡◌, ℕ, Bool, true, false, List, [], ◌∷◌, ◌++◌, sym, refl, ap, ◌∙◌, append_assoc}
use Rattle.std.proofs.lemmas.List.{append-nil, map-append}
use Rattle.mk_syntax.specs.declared.recipe.Statement.{Statement}
use Rattle.mk_syntax.specs.declared.recipe.What.{What}
use Rattle.mk_syntax.specs.declared.recipe.What.TheVariants.{Define, If, ElseIf, Else, EndIf}
use Rattle.mk_syntax.specs.declared.recipe.Test.{Test}
use Rattle.mk_syntax.specs.Grammar.{at_line, lines_text, IsBlock, IsBranches, IsRecipeOf, blank, plain, defined, conditional, first, further}
use Rattle.mk_syntax.specs.Grammar as grammar
use Rattle.recipe_set.specs.Block.{Block, Branches, nothing, statement, condition, done, another, last, flat, flat_branches, whats}

-- a block after another
then_block : Block → Block → Block
then_block nothing more = more
then_block (statement what is_plain block) more = statement what is_plain (then_block block more)
then_block (condition test inner branches block) more = condition test inner branches (then_block block more)

flat-then_block : (block more : Block) → flat (then_block block more) ≡ flat block ++ flat more
unfolding then_block
flat-then_block nothing more = refl
flat-then_block (statement what is_plain block) more = ap (λ rest. what ∷ rest) (flat-then_block block more)
flat-then_block (condition test inner branches block) more =
    ap (λ rest. If test ∷ (flat inner ++ (flat_branches branches ++ rest))) (flat-then_block block more)
    ∙ ap (λ rest. If test ∷ (flat inner ++ rest)) (sym (append_assoc (flat_branches branches) (flat block) (flat more)))
    ∙ ap (λ rest. If test ∷ rest) (sym (append_assoc (flat inner) (flat_branches branches ++ flat block) (flat more)))

-- statements that are a block
record Blocked (statements : List Statement) : Type 0 where
  block : Block
  is : flat block ≡ whats statements

-- what may end a condition that has had a plain `else`, or not
abbrev Ends : Bool → List What → Type 0
Ends false whats = (branches : Branches) × (flat_branches branches ≡ whats)
Ends true whats = EndIf ∷ [] ≡ whats

-- the first branches of a condition, with what ends it, are a condition
record Opened (part : List Statement) (end : List What) : Type 0 where
  test : Test
  inner : Block
  branches : Branches
  is : whats part ++ end ≡ If test ∷ (flat inner ++ flat_branches branches)

-- the end of a condition
at_end : (past_else : Bool) → Ends past_else (EndIf ∷ [])
at_end false = (done, refl)
at_end true = refl

whats-append : (front back : List Statement) → whats (front ++ back) ≡ whats front ++ whats back
whats-append front back = map-append (λ s. s.what) front back

-- a statement after a block
one_behind : (statements : List Statement) (one : Statement) (blocked : Blocked statements) (more : Block) → flat more ≡ one.what ∷ [] → Blocked (statements ++ one ∷ [])
one_behind statements one blocked more is = record {
  block = then_block blocked.block more;
  is = flat-then_block blocked.block more ∙ ap (λ rest. flat blocked.block ++ rest) is ∙ ap (λ front. front ++ one.what ∷ []) blocked.is ∙ sym (whats-append statements (one ∷ []));
}

-- a condition after a block
condition_behind : (statements inner : List Statement) (end : Statement) (blocked : Blocked statements) → end.what ≡ EndIf → Opened inner (EndIf ∷ []) → Blocked ((statements ++ inner) ++ end ∷ [])
condition_behind statements inner end blocked ends opened =
    let one : Block = condition opened.test opened.inner opened.branches nothing in
    let ended : List What = EndIf ∷ [] in
    let flat_one : flat one ≡ whats inner ++ ended =
    ap (λ rest. If opened.test ∷ (flat opened.inner ++ rest)) (append-nil (flat_branches opened.branches)) ∙ sym opened.is in
    record {
      block = then_block blocked.block one;
      is = flat-then_block blocked.block one
          ∙ ap (λ rest. flat blocked.block ++ rest) flat_one
          ∙ ap (λ front. front ++ (whats inner ++ ended)) blocked.is
          ∙ sym (append_assoc (whats statements) (whats inner) ended)
          ∙ ap (λ front. front ++ ended) (sym (whats-append statements inner))
          ∙ ap (λ what. whats (statements ++ inner) ++ what ∷ []) (sym ends)
          ∙ sym (whats-append (statements ++ inner) (end ∷ []));
    }

-- a branch after others
branch_behind : (before : List Statement) (one : Statement) (statements : List Statement) (end : List What) (blocked : Blocked statements) →
    Opened before (one.what ∷ (flat blocked.block ++ end)) → Opened (before ++ one ∷ statements) end
branch_behind before one statements end blocked opened = record {
  test = opened.test;
  inner = opened.inner;
  branches = opened.branches;
  is = ap (λ front. front ++ end) (whats-append before (one ∷ statements))
      ∙ append_assoc (whats before) (one.what ∷ whats statements) end
      ∙ ap (λ middle. whats before ++ (one.what ∷ (middle ++ end))) (sym blocked.is)
      ∙ opened.is;
}

mutual
  blocked : {lines : _} {statements : List Statement} → IsBlock lines statements → Blocked statements
  blocked grammar.nothing = record { block = nothing; is = refl }
  blocked (blank front line block row) = blocked block
  blocked (plain front line statements what block row is_plain) = one_behind statements (at_line line what) (blocked block) (statement what is_plain nothing) refl
  blocked (defined front line body end statements name block row texts ends) =
      one_behind statements (at_line line (Define name (lines_text body))) (blocked block) (statement (Define name (lines_text body)) tt nothing) refl
  blocked (conditional front part end statements inner {past_else = past_else} block rest row) =
      condition_behind statements inner (at_line end EndIf) (blocked block) refl (opened rest (EndIf ∷ []) (at_end past_else))

  opened : {number : ℕ} {past_else : Bool} {lines : _} {part : List Statement} → IsBranches number past_else lines part → (end : List What) → Ends past_else end → Opened part end
  opened (first line block test statements row inside_block) end (branches, is) =
      let inner : Blocked statements = blocked inside_block in
      record { test = test; inner = inner.block; branches = branches; is = ap (λ middle. If test ∷ (middle ++ end)) (sym inner.is) ∙ ap (λ rest. If test ∷ (flat inner.block ++ rest)) (sym is) }
  opened (further part line block before test statements rest row inside_block) end (branches, is) =
      let inner : Blocked statements = blocked inside_block in
      branch_behind before (at_line line (ElseIf test)) statements end inner
      (opened rest (ElseIf test ∷ (flat inner.block ++ end)) (another test inner.block branches, ap (λ rest. ElseIf test ∷ (flat inner.block ++ rest)) is))
  opened (grammar.last part line block before statements rest row inside_block) end is =
      let inner : Blocked statements = blocked inside_block in
      branch_behind before (at_line line Else) statements end inner
      (opened rest (Else ∷ (flat inner.block ++ end)) (last inner.block, ap (λ rest. Else ∷ (flat inner.block ++ rest)) is))

-- a recipe is a block
pub recipe_block : {lines : _} {statements : List Statement} → IsRecipeOf lines statements → (block : Block) × (flat block ≡ whats statements)
recipe_block recipe = let one = blocked recipe in (one.block, one.is)
