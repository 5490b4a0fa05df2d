-- Statements with their conditions matched: from `if` to `endif` a condition is one thing, with its branches.
use Rattle.std.specs.Prelude.{List, [], ◌∷◌, ◌++◌, map}
use Rattle.mk_syntax.specs.declared.recipe.Statement.{Statement}
use Rattle.mk_syntax.specs.declared.recipe.Test.{Test}
use Rattle.mk_syntax.specs.declared.recipe.What.{What}
use Rattle.mk_syntax.specs.declared.recipe.What.TheVariants.{If, ElseIf, Else, EndIf}
use Rattle.mk_syntax.specs.Grammar.{IsPlain}

mutual
  -- a block: nothing, or a statement that is no part of a condition, or a condition with the block of its first branch,
  -- and a block after it
  pub data Block : Type 0 where
    nothing : Block
    statement : (what : What) → IsPlain what → Block → Block
    condition : Test → Block → Branches → Block → Block

  -- what follows a branch in its condition: the end, a branch with a test, or the last branch without one
  pub data Branches : Type 0 where
    done : Branches
    another : Test → Block → Branches → Branches
    last : Block → Branches

abbrev mutual
  -- the statements that a block is made of, in their order
  pub flat : Block → List What
  flat nothing = []
  flat (statement what plain block) = what ∷ flat block
  flat (condition test inner branches block) = If test ∷ (flat inner ++ (flat_branches branches ++ flat block))

  pub flat_branches : Branches → List What
  flat_branches done = EndIf ∷ []
  flat_branches (another test inner branches) = ElseIf test ∷ (flat inner ++ flat_branches branches)
  flat_branches (last inner) = Else ∷ (flat inner ++ EndIf ∷ [])

-- what statements do, whatever their lines are
abbrev pub whats : List Statement → List What
whats statements = map (λ s. s.what) statements
