-- A block makes something of whatever is read before it.
use Rattle.std.proofs.Common.{ℕ, Bool, true, false, Ok, Err, Result, List, [], refl, inl, inr}
use Rattle.mk_syntax.specs.declared.recipe.What.{What}
use Rattle.mk_syntax.specs.declared.recipe.What.TheVariants.{Set, Define, Make, If, ElseIf, Else, EndIf}
use Rattle.mk_syntax.specs.declared.recipe.How.{How}
use Rattle.mk_syntax.specs.declared.recipe.How.TheVariants.{Later, Now, Append, IfUnset}
use Rattle.mk_syntax.specs.declared.recipe.Test.{Test}
use Rattle.mk_syntax.specs.declared.recipe.Test.TheVariants.{Equal, Defined}
use Rattle.mk_syntax.specs.Grammar.{IsPlain}
use Rattle.mk_expand.specs.Vars.{Table, found}
use Rattle.mk_expand.specs.Value.{depth_limit}
use Rattle.mk_expand.specs.Answer.{outside}
use Rattle.mk_expand.proofs.Exactness.{one_answer}
use Rattle.recipe_set.specs.declared.draft.Draft.{Draft}
use Rattle.recipe_set.specs.declared.fault.PlanFault.{PlanFault}
use Rattle.recipe_set.specs.Block.{Block, Branches, nothing, statement, condition, done, another, last}
use Rattle.recipe_set.specs.Effect.{Outcome, Expanded, value, fails, Appends, Sets, Does, Asks, is_simple}
use Rattle.recipe_set.specs.Reading.{Reads, Chooses, Turns, failed, nothing_more, one_more, choice, unknown, taken, passed, to_none, to_another, to_last}

-- some answer may be given
abbrev Some_answer : {A : Type 0} → (Result A PlanFault → Type 0) → Type 0
Some_answer {A = A} May = (answer : Result A PlanFault) × May answer

module _ (folder : List ℕ) where
  expanded_some : {A : Type 0} (variable : List ℕ) (vars : Table) (text : List ℕ) (hangs : List ℕ → Result A PlanFault → Type 0) → ((bytes : List ℕ) → Some_answer (hangs bytes)) → Some_answer (Expanded folder variable vars text hangs)
  expanded_some variable vars text hangs each =
      elim ((one_answer (found vars) depth_limit (outside []) text).some) [
        | inl (bytes, is_value) ↦ let next = each bytes in (next.0, value bytes is_value next.1)
        | inr (fault, is_fault) ↦ (_, fails fault is_fault)
      ]

  asks_some : (draft : Draft) (test : Test) → Some_answer (Asks folder draft test)
  asks_some draft (Equal left right wanted) =
      expanded_some _ draft.vars left _ (λ one. expanded_some _ draft.vars right _ (λ other. (_, refl)))
  asks_some draft (Defined name wanted) = (_, refl)

  appends_some : (draft : Draft) (name text : List ℕ) (simple : Bool) → Some_answer (Appends folder draft name text simple)
  appends_some draft name text true = expanded_some name draft.vars text _ (λ bytes. (_, refl))
  appends_some draft name text false = (_, refl)

  sets_some : (draft : Draft) (name : List ℕ) (how : How) (text : List ℕ) → Some_answer (Sets folder draft name how text)
  sets_some draft name Later text = (_, refl)
  sets_some draft name Now text = expanded_some name draft.vars text _ (λ bytes. (_, refl))
  sets_some draft name Append text = appends_some draft name text (is_simple (found draft.vars name))
  sets_some draft name IfUnset text = (_, refl)

  does_some : (draft : Draft) (what : What) → IsPlain what → Some_answer (Does folder draft what)
  does_some draft (Set name how text) is_plain = sets_some draft name how text
  does_some draft (Define name text) is_plain = (_, refl)
  does_some draft (Make host) is_plain = (_, refl)
  does_some draft (If test) is_plain = absurd is_plain
  does_some draft (ElseIf test) is_plain = absurd is_plain
  does_some draft Else is_plain = absurd is_plain
  does_some draft EndIf is_plain = absurd is_plain

  choose : (draft : Draft) (test : Test) (inner : Block) (branches : Branches) → Some_answer (Asks folder draft test) → Some_answer (Reads folder (Ok draft) inner) → Some_answer (Turns folder draft branches) → Some_answer (Chooses folder draft test inner branches)
  choose draft test inner branches (Err fault, asks) end turn = (Err fault, unknown asks)
  choose draft test inner branches (Ok true, asks) end turn = (end.0, taken asks end.1)
  choose draft test inner branches (Ok false, asks) end turn = (turn.0, passed asks turn.1)

  mutual
    pub reads_some : (block : Block) (outcome : Outcome) → Some_answer (Reads folder outcome block)
    reads_some block (Err fault) = (Err fault, failed)
    reads_some nothing (Ok draft) = (Ok draft, nothing_more)
    reads_some (statement what is_plain block) (Ok draft) =
        let next = does_some draft what is_plain in
        let end = reads_some block next.0 in
        (end.0, one_more next.0 next.1 end.1)
    reads_some (condition test inner branches block) (Ok draft) =
        let next = choose draft test inner branches (asks_some draft test) (reads_some inner (Ok draft)) (turns_some branches draft) in
        let end = reads_some block next.0 in
        (end.0, choice next.0 next.1 end.1)

    turns_some : (branches : Branches) (draft : Draft) → Some_answer (Turns folder draft branches)
    turns_some done draft = (Ok draft, to_none)
    turns_some (another test inner branches) draft =
        let end = choose draft test inner branches (asks_some draft test) (reads_some inner (Ok draft)) (turns_some branches draft) in
        (end.0, to_another end.1)
    turns_some (last inner) draft = let end = reads_some inner (Ok draft) in (end.0, to_last end.1)
