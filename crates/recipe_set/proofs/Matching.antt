-- What a block makes of what is read before it, its statements make of it one by one.
use Rattle.std.proofs.Common.{◌≡◌, ℕ, Bool, true, false, Ok, Err, Result, List, [], ◌∷◌, ◌++◌, sym, refl, ap, ◌∙◌, subst, append_assoc}
use Rattle.mk_syntax.specs.declared.recipe.What.{What}
use Rattle.mk_syntax.specs.declared.recipe.What.TheVariants.{Set, Define, Make, If, ElseIf, Else, EndIf}
use Rattle.mk_syntax.specs.declared.recipe.Test.{Test}
use Rattle.mk_syntax.specs.Grammar.{IsPlain}
use Rattle.recipe_set.specs.declared.draft.Draft.{Draft}
use Rattle.recipe_set.specs.declared.branch.Branch.{Branch}
use Rattle.recipe_set.specs.declared.branch.Branch.TheVariants.{Taken, Sought}
use Rattle.recipe_set.specs.declared.reader.Reader.{Reader}
use Rattle.recipe_set.specs.declared.fault.PlanFault.{PlanFault}
use Rattle.recipe_set.specs.Block.{Block, Branches, flat, flat_branches}
use Rattle.recipe_set.specs.Effect.{Outcome, Does, Asks}
use Rattle.recipe_set.specs.Reading.{Reads, Chooses, Turns, failed, nothing_more, one_more, choice, unknown, taken, passed, to_none, to_another, to_last}
use Rattle.recipe_set.specs.Steps.{Meets, Steps, Runs, is_reading, at, kept, branched}
use Rattle.recipe_set.proofs.Skipping.{RunOn, step_on, meets, skips, skip_block, meet, behind_taken}

module _ (folder : List ℕ) where
  -- what comes after a block goes on from there; a fault is the end of all
  abbrev pub Onward : Outcome → List Branch → List What → Result Reader PlanFault → Type 0
  Onward (Ok draft) around rest end = Runs folder (at draft around) rest end
  Onward (Err fault) around rest end = end ≡ Err fault

  plain_meets : (draft : Draft) (around : List Branch) (what : What) (next : Outcome) → IsPlain what → Does folder draft what next → Meets folder draft around what (kept around next)
  plain_meets draft around (Set name how text) next is_plain does = (next, does, refl)
  plain_meets draft around (Define name text) next is_plain does = (next, does, refl)
  plain_meets draft around (Make host) next is_plain does = (next, does, refl)
  plain_meets draft around (If test) next is_plain does = absurd is_plain
  plain_meets draft around (ElseIf test) next is_plain does = absurd is_plain
  plain_meets draft around Else next is_plain does = absurd is_plain
  plain_meets draft around EndIf next is_plain does = absurd is_plain

  kept_on : (next : Outcome) (around : List Branch) (rest : List What) (end : Result Reader PlanFault) → Onward next around rest end → RunOn folder (kept around next) rest end
  kept_on (Ok draft) around rest end on = on
  kept_on (Err fault) around rest end on = on

  -- after a taken branch come the others of its condition
  taken_on : (next : Outcome) (branches : Branches) (around : List Branch) (rest : List What) (end : Result Reader PlanFault) → Onward next around rest end → Onward next (Taken ∷ around) (flat_branches branches ++ rest) end
  taken_on (Ok draft) branches around rest end on = behind_taken folder draft end branches around rest on
  taken_on (Err fault) branches around rest end on = on

  -- after the last branch comes the end of its condition
  last_on : (next : Outcome) (around : List Branch) (rest : List What) (end : Result Reader PlanFault) → Onward next around rest end → Onward next (Taken ∷ around) (EndIf ∷ rest) end
  last_on (Ok draft) around rest end on = meet folder draft end (Taken ∷ around) around EndIf rest refl refl on
  last_on (Err fault) around rest end on = on

  -- a statement with which a branch begins, within these conditions
  abbrev Enters : Draft → Test → List Branch → Reader → What → Type 0
  Enters draft test around before first = (answer : Result Bool PlanFault) → Asks folder draft test answer → Steps folder before first (branched draft around answer)

  if_enters : (draft : Draft) (test : Test) (around : List Branch) → is_reading around ≡ true → Enters draft test around (at draft around) (If test)
  if_enters draft test around live answer asks = meets folder draft around (If test) (branched draft around answer) live (answer, asks, refl)

  else_enters : (draft : Draft) (test : Test) (around : List Branch) → Enters draft test around (at draft (Sought ∷ around)) (ElseIf test)
  else_enters draft test around answer asks = skips folder draft (Sought ∷ around) (ElseIf test) (branched draft around answer) refl (answer, asks, refl)

  mutual
    pub reads_on : {outcome end : Outcome} {block : Block} → Reads folder outcome block end → (around : List Branch) (rest : List What) (final : Result Reader PlanFault) → is_reading around ≡ true → Onward end around rest final → Onward outcome around (flat block ++ rest) final
    reads_on failed around rest final live on = on
    reads_on nothing_more around rest final live on = on
    reads_on (one_more {draft = draft} {what = what} {plain = is_plain} {block = block} next does reads) around rest final live on =
        step_on folder (at draft around) what (flat block ++ rest) (kept around next) final
        (meets folder draft around what (kept around next) live (plain_meets draft around what next is_plain does))
        (kept_on next around (flat block ++ rest) final (reads_on reads around rest final live on))
    reads_on (choice {draft = draft} {test = test} {inner = inner} {block = block} {branches = branches} next chooses reads) around rest final live on =
        let same : (flat inner ++ (flat_branches branches ++ flat block)) ++ rest ≡ flat inner ++ (flat_branches branches ++ (flat block ++ rest)) =
        append_assoc (flat inner) (flat_branches branches ++ flat block) rest ∙ ap (λ r. flat inner ++ r) (append_assoc (flat_branches branches) (flat block) rest) in
        subst (λ r. Runs folder (at draft around) (If test ∷ r) final) (sym same)
        (chooses_on chooses around (flat block ++ rest) final live (reads_on reads around rest final live on) (at draft around) (If test) (if_enters draft test around live))

    chooses_on : {draft : Draft} {test : Test} {inner : Block} {branches : Branches} {end : Outcome} → Chooses folder draft test inner branches end →
        (around : List Branch) (rest : List What) (final : Result Reader PlanFault) → is_reading around ≡ true → Onward end around rest final →
        (before : Reader) (first : What) → Enters draft test around before first → Runs folder before (first ∷ (flat inner ++ (flat_branches branches ++ rest))) final
    chooses_on (unknown {draft = draft} {test = test} {inner = inner} {branches = branches} {fault = fault} asks) around rest final live on before first enters =
        step_on folder before first (flat inner ++ (flat_branches branches ++ rest)) (Err fault) final (enters (Err fault) asks) on
    chooses_on (taken {draft = draft} {inner = inner} {branches = branches} {end = end} asks reads) around rest final live on before first enters =
        step_on folder before first (flat inner ++ (flat_branches branches ++ rest)) (Ok (at draft (Taken ∷ around))) final (enters (Ok true) asks)
        (reads_on reads (Taken ∷ around) (flat_branches branches ++ rest) final refl (taken_on end branches around rest final on))
    chooses_on (passed {draft = draft} {inner = inner} {branches = branches} asks turns) around rest final live on before first enters =
        step_on folder before first (flat inner ++ (flat_branches branches ++ rest)) (Ok (at draft (Sought ∷ around))) final (enters (Ok false) asks)
        (skip_block folder draft final inner (Sought ∷ around) (flat_branches branches ++ rest) refl (turns_on turns around rest final live on))

    turns_on : {draft : Draft} {branches : Branches} {end : Outcome} → Turns folder draft branches end → (around : List Branch) (rest : List What) (final : Result Reader PlanFault) →
        is_reading around ≡ true → Onward end around rest final → Runs folder (at draft (Sought ∷ around)) (flat_branches branches ++ rest) final
    turns_on (to_none {draft = draft}) around rest final live on =
        step_on folder (at draft (Sought ∷ around)) EndIf rest (Ok (at draft around)) final (skips folder draft (Sought ∷ around) EndIf (Ok (at draft around)) refl refl) on
    turns_on (to_another {draft = draft} {test = test} {inner = inner} {branches = branches} chooses) around rest final live on =
        subst (λ r. Runs folder (at draft (Sought ∷ around)) (ElseIf test ∷ r) final) (sym (append_assoc (flat inner) (flat_branches branches) rest))
        (chooses_on chooses around rest final live on (at draft (Sought ∷ around)) (ElseIf test) (else_enters draft test around))
    turns_on (to_last {draft = draft} {inner = inner} {end = end} reads) around rest final live on =
        subst (λ r. Runs folder (at draft (Sought ∷ around)) (Else ∷ r) final) (sym (append_assoc (flat inner) (EndIf ∷ []) rest))
        (step_on folder (at draft (Sought ∷ around)) Else (flat inner ++ EndIf ∷ rest) (Ok (at draft (Taken ∷ around))) final
        (skips folder draft (Sought ∷ around) Else (Ok (at draft (Taken ∷ around))) refl refl)
        (reads_on reads (Taken ∷ around) (EndIf ∷ rest) final refl (last_on end around rest final on)))
