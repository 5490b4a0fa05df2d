-- Blocks that are left out change nothing.
use Rattle.std.proofs.Common.{◌≡◌, ℕ, true, false, Ok, Err, Result, List, [], ◌∷◌, ◌++◌, sym, refl, ap, ◌∙◌, subst, append_assoc}
use Rattle.mk_syntax.specs.declared.recipe.What.{What}
use Rattle.mk_syntax.specs.declared.recipe.What.TheVariants.{Set, Define, Make, If, ElseIf, Else, EndIf}
use Rattle.mk_syntax.specs.Grammar.{IsPlain}
use Rattle.recipe_set.specs.declared.draft.Draft.{Draft}
use Rattle.recipe_set.specs.declared.branch.Branch.{Branch}
use Rattle.recipe_set.specs.declared.branch.Branch.TheVariants.{Taken, Passed}
use Rattle.recipe_set.specs.declared.reader.Reader.{Reader}
use Rattle.recipe_set.specs.declared.fault.PlanFault.{PlanFault}
use Rattle.recipe_set.specs.Block.{Block, Branches, nothing, statement, condition, done, another, last, flat, flat_branches}
use Rattle.recipe_set.specs.Steps.{Meets, Skips, Takes, Steps, Runs, stopped, onward, is_reading, at}

module _ (folder : List ℕ) where
  -- statements after a step
  abbrev pub RunOn : Result Reader PlanFault → List What → Result Reader PlanFault → Type 0
  RunOn (Ok reader) rest end = Runs folder reader rest end
  RunOn (Err fault) rest end = end ≡ Err fault

  pub step_on : (reader : Reader) (what : What) (rest : List What) (next end : Result Reader PlanFault) → Steps folder reader what next → RunOn next rest end → Runs folder reader (what ∷ rest) end
  step_on reader what rest (Ok next) end step runs = onward next step runs
  step_on reader what rest (Err fault) end step is = subst (Runs folder reader (what ∷ rest)) (sym is) (stopped fault step)

  -- a step where statements are read, and one where they aren't
  pub meets : (draft : Draft) (around : List Branch) (what : What) (next : Result Reader PlanFault) → is_reading around ≡ true → Meets folder draft around what next → Steps folder (at draft around) what next
  meets draft around what next live step = subst (λ b. Takes b folder draft around what next) (sym live) step

  pub skips : (draft : Draft) (around : List Branch) (what : What) (next : Result Reader PlanFault) → is_reading around ≡ false → Skips folder draft around what next → Steps folder (at draft around) what next
  skips draft around what next dead step = subst (λ b. Takes b folder draft around what next) (sym dead) step

  plain_skips : (draft : Draft) (around : List Branch) (what : What) → IsPlain what → Skips folder draft around what (Ok (at draft around))
  plain_skips draft around (Set name how text) is_plain = refl
  plain_skips draft around (Define name text) is_plain = refl
  plain_skips draft around (Make host) is_plain = refl
  plain_skips draft around (If test) is_plain = absurd is_plain
  plain_skips draft around (ElseIf test) is_plain = absurd is_plain
  plain_skips draft around Else is_plain = absurd is_plain
  plain_skips draft around EndIf is_plain = absurd is_plain

  module _ (draft : Draft) (end : Result Reader PlanFault) where
    -- statements from here on come to this end
    abbrev pub Ends : List Branch → List What → Type 0
    Ends around whats = Runs folder (at draft around) whats end

    -- one statement that is left out
    skip : (around next : List Branch) (what : What) (rest : List What) → is_reading around ≡ false → Skips folder draft around what (Ok (at draft next)) → Ends next rest → Ends around (what ∷ rest)
    skip around next what rest dead step runs = step_on (at draft around) what rest (Ok (at draft next)) end (skips draft around what (Ok (at draft next)) dead step) runs

    mutual
      pub skip_block : (block : Block) (around : List Branch) (rest : List What) → is_reading around ≡ false → Ends around rest → Ends around (flat block ++ rest)
      skip_block nothing around rest dead runs = runs
      skip_block (statement what is_plain block) around rest dead runs =
          skip around around what (flat block ++ rest) dead (plain_skips draft around what is_plain) (skip_block block around rest dead runs)
      skip_block (condition test inner branches block) around rest dead runs =
          let behind : Ends around (flat block ++ rest) = skip_block block around rest dead runs in
          let inside : Ends (Passed ∷ around) (flat inner ++ (flat_branches branches ++ (flat block ++ rest))) =
          skip_block inner (Passed ∷ around) (flat_branches branches ++ (flat block ++ rest)) refl (skip_branches branches around (flat block ++ rest) behind) in
          let same : (flat inner ++ (flat_branches branches ++ flat block)) ++ rest ≡ flat inner ++ (flat_branches branches ++ (flat block ++ rest)) =
          append_assoc (flat inner) (flat_branches branches ++ flat block) rest ∙ ap (λ r. flat inner ++ r) (append_assoc (flat_branches branches) (flat block) rest) in
          subst (λ r. Ends around (If test ∷ r)) (sym same) (skip around (Passed ∷ around) (If test) (flat inner ++ (flat_branches branches ++ (flat block ++ rest))) dead refl inside)

      -- after what was left out
      pub skip_branches : (branches : Branches) (around : List Branch) (rest : List What) → Ends around rest → Ends (Passed ∷ around) (flat_branches branches ++ rest)
      skip_branches done around rest runs = skip (Passed ∷ around) around EndIf rest refl refl runs
      skip_branches (another test inner branches) around rest runs =
          subst (λ r. Ends (Passed ∷ around) (ElseIf test ∷ r)) (sym (append_assoc (flat inner) (flat_branches branches) rest))
          (skip (Passed ∷ around) (Passed ∷ around) (ElseIf test) (flat inner ++ (flat_branches branches ++ rest)) refl refl
          (skip_block inner (Passed ∷ around) (flat_branches branches ++ rest) refl (skip_branches branches around rest runs)))
      skip_branches (last inner) around rest runs =
          subst (λ r. Ends (Passed ∷ around) (Else ∷ r)) (sym (append_assoc (flat inner) (EndIf ∷ []) rest))
          (skip (Passed ∷ around) (Passed ∷ around) Else (flat inner ++ EndIf ∷ rest) refl refl
          (skip_block inner (Passed ∷ around) (EndIf ∷ rest) refl (skip (Passed ∷ around) around EndIf rest refl refl runs)))

    -- one statement that is read and changes nothing but what stands open
    pub meet : (around next : List Branch) (what : What) (rest : List What) → is_reading around ≡ true → Meets folder draft around what (Ok (at draft next)) → Ends next rest → Ends around (what ∷ rest)
    meet around next what rest live step runs = step_on (at draft around) what rest (Ok (at draft next)) end (meets draft around what (Ok (at draft next)) live step) runs

    -- after the branch that was taken
    pub behind_taken : (branches : Branches) (around : List Branch) (rest : List What) → Ends around rest → Ends (Taken ∷ around) (flat_branches branches ++ rest)
    behind_taken done around rest runs = meet (Taken ∷ around) around EndIf rest refl refl runs
    behind_taken (another test inner branches) around rest runs =
        subst (λ r. Ends (Taken ∷ around) (ElseIf test ∷ r)) (sym (append_assoc (flat inner) (flat_branches branches) rest))
        (meet (Taken ∷ around) (Passed ∷ around) (ElseIf test) (flat inner ++ (flat_branches branches ++ rest)) refl refl
        (skip_block inner (Passed ∷ around) (flat_branches branches ++ rest) refl (skip_branches branches around rest runs)))
    behind_taken (last inner) around rest runs =
        subst (λ r. Ends (Taken ∷ around) (Else ∷ r)) (sym (append_assoc (flat inner) (EndIf ∷ []) rest))
        (meet (Taken ∷ around) (Passed ∷ around) Else (flat inner ++ EndIf ∷ rest) refl refl
        (skip_block inner (Passed ∷ around) (EndIf ∷ rest) refl (skip (Passed ∷ around) around EndIf rest refl refl runs)))
