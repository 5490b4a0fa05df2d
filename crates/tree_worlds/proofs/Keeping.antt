-- Each change keeps what every program keeps.
use Rattle.std.proofs.Common.{◌≡◌, Bool, true, false, not, cond, Result, Ok, Err, refl, sym, ap, subst, ◌∙◌, arith, inl, inr, ◌==◌}
use Rattle.std.proofs.lemmas.Bool.{true≢false}
use Rattle.br_path.specs.declared.area.Area.{Area}
use Rattle.br_path.specs.declared.area.Area.TheVariants.{Build, Host, Staging, Target}
use Rattle.tree_ops.specs.declared.change.ChangeFault.TheVariants.{ReadOnly}
use Rattle.tree_ops.specs.Pen.{is_within_limits}
use Rattle.tree_ops.specs.Tree.{Tree}
use Rattle.tree_ops.specs.Change.{Change, MakeFile, Write, Append, SetMode, AddName, MakeLink, MakeDir, Remove, Rename, Populate, State, changed}
use Rattle.tree_ops.proofs.Outcomes.{after-changed}
use Rattle.tree_ops.proofs.Foreign.{foreign-stays, is_filling}
use Rattle.tree_ops.specs.declared.entry.Label.{Label}
use Rattle.tree_worlds.specs.declared.reason.Reason.TheVariants.{Operand, Change as for_change}
use Rattle.tree_worlds.specs.World.{WorldData, AreaTrees, may_change, is_asked, tree_in, with_tree, state_in, with_state, both_mapped}
use Rattle.tree_worlds.specs.Program.{Program, Ran, run}
use Rattle.tree_worlds.specs.declared.reason.CommandError.{CommandError}
use Rattle.tree_worlds.specs.declared.reason.CommandError.TheVariants.{Failed, Memory}
use Rattle.tree_worlds.specs.Kept.{KeepsUnlessMemory, IsKept, Keeps, StaysOrGoes, left_by}
use Rattle.tree_worlds.proofs.Programs.{kept_by_run}

-- an answer after two tests passed both
guarded : {W S F E : Type 0} (put : S → W) (lift : F → E) (first second : E) (new : W) (may is : Bool) (outcome : Result S F)
    → cond {A = Result W E} (not may) (Err first) (cond (not is) (Err second) (both_mapped put lift outcome)) ≡ Ok new
    → (may ≡ true) × (is ≡ true) × (state : S) × (outcome ≡ Ok state) × (put state ≡ new)
guarded put lift first second new false is outcome same = cc
guarded put lift first second new true false outcome same = cc
guarded put lift first second new true true (Ok state) same = (refl, refl, state, refl, cc)
guarded put lift first second new true true (Err fault) same = cc

-- other areas' trees stay
other_area : (trees : AreaTrees) (world : WorldData) (area other : Area) (tree : Tree) → may_change world area ≡ true → may_change world other ≡ false → tree_in (with_tree trees area tree) other ≡ tree_in trees other
other_area trees world Build Build tree may not = absurd (true≢false (sym may ∙ not))
other_area trees world Build Host tree may not = refl
other_area trees world Build Staging tree may not = refl
other_area trees world Build Target tree may not = refl
other_area trees world Host Build tree may not = refl
other_area trees world Host Host tree may not = absurd (true≢false (sym may ∙ not))
other_area trees world Host Staging tree may not = refl
other_area trees world Host Target tree may not = refl
other_area trees world Staging Build tree may not = refl
other_area trees world Staging Host tree may not = refl
other_area trees world Staging Staging tree may not = absurd (true≢false (sym may ∙ not))
other_area trees world Staging Target tree may not = refl
other_area trees world Target Build tree may not = refl
other_area trees world Target Host tree may not = refl
other_area trees world Target Staging tree may not = refl
other_area trees world Target Target tree may not = absurd (true≢false (sym may ∙ not))

same_rights : (old : WorldData) (area other : Area) (state : State) → may_change (with_state old area state) other ≡ may_change old other
same_rights old area Build state = refl
same_rights old area Host state = refl
same_rights old area Staging state = refl
same_rights old area Target state = refl

-- what is asked for is no filling
small : (change : Change) → is_asked change ≡ true → is_filling change ≡ false
small (MakeFile at mode bytes) is = refl
small (Write at bytes) is = refl
small (Append at bytes) is = refl
small (SetMode at mode) is = refl
small (AddName old at) is = refl
small (MakeLink at text) is = refl
small (MakeDir at mode) is = refl
small (Remove at) is = refl
small (Rename old at) is = refl
small (Populate from) is = absurd (true≢false (sym is))

area_contents : (trees : AreaTrees) (area other : Area) (tree : Tree) (label : Label) → StaysOrGoes (tree_in trees area) tree label → StaysOrGoes (tree_in trees other) (tree_in (with_tree trees area tree) other) label
area_contents trees Build Build tree label own = own
area_contents trees Build Host tree label own = inl refl
area_contents trees Build Staging tree label own = inl refl
area_contents trees Build Target tree label own = inl refl
area_contents trees Host Build tree label own = inl refl
area_contents trees Host Host tree label own = own
area_contents trees Host Staging tree label own = inl refl
area_contents trees Host Target tree label own = inl refl
area_contents trees Staging Build tree label own = inl refl
area_contents trees Staging Host tree label own = inl refl
area_contents trees Staging Staging tree label own = own
area_contents trees Staging Target tree label own = inl refl
area_contents trees Target Build tree label own = inl refl
area_contents trees Target Host tree label own = inl refl
area_contents trees Target Staging tree label own = inl refl
area_contents trees Target Target tree label own = own

then_contents : (one two last : Tree) (label : Label) → StaysOrGoes one two label → StaysOrGoes two last label → StaysOrGoes one last label
then_contents one two last label (inl same) (inl stays) = inl (stays ∙ same)
then_contents one two last label (inr gone) (inl stays) = inr (stays ∙ gone)
then_contents one two last label first (inr gone) = inr gone

Keeps-state : (area : Area) (change : Change) (old : WorldData) (state : State) → may_change old area ≡ true → is_filling change ≡ false → changed change (state_in old area) ≡ Ok state → Keeps old (with_state old area state)
Keeps-state area change old state may few is =
    let done = after-changed change (state_in old area) state is in
    let task = ap (λ (s : State). s.1.task) done.2 in
    let next = ap (λ (s : State). s.1.next) done.2 in
    let bytes = ap (λ (s : State). s.1.bytes) done.2 in
    record {
      rights = λ other. same_rights old area other state;
      shown = refl;
      areas = λ other forbidden. other_area old.trees old area other state.0 may forbidden;
      task = sym task;
      next = omega arith;
      bytes = omega arith;
      contents = λ other label foreign. area_contents old.trees area other state.0 label (foreign-stays change (state_in old area) state label few foreign is);
      limits = λ _. ap (λ (s : State). is_within_limits s.1) (sym done.2) ∙ done.1;
    }

pub IsKept-Keeps : IsKept Keeps
IsKept-Keeps = record {
  same = λ world. record { rights = λ area. refl; shown = refl; areas = λ area _. refl; task = refl; next = omega arith; bytes = omega arith; contents = λ area label foreign. inl refl; limits = λ fits. fits };
  chain = λ first next last one two. record {
    rights = λ area. two.rights area ∙ one.rights area;
    shown = two.shown ∙ one.shown;
    areas = λ area forbidden. two.areas area (one.rights area ∙ forbidden) ∙ one.areas area forbidden;
    task = two.task ∙ one.task;
    next = let a = one.next in let b = two.next in omega arith;
    bytes = let a = one.bytes in let b = two.bytes in omega arith;
    contents = λ area label foreign. then_contents (tree_in first.trees area) (tree_in next.trees area) (tree_in last.trees area) label (one.contents area label foreign) (two.contents area label (ap (λ task. label.task == task) one.task ∙ foreign));
    limits = λ fits. two.limits (one.limits fits);
  };
  act = λ area change old new is.
      let done = guarded (with_state old area) for_change (for_change ReadOnly) Operand new (may_change old area) (is_asked change) (changed change (state_in old area)) is in
      subst (Keeps old) done.4 (Keeps-state area change old done.2 done.0 (small change done.1) done.3);
}

-- every program keeps it, wherever it ends
pub Keeps-run : {A : Type 0} (program : Program A) (world : WorldData) → Keeps world (left_by (run program world))
Keeps-run program world = kept_by_run Keeps IsKept-Keeps program world

-- so does a command whose meaning is a program
pub keeps_ran : {A : Type 0} (program : Program A) (old : WorldData) (result : Result A CommandError) (new : WorldData) → Ran (run program old) result new → KeepsUnlessMemory old result new
keeps_ran program old (Ok value) new ran = subst (λ outcome. Keeps old (left_by outcome)) ran (Keeps-run program old)
keeps_ran program old (Err Memory) new ran = tt
keeps_ran program old (Err (Failed reason)) new ran = subst (λ outcome. Keeps old (left_by outcome)) ran (Keeps-run program old)
