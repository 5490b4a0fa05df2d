-- Shelves handed in one after another.
use Rattle.std.proofs.Common.{ℕ, ◌≡◌, ◌+◌, List, [], ◌∷◌, ◌++◌, length, length-append, Option, Some, None, Result, Ok, Err, refl, sym, ap, subst, ◌∙◌, arith}
use Rattle.std.specs.Prelude.{slice_get, IfOk, OnOk}
use Rattle.std.proofs.lemmas.Option.{same_Some}
use Rattle.br_path.specs.Path.{Names}
use Rattle.br_path.specs.declared.area.Area.{Area}
use Rattle.dep_graph.specs.Needs.{needs_of}
use Rattle.plan_rows.specs.Plan.{Planned, HasRow}
use Rattle.plan_rows.specs.declared.rows.TaskRow.{TaskRow}
use Rattle.tree_ops.specs.Tree.{Tree}
use Rattle.tree_worlds.specs.declared.reason.Reason.{Reason}
use Rattle.tree_worlds.specs.World.{AreaTrees, WorldData}
use Rattle.task_shelves.specs.declared.shelf.Stamp.{Stamp}
use Rattle.task_shelves.specs.Shelf.{ShelfData, Built}
use Rattle.pkg_steps.specs.declared.task_run.TaskRun.{TaskRun}
use Rattle.pkg_steps.specs.Filling.{Handed, numbered, first_or, unless_built, first_unbuilt, ◌>->◌, given, given_by, filled, owner_of, begun}
use Rattle.pkg_steps.specs.Runs.{so_far, IsSameRun, HasTaken}

pub numbered-none : (needs : List ℕ) → numbered needs [] ≡ []
numbered-none [] = refl
numbered-none (need ∷ needs) = refl

-- one shelf more is that of the next need
pub numbered-more : (needs : List ℕ) (shelves : List ShelfData) (need : ℕ) (shelf : ShelfData) → slice_get needs (length shelves) ≡ Some need
    → numbered needs (shelves ++ shelf ∷ []) ≡ numbered needs shelves ++ (need, shelf) ∷ []
numbered-more [] shelves need shelf is = cc
numbered-more (first ∷ needs) [] need shelf is = let same : first ≡ need = cc in ap (λ n. (n, shelf) ∷ numbered needs []) same ∙ ap (λ l. (need, shelf) ∷ l) (numbered-none needs)
numbered-more (first ∷ needs) (other ∷ shelves) need shelf is = ap (λ l. (first, other) ∷ l) (numbered-more needs shelves need shelf is)

first_or-chain : (one two three : Option ℕ) → first_or (first_or one two) three ≡ first_or one (first_or two three)
first_or-chain None two three = refl
first_or-chain (Some by) two three = refl

first_or-none : (one : Option ℕ) → first_or one None ≡ one
first_or-none None = refl
first_or-none (Some by) = refl

pub unbuilt-more : (handed : Handed) (need : ℕ) (shelf : ShelfData) → first_unbuilt (handed ++ (need, shelf) ∷ []) ≡ first_or (first_unbuilt handed) (unless_built need shelf)
unbuilt-more [] need shelf = first_or-none (unless_built need shelf)
unbuilt-more ((task, other) ∷ more) need shelf =
    ap (first_or (unless_built task other)) (unbuilt-more more need shelf) ∙ sym (first_or-chain (unless_built task other) (first_unbuilt more) (unless_built need shelf))

then-chain : (first : Result WorldData Reason) (second third : WorldData → Result WorldData Reason) → (first >-> second >-> third) ≡ (first >-> λ world. second world >-> third)
then-chain (Ok world) second third = refl
then-chain (Err reason) second third = refl

then-ok : (first : Result WorldData Reason) → (first >-> λ world. Ok world) ≡ first
then-ok (Ok world) = refl
then-ok (Err reason) = refl

then-same : (first : Result WorldData Reason) (one other : WorldData → Result WorldData Reason) → ((world : WorldData) → one world ≡ other world) → (first >-> one) ≡ (first >-> other)
then-same (Ok world) one other same = same world
then-same (Err reason) one other same = refl

pub filled-more : (row : TaskRow) (owner : ℕ → List ℕ) (handed : Handed) (need : ℕ) (shelf : ShelfData) (world : WorldData)
    → filled row owner (handed ++ (need, shelf) ∷ []) world ≡ (filled row owner handed world >-> given_by row owner need shelf)
filled-more row owner [] need shelf world = then-ok (given_by row owner need shelf world)
filled-more row owner ((task, other) ∷ more) need shelf world =
    then-same (given_by row owner task other world) (filled row owner (more ++ (need, shelf) ∷ [])) (λ w. filled row owner more w >-> given_by row owner need shelf) (filled-more row owner more need shelf)
    ∙ sym (then-chain (given_by row owner task other world) (filled row owner more) (given_by row owner need shelf))

none-before : (one two : Option ℕ) → first_or one two ≡ None → one ≡ None
none-before None two is = refl
none-before (Some by) two is = is

-- the run after one shelf more
module _ {T : Type 0} (tree : T → Tree) (old mid new : TaskRun T) (need : ℕ) (shelf : ShelfData) where
  pub taken-more : slice_get (needs_of old.plan.now.graph old.task) old.taken ≡ Some need
      → (so_far tree mid ≡ so_far tree old) → (mid.unbuilt ≡ old.unbuilt) → (mid.plan.now ≡ old.plan.now) → (mid.task ≡ old.task) → (mid.taken ≡ old.taken + 1)
      → new.unbuilt ≡ first_or mid.unbuilt (unless_built need shelf)
      → ((row : TaskRow) → HasRow mid.plan.now mid.task row → new.unbuilt ≡ None → so_far tree new ≡ (so_far tree mid >-> given_by row (owner_of mid.plan.now) need shelf))
      → IsSameRun mid new → (shelves : List ShelfData) → HasTaken tree old shelves → HasTaken tree new (shelves ++ shelf ∷ [])
  taken-more at world_same unbuilt_same plan_same task_same taken_same unbuilt gives same shelves old_has =
      let plan : new.plan.now ≡ old.plan.now = same.plan ∙ plan_same in
      let task : new.task ≡ old.task = same.task ∙ task_same in
      let needs = needs_of old.plan.now.graph old.task in
      let needs_same : needs_of new.plan.now.graph new.task ≡ needs = λ i. needs_of (plan i).graph (task i) in
      let at_end : slice_get needs (length shelves) ≡ Some need = ap (slice_get needs) (sym old_has.count) ∙ at in
      let list : numbered (needs_of new.plan.now.graph new.task) (shelves ++ shelf ∷ []) ≡ numbered needs shelves ++ (need, shelf) ∷ [] =
      ap (λ l. numbered l (shelves ++ shelf ∷ [])) needs_same ∙ numbered-more needs shelves need shelf at_end in
      let noted : new.unbuilt ≡ first_or old.unbuilt (unless_built need shelf) = unbuilt ∙ ap (λ o. first_or o (unless_built need shelf)) unbuilt_same in
      record {
        count = let before : new.taken ≡ length shelves + 1 = same.taken ∙ taken_same ∙ ap (λ n. n + 1) old_has.count in omega (before, length-append shelves (shelf ∷ []), arith);
        unbuilt = noted ∙ ap (λ o. first_or o (unless_built need shelf)) old_has.unbuilt ∙ sym (ap first_unbuilt list ∙ unbuilt-more (numbered needs shelves) need shelf);
        world = λ row there none.
            let there_mid : HasRow mid.plan.now mid.task row = sym (λ i. slice_get (same.plan i).rows (same.task i)) ∙ there in
            let there_old : HasRow old.plan.now old.task row = sym (λ i. slice_get (plan i).rows (task i)) ∙ there in
            let before : old.unbuilt ≡ None = none-before old.unbuilt (unless_built need shelf) (sym noted ∙ none) in
            gives row there_mid none
            ∙ ap (λ w. w >-> given_by row (owner_of mid.plan.now) need shelf) (world_same ∙ old_has.world row there_old before)
            ∙ ap (λ p. filled row (owner_of old.plan.now) (numbered needs shelves) (begun row old.task) >-> given_by row (owner_of p) need shelf) plan_same
            ∙ sym (filled-more row (owner_of old.plan.now) (numbered needs shelves) need shelf (begun row old.task))
            ∙ sym (λ i. filled row (owner_of (plan i)) (list i) (begun row (task i)));
      }

-- what is known after Ok
pub on_ok : {A E P Q : Type 0} (result : Result A E) → (P → Q) → OnOk result P → OnOk result Q
on_ok (Ok value) next is = next is
on_ok (Err error) next is = tt

pub if_ok : {A E : Type 0} {P Q : A → Type 0} (result : Result A E) → ((value : A) → P value → Q value) → IfOk result P → IfOk result Q
if_ok (Ok value) next is = next value is
if_ok (Err error) next is = tt

pub on_ok_both : {A E P Q R : Type 0} (result : Result A E) → (P → Q → R) → OnOk result P → OnOk result Q → OnOk result R
on_ok_both (Ok value) next one other = next one other
on_ok_both (Err error) next one other = tt

-- where a task begins, no shelf was handed in
pub started : (plan : Planned) (row found : TaskRow) (task : ℕ) (world : WorldData) (needs : List ℕ) → HasRow plan task row → HasRow plan task found → world ≡ begun found task
    → Ok world ≡ filled row (owner_of plan) (numbered needs []) (begun row task)
started plan row found task world needs there other is =
    let same : found ≡ row = same_Some found row (sym other ∙ there) in
    ap Ok (is ∙ ap (λ r. begun r task) same) ∙ sym (ap (λ h. filled row (owner_of plan) h (begun row task)) (numbered-none needs))

-- what a built shelf gives
pub given-built : (row : TaskRow) (owner : ℕ → List ℕ) (task : ℕ) (shelf : ShelfData) (trees : AreaTrees) (written : List (Area × Names)) (stamps : List Stamp) (before after : Result WorldData Reason)
    → shelf ≡ Built trees written stamps → after ≡ (before >-> given row owner task trees) → after ≡ (before >-> given_by row owner task shelf)
given-built row owner task shelf trees written stamps before after is taken = subst (λ s. after ≡ (before >-> given_by row owner task s)) (sym is) taken
