-- The files on a task's shelf are its own, or were on a shelf that it was handed.
use Rattle.std.proofs.Common.{ℕ, ◌≡◌, ◌⊎◌, ◌||◌, Bool, true, false, not, cond, List, [], ◌∷◌, ◌++◌, map, flat_map, Option, Some, None, Result, Ok, Err, is_some, refl, sym, ap, ◌∙◌, inl, inr}
use Rattle.std.specs.FinMap as fin
use Rattle.std.specs.Prelude.{nat_eq, ◌&&◌, slice_get}
use Rattle.std.specs.List.{list_any, list_all}
use Rattle.std.specs.Option.{option_or}
use Rattle.std.proofs.lemmas.Bool.{true≢false, eqb-true, eq-eqb}
use Rattle.std.proofs.lemmas.List.Folds.{list_any-append}
use Rattle.br_path.specs.declared.area.Area.{Area}
use Rattle.br_path.specs.declared.area.Area.TheVariants.{Build, Host, Staging, Target}
use Rattle.dep_graph.specs.Needs.{needs_of}
use Rattle.plan_rows.specs.Plan.{Planned}
use Rattle.plan_rows.specs.declared.rows.Part.{Part}
use Rattle.plan_rows.specs.declared.rows.Part.TheVariants.{Prep, Make}
use Rattle.plan_rows.specs.declared.rows.TaskRow.{TaskRow}
use Rattle.tree_ops.specs.declared.change.ChangeFault.{ChangeFault}
use Rattle.tree_ops.specs.declared.change.ChangeFault.TheVariants.{NoSpace}
use Rattle.tree_ops.specs.declared.entry.Contents.{Contents}
use Rattle.tree_ops.specs.declared.entry.Label.{Label}
use Rattle.tree_ops.specs.Change.{State, Populate, is_own, pen_after}
use Rattle.tree_ops.specs.Pen.{Counts, is_within_limits}
use Rattle.tree_ops.specs.Tree.{Tree, empty_tree, is_used, over, label_cmp}
use Rattle.tree_ops.proofs.Finds.{any-get}
use Rattle.tree_ops.proofs.Laying.{label-over}
use Rattle.tree_ops.proofs.Orders.{label_total, label_same}
use Rattle.tree_worlds.specs.declared.reason.Reason.{Reason}
use Rattle.tree_worlds.specs.declared.reason.Reason.TheVariants.{Change as for_change}
use Rattle.tree_worlds.specs.Kept.{Keeps, StaysOrGoes}
use Rattle.tree_worlds.specs.World.{AreaTrees, WorldData, empty_trees, tree_in, with_tree, with_state, both_mapped, shown_too, readable}
use Rattle.tree_worlds.proofs.Keeping.{IsKept-Keeps}
use Rattle.task_shelves.specs.declared.shelf.Stamp.{Stamp}
use Rattle.task_shelves.specs.Labels.{drawers_in, drawers_on, is_among, are_among}
use Rattle.task_shelves.specs.Shelf.{ShelfData, Built, Failed, Skipped}
use Rattle.pkg_steps.specs.Filling.{Handed, numbered, first_unbuilt, fill, ◌>->◌, given_by, filled, begun, owner_of, is_own_prep}
use Rattle.pkg_steps.specs.Lines.{Shell, Standing, Runs, Stopped, steps_run}
use Rattle.pkg_steps.specs.Origins.{KeepsEach}
use Rattle.pkg_steps.specs.Outcome.{shelved, ended, run_in, unless_skipped, outcome, outcome_in, outcome_of}
use Rattle.pkg_steps.proofs.Kept.{KeptAt, steps-keep}
use Rattle.pkg_steps.proofs.Untouched.{is_drawn}

-- ---- what holds of the tasks that drew the labels of trees

module _ (may : ℕ → Bool) where
  -- each label of a tree was drawn by a task that may
  abbrev pub IsOf : Tree → Type 0
  IsOf tree = (label : Label) → is_some (fin.get tree.labels label) ≡ true → may label.task ≡ true

  pub record AreOf (trees : AreaTrees) : Type 0 where
    pub each : (area : Area) → IsOf (tree_in trees area)

  of-empty : IsOf empty_tree
  of-empty label there = absurd (true≢false (sym there ∙ ap is_some (fin.get-empty label_cmp label)))

  are-empty : AreOf empty_trees
  are-empty = record { each = λ area. by area }
    where
      by : (area : Area) → IsOf (tree_in empty_trees area)
      by Build = of-empty
      by Host = of-empty
      by Staging = of-empty
      by Target = of-empty

  one_has : {X : Type 0} (used : Bool) (high low : Option X) → is_some (cond used (option_or high low) None) ≡ true → (is_some high ≡ true) ⊎ (is_some low ≡ true)
  one_has true (Some x) low there = inl refl
  one_has true None low there = inr there
  one_has false high low there = absurd (true≢false (sym there))

  of-over : (low high : Tree) → IsOf low → IsOf high → IsOf (over low high)
  of-over low high below above label there =
      elim (one_has (is_used (over low high).names label) (fin.get high.labels label) (fin.get low.labels label) (sym (ap is_some (label-over low high label)) ∙ there)) [
        | inl is ↦ above label is
        | inr is ↦ below label is
      ]

  -- a tree is put in an area's place
  of-with : (trees : AreaTrees) (area other : Area) (tree : Tree) → AreOf trees → IsOf tree → IsOf (tree_in (with_tree trees area tree) other)
  of-with trees Build Build tree all is = is
  of-with trees Build Host tree all is = all.each Host
  of-with trees Build Staging tree all is = all.each Staging
  of-with trees Build Target tree all is = all.each Target
  of-with trees Host Build tree all is = all.each Build
  of-with trees Host Host tree all is = is
  of-with trees Host Staging tree all is = all.each Staging
  of-with trees Host Target tree all is = all.each Target
  of-with trees Staging Build tree all is = all.each Build
  of-with trees Staging Host tree all is = all.each Host
  of-with trees Staging Staging tree all is = is
  of-with trees Staging Target tree all is = all.each Target
  of-with trees Target Build tree all is = all.each Build
  of-with trees Target Host tree all is = all.each Host
  of-with trees Target Staging tree all is = all.each Staging
  of-with trees Target Target tree all is = is

  -- ---- worlds that are filled

  -- a world of a task, with such trees
  abbrev IsOfWorld : ℕ → WorldData → Type 0
  IsOfWorld task world = AreOf world.trees × (world.pen.task ≡ task)

  abbrev IsOfResult : ℕ → Result WorldData Reason → Type 0
  IsOfResult task (Ok world) = IsOfWorld task world
  IsOfResult task (Err reason) = Unit {0}

  module _ (number : ℕ) where
    then-of : (first : Result WorldData Reason) (next : WorldData → Result WorldData Reason) → ((world : WorldData) → IsOfWorld number world → IsOfResult number (next world)) → IsOfResult number first → IsOfResult number (first >-> next)
    then-of (Ok world) next each is = each world is
    then-of (Err reason) next each is = tt

    fill-by : (fits : Bool) (area : Area) (from : Tree) (world : WorldData) (pen : Counts) → pen.task ≡ world.pen.task → IsOf from → IsOfWorld number world
        → IsOfResult number (both_mapped (with_state world area) for_change (cond {A = Result State ChangeFault} fits (Ok (over (tree_in world.trees area) from, pen)) (Err NoSpace)))
    fill-by true area from world pen same is (all, own) =
        (record { each = λ other. of-with world.trees area other (over (tree_in world.trees area) from) all (of-over (tree_in world.trees area) from (all.each area) is) }, same ∙ own)
    fill-by false area from world pen same is so = tt

    fill-of : (area : Area) (from : Tree) (world : WorldData) → IsOf from → IsOfWorld number world → IsOfResult number (fill area from world)
    fill-of area from world is so =
        fill-by (is_within_limits (pen_after (Populate from) (tree_in world.trees area, world.pen))) area from world (pen_after (Populate from) (tree_in world.trees area, world.pen)) refl is so

    given-of : (row : TaskRow) (owner : ℕ → List ℕ) (task : ℕ) (trees : AreaTrees) (world : WorldData) (own fills reads : Bool) → AreOf trees → IsOfWorld number world
        → IsOfResult number (cond own (fill Build trees.build world) (cond fills (fill Host trees.host world >-> fill Staging trees.staging >-> fill Target trees.target)
        (cond reads (Ok (shown_too world (readable task (owner task) trees.build))) (Ok world))))
    given-of row owner task trees world true fills reads all so = fill-of Build trees.build world (all.each Build) so
    given-of row owner task trees world false true reads all so =
        then-of (fill Host trees.host world >-> fill Staging trees.staging) (fill Target trees.target) (λ w. fill-of Target trees.target w (all.each Target))
        (then-of (fill Host trees.host world) (fill Staging trees.staging) (λ w. fill-of Staging trees.staging w (all.each Staging)) (fill-of Host trees.host world (all.each Host) so))
    given-of row owner task trees world false false true all so = so
    given-of row owner task trees world false false false all so = so

    abbrev pub IsOfShelf : ShelfData → Type 0
    IsOfShelf (Built trees written stamps) = AreOf trees
    IsOfShelf (Failed step line status reason stamps) = Unit {0}
    IsOfShelf (Skipped by) = Unit {0}

    given_by-of : (row : TaskRow) (owner : ℕ → List ℕ) (task : ℕ) (shelf : ShelfData) (world : WorldData) → IsOfShelf shelf → IsOfWorld number world → IsOfResult number (given_by row owner task shelf world)
    given_by-of row owner task (Built trees written stamps) world all so = given-of row owner task trees world (is_own_prep row.own_prep task) (is_among row.fills task) (is_among row.readable task) all so
    given_by-of row owner task (Failed step line status reason stamps) world all so = so
    given_by-of row owner task (Skipped by) world all so = so

    abbrev pub AreOfHanded : Handed → Type 0
    AreOfHanded [] = Unit {0}
    AreOfHanded (handed ∷ more) = IsOfShelf handed.1 × AreOfHanded more

    filled-of : (row : TaskRow) (owner : ℕ → List ℕ) (handed : Handed) (world : WorldData) → AreOfHanded handed → IsOfWorld number world → IsOfResult number (filled row owner handed world)
    filled-of row owner [] world all so = so
    filled-of row owner ((task, shelf) ∷ more) world (first, rest) so =
        then-of (given_by row owner task shelf world) (filled row owner more) (λ w. filled-of row owner more w rest) (given_by-of row owner task shelf world first so)

    -- ---- lines

    stays-of : (old new : Tree) (label : Label) → StaysOrGoes old new label → is_some (fin.get new.labels label) ≡ true → is_some (fin.get old.labels label) ≡ true
    stays-of old new label (inl same) there = sym (ap is_some same) ∙ there
    stays-of old new label (inr gone) there = absurd (true≢false (sym there ∙ ap is_some gone))

    kept-by : (old new : WorldData) (area : Area) (label : Label) (own : Bool) → may number ≡ true → IsOfWorld number old → Keeps old new → is_own old.pen label ≡ own
        → is_some (fin.get (tree_in new.trees area).labels label) ≡ true → may label.task ≡ true
    kept-by old new area label true fine (all, task) keeps own there = ap may (eqb-true label.task old.pen.task own ∙ task) ∙ fine
    kept-by old new area label false fine (all, task) keeps own there = all.each area label (stays-of (tree_in old.trees area) (tree_in new.trees area) label (keeps.contents area label own) there)

    kept-of : (old new : WorldData) → may number ≡ true → IsOfWorld number old → Keeps old new → AreOf new.trees
    kept-of old new fine so keeps = record { each = λ area label there. kept-by old new area label (is_own old.pen label) fine so keeps refl there }

    -- ---- shelves

    shelved-of : (part : Part) (old new : AreaTrees) (stamps : List Stamp) → AreOf new → IsOfShelf (shelved part old new stamps)
    shelved-of Prep old new stamps all = record { each = λ area. by area }
      where
        by : (area : Area) → IsOf (tree_in (record empty_trees { build = new.build }) area)
        by Build = all.each Build
        by Host = of-empty
        by Staging = of-empty
        by Target = of-empty
    shelved-of Make old new stamps all = record { each = λ area. by area }
      where
        by : (area : Area) → IsOf (tree_in (record new { build = empty_tree }) area)
        by Build = of-empty
        by Host = all.each Host
        by Staging = all.each Staging
        by Target = all.each Target

    ended-of : (shell : Shell) (each : KeepsEach Keeps shell) (part : Part) (world : WorldData) (standing : Standing) → may number ≡ true → IsOfWorld number world → KeptAt Keeps IsKept-Keeps shell each world standing
        → IsOfShelf (ended part world.trees standing)
    ended-of shell each part world (Runs new stamps) fine so keeps = shelved-of part world.trees new.trees stamps (kept-of world new fine so keeps)
    ended-of shell each part world (Stopped (Built trees written stamps)) fine so keeps = absurd keeps
    ended-of shell each part world (Stopped (Failed step line status reason stamps)) fine so keeps = tt
    ended-of shell each part world (Stopped (Skipped by)) fine so keeps = tt

    run-of : (row : TaskRow) (shell : Shell) (each : KeepsEach Keeps shell) (start : Result WorldData Reason) → may number ≡ true → IsOfResult number start → IsOfShelf (run_in row shell start)
    run-of row shell each (Err reason) fine so = tt
    run-of row shell each (Ok world) fine so =
        ended-of shell each row.part world (steps_run shell row.steps (Runs world [])) fine so (steps-keep Keeps IsKept-Keeps shell each world row.steps (Runs world []) (IsKept-Keeps.same world))

    skipped-of : (by : Option ℕ) (shelf : ShelfData) → IsOfShelf shelf → IsOfShelf (unless_skipped by shelf)
    skipped-of None shelf is = is
    skipped-of (Some task) shelf is = tt

    pub outcome-of : (row : TaskRow) (shell : Shell) → KeepsEach Keeps shell → (owner : ℕ → List ℕ) (handed : Handed) → may number ≡ true → AreOfHanded handed → IsOfShelf (outcome row shell owner number handed)
    outcome-of row shell each owner handed fine all =
        skipped-of (first_unbuilt handed) (run_in row shell (filled row owner handed (begun row number)))
        (run-of row shell each (filled row owner handed (begun row number)) fine (filled-of row owner handed (begun row number) all (are-empty, refl)))

-- ---- lists of tasks

or-left : (a b : Bool) → a ≡ true → (a || b) ≡ true
or-left true b is = refl
or-left false b is = absurd (true≢false (sym is))

or-right : (a b : Bool) → b ≡ true → (a || b) ≡ true
or-right true b is = refl
or-right false b is = is

among-left : (xs ys : List ℕ) (t : ℕ) → is_among xs t ≡ true → is_among (xs ++ ys) t ≡ true
among-left xs ys t is = list_any-append (nat_eq t) xs ys ∙ or-left (is_among xs t) (is_among ys t) is

among-right : (xs ys : List ℕ) (t : ℕ) → is_among ys t ≡ true → is_among (xs ++ ys) t ≡ true
among-right xs ys t is = list_any-append (nat_eq t) xs ys ∙ or-right (is_among xs t) (is_among ys t) is

some_is : {X : Type 0} (o : Option X) → is_some o ≡ true → (x : X) × (o ≡ Some x)
some_is None there = absurd (true≢false (sym there))
some_is (Some x) there = (x, refl)

-- a task whose label stands in a tree is among those that drew it
drawn-in : (tree : Tree) (label : Label) → is_some (fin.get tree.labels label) ≡ true → is_among (drawers_in tree) label.task ≡ true
drawn-in tree label there = let found = some_is (fin.get tree.labels label) there in is_drawn tree label.task label found.0 found.1 (eq-eqb label.task label.task refl)

drawn-on : (trees : AreaTrees) (area : Area) (t : ℕ) → is_among (drawers_in (tree_in trees area)) t ≡ true
    → is_among (drawers_in trees.build ++ drawers_in trees.host ++ drawers_in trees.staging ++ drawers_in trees.target) t ≡ true
drawn-on trees Build t is = among-left (drawers_in trees.build ++ drawers_in trees.host ++ drawers_in trees.staging) (drawers_in trees.target) t
    (among-left (drawers_in trees.build ++ drawers_in trees.host) (drawers_in trees.staging) t (among-left (drawers_in trees.build) (drawers_in trees.host) t is))
drawn-on trees Host t is = among-left (drawers_in trees.build ++ drawers_in trees.host ++ drawers_in trees.staging) (drawers_in trees.target) t
    (among-left (drawers_in trees.build ++ drawers_in trees.host) (drawers_in trees.staging) t (among-right (drawers_in trees.build) (drawers_in trees.host) t is))
drawn-on trees Staging t is = among-left (drawers_in trees.build ++ drawers_in trees.host ++ drawers_in trees.staging) (drawers_in trees.target) t
    (among-right (drawers_in trees.build ++ drawers_in trees.host) (drawers_in trees.staging) t is)
drawn-on trees Target t is = among-right (drawers_in trees.build ++ drawers_in trees.host ++ drawers_in trees.staging) (drawers_in trees.target) t is

-- all labels on shelves were drawn by tasks among those that drew them
shelf-of : (may : ℕ → Bool) (number : ℕ) (shelf : ShelfData) → ((t : ℕ) → is_among (drawers_on shelf) t ≡ true → may t ≡ true) → IsOfShelf may number shelf
shelf-of may number (Built trees written stamps) each = record { each = λ area label there. each label.task (drawn-on trees area label.task (drawn-in (tree_in trees area) label there)) }
shelf-of may number (Failed step line status reason stamps) each = tt
shelf-of may number (Skipped by) each = tt

handed-of : (may : ℕ → Bool) (number : ℕ) (needs : List ℕ) (shelves : List ShelfData) → ((t : ℕ) → is_among (flat_map drawers_on shelves) t ≡ true → may t ≡ true) → AreOfHanded may number (numbered needs shelves)
handed-of may number [] shelves each = tt
handed-of may number (need ∷ needs) [] each = tt
handed-of may number (need ∷ needs) (shelf ∷ shelves) each = (
  shelf-of may number shelf (λ t is. each t (among-left (drawers_on shelf) (flat_map drawers_on shelves) t is)),
  handed-of may number needs shelves (λ t is. each t (among-right (drawers_on shelf) (flat_map drawers_on shelves) t is)),
)

off-next : (b all any : Bool) → (all ≡ false → any ≡ true) → (b && all) ≡ false → (not b || any) ≡ true
off-next true all any rest is = rest is
off-next false all any rest is = refl

-- where not all items pass, some item doesn't
off-all : {E : Type 0} (test : ℕ → Bool) (f : E → ℕ) (es : List E) → list_all test (map f es) ≡ false → list_any (λ e. not (test (f e))) es ≡ true
off-all test f [] is = absurd (true≢false is)
off-all test f (e ∷ es) is = off-next (test (f e)) _ _ (off-all test f es) is

turned : (b : Bool) → not b ≡ true → b ≡ true → ⊥
turned true is fine = true≢false (sym is)
turned false is fine = true≢false (sym fine)

all-drawers : (may : ℕ → Bool) (tree : Tree) → IsOf may tree → list_all may (drawers_in tree) ≡ true
all-drawers may tree is = by (list_all may (drawers_in tree)) refl
  where
    by : (b : Bool) → list_all may (drawers_in tree) ≡ b → list_all may (drawers_in tree) ≡ true
    by true same = same
    by false same =
        let found = any-get label_total label_same (λ (e : Label × Contents). not (may e.0.task)) tree.labels (off-all may (λ (e : Label × Contents). e.0.task) (fin.entries tree.labels) same) in
        absurd (turned (may found.0.task) found.3 (is found.0 (ap is_some found.2)))

all-next : (b all both : Bool) → (all ≡ true → both ≡ true) → (b && all) ≡ true → (b && both) ≡ true
all-next true all both rest is = rest is
all-next false all both rest is = absurd (true≢false (sym is))

all-append : (test : ℕ → Bool) (xs ys : List ℕ) → list_all test xs ≡ true → list_all test ys ≡ true → list_all test (xs ++ ys) ≡ true
all-append test [] ys left right = right
all-append test (x ∷ xs) ys left right = all-next (test x) _ _ (λ rest. all-append test xs ys rest right) left

shelf-drawers : (may : ℕ → Bool) (number : ℕ) (shelf : ShelfData) → IsOfShelf may number shelf → list_all may (drawers_on shelf) ≡ true
shelf-drawers may number (Built trees written stamps) all =
    all-append may (drawers_in trees.build ++ drawers_in trees.host ++ drawers_in trees.staging) (drawers_in trees.target)
    (all-append may (drawers_in trees.build ++ drawers_in trees.host) (drawers_in trees.staging)
    (all-append may (drawers_in trees.build) (drawers_in trees.host) (all-drawers may trees.build (all.each Build)) (all-drawers may trees.host (all.each Host)))
    (all-drawers may trees.staging (all.each Staging)))
    (all-drawers may trees.target (all.each Target))
shelf-drawers may number (Failed step line status reason stamps) all = refl
shelf-drawers may number (Skipped by) all = refl

in-drawn : (plan : Planned) (shell : Shell) (task : ℕ) (shelves : List ShelfData) (row : Option TaskRow) → KeepsEach Keeps shell
    → are_among (flat_map drawers_on shelves ++ task ∷ []) (drawers_on (outcome_in plan shell task shelves row)) ≡ true
in-drawn plan shell task shelves None each = refl
in-drawn plan shell task shelves (Some row) each =
    let those = flat_map drawers_on shelves ++ task ∷ [] in
    let handed = numbered (needs_of plan.graph task) shelves in
    shelf-drawers (is_among those) task (outcome row shell (owner_of plan) task handed)
    (outcome-of (is_among those) task row shell each (owner_of plan) handed
    (among-right (flat_map drawers_on shelves) (task ∷ []) task (or-left (nat_eq task task) false (eq-eqb task task refl)))
    (handed-of (is_among those) task (needs_of plan.graph task) shelves (λ t is. among-left (flat_map drawers_on shelves) (task ∷ []) t is)))

-- the labels on a task's shelf are its needs' or its own
pub drawn_by_task : (plan : Planned) (shell : Shell) (task : ℕ) (shelves : List ShelfData) → KeepsEach Keeps shell
    → are_among (flat_map drawers_on shelves ++ task ∷ []) (drawers_on (outcome_of plan shell task shelves)) ≡ true
drawn_by_task plan shell task shelves each = in-drawn plan shell task shelves (slice_get plan.rows task) each
