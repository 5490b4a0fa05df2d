-- Each change leaves the counts right, and so each task ends within its limits.
use Rattle.std.proofs.Common.{ℕ, ◌+◌, ◌≡◌, ◌≤◌, Bool, true, false, cond, ◌&&◌, nat_eq, nat_le, List, [], ◌∷◌, length, Option, Some, None, Result, Ok, Err, is_some, refl, sym, ap, subst, ◌∙◌, true≢false, arith}
use Rattle.std.specs.FinMap as fin
use Rattle.std.specs.FinMap.{FinMap}
use Rattle.std.specs.List.{sum_by}
use Rattle.std.proofs.lemmas.Bool.{and_parts, leb-true}
use Rattle.br_path.specs.Path.{Names, path_cmp, rooted_text}
use Rattle.br_path.specs.declared.area.Area.{Area}
use Rattle.br_path.specs.declared.area.Area.TheVariants.{Build, Host, Staging, Target}
use Rattle.br_path.proofs.PathOrder.{path_total}
use Rattle.plan_rows.specs.Plan.{Planned}
use Rattle.plan_rows.specs.declared.rows.Part.{Part}
use Rattle.plan_rows.specs.declared.rows.Part.TheVariants.{Prep, Make}
use Rattle.plan_rows.specs.declared.rows.TaskRow.{TaskRow}
use Rattle.tree_ops.specs.declared.change.ChangeFault.{ChangeFault}
use Rattle.tree_ops.specs.declared.change.ChangeFault.TheVariants.{ReadOnly}
use Rattle.tree_ops.specs.declared.entry.Node.{Node}
use Rattle.tree_ops.specs.declared.entry.Node.TheVariants.{Dir}
use Rattle.tree_ops.specs.Change.{Change, Populate, State, changed, text_bytes}
use Rattle.tree_ops.specs.Pen.{Counts, is_within_limits}
use Rattle.tree_ops.specs.Tree.{Tree, empty_tree}
use Rattle.tree_ops.proofs.Counting.{names-changed, texts-changed}
use Rattle.tree_ops.proofs.Inserts.{sum_by-entries_insert, len-insert_new}
use Rattle.tree_ops.proofs.Outcomes.{after-changed}
use Rattle.tree_worlds.specs.declared.reason.Reason.{Reason}
use Rattle.tree_worlds.specs.declared.reason.Reason.TheVariants.{Operand, Change as for_change}
use Rattle.tree_worlds.specs.HeldWorld.{names_in, texts_in}
use Rattle.tree_worlds.specs.Kept.{IsKept, left_by}
use Rattle.tree_worlds.specs.Program.{Program, run}
use Rattle.tree_worlds.specs.World.{WorldData, AreaTrees, tree_in, with_tree, state_in, with_state, ReadableTree, put_back, may_change, is_asked, empty_trees, shown_too}
use Rattle.tree_worlds.proofs.Programs.{kept_by_run}
use Rattle.task_shelves.specs.declared.shelf.Stamp.{Stamp}
use Rattle.task_shelves.specs.Shelf.{ShelfData, Built, Failed, Skipped, no_shelf}
use Rattle.pkg_steps.specs.Filling.{Handed, fill, filled, begun, first_unbuilt, numbered, owner_of}
use Rattle.dep_graph.specs.Needs.{needs_of}
use Rattle.pkg_steps.specs.Lines.{Shell, Standing, Runs, Stopped, steps_run}
use Rattle.pkg_steps.specs.Origins.{KeepsEach}
use Rattle.pkg_steps.specs.Outcome.{shelved, ended, run_in, unless_skipped, outcome, outcome_in, outcome_of}
use Rattle.pkg_steps.proofs.Kept.{KeptAt, steps-keep}
use Rattle.serial_build.proofs.Fillings.{OfWorld, filled-kept}
use Rattle.serial_build.specs.Limits.{IsCounted, KeepsCounts, IsWithinLimits}
use Rattle.serial_build.specs.Serial.{Shelves, put, handed_to, serial_from, serial_build}
use Rattle.serial_build.proofs.Filled.{root-empty}
use Rattle.serial_build.proofs.Roots.{HasRoot, root-changed, guarded}

-- ---- sums over four trees

abbrev others : (Tree → ℕ) → AreaTrees → Area → ℕ
others f trees Build = f trees.host + f trees.staging + f trees.target
others f trees Host = f trees.build + f trees.staging + f trees.target
others f trees Staging = f trees.build + f trees.host + f trees.target
others f trees Target = f trees.build + f trees.host + f trees.staging

abbrev together : (Tree → ℕ) → AreaTrees → ℕ
together f trees = f trees.build + f trees.host + f trees.staging + f trees.target

-- the sum with another tree in an area's place
sum-with : (f : Tree → ℕ) (trees : AreaTrees) (area : Area) (tree : Tree) → together f (with_tree trees area tree) ≡ f tree + others f trees area
sum-with f trees Build tree = omega arith
sum-with f trees Host tree = omega arith
sum-with f trees Staging tree = omega arith
sum-with f trees Target tree = omega arith

sum-is : (f : Tree → ℕ) (trees : AreaTrees) (area : Area) → together f trees ≡ f (tree_in trees area) + others f trees area
sum-is f trees Build = omega arith
sum-is f trees Host = omega arith
sum-is f trees Staging = omega arith
sum-is f trees Target = omega arith

three : (f : Tree → ℕ) (trees : AreaTrees) (area : Area) → ((other : Area) → 1 ≤ f (tree_in trees other)) → 3 ≤ others f trees area
three f trees Build ones = let a = ones Host in let b = ones Staging in let c = ones Target in omega arith
three f trees Host ones = let a = ones Build in let b = ones Staging in let c = ones Target in omega arith
three f trees Staging ones = let a = ones Build in let b = ones Host in let c = ones Target in omega arith
three f trees Target ones = let a = ones Build in let b = ones Host in let c = ones Staging in omega arith

-- ---- one change

abbrev names_of : Tree → ℕ
names_of tree = fin.len tree.names

-- where a root stands, there is a name
some-name : (tree : Tree) → HasRoot tree.names → 1 ≤ names_of tree
some-name tree there = by (fin.entries tree.names) refl
  where
    by : (es : List (Names × Node)) → fin.entries tree.names ≡ es → 1 ≤ names_of tree
    by [] none =
        let empty : fin.len tree.names ≡ 0 = fin.len-entries tree.names ∙ ap length none in
        let gone : fin.get tree.names [] ≡ None = ap (λ (names : FinMap path_cmp Node). fin.get names []) (fin.empty_of_len tree.names empty) ∙ fin.get-empty path_cmp [] in
        absurd (true≢false (sym there ∙ ap is_some gone))
    by (e ∷ es) some = let more : fin.len tree.names ≡ length (e ∷ es) = fin.len-entries tree.names ∙ ap length some in omega arith

roots-with : (trees : AreaTrees) (area other : Area) (tree : Tree) → ((a : Area) → HasRoot (tree_in trees a).names) → HasRoot tree.names → HasRoot (tree_in (with_tree trees area tree) other).names
roots-with trees Build Build tree all own = own
roots-with trees Build Host tree all own = all Host
roots-with trees Build Staging tree all own = all Staging
roots-with trees Build Target tree all own = all Target
roots-with trees Host Build tree all own = all Build
roots-with trees Host Host tree all own = own
roots-with trees Host Staging tree all own = all Staging
roots-with trees Host Target tree all own = all Target
roots-with trees Staging Build tree all own = all Build
roots-with trees Staging Host tree all own = all Host
roots-with trees Staging Staging tree all own = own
roots-with trees Staging Target tree all own = all Target
roots-with trees Target Build tree all own = all Build
roots-with trees Target Host tree all own = all Host
roots-with trees Target Staging tree all own = all Staging
roots-with trees Target Target tree all own = own

counted-at : (area : Area) (change : Change) (old : WorldData) (state : State) → changed change (state_in old area) ≡ Ok state → IsCounted old → IsCounted (with_state old area state)
counted-at area change old state is was =
    let done = after-changed change (state_in old area) state is in
    let own : HasRoot state.0.names = root-changed change (state_in old area) state is (was.roots area) in
    let enough : 4 ≤ names_of state.0 + others names_of old.trees area =
    let one = some-name state.0 own in
    let rest = three names_of old.trees area (λ other. some-name (tree_in old.trees other) (was.roots other)) in
    omega arith in
    record {
      roots = λ other. roots-with old.trees area other state.0 was.roots own;
      names = sum-with names_of old.trees area state.0
          ∙ names-changed change (state_in old area) state (others names_of old.trees area) 4 is enough (sym (sum-is names_of old.trees area) ∙ was.names);
      texts = sum-with text_bytes old.trees area state.0
          ∙ texts-changed change (state_in old area) state (others text_bytes old.trees area) is (sym (sum-is text_bytes old.trees area) ∙ was.texts);
      limits = ap (λ (s : State). is_within_limits s.1) (sym done.2) ∙ done.1;
    }

pub IsKept-KeepsCounts : IsKept KeepsCounts
IsKept-KeepsCounts = record {
  same = λ world was. was;
  chain = λ first next last one two was. two (one was);
  act = λ area change old new is.
      let done = guarded (with_state old area) for_change (for_change ReadOnly) Operand new (may_change old area) (is_asked change) (changed change (state_in old area)) is in
      subst (KeepsCounts old) done.2 (counted-at area change old done.0 done.1);
}

-- every program keeps them, wherever it ends
pub KeepsCounts-run : {A : Type 0} (program : Program A) (world : WorldData) → KeepsCounts world (left_by (run program world))
KeepsCounts-run program world = kept_by_run KeepsCounts IsKept-KeepsCounts program world

-- ---- fillings

put-counted : (world : WorldData) (area : Area) (outcome : Result State ChangeFault) → ((state : State) → outcome ≡ Ok state → IsCounted (with_state world area state)) → OfWorld IsCounted (put_back world area outcome)
put-counted world area (Ok state) each = each state refl
put-counted world area (Err fault) each = tt

fill-counted : (area : Area) (from : Tree) (world : WorldData) → IsCounted world → OfWorld IsCounted (fill area from world)
fill-counted area from world was = put-counted world area (changed (Populate from) (state_in world area)) (λ state is. counted-at area (Populate from) world state is was)

shown-counted : (world : WorldData) (more : ReadableTree) → IsCounted world → IsCounted (shown_too world more)
shown-counted world more was = record { roots = was.roots; names = was.names; texts = was.texts; limits = was.limits }

all-counted : (row : TaskRow) (owner : ℕ → List ℕ) (handed : Handed) (world : WorldData) → IsCounted world → OfWorld IsCounted (filled row owner handed world)
all-counted row owner handed world was = filled-kept IsCounted fill-counted shown-counted row owner handed world was

-- ---- where a task begins

-- a tree with the root alone has one name, whose text has no bytes
one-name : names_of empty_tree ≡ 1
one-name = len-insert_new path_total (fin.empty {R = path_cmp}) [] (Dir 493) (fin.get-empty path_cmp []) ∙ ap (λ n. n + 1) (fin.len-empty path_cmp Node)

no-text : text_bytes empty_tree ≡ 0
no-text =
    sum_by-entries_insert path_total (λ entry. length (rooted_text entry.0)) (fin.empty {R = path_cmp}) [] (Dir 493) (fin.get-empty path_cmp [])
    ∙ ap (λ (es : List (Names × Node)). 0 + sum_by (λ entry. length (rooted_text entry.0)) es) (none (fin.entries (fin.empty {X = Node} {R = path_cmp})) (sym (fin.len-entries (fin.empty {X = Node} {R = path_cmp})) ∙ fin.len-empty path_cmp Node))
  where
    none : (es : List (Names × Node)) → length es ≡ 0 → es ≡ []
    none [] is = refl
    none (e ∷ es) is = absurd (omega arith)

roots-empty : (area : Area) → HasRoot (tree_in empty_trees area).names
roots-empty Build = root-empty
roots-empty Host = root-empty
roots-empty Staging = root-empty
roots-empty Target = root-empty

begun-counted : (row : TaskRow) (task : ℕ) → IsCounted (begun row task)
begun-counted row task = record {
  roots = roots-empty;
  names = let one = one-name in let four : names_in empty_trees ≡ 4 = omega arith in four;
  texts = let zero = no-text in let none : texts_in empty_trees ≡ 0 = omega arith in none;
  limits = refl;
}

-- ---- where it ends

counts-within : (pen : Counts) → is_within_limits pen ≡ true → (pen.names ≤ 16384) × (pen.path_bytes ≤ 1048576)
counts-within pen is =
    let last = and_parts (nat_le pen.next 4294967295 && nat_le pen.bytes 4194304 && nat_le pen.names 16384) (nat_le pen.path_bytes 1048576) is in
    let names = and_parts (nat_le pen.next 4294967295 && nat_le pen.bytes 4194304) (nat_le pen.names 16384) last.0 in
    (leb-true pen.names 16384 names.1, leb-true pen.path_bytes 1048576 last.1)

world-within : (world : WorldData) → IsCounted world → (names_in world.trees ≤ 16384 + 4) × (texts_in world.trees ≤ 1048576)
world-within world was =
    let limits = counts-within world.pen was.limits in
    let names = was.names in
    let texts = was.texts in
    let few = limits.0 in
    let short = limits.1 in
    (omega arith, omega arith)

shelved-within : (part : Part) (old new : AreaTrees) (stamps : List Stamp) → ((area : Area) → HasRoot (tree_in new area).names) → (names_in new ≤ 16384 + 4) × (texts_in new ≤ 1048576)
    → IsWithinLimits (shelved part old new stamps)
shelved-within Prep old new stamps roots within =
    let one = one-name in
    let zero = no-text in
    let host = some-name new.host (roots Host) in
    let staging = some-name new.staging (roots Staging) in
    let target = some-name new.target (roots Target) in
    let names = within.0 in
    let texts = within.1 in
    (omega arith, omega arith)
shelved-within Make old new stamps roots within =
    let one = one-name in
    let zero = no-text in
    let build = some-name new.build (roots Build) in
    let names = within.0 in
    let texts = within.1 in
    (omega arith, omega arith)

module _ (shell : Shell) (each : KeepsEach KeepsCounts shell) where
  ended-within : (part : Part) (old : WorldData) (standing : Standing) → IsCounted old → KeptAt KeepsCounts IsKept-KeepsCounts shell each old standing → IsWithinLimits (ended part old.trees standing)
  ended-within part old (Runs world stamps) was kept = shelved-within part old.trees world.trees stamps (kept was).roots (world-within world (kept was))
  ended-within part old (Stopped (Built trees written stamps)) was kept = absurd kept
  ended-within part old (Stopped (Failed step line status reason stamps)) was kept = tt
  ended-within part old (Stopped (Skipped by)) was kept = tt

  run-within : (row : TaskRow) (begins : Result WorldData Reason) → OfWorld IsCounted begins → IsWithinLimits (run_in row shell begins)
  run-within row (Err reason) was = tt
  run-within row (Ok world) was =
      ended-within row.part world (steps_run shell row.steps (Runs world [])) was (steps-keep KeepsCounts IsKept-KeepsCounts shell each world row.steps (Runs world []) (λ is. is))

  skipped-within : (by : Option ℕ) (shelf : ShelfData) → IsWithinLimits shelf → IsWithinLimits (unless_skipped by shelf)
  skipped-within None shelf is = is
  skipped-within (Some task) shelf is = tt

  outcome-within : (plan : Planned) (task : ℕ) (shelves : List ShelfData) (row : Option TaskRow) → IsWithinLimits (outcome_in plan shell task shelves row)
  outcome-within plan task shelves None = tt
  outcome-within plan task shelves (Some row) =
      let handed = numbered (needs_of plan.graph task) shelves in
      skipped-within (first_unbuilt handed) (run_in row shell (filled row (owner_of plan) handed (begun row task)))
      (run-within row (filled row (owner_of plan) handed (begun row task)) (all-counted row (owner_of plan) handed (begun row task) (begun-counted row task)))

  module _ (plan : Planned) where
    serial-within : (shelves : Shelves) (tasks : List ℕ) → ((task : ℕ) → IsWithinLimits (shelves task)) → (task : ℕ) → IsWithinLimits (serial_from plan shell shelves tasks task)
    serial-within shelves [] all = all
    serial-within shelves (next ∷ tasks) all = serial-within (put shelves next shelf) tasks (λ other. by other (nat_eq other next))
      where
        shelf : ShelfData
        shelf = outcome_of plan shell next (handed_to plan shelves next)

        by : (other : ℕ) (b : Bool) → IsWithinLimits (cond b shelf (shelves other))
        by other true = outcome-within plan next (handed_to plan shelves next) _
        by other false = all other

    pub serial_within : (task : ℕ) → IsWithinLimits (serial_build plan shell task)
    serial_within = serial-within (λ task. no_shelf) plan.order (λ task. tt)
