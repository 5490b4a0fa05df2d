-- Fillings bring no label of the task into its trees.
use Rattle.std.proofs.Common.{ℕ, ◌≡◌, ◌⊎◌, ◌==◌, ◌||◌, Bool, true, false, cond, List, Option, Some, None, Result, Ok, Err, is_some, refl, sym, ap, subst, ◌∙◌, inl, inr}
use Rattle.std.specs.FinMap as fin
use Rattle.std.specs.Option.{option_or}
use Rattle.std.specs.List.{list_any}
use Rattle.std.specs.Prelude.{◌++◌, nat_eq, map, ◌∷◌, []}
use Rattle.std.proofs.lemmas.Bool.{true≢false, ne_eqb, eq-eqb}
use Rattle.std.proofs.lemmas.List.Folds.{list_any-append}
use Rattle.br_path.specs.Path.{Names}
use Rattle.br_path.specs.declared.area.Area.{Area}
use Rattle.br_path.specs.declared.area.Area.TheVariants.{Build, Host, Staging, Target}
use Rattle.tree_ops.specs.declared.change.ChangeFault.{ChangeFault}
use Rattle.tree_ops.specs.declared.change.ChangeFault.TheVariants.{Memory}
use Rattle.tree_ops.specs.declared.entry.Label.{Label}
use Rattle.tree_ops.specs.declared.entry.Contents.{Contents}
use Rattle.tree_ops.specs.Change.{Populate, State, changed}
use Rattle.tree_ops.specs.Held.{IsForeign}
use Rattle.tree_ops.specs.Pen.{Counts, counts_of, new_pen}
use Rattle.tree_ops.specs.Tree.{Tree, empty_tree, label_cmp, is_used, over}
use Rattle.tree_ops.proofs.Laying.{label-over}
use Rattle.tree_ops.proofs.Outcomes.{after-changed}
use Rattle.tree_ops.proofs.Finds.{get-any}
use Rattle.tree_ops.proofs.Orders.{label_total, label_same}
use Rattle.tree_worlds.specs.World.{AreaTrees, WorldData, empty_trees, with_tree, state_in}
use Rattle.tree_worlds.specs.HeldWorld.{IsPut}
use Rattle.tree_worlds.proofs.Empty.{IsHeld-empty}
use Rattle.task_shelves.specs.Sealed.{IsSealedTree}
use Rattle.task_shelves.specs.declared.shelf.Stamp.{Stamp}
use Rattle.task_shelves.specs.Shelf.{Built}
use Rattle.task_shelves.specs.Labels.{drawers_in, drawers_on, is_among}
use Rattle.pkg_steps.specs.Runs.{AreForeign}

-- ---- trees without labels of the task

no_label : (label : Label) → is_some (fin.get empty_tree.labels label) ≡ true → ⊥
no_label label there = true≢false (sym there ∙ ap is_some (fin.get-empty label_cmp label))

pub foreign-empty : (pen : Counts) → AreForeign empty_trees pen
foreign-empty pen = record {
  build = λ label there. absurd (no_label label there);
  host = λ label there. absurd (no_label label there);
  staging = λ label there. absurd (no_label label there);
  target = λ label there. absurd (no_label label there);
}

one_has : {X : Type 0} (used : Bool) (high low : Option X) → is_some (cond used (option_or high low) None) ≡ true → (is_some high ≡ true) ⊎ (is_some low ≡ true)
one_has true (Some x) low there = inl refl
one_has true None low there = inr there
one_has false high low there = absurd (true≢false (sym there))

-- a tree with its root alone is sealed
pub empty-sealed : {T : Type 0} (tree : T → Tree) (sealed : T → Label → Bool) (t : T) → tree t ≡ empty_tree → IsSealedTree tree sealed t
empty-sealed tree sealed t is = record {
  sound = (IsHeld-empty (tree t) (sealed t) (counts_of (new_pen 0)) is).sound;
  whole = λ label there. absurd (no_label label (sym (ap (λ (x : Tree). is_some (fin.get x.labels label)) is) ∙ there));
}

-- a tree that is laid over another has the labels of both alone
foreign-over : (low high : Tree) (pen : Counts) → IsForeign low pen → IsForeign high pen → IsForeign (over low high) pen
foreign-over low high pen below above label there =
    elim (one_has (is_used (over low high).names label) (fin.get high.labels label) (fin.get low.labels label) (sym (ap is_some (label-over low high label)) ∙ there)) [
      | inl is ↦ above label is
      | inr is ↦ below label is
    ]

-- it goes by the pen's task alone
foreign-by : (tree : Tree) (pen other : Counts) → other.task ≡ pen.task → IsForeign tree pen → IsForeign tree other
foreign-by tree pen other same is label there = ap (λ task. label.task == task) same ∙ is label there

pub foreign-same : (trees : AreaTrees) (pen other : Counts) → other.task ≡ pen.task → AreForeign trees pen → AreForeign trees other
foreign-same trees pen other same all = record {
  build = foreign-by trees.build pen other same all.build;
  host = foreign-by trees.host pen other same all.host;
  staging = foreign-by trees.staging pen other same all.staging;
  target = foreign-by trees.target pen other same all.target;
}

-- a tree is put in an area's place
foreign-with : (area : Area) (old : WorldData) (from : Tree) (pen : Counts) → AreForeign old.trees pen → IsForeign from pen → AreForeign (with_tree old.trees area (over (state_in old area).0 from)) pen
foreign-with Build old from pen all is = record { build = foreign-over old.trees.build from pen all.build is; host = all.host; staging = all.staging; target = all.target }
foreign-with Host old from pen all is = record { build = all.build; host = foreign-over old.trees.host from pen all.host is; staging = all.staging; target = all.target }
foreign-with Staging old from pen all is = record { build = all.build; host = all.host; staging = foreign-over old.trees.staging from pen all.staging is; target = all.target }
foreign-with Target old from pen all is = record { build = all.build; host = all.host; staging = all.staging; target = foreign-over old.trees.target from pen all.target is }

-- ---- fillings

module _ (area : Area) (from : Tree) (old : WorldData) where
  abbrev pub Filled : Result (Unit {0}) ChangeFault → WorldData → Type 0
  Filled result new = IsPut (changed (Populate from) (state_in old area)) area old result new

  after : (state : State) → changed (Populate from) (state_in old area) ≡ Ok state → (state.1.task ≡ old.pen.task) × (state.0 ≡ over (state_in old area).0 from)
  after state outcome = let is = (after-changed (Populate from) (state_in old area) state outcome).2 in (sym (ap (λ (s : State). s.1.task) is), sym (ap (λ (s : State). s.0) is))

  -- the pen's task stays
  pub filled-task : (result : Result (Unit {0}) ChangeFault) (new : WorldData) → Filled result new → new.pen.task ≡ old.pen.task
  filled-task (Ok done) new (state, outcome, is) = ap (λ (w : WorldData). w.pen.task) is ∙ (after state outcome).0
  filled-task (Err Memory) new same = ap (λ (w : WorldData). w.pen.task) same
  filled-task (Err fault) new (outcome, same) = ap (λ (w : WorldData). w.pen.task) same

  -- and no label of it comes in
  pub filled-foreign : (result : Result (Unit {0}) ChangeFault) (new : WorldData) → AreForeign old.trees old.pen → IsForeign from old.pen → Filled result new → AreForeign new.trees new.pen
  filled-foreign (Ok done) new all is (state, outcome, made) =
      let by = after state outcome in
      subst (λ (w : WorldData). AreForeign w.trees w.pen) (sym made)
      (subst (λ (t : Tree). AreForeign (with_tree old.trees area t) state.1) (sym by.1) (foreign-same (with_tree old.trees area (over (state_in old area).0 from)) old.pen state.1 by.0 (foreign-with area old from old.pen all is)))
  filled-foreign (Err Memory) new all is same = subst (λ (w : WorldData). AreForeign w.trees w.pen) (sym same) all
  filled-foreign (Err fault) new all is (outcome, same) = subst (λ (w : WorldData). AreForeign w.trees w.pen) (sym same) all

-- ---- labels by the list of their tasks

no_drawer : {E : Type 0} (f : E → ℕ) (task : ℕ) (es : List E) → list_any (nat_eq task) (map f es) ≡ list_any (λ e. nat_eq task (f e)) es
no_drawer f task [] = refl
no_drawer f task (e ∷ es) = ap (λ b. nat_eq task (f e) || b) (no_drawer f task es)

pub is_drawn : (tree : Tree) (task : ℕ) (label : Label) (contents : Contents) → fin.get tree.labels label ≡ Some contents → nat_eq task label.task ≡ true → is_among (drawers_in tree) task ≡ true
is_drawn tree task label contents there same =
    no_drawer (λ (e : Label × Contents). e.0.task) task (fin.entries tree.labels) ∙ get-any label_total label_same (λ e. nat_eq task e.0.task) tree.labels label contents there same

some_is : {X : Type 0} (o : Option X) → is_some o ≡ true → (x : X) × (o ≡ Some x)
some_is None there = absurd (true≢false (sym there))
some_is (Some x) there = (x, refl)

-- a tree on which a task isn't among those that drew the labels
pub foreign-drawers : (tree : Tree) (pen : Counts) (task : ℕ) → pen.task ≡ task → is_among (drawers_in tree) task ≡ false → IsForeign tree pen
foreign-drawers tree pen task own none label there =
    let found = some_is (fin.get tree.labels label) there in
    ne_eqb label.task pen.task (λ same. true≢false (sym (is_drawn tree task label found.0 found.1 (eq-eqb task label.task (sym own ∙ sym same))) ∙ none))

-- so it is of all trees on a shelf
pub foreign-shelf : (trees : AreaTrees) (written : List (Area × Names)) (stamps : List Stamp) (pen : Counts) (task : ℕ) → pen.task ≡ task → is_among (drawers_on (Built trees written stamps)) task ≡ false → AreForeign trees pen
foreign-shelf trees written stamps pen task own none =
    let target = neither (drawers_in trees.build ++ drawers_in trees.host ++ drawers_in trees.staging) (drawers_in trees.target) none in
    let staging = neither (drawers_in trees.build ++ drawers_in trees.host) (drawers_in trees.staging) target.0 in
    let host = neither (drawers_in trees.build) (drawers_in trees.host) staging.0 in
    record {
      build = foreign-drawers trees.build pen task own host.0;
      host = foreign-drawers trees.host pen task own host.1;
      staging = foreign-drawers trees.staging pen task own staging.1;
      target = foreign-drawers trees.target pen task own target.1;
    }
  where
    both_false : (a b : Bool) → (a || b) ≡ false → (a ≡ false) × (b ≡ false)
    both_false true b is = absurd (true≢false is)
    both_false false b is = (refl, is)

    neither : (xs ys : List ℕ) → is_among (xs ++ ys) task ≡ false → (is_among xs task ≡ false) × (is_among ys task ≡ false)
    neither xs ys none = both_false (is_among xs task) (is_among ys task) (sym (list_any-append (nat_eq task) xs ys) ∙ none)
