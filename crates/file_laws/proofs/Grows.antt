-- A world in which new names come, at some paths of one area's tree, and all else stays.
use Rattle.std.proofs.Common.{ℕ, ◌≡◌, ◌≢◌, ◌<◌, ◌≤◌, inl, inr, true, false, Some, Ok, refl, sym, ap, ◌∙◌, arith}
use Rattle.std.specs.Prelude.{◌==◌}
use Rattle.std.specs.FinMap as fin
use Rattle.br_path.specs.Path.{Names, parent_of}
use Rattle.br_path.specs.declared.area.Area.{Area}
use Rattle.br_path.proofs.PathOrder.{path_total, path_same}
use Rattle.tree_ops.specs.declared.change.ChangeFault.TheVariants.{Present, TooLong}
use Rattle.tree_ops.specs.declared.entry.Label.{Label}
use Rattle.tree_ops.specs.declared.entry.Contents.{Contents}
use Rattle.tree_ops.specs.declared.entry.Node.{Node}
use Rattle.tree_ops.specs.declared.entry.Node.TheVariants.{Dir, Link, File}
use Rattle.tree_ops.specs.Tree.{Tree, node_at}
use Rattle.tree_ops.specs.Change.{Change, MakeFile, AddName, MakeLink, MakeDir, next_label, named_again, is_own, is_too_long, fault_if, parent_fault}
use Rattle.std.specs.Option.{is_some}
use Rattle.tree_ops.proofs.Faults.{both_none, no_fault}
use Rattle.tree_ops.proofs.Inserts.{get-insert_cases, get-insert_same}
use Rattle.tree_ops.proofs.Orders.{label_total, label_same}
use Rattle.tree_ops.proofs.Outcomes.{after-changed}
use Rattle.tree_worlds.specs.World.{WorldData, acted, tree_in, state_in}
use Rattle.tree_worlds.specs.Kept.{Keeps}
use Rattle.tree_worlds.proofs.Keeping.{IsKept-Keeps}
use Rattle.file_laws.specs.Words.{stands, contents_of, KeepsOthers, IsDrawn}
use Rattle.file_laws.proofs.Made.{is-made}

-- 1. Growth.

-- a label that isn't one of those that the task has yet to draw
abbrev pub IsOld : WorldData → Label → Type 0
IsOld world label = is_own world.pen label ≡ true → label.number < world.pen.next

-- some paths are left as they are, and what is drawn and known stays
pub record Grows (area : Area) (left : Names → Type 0) (old new : WorldData) : Type 0 where
  pub others : (path : Names) → left path → stands new area path ≡ stands old area path
  pub contents : (label : Label) → IsOld old label → contents_of new area label ≡ contents_of old area label
  pub areas : KeepsOthers area old new
  pub shown : new.shown ≡ old.shown
  pub task : new.pen.task ≡ old.pen.task
  pub next : old.pen.next ≤ new.pen.next

pub still-old : (old new : WorldData) (label : Label) → new.pen.task ≡ old.pen.task → old.pen.next ≤ new.pen.next → IsOld old label → IsOld new label
still-old old new label task next is own =
    let less : label.number < old.pen.next = is (ap (λ (t : ℕ). label.task == t) (sym task) ∙ own) in omega arith

pub grows-same : (area : Area) (left : Names → Type 0) (world : WorldData) → Grows area left world world
grows-same area left world =
    record { others = λ path is. refl; contents = λ label is. refl; areas = λ other apart. refl; shown = refl; task = refl; next = omega arith }

pub grows-chain : (area : Area) (left : Names → Type 0) (first mid last : WorldData) → Grows area left first mid → Grows area left mid last → Grows area left first last
grows-chain area left first mid last one two = record {
  others = λ path is. two.others path is ∙ one.others path is;
  contents = λ label is. two.contents label (still-old first mid label one.task one.next is) ∙ one.contents label is;
  areas = λ other apart. two.areas other apart ∙ one.areas other apart;
  shown = two.shown ∙ one.shown;
  task = two.task ∙ one.task;
  next = let a = one.next in let b = two.next in omega arith;
}

pub grows-fewer : (area : Area) (left fewer : Names → Type 0) (old new : WorldData) → ((path : Names) → fewer path → left path) → Grows area left old new → Grows area fewer old new
grows-fewer area left fewer old new are grows = record {
  others = λ path is. grows.others path (are path is);
  contents = grows.contents;
  areas = grows.areas;
  shown = grows.shown;
  task = grows.task;
  next = grows.next;
}

-- a label that was drawn before isn't one that is yet to be drawn
pub drawn-old : (old now : WorldData) (label : Label) → IsDrawn label old now → IsOld now label
drawn-old old now label drawn own = drawn.before

pub drawn-later : (old now new : WorldData) (label : Label) → now.pen.next ≤ new.pen.next → IsDrawn label old now → IsDrawn label old new
drawn-later old now new label next drawn = record { task = drawn.task; after = drawn.after; before = let less = drawn.before in omega arith }

-- 2. One new name.

pub record Adds (area : Area) (at : Names) (node : Node) (old new : WorldData) : Type 0 where
  pub made : stands new area at ≡ Some node
  pub grows : Grows area (λ path. path ≢ at) old new

adds : (area : Area) (at : Names) (node : Node) (change : Change) (old new : WorldData) → acted area change old ≡ Ok new → KeepsOthers area old new
    → (tree_in new.trees area).names ≡ fin.insert (tree_in old.trees area).names at node
    → ((label : Label) → IsOld old label → contents_of new area label ≡ contents_of old area label) → Adds area at node old new
adds area at node change old new is areas names labels =
    let keeps : Keeps old new = IsKept-Keeps.act area change old new is in
    let was = (tree_in old.trees area).names in
    record {
      made = ap (λ n. fin.get n at) names ∙ get-insert_same path_total was at node;
      grows = record {
        others = λ path apart. ap (λ n. fin.get n path) names
            ∙ elim (get-insert_cases path_total path_same was at node path) [ inl found ↦ absurd (apart found.0) | inr same ↦ same ];
        contents = labels;
        areas = areas;
        shown = keeps.shown;
        task = keeps.task;
        next = keeps.next;
      };
    }

pub adds-folder : (area : Area) (at : Names) (mode : ℕ) (old new : WorldData) → acted area (MakeDir at mode) old ≡ Ok new → Adds area at (Dir mode) old new
adds-folder area at mode old new is =
    let made = is-made area (MakeDir at mode) old new is in
    adds area at (Dir mode) (MakeDir at mode) old new is made.areas (ap (λ (t : Tree). t.names) made.tree) (λ label is. ap (λ (t : Tree). fin.get t.labels label) made.tree)

pub adds-link : (area : Area) (at : Names) (text : _) (old new : WorldData) → acted area (MakeLink at text) old ≡ Ok new → Adds area at (Link text) old new
adds-link area at text old new is =
    let made = is-made area (MakeLink at text) old new is in
    adds area at (Link text) (MakeLink at text) old new is made.areas (ap (λ (t : Tree). t.names) made.tree) (λ label is. ap (λ (t : Tree). fin.get t.labels label) made.tree)

pub adds-name : (area : Area) (first at : Names) (label : Label) (old new : WorldData) → stands old area first ≡ Some (File label) → acted area (AddName first at) old ≡ Ok new → Adds area at (File label) old new
adds-name area first at label old new there is =
    let made = is-made area (AddName first at) old new is in
    let was = tree_in old.trees area in
    let tree : tree_in new.trees area ≡ record was { names = fin.insert was.names at (File label) } = made.tree ∙ ap (named_again was at) there in
    adds area at (File label) (AddName first at) old new is made.areas (ap (λ (t : Tree). t.names) tree) (λ label is. ap (λ (t : Tree). fin.get t.labels label) tree)

-- a new file has the next label, with what it was made with
pub record AddsFile (area : Area) (at : Names) (mode : ℕ) (bytes : _) (old new : WorldData) : Type 0 where
  pub adds : Adds area at (File (next_label old.pen)) old new
  pub contents : contents_of new area (next_label old.pen) ≡ Some (record { mode = mode; bytes = bytes })
  pub drawn : IsDrawn (next_label old.pen) old new

not-next : (world : WorldData) (label : Label) → IsOld world label → label ≢ next_label world.pen
not-next world label is same =
    let task : label.task ≡ world.pen.task = ap (λ (l : Label). l.task) same in
    let number : label.number ≡ world.pen.next = ap (λ (l : Label). l.number) same in
    let less : label.number < world.pen.next = is (own label.task world.pen.task task) in
    omega arith
  where
    own : (a b : ℕ) → a ≡ b → (a == b) ≡ true
    own a b is = grind arith

pub adds-file : (area : Area) (at : Names) (mode : ℕ) (bytes : _) (old new : WorldData) → acted area (MakeFile at mode bytes) old ≡ Ok new → AddsFile area at mode bytes old new
adds-file area at mode bytes old new is =
    let made = is-made area (MakeFile at mode bytes) old new is in
    let was = tree_in old.trees area in
    let next = next_label old.pen in
    let contents : Contents = record { mode = mode; bytes = bytes } in
    let number = ap (λ (p : _). p.next) made.pen in
    record {
      adds = adds area at (File next) (MakeFile at mode bytes) old new is made.areas (ap (λ (t : Tree). t.names) made.tree) (λ label old_one. ap (λ (t : Tree). fin.get t.labels label) made.tree
          ∙ elim (get-insert_cases label_total label_same was.labels next contents label) [ inl found ↦ absurd (not-next old label old_one found.0) | inr same ↦ same ]);
      contents = ap (λ (t : Tree). fin.get t.labels next) made.tree ∙ get-insert_same label_total was.labels next contents;
      drawn = record { task = refl; after = omega arith; before = omega arith };
    }

-- 3. The text of a new folder's path.

pub folder-short : (area : Area) (at : Names) (mode : ℕ) (old new : WorldData) → acted area (MakeDir at mode) old ≡ Ok new → is_too_long at ≡ false
folder-short area at mode old new is =
    let made = is-made area (MakeDir at mode) old new is in
    let was = tree_in old.trees area in
    let none = (after-changed (MakeDir at mode) (state_in old area) made.done.0 made.done.1).0 in
    no_fault (is_too_long at) TooLong (both_none (fault_if (is_some (node_at was at)) Present) (fault_if (is_too_long at) TooLong) (both_none (parent_fault was (parent_of at)) _ none).1).1
