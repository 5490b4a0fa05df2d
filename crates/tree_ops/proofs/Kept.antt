-- Changes keep trees.
use Rattle.std.proofs.Common.{ℕ, ◌+◌, ◌<◌, ◌≤◌, ◌≡◌, inl, inr, Bool, true, false, not, ◌==◌, cond, ◌||◌, List, [], length, Option, Some, None, Result, Ok, Err, refl, sym, ap, subst, ◌∙◌, arith}
use Rattle.std.specs.Prelude.{◌&&◌, nat_lt}
use Rattle.std.specs.FinMap as fin
use Rattle.std.specs.FinMap.{FinMap}
use Rattle.std.specs.Option.{option_or, is_some, is_none, unwrap_or}
use Rattle.std.proofs.lemmas.Bool.{true≢false}
use Rattle.std.proofs.lemmas.Bool.Decides.{nat_tests}
use Rattle.std.proofs.lemmas.Option.{same_Some}
use Rattle.br_path.specs.Path.{Names, IsPath, path_cmp, parent_of, rooted_text}
use Rattle.br_path.proofs.PathOrder.{path_total, path_same}
use Rattle.tree_ops.specs.declared.change.ChangeFault.{ChangeFault}
use Rattle.tree_ops.specs.declared.change.ChangeFault.TheVariants.{Present, Absent, Outside, Loop, TooLong, Memory}
use Rattle.tree_ops.specs.declared.entry.Label.{Label}
use Rattle.tree_ops.specs.declared.entry.Contents.{Contents}
use Rattle.tree_ops.specs.declared.entry.Node.{Node}
use Rattle.tree_ops.specs.declared.entry.Node.TheVariants.{Dir, Link, File}
use Rattle.tree_ops.specs.declared.pen.Pen.{Pen}
use Rattle.tree_ops.specs.Pen.{Counts, counts_of}
use Rattle.tree_ops.specs.Tree.{Tree, IsTree, IsLinkText, label_cmp, node_at, is_used, over}
use Rattle.tree_ops.specs.Change.{Change, MakeFile, Write, Append, SetMode, AddName, MakeLink, MakeDir, Remove, Rename, Populate, State, changed, after, fault_of, tree_after, drawn, new_name_fault, parent_fault, fault_if, file_fault, remove_fault, replace_fault, rename_fault, is_path, is_below, is_at_or_below, is_too_long, grows_too_long, moved_path, moved, renamed, seen, IsChange, is_own, next_label, with_contents, written, with_bytes, with_more, with_mode, mode_set, named_again, relabelled, contents_at, no_contents, label_of, dropped_unused, is_foreign, count_if}
use Rattle.tree_ops.specs.Held.{IsHeld, IsForeign, IsAsked, IsReached}
use Rattle.tree_ops.proofs.Orders.{label_total, label_same}
use Rattle.tree_ops.proofs.Inserts.{get-insert_cases, get-insert_same}
use Rattle.tree_ops.proofs.Finds.{get-removed, get-none}
use Rattle.tree_ops.proofs.Outcomes.{after-changed}
use Rattle.tree_ops.proofs.Faults.{both_none, no_fault, not_path, folder-no_fault, nothing, something, bare-remove, bare-replace}
use Rattle.tree_ops.proofs.Sound.{IsSound, sound-of, of-sound, is_there}
use Rattle.tree_ops.proofs.Growing.{sound-grown, sound-with_dir, sound-in_place, sound-given_way}
use Rattle.tree_ops.proofs.Moving.{IsMove, sound-without, sound-moved}
use Rattle.tree_ops.proofs.Laying.{sound-over, came-label}

-- 1. New names.

record IsNew (tree : Tree) (at : Names) : Type 0 where
  pub nothing : node_at tree at ≡ None
  pub parent : parent_fault tree (parent_of at) ≡ None

new-no_fault : (tree : Tree) (at : Names) → new_name_fault tree at ≡ None → IsNew tree at
new-no_fault tree at none =
    let first = both_none (parent_fault tree (parent_of at)) _ none in
    let second = both_none (fault_if (is_some (node_at tree at)) Present) (fault_if (is_too_long at) TooLong) first.1 in
    record { nothing = nothing (node_at tree at) (no_fault _ _ second.0); parent = first.0 }

-- a new name that is a folder or link, or one more of a file that stands
sound-named : (tree : Tree) → IsSound tree → (at : Names) (node : Node) → new_name_fault tree at ≡ None → IsPath at → ((mode : ℕ) → node ≡ Dir mode → mode ≤ 4095) → ((text : List ℕ) → node ≡ Link text → IsLinkText text)
    → ((label : Label) → node ≡ File label → (contents : Contents) × (fin.get tree.labels label ≡ Some contents)) → IsSound (record tree { names = fin.insert tree.names at node })
sound-named tree sound at node none legal dirs links stands =
    let free = new-no_fault tree at none in
    sound-grown tree at node tree.labels sound (record {
      nothing = free.nothing;
      folder = folder-no_fault tree at free.parent;
      legal = legal;
      dirs = dirs;
      links = links;
      stands = stands;
      keeps = λ label contents there. (contents, there);
      named = λ label contents there. inr (contents, there);
      files = sound.files;
    })

-- a new file
sound-file : (tree : Tree) → IsSound tree → (at : Names) (label : Label) (contents : Contents) → new_name_fault tree at ≡ None → IsPath at → contents.mode ≤ 4095
    → IsSound (record { names = fin.insert tree.names at (File label); labels = fin.insert tree.labels label contents })
sound-file tree sound at label contents none legal few =
    let free = new-no_fault tree at none in
    let labels = fin.insert tree.labels label contents in
    let own = get-insert_same label_total tree.labels label contents in
    sound-grown tree at (File label) labels sound (record {
      nothing = free.nothing;
      folder = folder-no_fault tree at free.parent;
      legal = legal;
      dirs = λ mode is. cc;
      links = λ text is. cc;
      stands = λ l is. let same : label ≡ l = inner label l is in (contents, ap (fin.get labels) (sym same) ∙ own);
      keeps = λ l c there. elim (get-insert_cases label_total label_same tree.labels label contents l) [ inl found ↦ (contents, found.1) | inr same ↦ (c, same ∙ there) ];
      named = λ l c there. elim (get-insert_cases label_total label_same tree.labels label contents l) [ inl found ↦ inl (ap File (sym found.0)) | inr same ↦ inr (c, sym same ∙ there) ];
      files = λ l c there. elim (get-insert_cases label_total label_same tree.labels label contents l) [ inl found ↦ subst (λ (c : Contents). c.mode ≤ 4095) (same_Some contents c (sym found.1 ∙ there)) few | inr same ↦ sound.files l c (sym same ∙ there) ];
    })
  where
    inner : (a b : Label) → File a ≡ File b → a ≡ b
    inner a b is = cc

-- 2. Other contents.

file_there : (node : Option Node) → file_fault node ≡ None → (label : Label) × (node ≡ Some (File label))
file_there None none = cc
file_there (Some (Dir mode)) none = cc
file_there (Some (Link text)) none = cc
file_there (Some (File label)) none = (label, refl)

next_is_own : (pen : Counts) → is_own pen (next_label pen) ≡ true
next_is_own pen = grind (arith, nat_tests)

-- with_contents by the test whether the label is the task's own
abbrev by_owner : State → Label → Contents → Bool → Tree
by_owner old label contents b = cond b (record old.0 { labels = fin.insert old.0.labels label contents })
    (record { names = relabelled label (next_label old.1) old.0.names; labels = fin.remove (fin.insert old.0.labels (next_label old.1) contents) label })

sound-contents : (old : State) → IsSound old.0 → (at : Names) (label : Label) (contents : Contents) → node_at old.0 at ≡ Some (File label) → contents.mode ≤ 4095 → IsSound (with_contents old label contents)
sound-contents old sound at label contents there few = by (is_own old.1 label) refl
  where
    by : (b : Bool) → is_own old.1 label ≡ b → IsSound (with_contents old label contents)
    by true own = subst IsSound (sym (ap (by_owner old label contents) own)) (sound-in_place old.0 sound at label contents there few)
    by false other = subst IsSound (sym (ap (by_owner old label contents) other))
        (sound-given_way old.0 sound at label (next_label old.1) contents there few (λ same. true≢false (sym (next_is_own old.1) ∙ ap (is_own old.1) same ∙ other)))

mode_there : (tree : Tree) → IsSound tree → (at : Names) (label : Label) → node_at tree at ≡ Some (File label) → (contents_at tree label).mode ≤ 4095
mode_there tree sound at label there =
    let c = sound.stands at label there in
    subst (λ (c : Contents). c.mode ≤ 4095) (sym (ap (λ o. unwrap_or o no_contents) c.1)) (sound.files label c.0 c.1)

sound-written : (old : State) → IsSound old.0 → (at : Names) (f : Contents → Contents) → ((c : Contents) → c.mode ≤ 4095 → (f c).mode ≤ 4095) → (node : Option Node) → node_at old.0 at ≡ node → IsSound (written old f node)
sound-written old sound at f few None there = sound
sound-written old sound at f few (Some (Dir mode)) there = sound
sound-written old sound at f few (Some (Link text)) there = sound
sound-written old sound at f few (Some (File label)) there = sound-contents old sound at label (f (contents_at old.0 label)) there (few (contents_at old.0 label) (mode_there old.0 sound at label there))

sound-mode_set : (old : State) → IsSound old.0 → (at : Names) (mode : ℕ) → mode ≤ 4095 → (node : Option Node) → node_at old.0 at ≡ node → IsSound (mode_set old at mode node)
sound-mode_set old sound at mode few None there = sound
sound-mode_set old sound at mode few (Some (Dir was)) there = sound-with_dir old.0 sound at was mode there few
sound-mode_set old sound at mode few (Some (Link text)) there = sound
sound-mode_set old sound at mode few (Some (File label)) there = sound-contents old sound at label (with_mode mode (contents_at old.0 label)) there few

-- 3. Moves.

sound-removed : (tree : Tree) → IsSound tree → (at : Names) → option_or (fault_if (is_path at []) Outside) (remove_fault tree at (node_at tree at)) ≡ None
    → IsSound (record { names = fin.remove tree.names at; labels = dropped_unused (fin.remove tree.names at) (label_of (node_at tree at)) tree.labels })
sound-removed tree sound at none =
    let parts = both_none (fault_if (is_path at []) Outside) (remove_fault tree at (node_at tree at)) none in
    sound-without tree sound at (not_path at [] (no_fault _ _ parts.0)) (bare-remove tree sound at (node_at tree at) refl parts.1)

either : (a b : Bool) → (a || b) ≡ false → (a ≡ false) × (b ≡ false)
either true b is = absurd (true≢false is)
either false b is = (refl, is)

both_false : (a b : Bool) → a ≡ false → b ≡ false → (a || b) ≡ false
both_false a b first second = ap (λ a. a || b) first ∙ second

no_longer : (n : ℕ) → nat_lt 1024 n ≡ false → n ≤ 1024
no_longer n is = grind (arith, nat_tests)

second_false : (a b : Bool) → (a && b) ≡ false → a ≡ true → b ≡ false
second_false a b none first = sym (ap (λ a. a && b) first) ∙ none

abbrev elsewhere_fault : Tree → Names → Names → Option ChangeFault
elsewhere_fault tree old at = option_or (fault_if (is_below old at) Loop) (option_or (parent_fault tree (parent_of at)) (option_or (replace_fault tree at (node_at tree at) (node_at tree old)) (fault_if (grows_too_long tree old at) TooLong)))

-- what a move's faults come to
pub move-renamed : (tree : Tree) → IsSound tree → (old at : Names) → rename_fault tree old at ≡ None → is_path old at ≡ false → IsMove tree old at
move-renamed tree sound old at none other =
    let first = both_none (fault_if (is_path old [] || is_path at []) Outside) _ none in
    let roots = either (is_path old []) (is_path at []) (no_fault _ _ first.0) in
    let second = both_none (fault_if (is_none (node_at tree old)) Absent) _ first.1 in
    let there = something (node_at tree old) (no_fault _ _ second.0) in
    let loop = both_none (fault_if (is_below old at) Loop) _ (sym (ap (λ b. cond b None (elsewhere_fault tree old at)) other) ∙ second.1) in
    let parent = both_none (parent_fault tree (parent_of at)) _ loop.1 in
    let replaced = both_none (replace_fault tree at (node_at tree at) (node_at tree old)) (fault_if (grows_too_long tree old at) TooLong) parent.1 in
    let grows = no_fault (grows_too_long tree old at) TooLong replaced.1 in
    record {
      not_root = not_path old [] roots.0;
      not_to_root = not_path at [] roots.1;
      outside = both_false (is_path old at) (is_below old at) other (no_fault (is_below old at) Loop loop.0);
      folder = folder-no_fault tree at parent.0;
      bare = bare-replace tree sound at (node_at tree at) there.0 refl (ap (replace_fault tree at (node_at tree at)) (sym there.1) ∙ replaced.0);
      short = λ p node stands below. no_longer (length (rooted_text (moved_path old at p)))
          (second_false (is_at_or_below old p) (is_too_long (moved_path old at p)) (get-none path_total path_same (λ entry. is_at_or_below old entry.0 && is_too_long (moved_path old at entry.0)) tree.names p node grows stands) below);
    }

sound-renamed : (tree : Tree) → IsSound tree → (old at : Names) → IsPath at → rename_fault tree old at ≡ None → IsSound (renamed tree old at)
sound-renamed tree sound old at legal none = by (is_path old at) refl
  where
    by : (b : Bool) → is_path old at ≡ b → IsSound (cond b tree (record { names = moved tree.names old at; labels = dropped_unused (moved tree.names old at) (label_of (node_at tree at)) tree.labels }))
    by true same = sound
    by false other = sound-moved tree old at sound (move-renamed tree sound old at none other) legal

-- 4. Every change.

sound-after : (change : Change) (old : State) → IsAsked change old.1 → IsSound old.0 → fault_of change old.0 ≡ None → IsSound (tree_after change old)
sound-after (MakeFile at mode bytes) old asked sound none = sound-file old.0 sound at (next_label old.1) (record { mode = mode; bytes = bytes }) none asked.0 asked.1
sound-after (Write at bytes) old asked sound none = sound-written old sound at (with_bytes bytes) (λ c few. few) (node_at old.0 at) refl
sound-after (Append at bytes) old asked sound none = sound-written old sound at (with_more bytes) (λ c few. few) (node_at old.0 at) refl
sound-after (SetMode at mode) old asked sound none = sound-mode_set old sound at mode asked (node_at old.0 at) refl
sound-after (AddName first at) old asked sound none =
    let parts = both_none (file_fault (node_at old.0 first)) (new_name_fault old.0 at) none in
    let file = file_there (node_at old.0 first) parts.0 in
    subst IsSound (ap (named_again old.0 at) (sym file.1))
    (sound-named old.0 sound at (File file.0) parts.1 asked (λ mode is. cc) (λ text is. cc) (λ label is. sound.stands first label (file.1 ∙ ap Some is)))
sound-after (MakeLink at text) old asked sound none =
    sound-named old.0 sound at (Link text) none asked.0 (λ mode is. cc) (λ own is. let same : text ≡ own = inner text own is in subst IsLinkText same asked.1) (λ label is. let no : Link text ≡ File label = is in cc)
  where
    inner : (a b : List ℕ) → Link a ≡ Link b → a ≡ b
    inner a b is = cc
sound-after (MakeDir at mode) old asked sound none =
    sound-named old.0 sound at (Dir mode) none asked.0 (λ own is. let same : mode ≡ own = inner mode own is in let few = asked.1 in omega arith) (λ text is. cc) (λ label is. let no : Dir mode ≡ File label = is in cc)
  where
    inner : (a b : ℕ) → Dir a ≡ Dir b → a ≡ b
    inner a b is = cc
sound-after (Remove at) old asked sound none = sound-removed old.0 sound at none
sound-after (Rename first at) old asked sound none = sound-renamed old.0 sound first at asked none
sound-after (Populate from) old asked sound none = sound-over old.0 from sound (sound-of from asked.0)

-- the law: a change that isn't refused leaves a tree
pub IsTree-changed : (change : Change) (old new : State) → IsAsked change old.1 → IsTree old.0 → changed change old ≡ Ok new → IsTree new.0
IsTree-changed change old new asked tree is =
    let done = after-changed change old new is in
    subst (λ (state : State). IsTree state.0) done.2 (of-sound (tree_after change old) (sound-after change old asked (sound-of old.0 tree) done.0))

-- 5. Labels that are drawn.

abbrev AreDrawn : FinMap label_cmp Contents → Counts → ℕ → Type 0
AreDrawn labels pen next = (label : Label) (contents : Contents) → fin.get labels label ≡ Some contents → is_own pen label ≡ true → label.number < next

drawn-later : (labels : FinMap label_cmp Contents) (pen : Counts) (n m : ℕ) → n ≤ m → AreDrawn labels pen n → AreDrawn labels pen m
drawn-later labels pen n m later all label contents there own = let less = all label contents there own in omega arith

drawn-insert : (pen : Counts) (labels : FinMap label_cmp Contents) (l : Label) (c : Contents) (n : ℕ) → (is_own pen l ≡ true → l.number < n) → AreDrawn labels pen n → AreDrawn (fin.insert labels l c) pen n
drawn-insert pen labels l c n first all label contents there own = elim (get-insert_cases label_total label_same labels l c label) [
  | inl found ↦ let less = first (ap (is_own pen) (sym found.0) ∙ own) in let same : label.number ≡ l.number = ap (λ (l : Label). l.number) found.0 in omega arith
  | inr same ↦ all label contents (sym same ∙ there) own
]

drawn-remove : (pen : Counts) (labels : FinMap label_cmp Contents) (l : Label) (n : ℕ) → AreDrawn labels pen n → AreDrawn (fin.remove labels l) pen n
drawn-remove pen labels l n all label contents there own = all label contents (get-removed label_total label_same labels l label contents there).0 own

abbrev chosen_labels : State → Label → Contents → Bool → FinMap label_cmp Contents
chosen_labels old label contents b = cond b (fin.insert old.0.labels label contents) (fin.remove (fin.insert old.0.labels (next_label old.1) contents) label)

labels-with_contents : (old : State) (label : Label) (contents : Contents) (b : Bool) → is_own old.1 label ≡ b → (with_contents old label contents).labels ≡ chosen_labels old label contents b
labels-with_contents old label contents true own = ap (λ b. (by_owner old label contents b).labels) own
labels-with_contents old label contents false other = ap (λ b. (by_owner old label contents b).labels) other

drawn-contents : (old : State) (label : Label) (contents was : Contents) → fin.get old.0.labels label ≡ Some was → AreDrawn old.0.labels old.1 old.1.next
    → AreDrawn (with_contents old label contents).labels old.1 (old.1.next + count_if (not (is_own old.1 label)) 1)
drawn-contents old label contents was there all = by (is_own old.1 label) refl
  where
    by : (b : Bool) → is_own old.1 label ≡ b → AreDrawn (with_contents old label contents).labels old.1 (old.1.next + count_if (not (is_own old.1 label)) 1)
    by true own =
        drawn-later (with_contents old label contents).labels old.1 old.1.next (old.1.next + count_if (not (is_own old.1 label)) 1) (omega arith)
        (subst (λ labels. AreDrawn labels old.1 old.1.next) (sym (labels-with_contents old label contents true own)) (drawn-insert old.1 old.0.labels label contents old.1.next (λ mine. all label was there mine) all))
    by false other =
        let one : old.1.next + count_if (not (is_own old.1 label)) 1 ≡ old.1.next + 1 = ap (λ b. old.1.next + count_if (not b) 1) other in
        subst (λ labels. AreDrawn labels old.1 (old.1.next + count_if (not (is_own old.1 label)) 1)) (sym (labels-with_contents old label contents false other))
        (drawn-remove old.1 (fin.insert old.0.labels (next_label old.1) contents) label (old.1.next + count_if (not (is_own old.1 label)) 1)
        (drawn-insert old.1 old.0.labels (next_label old.1) contents (old.1.next + count_if (not (is_own old.1 label)) 1) (λ mine. omega arith)
        (drawn-later old.0.labels old.1 old.1.next (old.1.next + count_if (not (is_own old.1 label)) 1) (omega arith) all)))

drawn-written : (old : State) → IsSound old.0 → (at : Names) (f : Contents → Contents) (node : Option Node) → node_at old.0 at ≡ node → AreDrawn old.0.labels old.1 old.1.next
    → AreDrawn (written old f node).labels old.1 (old.1.next + count_if (is_foreign old.1 node) 1)
drawn-written old sound at f None there all = drawn-later old.0.labels old.1 old.1.next (old.1.next + 0) (omega arith) all
drawn-written old sound at f (Some (Dir mode)) there all = drawn-later old.0.labels old.1 old.1.next (old.1.next + 0) (omega arith) all
drawn-written old sound at f (Some (Link text)) there all = drawn-later old.0.labels old.1 old.1.next (old.1.next + 0) (omega arith) all
drawn-written old sound at f (Some (File label)) there all =
    let c = sound.stands at label there in drawn-contents old label (f (contents_at old.0 label)) c.0 c.1 all

drawn-mode_set : (old : State) → IsSound old.0 → (at : Names) (mode : ℕ) (node : Option Node) → node_at old.0 at ≡ node → AreDrawn old.0.labels old.1 old.1.next
    → AreDrawn (mode_set old at mode node).labels old.1 (old.1.next + count_if (is_foreign old.1 node) 1)
drawn-mode_set old sound at mode None there all = drawn-written old sound at (with_mode mode) None there all
drawn-mode_set old sound at mode (Some (Dir was)) there all = drawn-later old.0.labels old.1 old.1.next (old.1.next + 0) (omega arith) all
drawn-mode_set old sound at mode (Some (Link text)) there all = drawn-written old sound at (with_mode mode) (Some (Link text)) there all
drawn-mode_set old sound at mode (Some (File label)) there all = drawn-written old sound at (with_mode mode) (Some (File label)) there all

drawn-named_again : (old : State) (at : Names) (node : Option Node) → AreDrawn old.0.labels old.1 old.1.next → AreDrawn (named_again old.0 at node).labels old.1 (old.1.next + 0)
drawn-named_again old at None all = drawn-later old.0.labels old.1 old.1.next (old.1.next + 0) (omega arith) all
drawn-named_again old at (Some node) all = drawn-later old.0.labels old.1 old.1.next (old.1.next + 0) (omega arith) all

drawn-dropped : (old : State) (names : FinMap path_cmp Node) (gone : Option Label) → AreDrawn old.0.labels old.1 old.1.next → AreDrawn (dropped_unused names gone old.0.labels) old.1 old.1.next
drawn-dropped old names None all = all
drawn-dropped old names (Some label) all = by (is_used names label)
  where
    by : (b : Bool) → AreDrawn (cond b old.0.labels (fin.remove old.0.labels label)) old.1 old.1.next
    by true = all
    by false = drawn-remove old.1 old.0.labels label old.1.next all

drawn-renamed : (old : State) (first at : Names) → AreDrawn old.0.labels old.1 old.1.next → AreDrawn (renamed old.0 first at).labels old.1 old.1.next
drawn-renamed old first at all = by (is_path first at)
  where
    by : (b : Bool) → AreDrawn (cond {A = Tree} b old.0 (record { names = moved old.0.names first at; labels = dropped_unused (moved old.0.names first at) (label_of (node_at old.0 at)) old.0.labels })).labels old.1 old.1.next
    by true = all
    by false = drawn-dropped old (moved old.0.names first at) (label_of (node_at old.0 at)) all

drawn-over : (old : State) (from : Tree) → IsTree from → IsForeign from old.1 → IsSound old.0 → AreDrawn old.0.labels old.1 old.1.next → AreDrawn (over old.0 from).labels old.1 (old.1.next + 0)
drawn-over old from tree foreign sound all label contents there own =
    elim (came-label old.0 from sound (sound-of from tree) label contents there).1 [
      | inl above ↦ absurd (true≢false (sym own ∙ foreign label (ap is_some above)))
      | inr below ↦ let less = all label contents below own in omega arith
    ]

drawn-after : (change : Change) (old : State) → IsAsked change old.1 → IsSound old.0 → AreDrawn old.0.labels old.1 old.1.next → AreDrawn (tree_after change old).labels old.1 (old.1.next + drawn change old)
drawn-after (MakeFile at mode bytes) old asked sound all =
    drawn-insert old.1 old.0.labels (next_label old.1) (record { mode = mode; bytes = bytes }) (old.1.next + 1) (λ mine. omega arith) (drawn-later old.0.labels old.1 old.1.next (old.1.next + 1) (omega arith) all)
drawn-after (Write at bytes) old asked sound all = drawn-written old sound at (with_bytes bytes) (node_at old.0 at) refl all
drawn-after (Append at bytes) old asked sound all = drawn-written old sound at (with_more bytes) (node_at old.0 at) refl all
drawn-after (SetMode at mode) old asked sound all = drawn-mode_set old sound at mode (node_at old.0 at) refl all
drawn-after (AddName first at) old asked sound all = drawn-named_again old at (node_at old.0 first) all
drawn-after (MakeLink at text) old asked sound all = drawn-later old.0.labels old.1 old.1.next (old.1.next + 0) (omega arith) all
drawn-after (MakeDir at mode) old asked sound all = drawn-later old.0.labels old.1 old.1.next (old.1.next + 0) (omega arith) all
drawn-after (Remove at) old asked sound all =
    drawn-later (tree_after (Remove at) old).labels old.1 old.1.next (old.1.next + 0) (omega arith) (drawn-dropped old (fin.remove old.0.names at) (label_of (node_at old.0 at)) all)
drawn-after (Rename first at) old asked sound all =
    drawn-later (tree_after (Rename first at) old).labels old.1 old.1.next (old.1.next + 0) (omega arith) (drawn-renamed old first at all)
drawn-after (Populate from) old asked sound all = drawn-over old from asked.0 asked.1 sound all

abbrev IsFresh : State → Type 0
IsFresh state = (label : Label) → fin.contains_key state.0.labels label ≡ true → is_own state.1 label ≡ true → label.number < state.1.next

fresh-after : (change : Change) (old : State) → IsAsked change old.1 → IsTree old.0 → IsFresh old → IsFresh (after change old)
fresh-after change old asked tree fresh label there own =
    let contents = is_there (fin.get (tree_after change old).labels label) there in
    drawn-after change old asked (sound-of old.0 tree) (λ l c is mine. fresh l (ap is_some is) mine) label contents.0 contents.1 own

-- 6. What is held stays held, and what is reached leads on.

own_same : (old new : State) (sealed : Label → Bool) → new.1.task ≡ old.1.task → ((label : Label) → sealed label ≡ not (is_own old.1 label)) → (label : Label) → sealed label ≡ not (is_own new.1 label)
own_same old new sealed same own label = own label ∙ ap (λ task. not (label.task == task)) (sym same)

IsHeld-refused : (old new : State) (was sealed : Label → Bool) → IsHeld old.0 was old.1 → new ≡ old → ((label : Label) → sealed label ≡ not (is_own old.1 label)) → IsHeld new.0 sealed new.1
IsHeld-refused old new was sealed held same own = record {
  sound = subst (λ (state : State). IsTree state.0) (sym same) held.sound;
  own = λ label there. own_same old new sealed (ap (λ (state : State). state.1.task) same) own label;
  fresh = subst IsFresh (sym same) held.fresh;
}

IsHeld-changed : (change : Change) (old new : State) (was sealed : Label → Bool) → IsAsked change old.1 → IsHeld old.0 was old.1 → changed change old ≡ Ok new → ((label : Label) → sealed label ≡ not (is_own old.1 label)) → IsHeld new.0 sealed new.1
IsHeld-changed change old new was sealed asked held is own =
    let done = after-changed change old new is in
    record {
      sound = IsTree-changed change old new asked held.sound is;
      own = λ label there. own_same old new sealed (sym (ap (λ (state : State). state.1.task) done.2)) own label;
      fresh = subst IsFresh done.2 (fresh-after change old asked held.sound held.fresh);
    }

-- the law: whatever a call answers, what was held is held, where the labels that aren't sealed are the task's own
pub IsHeld-IsChange : (copying : ℕ → ℕ → ℕ) (change : Change) (old new : Tree × Pen) (was sealed : Label → Bool) (result : Result (Unit {0}) ChangeFault) → IsAsked change (counts_of old.1) → IsHeld old.0 was (counts_of old.1)
    → ((label : Label) → sealed label ≡ not (is_own (counts_of old.1) label)) → IsChange copying change old result new → IsHeld new.0 sealed (counts_of new.1)
IsHeld-IsChange copying change old new was sealed (Ok done) asked held own is = IsHeld-changed change (seen old) (seen new) was sealed asked held is.0 own
IsHeld-IsChange copying change old new was sealed (Err Memory) asked held own is = IsHeld-refused (seen old) (seen new) was sealed held (ap seen is) own
IsHeld-IsChange copying change old new was sealed (Err fault) asked held own is = IsHeld-refused (seen old) (seen new) was sealed held (ap seen is.1) own

IsReached-after : (change : Change) (old : State) → IsAsked change old.1 → IsReached old → fault_of change old.0 ≡ None → IsReached (after change old)
IsReached-after change old asked reached none = record {
  tree = of-sound (tree_after change old) (sound-after change old asked (sound-of old.0 reached.tree) none);
  fresh = fresh-after change old asked reached.tree reached.fresh;
  names = let few = reached.names in omega arith;
  path_bytes = let few = reached.path_bytes in omega arith;
}

-- the law: each change leads from a state that is reached to one
pub IsReached-changed : (change : Change) (old new : State) → IsAsked change old.1 → IsReached old → changed change old ≡ Ok new → IsReached new
IsReached-changed change old new asked reached is =
    let done = after-changed change old new is in
    subst IsReached done.2 (IsReached-after change old asked reached done.0)
