-- touch and mkdir keep all nodes; chmod keeps all names.
use Rattle.std.proofs.Common.{ℕ, zero, suc, ◌≡◌, inl, inr, Bool, true, false, cond, List, [], ◌∷◌, ◌++◌, Option, Some, None, Result, Ok, Err, refl, sym, ap, subst, ◌∙◌}
use Rattle.std.specs.FinMap as fin
use Rattle.std.specs.List.{list_all}
use Rattle.std.specs.Option.{is_some, option_map}
use Rattle.br_path.specs.Path.{Names, parent_of}
use Rattle.br_path.specs.Files.{FileMap}
use Rattle.br_path.specs.declared.area.Area.{Area}
use Rattle.br_path.proofs.PathOrder.{path_total, path_same}
use Rattle.tree_ops.specs.declared.change.ChangeFault.TheVariants.{Present, TooLong}
use Rattle.tree_ops.specs.declared.entry.Label.{Label}
use Rattle.tree_ops.specs.declared.entry.Contents.{Contents}
use Rattle.tree_ops.specs.declared.entry.Node.{Node}
use Rattle.tree_ops.specs.declared.entry.Node.TheVariants.{Dir, Link, File}
use Rattle.tree_ops.specs.Tree.{Tree, node_at}
use Rattle.tree_ops.specs.Change.{Change, MakeFile, Write, Append, SetMode, AddName, MakeLink, MakeDir, Remove, Rename, Populate, State, changed, fault_of, tree_after, new_name_fault, parent_fault, file_fault, fault_if, is_too_long, next_label, is_own, with_contents, contents_at, with_mode, mode_set, relabelled, relabelled_node, named_again}
use Rattle.tree_ops.proofs.Inserts.{get-insert_cases}
use Rattle.tree_ops.proofs.Growing.{get-relabelled}
use Rattle.tree_ops.proofs.Outcomes.{after-changed}
use Rattle.tree_ops.proofs.Faults.{both_none, no_fault, nothing}
use Rattle.tree_worlds.specs.World.{WorldData, state_in}
use Rattle.tree_worlds.specs.Program.{run}
use Rattle.tree_worlds.specs.Kept.{left_by}
use Rattle.tree_worlds.specs.declared.operand.Operand.{Operand}
use Rattle.tree_worlds.specs.declared.operand.Operand.TheVariants.{Input, Place, Readable}
use Rattle.tree_worlds.specs.declared.reason.Reason.{Reason}
use Rattle.sh_places.specs.declared.spot.Site.{Site}
use Rattle.sh_places.specs.declared.spot.Site.TheVariants.{Tree as in_tree, Readable as in_readable}
use Rattle.sh_places.specs.declared.spot.Spot.{Spot}
use Rattle.sh_places.specs.declared.kind.Kind.{Kind}
use Rattle.sh_places.specs.declared.kind.Kind.TheVariants as kinds
use Rattle.sh_places.specs.Looks.{kind_at, input_kind, mode_at, names_at}
use Rattle.sh_places.specs.Finding.{spot, spot_of, found, walked}
use Rattle.sh_places.specs.Parts.{each}
use Rattle.tree_ops.specs.Walk.{components}
use Rattle.tree_worlds.specs.Operand.{operand_of}
use Rattle.sh_files.specs.Touching.{touch, touch_kind, touch_at, touch_word}
use Rattle.sh_files.specs.Removing.{forgiven}
use Rattle.sh_files.specs.Room.{make_file}
use Rattle.sh_files.specs.Modes.{mode_or, mode_change, changed_mode}
use Rattle.sh_files.specs.Folders.{is_empty, is_there, is_dots, folder_at, ensure_folder, ensure_folders, input_folder, make_path, make_folder, make_folders, make_one, make_all, mkdir}
use Rattle.sh_files.specs.ChangingModes.{set_mode, change_kind, change_at, change_below, depth_of, change_word, change_words, chmod}
use Rattle.sh_files.specs.declared.mode.ModeChange.{ModeChange}
use Rattle.file_laws.specs.Words.{KeepsAll, KeepsNames}
use Rattle.file_laws.proofs.Areas.{in-areas_acted}
use Rattle.file_laws.proofs.Makes.{Makes, IsKeptBy, kept-Makes, Makes-attempt, Makes-choose, Makes-each, Makes-act_in}

-- 1. Changes that make a new name keep all nodes.

abbrev pub IsNewName : Change → Type 0
IsNewName (MakeFile at mode bytes) = Unit {0}
IsNewName (Write at bytes) = ⊥
IsNewName (Append at bytes) = ⊥
IsNewName (SetMode at mode) = ⊥
IsNewName (AddName old at) = Unit {0}
IsNewName (MakeLink at text) = Unit {0}
IsNewName (MakeDir at mode) = Unit {0}
IsNewName (Remove at) = ⊥
IsNewName (Rename old at) = ⊥
IsNewName (Populate from) = ⊥

abbrev pub NewName : Area → Change → Type 0
NewName area change = IsNewName change

abbrev pub KeepsNodes : Tree → Tree → Type 0
KeepsNodes old new = (path : Names) (node : Node) → node_at old path ≡ Some node → node_at new path ≡ Some node

pub free-none : (tree : Tree) (at : Names) → new_name_fault tree at ≡ None → node_at tree at ≡ None
free-none tree at none =
    let second = both_none (fault_if (is_some (node_at tree at)) Present) (fault_if (is_too_long at) TooLong) (both_none (parent_fault tree (parent_of at)) _ none).1 in
    nothing (node_at tree at) (no_fault _ _ second.0)

-- what stood there before a new name
pub kept-insert : (tree : Tree) (at : Names) (made : Node) → node_at tree at ≡ None → (path : Names) (node : Node) → node_at tree path ≡ Some node → fin.get (fin.insert tree.names at made) path ≡ Some node
kept-insert tree at made none path node there = elim (get-insert_cases path_total path_same tree.names at made path) [
  | inl found ↦ let no : None ≡ Some node = sym none ∙ ap (node_at tree) (sym found.0) ∙ there in cc
  | inr same ↦ same ∙ there
]

kept-named_again : (tree : Tree) (at : Names) (made : Option Node) → node_at tree at ≡ None → KeepsNodes tree (named_again tree at made)
kept-named_again tree at None none = λ path node there. there
kept-named_again tree at (Some made) none = kept-insert tree at made none

kept-after : (change : Change) (old : State) → IsNewName change → fault_of change old.0 ≡ None → KeepsNodes old.0 (tree_after change old)
kept-after (MakeFile at mode bytes) old of none = kept-insert old.0 at (File (next_label old.1)) (free-none old.0 at none)
kept-after (Write at bytes) old of none = absurd of
kept-after (Append at bytes) old of none = absurd of
kept-after (SetMode at mode) old of none = absurd of
kept-after (AddName first at) old of none = kept-named_again old.0 at (node_at old.0 first) (free-none old.0 at (both_none (file_fault (node_at old.0 first)) (new_name_fault old.0 at) none).1)
kept-after (MakeLink at text) old of none = kept-insert old.0 at (Link text) (free-none old.0 at none)
kept-after (MakeDir at mode) old of none = kept-insert old.0 at (Dir mode) (free-none old.0 at none)
kept-after (Remove at) old of none = absurd of
kept-after (Rename first at) old of none = absurd of
kept-after (Populate from) old of none = absurd of

kept-changed : (change : Change) (old new : State) → IsNewName change → changed change old ≡ Ok new → KeepsNodes old.0 new.0
kept-changed change old new of is =
    let done = after-changed change old new is in
    subst (λ (state : State). KeepsNodes old.0 state.0) done.2 (kept-after change old of done.0)

pub all-kept : IsKeptBy NewName KeepsAll
all-kept = record {
  same = λ world area path node there. there;
  chain = λ first next last one two area path node there. two area path node (one area path node there);
  act = λ area change old new of is. in-areas_acted KeepsNodes (λ tree path node there. there) area change old new is (λ state made. kept-changed change (state_in old area) state of made);
}

-- 2. touch.

module _ (files : FileMap) (only_there : Bool) where
  touch-kind : (place : Spot) (kind : Option Kind) → Makes NewName (touch_kind only_there place kind)
  touch-kind place None = Makes-choose NewName only_there _ (make_file place 420 []) tt (Makes-act_in NewName place.site (MakeFile place.path 420 []) (λ area is. tt))
  touch-kind place (Some kind) = tt

  touch-at : (world : WorldData) (place : Result Spot Reason) → Makes NewName (touch_at world files only_there place)
  touch-at world (Err reason) = Makes-attempt NewName (forgiven only_there reason)
  touch-at world (Ok place) = touch-kind place (kind_at world files place)

  touch-word : (word : List ℕ) → Makes NewName (touch_word files only_there word)
  touch-word word = ((tt, λ world. Makes-attempt NewName (operand_of world files word)), λ operand. (tt, λ world. touch-at world (spot_of world true operand)))

  pub touch-all : (operands : Names) (old : WorldData) → KeepsAll old (left_by (run (touch files only_there operands) old))
  touch-all operands old =
      kept-Makes NewName KeepsAll all-kept (touch files only_there operands)
      (Makes-choose NewName (is_empty operands) _ (each (touch_word files only_there) operands) tt (Makes-each NewName (touch_word files only_there) touch-word operands)) old

-- 3. mkdir.

module _ (files : FileMap) where
  folder-at : (mode : ℕ) (place : Spot) (kind : Option Kind) (dangling : Bool) → Makes NewName (folder_at mode place kind dangling)
  folder-at mode place None true = tt
  folder-at mode place None false = Makes-act_in NewName place.site (MakeDir place.path mode) (λ area is. tt)
  folder-at mode place (Some (kinds.Dir other)) dangling = tt
  folder-at mode place (Some kinds.Link) dangling = tt
  folder-at mode place (Some (kinds.File label)) dangling = tt

  pub ensured-folder : (site : Site) (mode : ℕ) (walk : List ℕ) → Makes NewName (ensure_folder files site mode walk)
  ensured-folder site mode walk = (tt, λ world. (Makes-attempt NewName (walked world site walk true), λ place. folder-at mode place (kind_at world files place) (is_there world files (walked world site walk false))))

  pub ensured-folders : (site : Site) (mode : ℕ) (front : List ℕ) (names : Names) → Makes NewName (ensure_folders files site mode front names)
  ensured-folders site mode front [] = tt
  ensured-folders site mode front (name ∷ names) =
      (ensured-folder site (cond (list_all is_dots names) mode 493) (front ++ 47 ∷ name), λ _. ensured-folders site mode (front ++ 47 ∷ name) names)

  input-folder : (kind : Option Kind) → Makes NewName (input_folder kind)
  input-folder None = tt
  input-folder (Some (kinds.Dir mode)) = tt
  input-folder (Some kinds.Link) = tt
  input-folder (Some (kinds.File label)) = tt

  made-path : (mode : ℕ) (operand : Operand) → Makes NewName (make_path files mode operand)
  made-path mode (Input path) = input-folder (input_kind files path)
  made-path mode (Place area walk) = ensured-folders (in_tree area) mode [] (components walk)
  made-path mode (Readable task walk) = ensured-folders (in_readable task) mode [] (components walk)

  made-one : (parents : Bool) (mode : ℕ) (word : List ℕ) → Makes NewName (make_one files parents mode word)
  made-one parents mode word = Makes-choose NewName parents (make_folders files mode word) (make_folder files mode word)
      ((tt, λ world. Makes-attempt NewName (operand_of world files word)), λ operand. made-path mode operand)
      ((tt, λ world. Makes-attempt NewName (found world files word false)), λ place. Makes-act_in NewName place.site (MakeDir place.path mode) (λ area is. tt))

  made-all : (parents : Bool) (operands : Names) (mode : Option ℕ) → Makes NewName (make_all files parents operands mode)
  made-all parents operands None = tt
  made-all parents operands (Some mode) =
      Makes-choose NewName (is_empty operands) _ (each (make_one files parents mode) operands) tt (Makes-each NewName (make_one files parents mode) (made-one parents mode) operands)

  pub mkdir-all : (parents : Bool) (mode : Option (List ℕ)) (operands : Names) (old : WorldData) → KeepsAll old (left_by (run (mkdir files parents mode operands) old))
  mkdir-all parents mode operands old = kept-Makes NewName KeepsAll all-kept (mkdir files parents mode operands) (made-all parents operands (mode_or mode 493)) old

-- 4. A change of a mode keeps all names.

abbrev pub IsMode : Change → Type 0
IsMode (MakeFile at mode bytes) = ⊥
IsMode (Write at bytes) = ⊥
IsMode (Append at bytes) = ⊥
IsMode (SetMode at mode) = Unit {0}
IsMode (AddName old at) = ⊥
IsMode (MakeLink at text) = ⊥
IsMode (MakeDir at mode) = ⊥
IsMode (Remove at) = ⊥
IsMode (Rename old at) = ⊥
IsMode (Populate from) = ⊥

abbrev pub Mode : Area → Change → Type 0
Mode area change = IsMode change

abbrev KeepsPaths : Tree → Tree → Type 0
KeepsPaths old new = (path : Names) → is_some (node_at new path) ≡ is_some (node_at old path)

some-mapped : (f : Node → Node) (node : Option Node) → is_some (option_map f node) ≡ is_some node
some-mapped f None = refl
some-mapped f (Some node) = refl

paths-contents : (old : State) (label : Label) (contents : Contents) → KeepsPaths old.0 (with_contents old label contents)
paths-contents old label contents path = by (is_own old.1 label)
  where
    by : (own : Bool) → is_some (node_at (cond own (record old.0 { labels = fin.insert old.0.labels label contents })
        (record { names = relabelled label (next_label old.1) old.0.names; labels = fin.remove (fin.insert old.0.labels (next_label old.1) contents) label })) path) ≡ is_some (node_at old.0 path)
    by true = refl
    by false = ap is_some (get-relabelled label (next_label old.1) old.0.names path) ∙ some-mapped (relabelled_node label (next_label old.1)) (node_at old.0 path)

paths-mode : (old : State) (at : Names) (mode : ℕ) (node : Option Node) → node_at old.0 at ≡ node → KeepsPaths old.0 (mode_set old at mode node)
paths-mode old at mode None there = λ path. refl
paths-mode old at mode (Some (Dir was)) there = λ path. elim (get-insert_cases path_total path_same old.0.names at (Dir mode) path) [
  | inl found ↦ ap is_some found.1 ∙ sym (ap is_some (ap (node_at old.0) found.0 ∙ there))
  | inr same ↦ ap is_some same
]
paths-mode old at mode (Some (Link text)) there = λ path. refl
paths-mode old at mode (Some (File label)) there = paths-contents old label (with_mode mode (contents_at old.0 label))

paths-after : (change : Change) (old : State) → IsMode change → KeepsPaths old.0 (tree_after change old)
paths-after (MakeFile at mode bytes) old of = absurd of
paths-after (Write at bytes) old of = absurd of
paths-after (Append at bytes) old of = absurd of
paths-after (SetMode at mode) old of = paths-mode old at mode (node_at old.0 at) refl
paths-after (AddName first at) old of = absurd of
paths-after (MakeLink at text) old of = absurd of
paths-after (MakeDir at mode) old of = absurd of
paths-after (Remove at) old of = absurd of
paths-after (Rename first at) old of = absurd of
paths-after (Populate from) old of = absurd of

paths-changed : (change : Change) (old new : State) → IsMode change → changed change old ≡ Ok new → KeepsPaths old.0 new.0
paths-changed change old new of is = subst (λ (state : State). KeepsPaths old.0 state.0) (after-changed change old new is).2 (paths-after change old of)

names-kept : IsKeptBy Mode KeepsNames
names-kept = record {
  same = λ world area path. refl;
  chain = λ first next last one two area path. two area path ∙ one area path;
  act = λ area change old new of is. in-areas_acted KeepsPaths (λ tree path. refl) area change old new is (λ state made. paths-changed change (state_in old area) state of made);
}

-- 5. chmod.

module _ (files : FileMap) (change : ModeChange) where
  mode-set : (place : Spot) (old : ℕ) → Makes Mode (set_mode change place old)
  mode-set place old = Makes-act_in Mode place.site (SetMode place.path (changed_mode change old)) (λ area is. tt)

  changed-kind : (depth : ℕ) (world : WorldData) (place : Spot) (kind : Option Kind) → Makes Mode (change_below depth files change place) → Makes Mode (change_kind (change_below depth files change) change world place kind)
  changed-kind depth world place None below = tt
  changed-kind depth world place (Some kinds.Link) below = tt
  changed-kind depth world place (Some (kinds.File label)) below = mode-set place (mode_at world place)
  changed-kind depth world place (Some (kinds.Dir mode)) below = (mode-set place mode, λ _. below)

  changed-below : (depth : ℕ) (place : Spot) → Makes Mode (change_below depth files change place)
  unfolding change_below
  changed-below zero place = tt
  changed-below (suc depth) place = (
    tt,
    λ world. Makes-each Mode
        (λ name. change_at (change_below depth files change) files change (spot place.site (place.path ++ name ∷ [])))
        (λ name. (tt, λ now. changed-kind depth now (spot place.site (place.path ++ name ∷ [])) (kind_at now files (spot place.site (place.path ++ name ∷ []))) (changed-below depth (spot place.site (place.path ++ name ∷ [])))))
        (names_at world files place),
  )

  changed-word : (recursive : Bool) (word : List ℕ) → Makes Mode (change_word files recursive change word)
  changed-word recursive word = (
    (tt, λ world. Makes-attempt Mode (found world files word true)),
    λ place. (tt, λ world. changed-kind (depth_of recursive) world place (kind_at world files place) (changed-below (depth_of recursive) place)),
  )

changed-words : (files : FileMap) (recursive : Bool) (words : Names) (change : Option ModeChange) → Makes Mode (change_words files recursive words change)
changed-words files recursive words None = tt
changed-words files recursive words (Some change) =
    Makes-choose Mode (is_empty words) _ (each (change_word files recursive change) words) tt (Makes-each Mode (change_word files recursive change) (changed-word files change recursive) words)

made-chmod : (files : FileMap) (recursive : Bool) (operands : Names) → Makes Mode (chmod files recursive operands)
made-chmod files recursive [] = tt
made-chmod files recursive (mode ∷ words) = changed-words files recursive words (mode_change mode)

pub chmod-names : (files : FileMap) (recursive : Bool) (operands : Names) (old : WorldData) → KeepsNames old (left_by (run (chmod files recursive operands) old))
chmod-names files recursive operands old = kept-Makes Mode KeepsNames names-kept (chmod files recursive operands) (made-chmod files recursive operands) old
