-- What ln, mv, cp and install make of a source.
use Rattle.std.proofs.Common.{ℕ, ◌≡◌, ◌≢◌, inl, inr, Bool, true, false, cond, List, Option, Some, None, Ok, refl, sym, ap, subst, ◌∙◌, arith}
use Rattle.std.specs.FinMap as fin
use Rattle.std.specs.FinMap.{FinMap}
use Rattle.std.proofs.lemmas.Bool.{true≢false}
use Rattle.br_path.specs.Path.{Names, path_cmp}
use Rattle.br_path.specs.Files.{FileMap}
use Rattle.br_path.specs.declared.area.Area.{Area}
use Rattle.br_path.proofs.PathOrder.{path_total, path_same}
use Rattle.tree_ops.specs.declared.entry.Label.{Label}
use Rattle.tree_ops.specs.declared.entry.Contents.{Contents}
use Rattle.tree_ops.specs.declared.entry.Node.{Node}
use Rattle.tree_ops.specs.declared.entry.Node.TheVariants as nodes
use Rattle.tree_ops.specs.Tree.{Tree, IsTree, node_at, is_used, label_cmp}
use Rattle.tree_ops.specs.Pen.{Counts}
use Rattle.tree_ops.specs.Change.{Change, MakeFile, AddName, Remove, Rename, State, changed, after, next_label, named_again, dropped_unused, label_of}
use Rattle.tree_ops.proofs.Orders.{label_total, label_same}
use Rattle.tree_ops.proofs.Inserts.{get-insert_cases, get-insert_same}
use Rattle.tree_ops.proofs.Finds.{get-left}
use Rattle.tree_ops.proofs.Sound.{at-used}
use Rattle.tree_ops.proofs.Outcomes.{after-changed}
use Rattle.tree_ops.specs.Laws.{IsMoved}
use Rattle.tree_ops.proofs.Renaming.{moved-whole}
use Rattle.tree_ops.specs.declared.change.ChangeFault.TheVariants.{IsDir}
use Rattle.tree_worlds.specs.declared.reason.Reason.TheVariants.{Same, Change as for_change}
use Rattle.tree_worlds.specs.World.{WorldData, acted, tree_in, state_in}
use Rattle.tree_worlds.specs.Program.{Program, Done, ◌>>=◌, run}
use Rattle.sh_places.specs.declared.spot.Site.TheVariants.{Tree as in_tree}
use Rattle.sh_places.specs.declared.spot.Spot.{Spot}
use Rattle.sh_places.specs.declared.kind.Kind.{Kind}
use Rattle.sh_places.specs.declared.kind.Kind.TheVariants.{Dir, Link, File}
use Rattle.sh_places.specs.Spot.{is_spot}
use Rattle.sh_places.specs.Looks.{kind_at, bytes_at, mode_at, text_at}
use Rattle.sh_places.specs.Parts.{attempt, act_in}
use Rattle.sh_files.specs.Goals.{place_for, goal_place}
use Rattle.sh_files.specs.Room.{is_link, make_file}
use Rattle.sh_files.specs.Linking.{linkable, is_same, clear, name_of, link_from, place_within}
use Rattle.sh_files.specs.Moving.{is_something, move_to, move_from}
use Rattle.sh_files.specs.Install.{file_label, is_source, replace, install_at, install_from}
use Rattle.sh_files.specs.Copying.{followed, followed_from, copy_bytes, copy_contents, made_mode}
use Rattle.file_laws.specs.Words.{GoesThrough, stands, contents_of, KeepsOthers, AddsName, MakesFile, MakesFileAt, NamesAgain, MovesTo}
use Rattle.file_laws.proofs.Areas.{changed-acted, tree-put, tree-other}
use Rattle.file_laws.proofs.Through.{same_Ok, never, then-through, attempt-through, known-through, choose-through, act_in-through}
use Rattle.file_laws.proofs.Sites.{within-through, within-site, apart-paths, file-stands}

-- 1. A change that is made, in the tree of its area.

-- the tree and the pen that it leaves, and the trees of other areas
pub record IsMade (area : Area) (change : Change) (old new : WorldData) : Type 0 where
  pub tree : tree_in new.trees area ≡ (after change (state_in old area)).0
  pub pen : new.pen ≡ (after change (state_in old area)).1
  pub areas : KeepsOthers area old new
  pub done : (state : State) × (changed change (state_in old area) ≡ Ok state) × (tree_in new.trees area ≡ state.0)

pub is-made : (area : Area) (change : Change) (old new : WorldData) → acted area change old ≡ Ok new → IsMade area change old new
is-made area change old new is =
    let done = changed-acted area change old new is in
    let come = (after-changed change (state_in old area) done.0 done.1).2 in
    let put : tree_in new.trees area ≡ done.0.0 = sym (ap (λ (w : WorldData). tree_in w.trees area) done.2) ∙ tree-put old.trees area done.0.0 in
    record {
      tree = put ∙ sym (ap (λ (s : State). s.0) come);
      pen = sym (ap (λ (w : WorldData). w.pen) done.2) ∙ sym (ap (λ (s : State). s.1) come);
      areas = λ other apart. sym (ap (λ (w : WorldData). tree_in w.trees other) done.2) ∙ tree-other old.trees area other done.0.0 apart;
      done = (done.0, done.1, put);
    }

-- 2. A new name.

inserted-other : (names : FinMap path_cmp Node) (at : Names) (node : Node) (path : Names) → path ≢ at → fin.get (fin.insert names at node) path ≡ fin.get names path
inserted-other names at node path apart = elim (get-insert_cases path_total path_same names at node path) [ inl found ↦ absurd (apart found.0) | inr same ↦ same ]

pub named-once-more : (area : Area) (source at : Names) (label : Label) (old new : WorldData) → stands old area source ≡ Some (nodes.File label) → acted area (AddName source at) old ≡ Ok new → AddsName area at (nodes.File label) old new
named-once-more area source at label old new there is =
    let made = is-made area (AddName source at) old new is in
    let was = tree_in old.trees area in
    let tree : tree_in new.trees area ≡ record was { names = fin.insert was.names at (nodes.File label) } = made.tree ∙ ap (named_again was at) there in
    record {
      made = ap (λ (t : Tree). node_at t at) tree ∙ get-insert_same path_total was.names at (nodes.File label);
      others = λ path apart. ap (λ (t : Tree). node_at t path) tree ∙ inserted-other was.names at (nodes.File label) path apart;
      contents = λ other. ap (λ (t : Tree). fin.get t.labels other) tree;
      areas = made.areas;
    }

-- 3. ln.

abbrev named : FileMap → Bool → Spot → WorldData → Kind → Spot → Program (Unit {0})
named files force source old kind place =
    clear force (is_same source kind place (kind_at old files place)) place (kind_at old files place) >>= λ _. act_in place.site (name_of source (text_at old source) place kind)

pub linked : (files : FileMap) (force : Bool) (goal : _) (base : List ℕ) (source place : Spot) (label : Label) (old new : WorldData)
    → place_for goal base ≡ Ok place → (goal_place goal).site ≡ place.site → kind_at old files source ≡ Some (File (Some label)) → kind_at old files place ≡ None
    → GoesThrough (link_from files force goal base source) old new → NamesAgain source place label old new
linked files force goal base source place label old new at site is none goes =
    let kind : Kind = File (Some label) in
    let one = known-through (linkable (kind_at old files source)) (λ kind. place_within source.site goal base >>= named files force source old kind) old new kind (ap linkable is) goes in
    let two = within-through source.site goal base place (named files force source old kind) old new at one in
    let three : GoesThrough (act_in place.site (AddName source.path place.path)) old new =
    (two.1.0, sym (ap (λ (k : Option Kind). run (clear force (is_same source kind place k) place k >>= λ _. act_in place.site (AddName source.path place.path)) old) none) ∙ two.1.1) in
    let done = act_in-through place.site (AddName source.path place.path) old new three in
    let from = within-site source.site goal place done.0 site two.0 done.1 in
    let there = file-stands old files source done.0 label from is in
    (done.0, from, done.1, there, named-once-more done.0 source.path place.path label old new there done.2)

-- 4. mv.

pub moved : (files : FileMap) (goal : _) (base : List ℕ) (source place : Spot) (old new : WorldData)
    → place_for goal base ≡ Ok place → (goal_place goal).site ≡ place.site → ((area : Area) → IsTree (tree_in old.trees area))
    → GoesThrough (move_from files goal base source) old new → MovesTo source place old new
moved files goal base source place old new at site trees goes =
    let one = attempt-through (is_something (kind_at old files source)) (λ _. place_within source.site goal base >>= move_to source) old new goes in
    let two = within-through source.site goal base place (move_to source) old new at one.2 in
    let three = choose-through (is_spot source place) Same (act_in place.site (Rename source.path place.path)) old new two.1 in
    let done = act_in-through place.site (Rename source.path place.path) old new three.1 in
    let from = within-site source.site goal place done.0 site two.0 done.1 in
    let made = is-made done.0 (Rename source.path place.path) old new done.2 in
    let whole = moved-whole source.path place.path (state_in old done.0) made.done.0 (trees done.0) (apart-paths source place done.0 from done.1 three.0) made.done.1 in
    (done.0, from, done.1, subst (λ (t : Tree). IsMoved source.path place.path (tree_in old.trees done.0) t) (sym made.done.2) whole, made.areas)

-- 5. A new file.

-- a path was cleared: all other names and their files are as they were, and no label was drawn
record IsCleared (area : Area) (at : Names) (old new : WorldData) : Type 0 where
  pub others : (path : Names) → path ≢ at → stands new area path ≡ stands old area path
  pub files : (path : Names) (label : Label) → path ≢ at → stands old area path ≡ Some (nodes.File label) → contents_of new area label ≡ contents_of old area label
  pub label : next_label new.pen ≡ next_label old.pen
  pub areas : KeepsOthers area old new

cleared-same : (area : Area) (at : Names) (old : WorldData) → IsCleared area at old old
cleared-same area at old = record { others = λ path apart. refl; files = λ path label apart there. refl; label = refl; areas = λ other apart. refl }

-- the label of a name that stands isn't dropped
undropped : (names : FinMap path_cmp Node) (labels : FinMap label_cmp Contents) (gone : Option Label) (path : Names) (label : Label) → fin.get names path ≡ Some (nodes.File label)
    → fin.get (dropped_unused names gone labels) label ≡ fin.get labels label
undropped names labels None path label there = refl
undropped names labels (Some own) path label there = by (is_used names own) refl
  where
    by : (used : Bool) → is_used names own ≡ used → fin.get (cond used labels (fin.remove labels own)) label ≡ fin.get labels label
    by true is = refl
    by false is = get-left label_total label_same labels own label (λ same. true≢false (sym (at-used names own path (there ∙ ap (λ (l : Label). Some (nodes.File l)) same)) ∙ is))

cleared-remove : (area : Area) (at : Names) (old new : WorldData) → acted area (Remove at) old ≡ Ok new → IsCleared area at old new
cleared-remove area at old new is =
    let made = is-made area (Remove at) old new is in
    let was = tree_in old.trees area in
    let names = fin.remove was.names at in
    let left : (path : Names) → path ≢ at → fin.get names path ≡ node_at was path = λ path apart. get-left path_total path_same was.names at path apart in
    let next = ap (λ (p : Counts). p.next) made.pen in
    let task = ap (λ (p : Counts). p.task) made.pen in
    let number : new.pen.next ≡ old.pen.next = omega arith in
    record {
      others = λ path apart. ap (λ (t : Tree). node_at t path) made.tree ∙ left path apart;
      files = λ path label apart there. ap (λ (t : Tree). fin.get t.labels label) made.tree ∙ undropped names was.labels (label_of (node_at was at)) path label (left path apart ∙ there);
      label = λ i. record { task = task i; number = number i };
      areas = made.areas;
    }

made-cleared : (area : Area) (at : Names) (mode : ℕ) (bytes : List ℕ) (old mid new : WorldData) → IsCleared area at old mid → acted area (MakeFile at mode bytes) mid ≡ Ok new → MakesFile area at mode bytes old new
made-cleared area at mode bytes old mid new free is =
    let made = is-made area (MakeFile at mode bytes) mid new is in
    let was = tree_in mid.trees area in
    let next = next_label mid.pen in
    let contents : Contents = record { mode = mode; bytes = bytes } in
    record {
      made = ap (λ (t : Tree). node_at t at) made.tree ∙ get-insert_same path_total was.names at (nodes.File next) ∙ ap (λ (l : Label). Some (nodes.File l)) free.label;
      contents = ap (contents_of new area) (sym free.label) ∙ ap (λ (t : Tree). fin.get t.labels next) made.tree ∙ get-insert_same label_total was.labels next contents;
      others = λ path apart. ap (λ (t : Tree). node_at t path) made.tree ∙ inserted-other was.names at (nodes.File next) path apart ∙ free.others path apart;
      files = λ path label apart other there. ap (λ (t : Tree). fin.get t.labels label) made.tree
          ∙ elim (get-insert_cases label_total label_same was.labels next contents label) [ inl found ↦ absurd (other (found.0 ∙ free.label)) | inr same ↦ same ]
          ∙ free.files path label apart there;
      areas = λ other apart. made.areas other apart ∙ free.areas other apart;
    }

made-file : (place : Spot) (mode : ℕ) (bytes : List ℕ) (old new : WorldData) → GoesThrough (make_file place mode bytes) old new → MakesFileAt place mode bytes old new
made-file place mode bytes old new goes =
    let done = act_in-through place.site (MakeFile place.path mode bytes) old new goes in
    (done.0, done.1, made-cleared done.0 place.path mode bytes old old new (cleared-same done.0 place.path old) done.2)

-- 6. cp.

pub copied : (files : FileMap) (manner : _) (source place : Spot) (label : Option Label) (old new : WorldData) → kind_at old files place ≡ None → GoesThrough (copy_contents files manner source label place) old new
    → MakesFileAt place (made_mode manner (mode_at old source)) (bytes_at old files source) old new
copied files manner source place label old new none goes =
    let mode : ℕ = mode_at old source in
    let bytes : List ℕ = bytes_at old files source in
    let one = known-through (followed old files place)
    (λ at. copy_bytes manner source label mode bytes at (is_link (kind_at old files place)) (kind_at old files at) >>= λ _. Done at)
    old new place (ap (followed_from old place) none) goes in
    let two : GoesThrough (make_file place (made_mode manner mode) bytes >>= λ _. Done place) old new =
    (one.0, sym (ap (λ (k : Option Kind). run (copy_bytes manner source label mode bytes place (is_link k) k >>= λ _. Done place) old) none) ∙ one.1) in
    let three = then-through (make_file place (made_mode manner mode) bytes) (λ _. Done place) old new two in
    let last = done-through place three.1 new three.3 in
    made-file place (made_mode manner mode) bytes old new (three.0, three.2 ∙ ap (λ (w : WorldData). Ok (three.0, w)) last)
  where
    done-through : (at : Spot) (mid new : WorldData) → GoesThrough (Done at) mid new → mid ≡ new
    done-through at mid new goes = ap (λ (p : Spot × WorldData). p.1) (same_Ok (at, mid) (goes.0, new) goes.1)

-- 7. install.

pub over-removed : (place : Spot) (mode : ℕ) (bytes : List ℕ) (old new : WorldData) → GoesThrough (act_in place.site (Remove place.path) >>= λ _. make_file place mode bytes) old new → MakesFileAt place mode bytes old new
over-removed place mode bytes old new goes =
    let one = then-through (act_in place.site (Remove place.path)) (λ _. make_file place mode bytes) old new goes in
    let first = act_in-through place.site (Remove place.path) old one.1 (one.0, one.2) in
    let second = act_in-through place.site (MakeFile place.path mode bytes) one.1 new one.3 in
    let same : first.0 ≡ second.0 = inner first.0 second.0 (sym first.1 ∙ second.1) in
    (second.0, second.1, made-cleared second.0 place.path mode bytes old one.1 new (subst (λ (area : Area). IsCleared area place.path old one.1) same (cleared-remove first.0 place.path old one.1 first.2)) second.2)
  where
    inner : (a b : Area) → in_tree a ≡ in_tree b → a ≡ b
    inner a b is = cc

replaced : (place : Spot) (kind : Option Kind) (mode : ℕ) (bytes : List ℕ) (old new : WorldData) → GoesThrough (replace place kind mode bytes) old new → MakesFileAt place mode bytes old new
replaced place None mode bytes old new goes = made-file place mode bytes old new goes
replaced place (Some (Dir was)) mode bytes old new goes = absurd (never (for_change IsDir, old) (goes.0, new) goes.1)
replaced place (Some Link) mode bytes old new goes = over-removed place mode bytes old new goes
replaced place (Some (File label)) mode bytes old new goes = over-removed place mode bytes old new goes

abbrev installed_at : FileMap → ℕ → Spot → WorldData → Option Label → Spot → Program (Unit {0})
installed_at files mode source old label place = install_at (is_source source label place (kind_at old files place)) place (kind_at old files place) mode (bytes_at old files source)

pub installed : (files : FileMap) (mode : ℕ) (goal : _) (base : List ℕ) (source place : Spot) (old new : WorldData)
    → place_for goal base ≡ Ok place → GoesThrough (install_from files mode goal base source) old new → MakesFileAt place mode (bytes_at old files source) old new
installed files mode goal base source place old new at goes =
    let one = attempt-through (file_label (kind_at old files source)) (λ label. attempt (place_for goal base) >>= installed_at files mode source old label) old new goes in
    let two = known-through (place_for goal base) (installed_at files mode source old one.0) old new place at one.2 in
    let three = choose-through (is_source source one.0 place (kind_at old files place)) Same (replace place (kind_at old files place) mode (bytes_at old files source)) old new two in
    replaced place (kind_at old files place) mode (bytes_at old files source) old new three.1
