-- What a copy sees of its source: in each world on the way what was there at first.
use Rattle.std.proofs.Common.{ℕ, ◌≡◌, ◌≢◌, Bool, true, false, cond, List, [], ◌∷◌, ◌++◌, Option, Some, None, ◌↔◌, refl, sym, ap, subst, ◌∙◌}
use Rattle.std.specs.Prelude.{IsSome}
use Rattle.std.specs.FinMap as fin
use Rattle.std.specs.Option.{is_some, option_map, option_and_then, unwrap_or}
use Rattle.std.proofs.lemmas.Bool.{true≢false}
use Rattle.br_path.specs.Path.{Names}
use Rattle.br_path.specs.Files.{FileMap, IsInput}
use Rattle.br_path.specs.declared.area.Area.{Area}
use Rattle.tree_ops.specs.declared.entry.Contents.{Contents}
use Rattle.tree_ops.specs.declared.entry.Label.{Label}
use Rattle.tree_ops.specs.declared.entry.Node.{Node}
use Rattle.tree_ops.specs.declared.entry.Node.TheVariants as nodes
use Rattle.tree_ops.specs.Tree as trees
use Rattle.tree_ops.specs.Tree.{Tree, IsTree, node_at}
use Rattle.tree_ops.specs.Change.{is_at_or_below}
use Rattle.tree_ops.proofs.Finds.{In}
use Rattle.tree_ops.proofs.Sound.{sound-of, dir-above}
use Rattle.tree_worlds.specs.World.{WorldData, tree_in, shown_tree, ReadableTree}
use Rattle.tree_worlds.specs.Operand.{is_file, is_folder}
use Rattle.sh_places.specs.declared.kind.Kind.{Kind}
use Rattle.sh_places.specs.declared.kind.Kind.TheVariants.{Dir, Link, File}
use Rattle.sh_places.specs.declared.spot.Site.{Site}
use Rattle.sh_places.specs.declared.spot.Site.TheVariants.{Tree as in_tree, Readable as in_readable, Input as in_input}
use Rattle.sh_places.specs.Spot.{is_area}
use Rattle.sh_places.specs.Looks.{kind_of, kind_in, kind_at, bytes_in, mode_in, text_in, bytes_at, mode_at, text_at, names_at, tree_of}
use Rattle.sh_places.specs.Finding.{spot}
use Rattle.sh_files.specs.Goals.{is_dir}
use Rattle.file_laws.specs.Words.{IsReachedWorld, contents_of, stands}
use Rattle.file_laws.proofs.Grows.{Grows, IsOld}
use Rattle.file_laws.proofs.Entries.{entries-exact, input-leaf}
use Rattle.file_laws.proofs.Sites.{same-area, area-itself, file-node}

-- paths that aren't at or below another
abbrev pub Outside : Names → Names → Type 0
Outside at path = is_at_or_below at path ≡ false

-- the looks at one path are alike in two worlds
pub record SeesAlike (files : FileMap) (site : Site) (path : Names) (now old : WorldData) : Type 0 where
  pub kind : kind_at now files (spot site path) ≡ kind_at old files (spot site path)
  pub mode : mode_at now (spot site path) ≡ mode_at old (spot site path)
  pub bytes : bytes_at now files (spot site path) ≡ bytes_at old files (spot site path)
  pub text : text_at now (spot site path) ≡ text_at old (spot site path)

-- what a copy relies on: what is at or below the source stays as it is; below what is no folder nothing stands; and one label has one mode
-- and the same bytes wherever it stands
pub record Sees (files : FileMap) (site : Site) (root : Names) (area : Area) (to : Names) (old : WorldData) : Type 0 where
  pub alike : (now : WorldData) (path : Names) → Grows area (Outside to) old now → is_at_or_below root path ≡ true → SeesAlike files site path now old
  pub leaf : (path : Names) (name : List ℕ) (rest : Names) → is_dir (kind_at old files (spot site path)) ≡ false → kind_at old files (spot site (path ++ name ∷ rest)) ≡ None
  pub same : (path other : Names) (label : Label) → kind_at old files (spot site path) ≡ Some (File (Some label)) → kind_at old files (spot site other) ≡ Some (File (Some label))
      → (mode_at old (spot site path) ≡ mode_at old (spot site other)) × (bytes_at old files (spot site path) ≡ bytes_at old files (spot site other))

-- 1. In one tree and another.

module _ (was now : Tree) where
  -- a node stands for what it stood for
  abbrev pub IsKept : Option Node → Type 0
  IsKept node = (label : Label) → node ≡ Some (nodes.File label) → fin.get now.labels label ≡ fin.get was.labels label

  mode-kept : (node : Option Node) → IsKept node → option_and_then (trees.mode_of now) node ≡ option_and_then (trees.mode_of was) node
  mode-kept None kept = refl
  mode-kept (Some (nodes.Dir mode)) kept = refl
  mode-kept (Some (nodes.Link text)) kept = refl
  mode-kept (Some (nodes.File label)) kept = ap (option_map (λ (c : Contents). c.mode)) (kept label refl)

  bytes-kept : (node : Option Node) → IsKept node → option_and_then (trees.contents_of now) node ≡ option_and_then (trees.contents_of was) node
  bytes-kept None kept = refl
  bytes-kept (Some (nodes.Dir mode)) kept = refl
  bytes-kept (Some (nodes.Link text)) kept = refl
  bytes-kept (Some (nodes.File label)) kept = kept label refl

  pub mode-alike : (path : Names) → node_at now path ≡ node_at was path → IsKept (node_at was path) → mode_in path (Some now) ≡ mode_in path (Some was)
  mode-alike path same kept = ap (λ o. unwrap_or o 0) (ap (option_and_then (trees.mode_of now)) same ∙ mode-kept (node_at was path) kept)

  pub bytes-alike : (path : Names) → node_at now path ≡ node_at was path → IsKept (node_at was path) → bytes_in path (Some now) ≡ bytes_in path (Some was)
  bytes-alike path same kept = ap (λ o. unwrap_or (option_map (λ (c : Contents). c.bytes) o) []) (ap (option_and_then (trees.contents_of now)) same ∙ bytes-kept (node_at was path) kept)

-- 2. Below what is no folder.

kind-folder : (node : Option Node) → is_dir (option_map kind_of (option_map trees.kind_of node)) ≡ trees.is_dir node
kind-folder None = refl
kind-folder (Some (nodes.Dir mode)) = refl
kind-folder (Some (nodes.Link text)) = refl
kind-folder (Some (nodes.File label)) = refl

tree-leaf : (tree : Option Tree) → ((t : Tree) → tree ≡ Some t → IsTree t) → (path : Names) (name : List ℕ) (rest : Names) → is_dir (kind_in path tree) ≡ false → kind_in (path ++ name ∷ rest) tree ≡ None
tree-leaf None sound path name rest leaf = refl
tree-leaf (Some tree) sound path name rest leaf = by (node_at tree (path ++ name ∷ rest)) refl
  where
    by : (node : Option Node) → node_at tree (path ++ name ∷ rest) ≡ node → option_map kind_of (option_map trees.kind_of (node_at tree (path ++ name ∷ rest))) ≡ None
    by None none = ap (λ (n : Option Node). option_map kind_of (option_map trees.kind_of n)) none
    by (Some node) there = absurd (true≢false (sym (dir-above tree (sound-of tree (sound tree refl)) path name rest node there) ∙ sym (kind-folder (node_at tree path)) ∙ leaf))

-- 3. One label.

tree-same : (tree : Option Tree) (path other : Names) (label : Label) → kind_in path tree ≡ Some (File (Some label)) → kind_in other tree ≡ Some (File (Some label))
    → (mode_in path tree ≡ mode_in other tree) × (bytes_in path tree ≡ bytes_in other tree)
tree-same None path other label one two = (refl, refl)
tree-same (Some tree) path other label one two =
    let same : node_at tree path ≡ node_at tree other = file-node (node_at tree path) label one ∙ sym (file-node (node_at tree other) label two) in (
      ap (λ (n : Option Node). unwrap_or (option_and_then (trees.mode_of tree) n) 0) same,
      ap (λ (n : Option Node). unwrap_or (option_map (λ (c : Contents). c.bytes) (option_and_then (trees.contents_of tree) n)) []) same,
    )

no-label : (file folder : Bool) (label : Label) → cond {A = Option Kind} file (Some (File None)) (cond folder (Some (Dir 493)) None) ≡ Some (File (Some label)) → ⊥
no-label true folder label is = cc
no-label false true label is = cc
no-label false false label is = cc

-- 4. At each site.

module _ (files : FileMap) (root : Names) (area : Area) (to : Names) (old : WorldData) (input : IsInput files) (reached : IsReachedWorld old) where
  -- of a tree that isn't the one in which the copy is made
  readable-alike : (task : ℕ) (now : WorldData) (path : Names) → now.shown ≡ old.shown → SeesAlike files (in_readable task) path now old
  readable-alike task now path same = record {
    kind = ap (λ (s : List ReadableTree). kind_in path (shown_tree s task)) same;
    mode = ap (λ (s : List ReadableTree). mode_in path (shown_tree s task)) same;
    bytes = ap (λ (s : List ReadableTree). bytes_in path (shown_tree s task)) same;
    text = ap (λ (s : List ReadableTree). text_in path (shown_tree s task)) same;
  }

  other-alike : (other : Area) (now : WorldData) (path : Names) → tree_in now.trees other ≡ tree_in old.trees other → SeesAlike files (in_tree other) path now old
  other-alike other now path same = record {
    kind = ap (λ (t : Tree). kind_in path (Some t)) same;
    mode = ap (λ (t : Tree). mode_in path (Some t)) same;
    bytes = ap (λ (t : Tree). bytes_in path (Some t)) same;
    text = ap (λ (t : Tree). text_in path (Some t)) same;
  }

  -- a file's label stands for something, and so it isn't one that is yet to be drawn
  file-old : (path : Names) (label : Label) → stands old area path ≡ Some (nodes.File label) → IsOld old label
  file-old path label there own =
      let had = (sound-of (tree_in old.trees area) (reached.trees (in_tree area) (tree_in old.trees area) refl)).stands path label there in
      reached.drawn area label had.0 had.1 own

  own-alike : (now : WorldData) (path : Names) → Grows area (Outside to) old now → Outside to path → SeesAlike files (in_tree area) path now old
  own-alike now path grows out =
      let same = grows.others path out in
      let kept : (label : Label) → stands old area path ≡ Some (nodes.File label) → contents_of now area label ≡ contents_of old area label = λ label there. grows.contents label (file-old path label there) in
      record {
        kind = ap (λ (n : Option Node). option_map kind_of (option_map trees.kind_of n)) same;
        mode = mode-alike (tree_in old.trees area) (tree_in now.trees area) path same kept;
        bytes = bytes-alike (tree_in old.trees area) (tree_in now.trees area) path same kept;
        text = ap (λ (n : Option Node). unwrap_or (option_and_then trees.link_text n) []) same;
      }

  pub sees : (site : Site) → ((path : Names) → site ≡ in_tree area → is_at_or_below root path ≡ true → Outside to path) → Sees files site root area to old
  sees (in_tree other) out = record {
    alike = λ now path grows below. by (is_area other area) refl now path grows below;
    leaf = λ path name rest leaf. tree-leaf (tree_of old (in_tree other)) (reached.trees (in_tree other)) path name rest leaf;
    same = λ path more label one two. tree-same (tree_of old (in_tree other)) path more label one two;
  }
    where
      by : (b : Bool) → is_area other area ≡ b → (now : WorldData) (path : Names) → Grows area (Outside to) old now → is_at_or_below root path ≡ true → SeesAlike files (in_tree other) path now old
      by true is now path grows below =
          let same : other ≡ area = same-area other area is in
          subst (λ (a : Area). SeesAlike files (in_tree a) path now old) (sym same) (own-alike now path grows (out path (ap in_tree same) below))
      by false is now path grows below = other-alike other now path (grows.areas other (λ same. true≢false (sym (area-itself area) ∙ ap (λ (a : Area). is_area a area) (sym same) ∙ is)))
  sees (in_readable task) out = record {
    alike = λ now path grows below. readable-alike task now path grows.shown;
    leaf = λ path name rest leaf. tree-leaf (tree_of old (in_readable task)) (reached.trees (in_readable task)) path name rest leaf;
    same = λ path more label one two. tree-same (tree_of old (in_readable task)) path more label one two;
  }
  sees in_input out = record {
    alike = λ now path grows below. record { kind = refl; mode = refl; bytes = refl; text = refl };
    leaf = λ path name rest leaf. input-leaf files path name rest input leaf;
    same = λ path more label one two. absurd (no-label (is_file files path) (is_folder files path) label one);
  }

-- the names in a folder of the source, as they are seen on the way
pub seen-names : (files : FileMap) (site : Site) (path : Names) (name : List ℕ) (now old : WorldData) → SeesAlike files site (path ++ name ∷ []) now old
    → In name (names_at now files (spot site path)) ↔ IsSome (kind_at old files (spot site (path ++ name ∷ [])))
seen-names files site path name now old alike =
    let exact = entries-exact now files site path name in
    (λ there. sym (ap is_some alike.kind) ∙ exact.0 there, λ some. exact.1 (ap is_some alike.kind ∙ some))
