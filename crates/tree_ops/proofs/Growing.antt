-- Trees with one more name, another folder's mode, or other contents.
use Rattle.std.proofs.Common.{ℕ, ◌≤◌, ◌≡◌, ◌⊎◌, inl, inr, Bool, true, false, cond, List, [], ◌∷◌, ◌++◌, Option, Some, None, refl, sym, ap, subst, ◌∙◌, arith}
use Rattle.std.specs.FinMap as fin
use Rattle.std.specs.FinMap.{FinMap}
use Rattle.std.specs.Option.{option_map}
use Rattle.std.proofs.lemmas.Bool.{true≢false}
use Rattle.std.proofs.lemmas.Option.{same_Some}
use Rattle.br_path.specs.Path.{Names, IsPath, path_cmp}
use Rattle.br_path.proofs.PathOrder.{path_total, path_same}
use Rattle.tree_ops.specs.declared.entry.Label.{Label}
use Rattle.tree_ops.specs.declared.entry.Contents.{Contents}
use Rattle.tree_ops.specs.declared.entry.Node.{Node}
use Rattle.tree_ops.specs.declared.entry.Node.TheVariants.{Dir, Link, File}
use Rattle.tree_ops.specs.Tree.{Tree, IsLinkText, label_cmp, node_at, is_dir, has_label}
use Rattle.tree_ops.specs.Change.{relabelled, relabelled_node}
use Rattle.tree_ops.proofs.Orders.{label_total, label_same}
use Rattle.tree_ops.proofs.Inserts.{get-insert_cases, get-insert_same}
use Rattle.tree_ops.proofs.Counts.{entries-relabelled}
use Rattle.tree_ops.proofs.Finds.{find-mapped, get-removed, get-left}
use Rattle.tree_ops.proofs.Sound.{IsSound, has_label-is, is-has_label}
use Rattle.std.specs.FinMap.{find}

pub dir_there : (node : Option Node) → is_dir node ≡ true → (n : Node) × (node ≡ Some n)
dir_there None is = absurd (true≢false (sym is))
dir_there (Some n) is = (n, refl)

module _ (tree : Tree) (at : Names) (node : Node) (labels : FinMap label_cmp Contents) where
  abbrev pub grown : Tree
  grown = record { names = fin.insert tree.names at node; labels = labels }

  -- what a new name wants
  pub record IsGrowth : Type 0 where
    pub nothing : node_at tree at ≡ None
    pub folder : (front : Names) (last : List ℕ) → at ≡ front ++ last ∷ [] → is_dir (node_at tree front) ≡ true
    pub legal : IsPath at
    pub dirs : (mode : ℕ) → node ≡ Dir mode → mode ≤ 4095
    pub links : (text : List ℕ) → node ≡ Link text → IsLinkText text
    pub stands : (label : Label) → node ≡ File label → (contents : Contents) × (fin.get labels label ≡ Some contents)
    pub keeps : (label : Label) (contents : Contents) → fin.get tree.labels label ≡ Some contents → (own : Contents) × (fin.get labels label ≡ Some own)
    pub named : (label : Label) (contents : Contents) → fin.get labels label ≡ Some contents → (node ≡ File label) ⊎ ((own : Contents) × (fin.get tree.labels label ≡ Some own))
    pub files : (label : Label) (contents : Contents) → fin.get labels label ≡ Some contents → contents.mode ≤ 4095

  module _ (sound : IsSound tree) (new : IsGrowth) where
    stay : (q : Names) (n : Node) → node_at tree q ≡ Some n → node_at grown q ≡ Some n
    stay q n there = elim (get-insert_cases path_total path_same tree.names at node q) [
      | inl found ↦ let none = ap (node_at tree) found.0 ∙ new.nothing in cc
      | inr same ↦ same ∙ there
    ]

    came : (q : Names) (n : Node) → node_at grown q ≡ Some n → ((q ≡ at) × (node ≡ n)) ⊎ (node_at tree q ≡ Some n)
    came q n there = elim (get-insert_cases path_total path_same tree.names at node q) [
      | inl found ↦ inl (found.0, same_Some node n (sym found.1 ∙ there))
      | inr same ↦ inr (sym same ∙ there)
    ]

    dir : (q : Names) → is_dir (node_at tree q) ≡ true → is_dir (node_at grown q) ≡ true
    dir q is = let there = dir_there (node_at tree q) is in ap is_dir (stay q there.0 there.1 ∙ sym there.1) ∙ is

    pub sound-grown : IsSound grown
    sound-grown = record {
      paths = λ q n there. elim (came q n there) [ inl own ↦ subst IsPath (sym own.0) new.legal | inr old ↦ sound.paths q n old ];
      root = dir [] sound.root;
      parents = λ q name n there. elim (came (q ++ name ∷ []) n there) [ inl own ↦ dir q (new.folder q name (sym own.0)) | inr old ↦ dir q (sound.parents q name n old) ];
      stands = λ q label there. elim (came q (File label) there) [ inl own ↦ new.stands label own.1 | inr old ↦ let c = sound.stands q label old in new.keeps label c.0 c.1 ];
      named = λ label contents there. elim (new.named label contents there) [
        | inl own ↦ (at, get-insert_same path_total tree.names at node ∙ ap Some own)
        | inr old ↦ let found = sound.named label old.0 old.1 in (found.0, stay found.0 (File label) found.1)
      ];
      dirs = λ q mode there. elim (came q (Dir mode) there) [ inl own ↦ new.dirs mode own.1 | inr old ↦ sound.dirs q mode old ];
      files = new.files;
      links = λ q text there. elim (came q (Link text) there) [ inl own ↦ new.links text own.1 | inr old ↦ sound.links q text old ];
    }

-- another mode of a folder
module _ (tree : Tree) (sound : IsSound tree) (at : Names) (old mode : ℕ) (there : node_at tree at ≡ Some (Dir old)) (few : mode ≤ 4095) where
  abbrev pub with_dir : Tree
  with_dir = record tree { names = fin.insert tree.names at (Dir mode) }

  came-dir : (q : Names) (n : Node) → node_at with_dir q ≡ Some n → ((q ≡ at) × (Dir mode ≡ n)) ⊎ (node_at tree q ≡ Some n)
  came-dir q n there = elim (get-insert_cases path_total path_same tree.names at (Dir mode) q) [
    | inl found ↦ inl (found.0, same_Some (Dir mode) n (sym found.1 ∙ there))
    | inr same ↦ inr (sym same ∙ there)
  ]

  stay-dir : (q : Names) → is_dir (node_at tree q) ≡ true → is_dir (node_at with_dir q) ≡ true
  stay-dir q is = elim (get-insert_cases path_total path_same tree.names at (Dir mode) q) [
    | inl found ↦ ap is_dir found.1
    | inr same ↦ ap is_dir same ∙ is
  ]

  pub sound-with_dir : IsSound with_dir
  sound-with_dir = record {
    paths = λ q n is. elim (came-dir q n is) [ inl own ↦ subst IsPath (sym own.0) (sound.paths at (Dir old) there) | inr was ↦ sound.paths q n was ];
    root = stay-dir [] sound.root;
    parents = λ q name n is. elim (came-dir (q ++ name ∷ []) n is) [
      | inl own ↦ stay-dir q (sound.parents q name (Dir old) (ap (node_at tree) own.0 ∙ there))
      | inr was ↦ stay-dir q (sound.parents q name n was)
    ];
    stands = λ q label is. elim (came-dir q (File label) is) [ inl own ↦ let no : Dir mode ≡ File label = own.1 in cc | inr was ↦ sound.stands q label was ];
    named = λ label contents is.
        let found = sound.named label contents is in (
          found.0,
          elim (get-insert_cases path_total path_same tree.names at (Dir mode) found.0) [
            | inl own ↦ let no : Some (Dir old) ≡ Some (File label) = sym there ∙ sym (ap (node_at tree) own.0) ∙ found.1 in cc
            | inr same ↦ same ∙ found.1
          ],
        );
    dirs = λ q own is. elim (came-dir q (Dir own) is) [ inl new ↦ let same : Dir mode ≡ Dir own = new.1 in let equal : mode ≡ own = cc in omega arith | inr was ↦ sound.dirs q own was ];
    files = sound.files;
    links = λ q text is. elim (came-dir q (Link text) is) [ inl own ↦ let no : Dir mode ≡ Link text = own.1 in cc | inr was ↦ sound.links q text was ];
  }

-- other contents of a label
module _ (tree : Tree) (sound : IsSound tree) (at : Names) (label : Label) (contents : Contents) (there : node_at tree at ≡ Some (File label)) (few : contents.mode ≤ 4095) where
  abbrev pub in_place : Tree
  in_place = record tree { labels = fin.insert tree.labels label contents }

  came-label : (l : Label) (c : Contents) → fin.get in_place.labels l ≡ Some c → ((l ≡ label) × (contents ≡ c)) ⊎ (fin.get tree.labels l ≡ Some c)
  came-label l c there = elim (get-insert_cases label_total label_same tree.labels label contents l) [
    | inl found ↦ inl (found.0, same_Some contents c (sym found.1 ∙ there))
    | inr same ↦ inr (sym same ∙ there)
  ]

  pub sound-in_place : IsSound in_place
  sound-in_place = record {
    paths = sound.paths;
    root = sound.root;
    parents = sound.parents;
    stands = λ q l is. elim (get-insert_cases label_total label_same tree.labels label contents l) [
      | inl found ↦ (contents, found.1)
      | inr same ↦ let c = sound.stands q l is in (c.0, same ∙ c.1)
    ];
    named = λ l c is. elim (came-label l c is) [ inl own ↦ (at, there ∙ ap (λ (l : Label). Some (File l)) (sym own.0)) | inr was ↦ sound.named l c was ];
    dirs = sound.dirs;
    files = λ l c is. elim (came-label l c is) [ inl own ↦ subst (λ (c : Contents). c.mode ≤ 4095) own.1 few | inr was ↦ sound.files l c was ];
    links = sound.links;
  }

-- what stands at a path under another label
pub get-relabelled : (from to : Label) (names : FinMap path_cmp Node) (q : Names) → fin.get (relabelled from to names) q ≡ option_map (relabelled_node from to) (fin.get names q)
get-relabelled from to names q =
    fin.get-entries (relabelled from to names) q ∙ ap (find path_cmp q) (entries-relabelled from to names) ∙ find-mapped path_total path_same (relabelled_node from to) q (fin.entries names)
    ∙ ap (option_map (relabelled_node from to)) (sym (fin.get-entries names q))

-- a label gives way to another, which stands for other contents
module _ (tree : Tree) (sound : IsSound tree) (at : Names) (label next : Label) (contents : Contents) (there : node_at tree at ≡ Some (File label)) (few : contents.mode ≤ 4095) (other : next ≡ label → ⊥) where
  abbrev pub given_way : Tree
  given_way = record { names = relabelled label next tree.names; labels = fin.remove (fin.insert tree.labels next contents) label }

  stay-way : (q : Names) (n : Node) → node_at tree q ≡ Some n → node_at given_way q ≡ Some (relabelled_node label next n)
  stay-way q n is = get-relabelled label next tree.names q ∙ ap (option_map (relabelled_node label next)) is

  from_map : (o : Option Node) (n : Node) → option_map (relabelled_node label next) o ≡ Some n → (was : Node) × (o ≡ Some was) × (relabelled_node label next was ≡ n)
  from_map None n is = cc
  from_map (Some was) n is = (was, refl, same_Some _ _ is)

  came-way : (q : Names) (n : Node) → node_at given_way q ≡ Some n → (was : Node) × (node_at tree q ≡ Some was) × (relabelled_node label next was ≡ n)
  came-way q n is = from_map (node_at tree q) n (sym (get-relabelled label next tree.names q) ∙ is)

  dir-way : (q : Names) → is_dir (node_at tree q) ≡ true → is_dir (node_at given_way q) ≡ true
  dir-way q is = ap is_dir (get-relabelled label next tree.names q) ∙ by (node_at tree q) is
    where
      by : (node : Option Node) → is_dir node ≡ true → is_dir (option_map (relabelled_node label next) node) ≡ true
      by None is = is
      by (Some (Dir mode)) is = refl
      by (Some (Link text)) is = is
      by (Some (File l)) is = absurd (true≢false (sym is))

  -- where each kind came from
  dir-from : (was : Node) (mode : ℕ) → relabelled_node label next was ≡ Dir mode → was ≡ Dir mode
  dir-from (Dir m) mode is = is
  dir-from (Link text) mode is = cc
  dir-from (File l) mode is = by (has_label label (File l)) is
    where
      by : (b : Bool) → cond b (File next) (File l) ≡ Dir mode → File l ≡ Dir mode
      by true is = cc
      by false is = is

  link-from : (was : Node) (text : List ℕ) → relabelled_node label next was ≡ Link text → was ≡ Link text
  link-from (Dir m) text is = cc
  link-from (Link own) text is = is
  link-from (File l) text is = by (has_label label (File l)) is
    where
      by : (b : Bool) → cond b (File next) (File l) ≡ Link text → File l ≡ Link text
      by true is = cc
      by false is = is

  file-from : (was : Node) (own : Label) → relabelled_node label next was ≡ File own → (own ≡ next) ⊎ ((was ≡ File own) × (own ≡ label → ⊥))
  file-from (Dir m) own is = cc
  file-from (Link text) own is = cc
  file-from (File l) own is = by (has_label label (File l)) refl is
    where
      by : (b : Bool) → has_label label (File l) ≡ b → cond b (File next) (File l) ≡ File own → (own ≡ next) ⊎ ((File l ≡ File own) × (own ≡ label → ⊥))
      by true has is = inl cc
      by false has is = inr (is, λ equal. true≢false (sym (is-has_label label) ∙ ap (has_label label) (sym (is ∙ ap File equal)) ∙ has))

  label_again : relabelled_node label next (File label) ≡ File next
  label_again = ap (λ b. cond b (File next) (File label)) (is-has_label label)

  file_again : (l : Label) → (l ≡ label → ⊥) → relabelled_node label next (File l) ≡ File l
  file_again l apart = by (has_label label (File l)) refl
    where
      inner : File l ≡ File label → l ≡ label
      inner is = cc

      by : (b : Bool) → has_label label (File l) ≡ b → cond (has_label label (File l)) (File next) (File l) ≡ File l
      by true has = absurd (apart (inner (has_label-is label (File l) has)))
      by false has = ap (λ b. cond b (File next) (File l)) has

  pub sound-given_way : IsSound given_way
  sound-given_way = record {
    paths = λ q n is. let was = came-way q n is in sound.paths q was.0 was.1;
    root = dir-way [] sound.root;
    parents = λ q name n is. let was = came-way (q ++ name ∷ []) n is in dir-way q (sound.parents q name was.0 was.1);
    stands = λ q own is.
        let was = came-way q (File own) is in
        elim (file-from was.0 own was.2) [
          | inl new ↦ (contents, ap (fin.get given_way.labels) new ∙ get-left label_total label_same (fin.insert tree.labels next contents) label next other ∙ get-insert_same label_total tree.labels next contents)
          | inr old ↦
              let c = sound.stands q own (was.1 ∙ ap Some old.0) in
              elim (get-insert_cases label_total label_same tree.labels next contents own) [
                | inl found ↦ (contents, get-left label_total label_same (fin.insert tree.labels next contents) label own old.1 ∙ found.1)
                | inr same ↦ (c.0, get-left label_total label_same (fin.insert tree.labels next contents) label own old.1 ∙ same ∙ c.1)
              ]
        ];
    named = λ own c is.
        let left = get-removed label_total label_same (fin.insert tree.labels next contents) label own c is in
        elim (get-insert_cases label_total label_same tree.labels next contents own) [
          | inl found ↦ (at, stay-way at (File label) there ∙ ap Some (label_again ∙ ap File (sym found.0)))
          | inr same ↦ let was = sound.named own c (sym same ∙ left.0) in (was.0, stay-way was.0 (File own) was.1 ∙ ap Some (file_again own left.1))
        ];
    dirs = λ q mode is. let was = came-way q (Dir mode) is in sound.dirs q mode (was.1 ∙ ap Some (dir-from was.0 mode was.2));
    files = λ own c is.
        let left = get-removed label_total label_same (fin.insert tree.labels next contents) label own c is in
        elim (get-insert_cases label_total label_same tree.labels next contents own) [
          | inl found ↦ subst (λ (c : Contents). c.mode ≤ 4095) (same_Some contents c (sym found.1 ∙ left.0)) few
          | inr same ↦ sound.files own c (sym same ∙ left.0)
        ];
    links = λ q text is. let was = came-way q (Link text) is in sound.links q text (was.1 ∙ ap Some (link-from was.0 text was.2));
  }
