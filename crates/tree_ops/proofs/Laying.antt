-- One tree laid over another.
use Rattle.std.proofs.Common.{ℕ, ◌≡◌, ◌⊎◌, inl, inr, Bool, true, false, not, cond, ◌||◌, List, [], ◌∷◌, ◌++◌, Option, Some, None, refl, sym, ap, ◌∙◌}
use Rattle.std.specs.FinMap as fin
use Rattle.std.specs.FinMap.{FinMap}
use Rattle.std.specs.Option.{option_or}
use Rattle.std.specs.List.{list_any}
use Rattle.std.proofs.lemmas.Bool.{true≢false}
use Rattle.std.proofs.lemmas.List.Folds.{list_any-append}
use Rattle.br_path.specs.Path.{Names, path_cmp, folders_of}
use Rattle.br_path.proofs.PathOrder.{path_total, path_same}
use Rattle.tree_ops.specs.declared.entry.Label.{Label}
use Rattle.tree_ops.specs.declared.entry.Contents.{Contents}
use Rattle.tree_ops.specs.declared.entry.Node.{Node}
use Rattle.tree_ops.specs.declared.entry.Node.TheVariants.{Dir, Link, File}
use Rattle.tree_ops.specs.Tree.{Tree, node_at, is_dir, is_leaf, is_hidden, is_used, over, laid}
use Rattle.tree_ops.proofs.Orders.{label_total, label_same}
use Rattle.tree_ops.proofs.Finds.{get-laid, get-kept}
use Rattle.tree_ops.proofs.Heads.{folders_of-last}
use Rattle.tree_ops.proofs.Sound.{IsSound, used-at, at-used}
use Rattle.tree_ops.proofs.Growing.{dir_there}

-- a file or link, a folder, or nothing
kinds : (node : Option Node) → (node ≡ None) ⊎ (is_dir node ≡ true) ⊎ (is_leaf node ≡ true)
kinds None = inl refl
kinds (Some (Dir mode)) = inr (inl refl)
kinds (Some (Link text)) = inr (inr refl)
kinds (Some (File label)) = inr (inr refl)

first_or : {A : Type 0} (a b : Option A) (x : A) → option_or a b ≡ Some x → (a ≡ Some x) ⊎ ((a ≡ None) × (b ≡ Some x))
first_or None b x is = inr (refl, is)
first_or (Some y) b x is = inl is

pub chosen : {A : Type 0} (b : Bool) (o : Option A) (x : A) → cond b o None ≡ Some x → (b ≡ true) × (o ≡ Some x)
chosen true o x is = (refl, is)
chosen false o x is = cc

not_hidden : (b : Bool) → not b ≡ true → b ≡ false
not_hidden true is = absurd (true≢false (sym is))
not_hidden false is = refl

neither : (a b : Bool) → (a || (b || false)) ≡ false → (a ≡ false) × (b ≡ false)
neither true b is = absurd (true≢false is)
neither false true is = absurd (true≢false is)
neither false false is = (refl, refl)

turned : {A : Type 0} (b : Bool) (x y : A) → cond (not b) x y ≡ cond b y x
turned true x y = refl
turned false x y = refl

module _ (low high : Tree) where
  -- what stands at a path: what the high one has, else what the low one has and the high one doesn't hide
  pub get-over : (q : Names) → node_at (over low high) q ≡ option_or (node_at high q) (cond (not (is_hidden high q)) (node_at low q) None)
  get-over q = get-laid path_total path_same (fin.retain_keys low.names (λ at. not (is_hidden high at))) high.names q ∙ ap (option_or (node_at high q)) (get-kept path_total path_same low.names (λ at. not (is_hidden high at)) q)

  -- the same by the test itself
  pub over-paths : (q : Names) → node_at (over low high) q ≡ option_or (node_at high q) (cond (is_hidden high q) None (node_at low q))
  over-paths q = get-over q ∙ ap (option_or (node_at high q)) (turned (is_hidden high q) (node_at low q) None)

  -- what a label stands for
  pub label-over : (label : Label) → fin.get (over low high).labels label ≡ cond (is_used (over low high).names label) (option_or (fin.get high.labels label) (fin.get low.labels label)) None
  label-over label = get-kept label_total label_same (laid low.labels high.labels) (is_used (over low high).names) label ∙ ap (λ o. cond (is_used (over low high).names label) o None) (get-laid label_total label_same low.labels high.labels label)

module _ (low high : Tree) (l : IsSound low) (h : IsSound high) where
  abbrev all : Tree
  all = over low high

  came-over : (q : Names) (n : Node) → node_at all q ≡ Some n → (node_at high q ≡ Some n) ⊎ ((node_at high q ≡ None) × (is_hidden high q ≡ false) × (node_at low q ≡ Some n))
  came-over q n there = elim (first_or (node_at high q) (cond (not (is_hidden high q)) (node_at low q) None) n (sym (get-over low high q) ∙ there)) [
    | inl above ↦ inl above
    | inr below ↦ let kept = chosen (not (is_hidden high q)) (node_at low q) n below.1 in inr (below.0, not_hidden (is_hidden high q) kept.0, kept.1)
  ]

  high-over : (q : Names) (n : Node) → node_at high q ≡ Some n → node_at all q ≡ Some n
  high-over q n there = get-over low high q ∙ ap (λ o. option_or o (cond (not (is_hidden high q)) (node_at low q) None)) there

  low-over : (q : Names) (n : Node) → node_at high q ≡ None → is_hidden high q ≡ false → node_at low q ≡ Some n → node_at all q ≡ Some n
  low-over q n none shown there = get-over low high q ∙ ap (λ o. option_or o (cond (not (is_hidden high q)) (node_at low q) None)) none ∙ ap (λ b. cond (not b) (node_at low q) None) shown ∙ there

  dir-high : (q : Names) → is_dir (node_at high q) ≡ true → is_dir (node_at all q) ≡ true
  dir-high q is = let there = dir_there (node_at high q) is in ap is_dir (high-over q there.0 there.1 ∙ sym there.1) ∙ is

  -- what isn't hidden stands below no file or link, nor do the folders above it
  shown-above : (q : Names) (name : List ℕ) → is_hidden high (q ++ name ∷ []) ≡ false → (is_hidden high q ≡ false) × (is_leaf (node_at high q) ≡ false)
  shown-above q name is = neither (is_hidden high q) (is_leaf (node_at high q))
      (sym (ap (list_any (λ folder. is_leaf (node_at high folder))) (folders_of-last q name) ∙ list_any-append (λ folder. is_leaf (node_at high folder)) (folders_of q) (q ∷ [])) ∙ is)

  parents-low : (q : Names) (name : List ℕ) (n : Node) → is_hidden high (q ++ name ∷ []) ≡ false → node_at low (q ++ name ∷ []) ≡ Some n → is_dir (node_at all q) ≡ true
  parents-low q name n shown there =
      let above = shown-above q name shown in
      let folder = l.parents q name n there in
      let low_there = dir_there (node_at low q) folder in
      elim (kinds (node_at high q)) [
        | inl none ↦ ap is_dir (low-over q low_there.0 none above.0 low_there.1 ∙ sym low_there.1) ∙ folder
        | inr some ↦ elim some [
          | inl dir ↦ dir-high q dir
          | inr leaf ↦ absurd (true≢false (sym leaf ∙ above.1))
        ]
      ]

  abbrev names : FinMap path_cmp Node
  names = all.names

  pub came-label : (label : Label) (c : Contents) → fin.get all.labels label ≡ Some c → (is_used names label ≡ true) × ((fin.get high.labels label ≡ Some c) ⊎ (fin.get low.labels label ≡ Some c))
  came-label label c there =
      let kept = chosen (is_used names label) _ c (sym (label-over low high label) ∙ there) in
      (kept.0, elim (first_or (fin.get high.labels label) (fin.get low.labels label) c kept.1) [ inl above ↦ inl above | inr below ↦ inr below.1 ])

  some_or : {A : Type 0} (a b : Option A) → ((x : A) × (a ≡ Some x)) ⊎ ((x : A) × (b ≡ Some x)) → (x : A) × (option_or a b ≡ Some x)
  some_or None b (inl some) = let no : None ≡ Some some.0 = some.1 in cc
  some_or None b (inr some) = some
  some_or (Some x) b some = (x, refl)

  stands-over : (q : Names) (label : Label) → node_at all q ≡ Some (File label) → (c : Contents) × (fin.get all.labels label ≡ Some c)
  stands-over q label there =
      let used = at-used names label q there in
      let found : (c : Contents) × (option_or (fin.get high.labels label) (fin.get low.labels label) ≡ Some c) =
      some_or (fin.get high.labels label) (fin.get low.labels label) (elim (came-over q (File label) there) [ inl above ↦ inl (h.stands q label above) | inr below ↦ inr (l.stands q label below.2) ]) in
      (found.0, label-over low high label ∙ ap (λ b. cond b (option_or (fin.get high.labels label) (fin.get low.labels label)) None) used ∙ found.1)

  pub sound-over : IsSound all
  sound-over = record {
    paths = λ q n there. elim (came-over q n there) [ inl above ↦ h.paths q n above | inr below ↦ l.paths q n below.2 ];
    root = dir-high [] h.root;
    parents = λ q name n there. elim (came-over (q ++ name ∷ []) n there) [ inl above ↦ dir-high q (h.parents q name n above) | inr below ↦ parents-low q name n below.1 below.2 ];
    stands = stands-over;
    named = λ label c there. used-at names label (came-label label c there).0;
    dirs = λ q mode there. elim (came-over q (Dir mode) there) [ inl above ↦ h.dirs q mode above | inr below ↦ l.dirs q mode below.2 ];
    files = λ label c there. elim (came-label label c there).1 [ inl above ↦ h.files label c above | inr below ↦ l.files label c below ];
    links = λ q text there. elim (came-over q (Link text) there) [ inl above ↦ h.links q text above | inr below ↦ l.links q text below.2 ];
  }
