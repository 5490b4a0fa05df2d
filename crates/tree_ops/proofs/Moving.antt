-- Trees after a remove or a move.
use Rattle.std.proofs.Common.{ℕ, ◌≤◌, ◌≡◌, ◌⊎◌, inl, inr, Bool, true, false, cond, List, [], ◌∷◌, ◌++◌, length, drop, Option, Some, None, refl, sym, ap, subst, ◌∙◌, arith, length-append}
use Rattle.std.specs.Prelude.{All}
use Rattle.std.specs.FinMap as fin
use Rattle.std.specs.FinMap.{FinMap}
use Rattle.std.proofs.lemmas.Bool.{true≢false}
use Rattle.std.proofs.lemmas.List.{append-nil}
use Rattle.std.proofs.lemmas.List.Elements.{All-append, All-drop}
use Rattle.std.proofs.lemmas.Option.{same_Some}
use Rattle.std.proofs.Math.Seq.{drop-append_seam}
use Rattle.br_path.specs.Path.{Names, IsPath, IsName, path_cmp, parent_of, rooted_text}
use Rattle.br_path.proofs.PathOrder.{path_total, path_same}
use Rattle.tree_ops.specs.declared.entry.Label.{Label}
use Rattle.tree_ops.specs.declared.entry.Contents.{Contents}
use Rattle.tree_ops.specs.declared.entry.Node.{Node}
use Rattle.tree_ops.specs.declared.entry.Node.TheVariants.{Dir, Link, File}
use Rattle.tree_ops.specs.Tree.{Tree, node_at, is_dir, is_used}
use Rattle.tree_ops.specs.Change.{dropped_unused, label_of, moved, moved_path, is_at_or_below}
use Rattle.tree_ops.proofs.Orders.{label_total, label_same}
use Rattle.tree_ops.proofs.Finds.{get-removed, get-left, is_key, get-moved, moved-get}
use Rattle.tree_ops.proofs.Heads.{rows, last_of, parent_of-last, rest-of_head, head-of_rest, moved_path-below, moved_path-other, path_text-rooted}
use Rattle.tree_ops.proofs.Sound.{IsSound, used-at, at-used}
use Rattle.tree_ops.proofs.Growing.{dir_there}

-- labels where names may have gone with one label
module _ (tree : Tree) (sound : IsSound tree) (names : FinMap path_cmp Node) (gone : Option Label)
    (came : (q : Names) (label : Label) → fin.get names q ≡ Some (File label) → (p : Names) × (node_at tree p ≡ Some (File label)))
    (stay : (p : Names) (label : Label) → node_at tree p ≡ Some (File label) → ((q : Names) × (fin.get names q ≡ Some (File label))) ⊎ (gone ≡ Some label)) where
  pub left-sub : (g : Option Label) (label : Label) (contents : Contents) → fin.get (dropped_unused names g tree.labels) label ≡ Some contents → fin.get tree.labels label ≡ Some contents
  left-sub None label contents is = is
  left-sub (Some l) label contents is = by (is_used names l) is
    where
      by : (b : Bool) → fin.get (cond b tree.labels (fin.remove tree.labels l)) label ≡ Some contents → fin.get tree.labels label ≡ Some contents
      by true is = is
      by false is = (get-removed label_total label_same tree.labels l label contents is).0

  left-stands : (g : Option Label) (q : Names) (label : Label) → fin.get names q ≡ Some (File label) → (contents : Contents) × (fin.get (dropped_unused names g tree.labels) label ≡ Some contents)
  left-stands None q label there = let from = came q label there in sound.stands from.0 label from.1
  left-stands (Some l) q label there = by (sound.stands (came q label there).0 label (came q label there).1) (is_used names l) refl
    where
      by : ((contents : Contents) × (fin.get tree.labels label ≡ Some contents)) → (b : Bool) → is_used names l ≡ b
          → (contents : Contents) × (fin.get (cond b tree.labels (fin.remove tree.labels l)) label ≡ Some contents)
      by c true is = c
      by c false is = (c.0, get-left label_total label_same tree.labels l label (λ same. true≢false (sym (at-used names l q (there ∙ ap (λ (l : Label). Some (File l)) same)) ∙ is)) ∙ c.1)

  left-named : (label : Label) (contents : Contents) → fin.get (dropped_unused names gone tree.labels) label ≡ Some contents → (q : Names) × (fin.get names q ≡ Some (File label))
  left-named label contents is =
      let from = sound.named label contents (left-sub gone label contents is) in
      elim (stay from.0 label from.1) [ inl q ↦ q | inr went ↦ by went (is_used names label) refl (ap (λ g. fin.get (dropped_unused names g tree.labels) label) (sym went) ∙ is) ]
    where
      by : gone ≡ Some label → (b : Bool) → is_used names label ≡ b → fin.get (cond b tree.labels (fin.remove tree.labels label)) label ≡ Some contents → (q : Names) × (fin.get names q ≡ Some (File label))
      by went true used is = used-at names label used
      by went false used is = absurd ((get-removed label_total label_same tree.labels label label contents is).1 refl)

-- a name is taken away, below which nothing stands
module _ (tree : Tree) (sound : IsSound tree) (at : Names) (not_root : at ≡ [] → ⊥) (bare : (name : List ℕ) (rest : Names) (node : Node) → node_at tree (at ++ name ∷ rest) ≡ Some node → ⊥) where
  abbrev names_left : FinMap path_cmp Node
  names_left = fin.remove tree.names at

  abbrev pub without : Tree
  without = record { names = names_left; labels = dropped_unused names_left (label_of (node_at tree at)) tree.labels }

  was-left : (q : Names) (n : Node) → node_at without q ≡ Some n → (node_at tree q ≡ Some n) × (q ≡ at → ⊥)
  was-left q n there = get-removed path_total path_same tree.names at q n there

  dir-left : (q : Names) → (q ≡ at → ⊥) → is_dir (node_at tree q) ≡ true → is_dir (node_at without q) ≡ true
  dir-left q apart is = ap is_dir (get-left path_total path_same tree.names at q apart) ∙ is

  came-left : (q : Names) (label : Label) → fin.get names_left q ≡ Some (File label) → (p : Names) × (node_at tree p ≡ Some (File label))
  came-left q label there = (q, (was-left q (File label) there).0)

  stay-left : (p : Names) (label : Label) → node_at tree p ≡ Some (File label) → ((q : Names) × (fin.get names_left q ≡ Some (File label))) ⊎ (label_of (node_at tree at) ≡ Some label)
  stay-left p label there = elim (is_key path_total path_same p at) [
    | inl same ↦ inr (ap label_of (ap (node_at tree) (sym same) ∙ there))
    | inr apart ↦ inl (p, get-left path_total path_same tree.names at p apart ∙ there)
  ]

  pub sound-without : IsSound without
  sound-without = record {
    paths = λ q n there. sound.paths q n (was-left q n there).0;
    root = dir-left [] (λ same. not_root (sym same)) sound.root;
    parents = λ q name n there.
        dir-left q (λ same. bare name [] n (ap (λ (q : Names). node_at tree (q ++ name ∷ [])) (sym same) ∙ (was-left (q ++ name ∷ []) n there).0))
        (sound.parents q name n (was-left (q ++ name ∷ []) n there).0);
    stands = left-stands tree sound names_left (label_of (node_at tree at)) came-left stay-left (label_of (node_at tree at));
    named = left-named tree sound names_left (label_of (node_at tree at)) came-left stay-left;
    dirs = λ q mode there. sound.dirs q mode (was-left q (Dir mode) there).0;
    files = λ label contents is. sound.files label contents (left-sub tree sound names_left (label_of (node_at tree at)) came-left stay-left (label_of (node_at tree at)) label contents is);
    links = λ q text there. sound.links q text (was-left q (Link text) there).0;
  }

-- the root stands below no other path
root_other : (old : Names) → (old ≡ [] → ⊥) → is_at_or_below old [] ≡ false
root_other [] other = absurd (other refl)
root_other (o ∷ old) other = refl

module _ (tree : Tree) (old at : Names) where
  -- what a move wants
  pub record IsMove : Type 0 where
    pub not_root : old ≡ [] → ⊥
    pub not_to_root : at ≡ [] → ⊥
    pub outside : is_at_or_below old at ≡ false
    pub folder : (front : Names) (last : List ℕ) → at ≡ front ++ last ∷ [] → is_dir (node_at tree front) ≡ true
    pub bare : (name : List ℕ) (rest : Names) (node : Node) → node_at tree (at ++ name ∷ rest) ≡ Some node → ⊥
    pub short : (p : Names) (node : Node) → node_at tree p ≡ Some node → is_at_or_below old p ≡ true → length (rooted_text (moved_path old at p)) ≤ 1024

  abbrev pub after_move : Tree
  after_move = record { names = moved tree.names old at; labels = dropped_unused (moved tree.names old at) (label_of (node_at tree at)) tree.labels }

  module _ (sound : IsSound tree) (move : IsMove) where
    -- a path at or below old isn't at
    pub apart-old : (rest : Names) → old ++ rest ≡ at → ⊥
    apart-old rest same = true≢false (sym (head-of_rest old rest) ∙ ap (is_at_or_below old) same ∙ move.outside)

    pub not_at : (rest p : Names) (n : Node) → node_at tree p ≡ Some n → (p ≡ at → ⊥) → at ++ rest ≡ p → ⊥
    not_at [] p n there apart same = apart (sym same ∙ append-nil at)
    not_at (name ∷ rest) p n there apart same = move.bare name rest n (ap (node_at tree) same ∙ there)

    -- no two names that stand lead to one path
    one : (a b : Names) (x y : Node) → fin.get (fin.remove tree.names at) a ≡ Some x → fin.get (fin.remove tree.names at) b ≡ Some y → moved_path old at a ≡ moved_path old at b → a ≡ b
    one a b x y first second same =
        let at_a = get-removed path_total path_same tree.names at a x first in
        let at_b = get-removed path_total path_same tree.names at b y second in
        by at_a at_b (is_at_or_below old a) (is_at_or_below old b) refl refl
      where
        by : ((node_at tree a ≡ Some x) × (a ≡ at → ⊥)) → ((node_at tree b ≡ Some y) × (b ≡ at → ⊥)) → (m n : Bool) → is_at_or_below old a ≡ m → is_at_or_below old b ≡ n → a ≡ b
        by at_a at_b true true below_a below_b =
            let r = rest-of_head old a below_a in
            let s = rest-of_head old b below_b in
            let ends : at ++ r.0 ≡ at ++ s.0 = sym (ap (moved_path old at) r.1 ∙ moved_path-below old at r.0) ∙ same ∙ (ap (moved_path old at) s.1 ∙ moved_path-below old at s.0) in
            let rests : r.0 ≡ s.0 = sym (drop-append_seam at r.0) ∙ ap (drop (length at)) ends ∙ drop-append_seam at s.0 in
            r.1 ∙ ap (λ (l : Names). old ++ l) rests ∙ sym s.1
        by at_a at_b true false below_a below_b =
            let r = rest-of_head old a below_a in
            absurd (not_at r.0 b y at_b.0 at_b.1 (sym (ap (moved_path old at) r.1 ∙ moved_path-below old at r.0) ∙ same ∙ moved_path-other old at b below_b))
        by at_a at_b false true below_a below_b =
            let s = rest-of_head old b below_b in
            absurd (not_at s.0 a x at_a.0 at_a.1 (sym (ap (moved_path old at) s.1 ∙ moved_path-below old at s.0) ∙ sym same ∙ moved_path-other old at a below_a))
        by at_a at_b false false below_a below_b = sym (moved_path-other old at a below_a) ∙ same ∙ moved_path-other old at b below_b

    pub stay-moved : (p : Names) (n : Node) → node_at tree p ≡ Some n → (p ≡ at → ⊥) → node_at after_move (moved_path old at p) ≡ Some n
    stay-moved p n there apart = moved-get path_total path_same (moved_path old at) (fin.remove tree.names at) p n one (get-left path_total path_same tree.names at p apart ∙ there)

    pub came-moved : (q : Names) (n : Node) → node_at after_move q ≡ Some n → (p : Names) × (node_at tree p ≡ Some n) × (p ≡ at → ⊥) × (moved_path old at p ≡ q)
    came-moved q n there =
        let from = get-moved path_total path_same (moved_path old at) (fin.remove tree.names at) q n there in
        let left = get-removed path_total path_same tree.names at from.0 n from.1 in
        (from.0, left.0, left.1, from.2)

    dir-moved : (p : Names) → is_dir (node_at tree p) ≡ true → (p ≡ at → ⊥) → is_dir (node_at after_move (moved_path old at p)) ≡ true
    dir-moved p is apart = let there = dir_there (node_at tree p) is in ap is_dir (stay-moved p there.0 there.1 apart ∙ sym there.1) ∙ is

    -- a folder that isn't moved
    dir-unmoved : (p : Names) → is_dir (node_at tree p) ≡ true → (p ≡ at → ⊥) → is_at_or_below old p ≡ false → is_dir (node_at after_move p) ≡ true
    dir-unmoved p is apart other = ap (λ (q : Names). is_dir (node_at after_move q)) (sym (moved_path-other old at p other)) ∙ dir-moved p is apart

    other_above : (q : Names) (name : List ℕ) → is_at_or_below old (q ++ name ∷ []) ≡ false → is_at_or_below old q ≡ false
    other_above q name other = by (is_at_or_below old q) refl
      where
        by : (b : Bool) → is_at_or_below old q ≡ b → is_at_or_below old q ≡ false
        by true is = let r = rest-of_head old q is in
            absurd (true≢false (sym (head-of_rest old (r.0 ++ name ∷ [])) ∙ ap (is_at_or_below old) (sym (ap (λ (q : Names). q ++ name ∷ []) r.1 ∙ rows old r.0 (name ∷ []))) ∙ other))
        by false is = is

    longer : (q : Names) (name : List ℕ) → q ≡ q ++ name ∷ [] → ⊥
    longer q name same = let lengths : length q ≡ length (q ++ name ∷ []) = ap (length {A = List ℕ}) same in absurd (omega (arith, length-append q (name ∷ [])))

    parents-moved : (q : Names) (name : List ℕ) (n : Node) (p : Names) → node_at tree p ≡ Some n → (p ≡ at → ⊥) → moved_path old at p ≡ q ++ name ∷ [] → is_dir (node_at after_move q) ≡ true
    parents-moved q name n p there apart leads = by (is_at_or_below old p) refl
      where
        inside : (rest : Names) → p ≡ old ++ rest → is_dir (node_at after_move q) ≡ true
        inside [] is =
            let top : at ≡ q ++ name ∷ [] = sym (append-nil at) ∙ sym (moved_path-below old at []) ∙ ap (moved_path old at) (sym is) ∙ leads in
            dir-unmoved q (move.folder q name top) (λ same. longer q name (same ∙ top)) (other_above q name (ap (is_at_or_below old) (sym top) ∙ move.outside))
        inside (r ∷ rest) is =
            let split = last_of r rest in
            let below : p ≡ (old ++ split.0) ++ split.1 ∷ [] = is ∙ ap (λ (l : Names). old ++ l) split.2 ∙ sym (rows old split.0 (split.1 ∷ [])) in
            let ends : (at ++ split.0) ++ split.1 ∷ [] ≡ q ++ name ∷ [] = rows at split.0 (split.1 ∷ []) ∙ ap (λ (l : Names). at ++ l) (sym split.2) ∙ sym (moved_path-below old at (r ∷ rest)) ∙ ap (moved_path old at) (sym is) ∙ leads in
            let same : at ++ split.0 ≡ q = same_Some _ _ (sym (parent_of-last (at ++ split.0) split.1) ∙ ap parent_of ends ∙ parent_of-last q name) in
            ap (λ (q : Names). is_dir (node_at after_move q)) (sym same ∙ sym (moved_path-below old at split.0))
            ∙ dir-moved (old ++ split.0) (sound.parents (old ++ split.0) split.1 n (ap (node_at tree) (sym below) ∙ there)) (apart-old split.0)

        by : (b : Bool) → is_at_or_below old p ≡ b → is_dir (node_at after_move q) ≡ true
        by true is = let r = rest-of_head old p is in inside r.0 r.1
        by false is =
            let same : p ≡ q ++ name ∷ [] = sym (moved_path-other old at p is) ∙ leads in
            dir-unmoved q (sound.parents q name n (ap (node_at tree) (sym same) ∙ there))
            (λ equal. move.bare name [] n (ap (λ (q : Names). node_at tree (q ++ name ∷ [])) (sym equal) ∙ ap (node_at tree) (sym same) ∙ there))
            (other_above q name (ap (is_at_or_below old) (sym same) ∙ is))

    paths-moved : IsPath at → (p : Names) (n : Node) → node_at tree p ≡ Some n → IsPath (moved_path old at p)
    paths-moved legal p n there = by (is_at_or_below old p) refl
      where
        by : (b : Bool) → is_at_or_below old p ≡ b → IsPath (moved_path old at p)
        by true is =
            let r = rest-of_head old p is in
            let ends : moved_path old at p ≡ at ++ r.0 = ap (moved_path old at) r.1 ∙ moved_path-below old at r.0 in
            let tail : All IsName r.0 = subst (All IsName) (ap (drop (length old)) r.1 ∙ drop-append_seam old r.0) (All-drop IsName (length old) p (sound.paths p n there).legal) in
            record {
              legal = subst (All IsName) (sym ends) (All-append IsName at r.0 legal.legal tail);
              short = omega (arith, move.short p n there is, path_text-rooted (moved_path old at p));
            }
        by false is = subst IsPath (sym (moved_path-other old at p is)) (sound.paths p n there)

    came-file : (q : Names) (label : Label) → fin.get (moved tree.names old at) q ≡ Some (File label) → (p : Names) × (node_at tree p ≡ Some (File label))
    came-file q label there = let from = came-moved q (File label) there in (from.0, from.1)

    stay-file : (p : Names) (label : Label) → node_at tree p ≡ Some (File label) → ((q : Names) × (fin.get (moved tree.names old at) q ≡ Some (File label))) ⊎ (label_of (node_at tree at) ≡ Some label)
    stay-file p label there = elim (is_key path_total path_same p at) [
      | inl same ↦ inr (ap label_of (ap (node_at tree) (sym same) ∙ there))
      | inr apart ↦ inl (moved_path old at p, stay-moved p (File label) there apart)
    ]

    -- a label that is left stands for what it stood for
    pub labels-moved : (label : Label) (contents : Contents) → fin.get after_move.labels label ≡ Some contents → fin.get tree.labels label ≡ Some contents
    labels-moved = left-sub tree sound (moved tree.names old at) (label_of (node_at tree at)) came-file stay-file (label_of (node_at tree at))

    pub sound-moved : IsPath at → IsSound after_move
    sound-moved legal = record {
      paths = λ q n there. let from = came-moved q n there in subst IsPath from.3 (paths-moved legal from.0 n from.1);
      root = dir-unmoved [] sound.root (λ same. move.not_to_root (sym same)) (root_other old move.not_root);
      parents = λ q name n there. let from = came-moved (q ++ name ∷ []) n there in parents-moved q name n from.0 from.1 from.2 from.3;
      stands = left-stands tree sound (moved tree.names old at) (label_of (node_at tree at)) came-file stay-file (label_of (node_at tree at));
      named = left-named tree sound (moved tree.names old at) (label_of (node_at tree at)) came-file stay-file;
      dirs = λ q mode there. let from = came-moved q (Dir mode) there in sound.dirs from.0 mode from.1;
      files = λ label contents is. sound.files label contents (labels-moved label contents is);
      links = λ q text there. let from = came-moved q (Link text) there in sound.links from.0 text from.1;
    }
