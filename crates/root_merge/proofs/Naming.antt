-- The first names so far tell where a file stands whole.
use Rattle.std.proofs.Common.{◌≡◌, inl, inr, Bool, true, false, cond, List, [], ◌∷◌, ◌++◌, map, Option, Some, None, refl, sym, ap, subst, ◌∙◌}
use Rattle.std.specs.Prelude.{T}
use Rattle.std.specs.FinMap as fin
use Rattle.std.specs.FinMap.{is_sorted}
use Rattle.std.specs.FinMap.Entries.{below_all}
use Rattle.std.specs.Option.{unwrap_or}
use Rattle.std.specs.Cmp.{Equal-is}
use Rattle.std.specs.Ordering.{is_lt}
use Rattle.std.proofs.lemmas.Bool.{and_parts}
use Rattle.std.proofs.lemmas.Cmp.{tied_itself}
use Rattle.std.proofs.lemmas.Option.{same_Some}
use Rattle.br_path.specs.Path.{Names, path_cmp}
use Rattle.br_path.proofs.PathOrder.{path_total}
use Rattle.br_path.proofs.Paths.{names_decide}
use Rattle.tree_ops.specs.declared.entry.Label.{Label}
use Rattle.tree_ops.specs.declared.entry.Node.{Node}
use Rattle.tree_ops.specs.declared.entry.Node.TheVariants.{Dir, Link, File}
use Rattle.tree_ops.specs.Change.{is_path}
use Rattle.tree_ops.specs.Tree.{has_label, label_cmp}
use Rattle.tree_ops.proofs.Finds.{In, is_true}
use Rattle.tree_ops.proofs.Heads.{rows}
use Rattle.tree_ops.proofs.Orders.{label_total, label_same, eq_by_cmp-label_cmp}
use Rattle.tree_ops.proofs.Sound.{is-has_label}
use Rattle.root_image.specs.declared.root.RootEntry.TheVariants as root
use Rattle.root_image.specs.Lines.{Entries}
use Rattle.root_merge.specs.Roots.{Standing, first_name, whole_file, file_entry, root_entry, entries_among}
use Rattle.root_merge.specs.Firsts.{Firsts, named_file, node_entry, with_first, firsts_on, entries_on}
use Rattle.root_merge.proofs.Members.{in-append, below-in}

-- the first where there is one, else the second
abbrev pub older : Option Names → Option Names → Option Names
older None new = new
older (Some old) new = Some old

same_label : (a b : Label) → has_label a (File b) ≡ true → a ≡ b
same_label a b same = label_same a b ((Equal-is (label_cmp a b)).0 (eq_by_cmp-label_cmp a b ∙ same))

-- the first path so far with a label
abbrev pub first_in : Label → List (Names × Standing) → Option Names
first_in label [] = None
first_in label (entry ∷ entries) = cond (has_label label entry.1.node) (Some entry.0) (first_in label entries)

first_name-split : (label : Label) (done rest : List (Names × Standing)) (path : Names) → first_name label (done ++ rest) path ≡ unwrap_or (first_in label done) (first_name label rest path)
first_name-split label [] rest path = refl
first_name-split label (e ∷ done) rest path = by (has_label label e.1.node) (first_name-split label done rest path)
  where
    by : (b : Bool) → first_name label (done ++ rest) path ≡ unwrap_or (first_in label done) (first_name label rest path)
        → cond b e.0 (first_name label (done ++ rest) path) ≡ unwrap_or (cond b (Some e.0) (first_in label done)) (first_name label rest path)
    by true deeper = refl
    by false deeper = deeper

first_in-push : (label : Label) (done : List (Names × Standing)) (e : Names × Standing) → first_in label (done ++ e ∷ []) ≡ older (first_in label done) (cond (has_label label e.1.node) (Some e.0) None)
first_in-push label [] e = refl
first_in-push label (d ∷ done) e = by (has_label label d.1.node) (first_in-push label done e)
  where
    by : (b : Bool) → first_in label (done ++ e ∷ []) ≡ older (first_in label done) (cond (has_label label e.1.node) (Some e.0) None)
        → cond b (Some d.0) (first_in label (done ++ e ∷ [])) ≡ older (cond b (Some d.0) (first_in label done)) (cond (has_label label e.1.node) (Some e.0) None)
    by true deeper = refl
    by false deeper = deeper

first_in-member : (label : Label) (done : List (Names × Standing)) (first : Names) → first_in label done ≡ Some first → (s : Standing) × In (first, s) done
first_in-member label [] first is = cc
first_in-member label (e ∷ done) first is = by (has_label label e.1.node) (first_in-member label done first) is
  where
    by : (b : Bool) → (first_in label done ≡ Some first → (s : Standing) × In (first, s) done) → cond b (Some e.0) (first_in label done) ≡ Some first → (s : Standing) × In (first, s) (e ∷ done)
    by true deeper is = let same : e.0 ≡ first = same_Some _ _ is in (e.1, inl (λ i. (same i, e.1)))
    by false deeper is = let found = deeper is in (found.0, inr found.1)

-- the entries of the paths that are left, by the first names so far
module _ (all : List (Names × Standing)) where
  abbrev those : List (Names × Standing) → Entries
  those rest = map (λ entry. (entry.0, root_entry all entry.0 entry.1.contents entry.1.node)) rest

  said : (firsts : Firsts) (done rest : List (Names × Standing)) (e : Names × Standing) → done ++ e ∷ rest ≡ all → ((label : Label) → fin.get firsts label ≡ first_in label done)
      → ((d : Names × Standing) → In d done → is_path e.0 d.0 ≡ false) → (node : Node) → e.1.node ≡ node → node_entry firsts e.1.contents node ≡ root_entry all e.0 e.1.contents node
  said firsts done rest e whole told apart (Dir mode) is = refl
  said firsts done rest e whole told apart (Link text) is = refl
  said firsts done rest e whole told apart (File label) is =
      ap (λ o. named_file o e.1.contents) (told label) ∙ by (first_in label done) refl
      ∙ ap (λ (first : Names). file_entry e.0 first e.1.contents) (sym (first_name-split label done (e ∷ rest) e.0) ∙ ap (λ (l : List (Names × Standing)). first_name label l e.0) whole)
    where
      here : first_name label (e ∷ rest) e.0 ≡ e.0
      here = ap (λ (node : Node). cond (has_label label node) e.0 (first_name label rest e.0)) is ∙ ap (λ b. cond b e.0 (first_name label rest e.0)) (is-has_label label)

      by : (o : Option Names) → first_in label done ≡ o → named_file o e.1.contents ≡ file_entry e.0 (unwrap_or o (first_name label (e ∷ rest) e.0)) e.1.contents
      by None found = ap (λ b. cond b (whole_file e.1.contents) (root.Same e.0)) (sym ((names_decide e.0 e.0).1 refl)) ∙ ap (λ (first : Names). file_entry e.0 first e.1.contents) (sym here)
      by (Some first) found =
          let member = first_in-member label done first found in
          ap (λ b. cond b (whole_file e.1.contents) (root.Same first)) (sym (apart (first, member.0) member.1))

  -- the first names after one entry more
  told_on : (firsts : Firsts) (done : List (Names × Standing)) (e : Names × Standing) → ((label : Label) → fin.get firsts label ≡ first_in label done) → (label : Label) → fin.get (firsts_on firsts e.0 e.1.node) label ≡ first_in label (done ++ e ∷ [])
  told_on firsts done e told label = by e.1.node refl ∙ sym (first_in-push label done e)
    where
      same_older : (o : Option Names) → o ≡ older o None
      same_older None = refl
      same_older (Some x) = refl

      put : (own : Label) (o : Option Names) → first_in own done ≡ o → fin.get (with_first o own e.0 firsts) label ≡ older (first_in label done) (cond (has_label label (File own)) (Some e.0) None)
      put own None found = fin.get-insert label_total firsts own e.0 label ∙ ap (λ b. cond b (Some e.0) (fin.get firsts label)) (eq_by_cmp-label_cmp label own) ∙ ap (cond (has_label label (File own)) (Some e.0)) (told label) ∙ new (has_label label (File own)) refl
        where
          new : (b : Bool) → has_label label (File own) ≡ b → cond b (Some e.0) (first_in label done) ≡ older (first_in label done) (cond b (Some e.0) None)
          new true same = ap (λ o. older o (Some e.0)) (sym (ap (λ (l : Label). first_in l done) (same_label label own same) ∙ found))
          new false other = same_older (first_in label done)
      put own (Some first) found = told label ∙ old (has_label label (File own)) refl
        where
          old : (b : Bool) → has_label label (File own) ≡ b → first_in label done ≡ older (first_in label done) (cond b (Some e.0) None)
          old true same = let is = ap (λ (l : Label). first_in l done) (same_label label own same) ∙ found in is ∙ ap (λ o. older o (Some e.0)) (sym is)
          old false other = same_older (first_in label done)

      by : (node : Node) → e.1.node ≡ node → fin.get (firsts_on firsts e.0 node) label ≡ older (first_in label done) (cond (has_label label node) (Some e.0) None)
      by (Dir mode) is = told label ∙ same_older (first_in label done)
      by (Link text) is = told label ∙ same_older (first_in label done)
      by (File own) is = ap (λ o. fin.get (with_first o own e.0 firsts) label) (told own) ∙ put own (first_in own done) refl

  named : (firsts : Firsts) (done rest : List (Names × Standing)) → done ++ rest ≡ all → ((label : Label) → fin.get firsts label ≡ first_in label done)
      → ((d e : Names × Standing) → In d done → In e rest → is_path e.0 d.0 ≡ false) → T (is_sorted path_cmp rest) → entries_on firsts rest ≡ those rest
  named firsts done [] whole told apart rises = refl
  named firsts done (e ∷ rest) whole told apart rises =
      let parts = and_parts (below_all path_cmp e.0 rest) (is_sorted path_cmp rest) (is_true _ rises) in
      let first = said firsts done rest e whole told (λ d there. apart d e there (inl refl)) e.1.node refl in
      let more = named (firsts_on firsts e.0 e.1.node) (done ++ e ∷ []) rest (rows done (e ∷ []) rest ∙ whole) (told_on firsts done e told)
      (λ d x there later. elim (in-append d done (e ∷ []) there) [ inl front ↦ apart d x front (inr later) | inr back ↦ past d x back (below-in path_cmp e.0 rest x (subst T (sym parts.0) tt) later) ])
      (subst T (sym parts.1) tt) in
      λ i. (e.0, first i) ∷ more i
    where
      past : (d x : Names × Standing) → In d (e ∷ []) → T (is_lt (path_cmp e.0 x.0)) → is_path x.0 d.0 ≡ false
      past d x (inl same) less = by (is_path x.0 d.0) refl
        where
          by : (b : Bool) → is_path x.0 d.0 ≡ b → is_path x.0 d.0 ≡ false
          by true tied =
              let equal : x.0 ≡ e.0 = (names_decide x.0 d.0).0 tied ∙ ap (λ (y : Names × Standing). y.0) (sym same) in
              absurd (subst T (ap (λ (p : Names). is_lt (path_cmp e.0 p)) equal ∙ ap is_lt (tied_itself path_total e.0)) less)
          by false other = other
      past d x (inr none) less = absurd none

-- one entry after the other gives the entries of a root
pub entries-named : (all : List (Names × Standing)) → T (is_sorted path_cmp all) → entries_on fin.empty all ≡ entries_among all
entries-named all rises = named all fin.empty [] all refl (λ label. fin.get-empty label_cmp label) (λ d e none there. absurd none) rises
