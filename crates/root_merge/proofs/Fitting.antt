-- The entries of a union, one after the other, are those of a root.
use Rattle.std.proofs.Common.{ℕ, ◌+◌, ◌-◌, ◌≡◌, ◌≢◌, ◌≤◌, ◌<◌, ◌^◌, ◌⊎◌, inl, inr, Bool, true, false, cond, List, [], ◌∷◌, ◌++◌, length, Option, Some, None, Less, Equal, refl, sym, ap, subst, ◌∙◌, length-append, arith}
use Rattle.std.specs.Prelude.{T, ◌&&◌, ◌||◌, ◌==◌, All}
use Rattle.std.specs.List.{list_any, slice_get}
use Rattle.std.specs.FinMap as fin
use Rattle.std.specs.FinMap.{FinMap, is_sorted}
use Rattle.std.specs.FinMap.Entries.{below_all}
use Rattle.std.specs.Cmp.{Equal-is}
use Rattle.std.specs.Cmp.Lexicographic.{nat_list_cmp_total}
use Rattle.std.specs.Ordering.{eq_by_cmp, is_eq, is_lt, ordering_then, ordering_reverse}
use Rattle.std.proofs.lemmas.Bool.{and_parts, le-leb}
use Rattle.std.proofs.lemmas.Cmp.{tied_itself}
use Rattle.std.proofs.lemmas.List.Elements.{All-head, All-tail}
use Rattle.std.proofs.lemmas.List.Sums.{list_all-from_AllPass}
use Rattle.std.proofs.lemmas.Option.{same_Some}
use Rattle.br_path.specs.Path.{Names, IsPath, path_cmp, parent_of, is_name_byte}
use Rattle.br_path.proofs.PathOrder.{path_total, path_same}
use Rattle.br_path.proofs.Paths.{names_decide}
use Rattle.tree_ops.specs.declared.entry.Contents.{Contents}
use Rattle.tree_ops.specs.declared.entry.Label.{Label}
use Rattle.tree_ops.specs.declared.entry.Node.{Node}
use Rattle.tree_ops.specs.declared.entry.Node.TheVariants.{Dir, Link, File}
use Rattle.tree_ops.specs.Tree.{IsLinkText, label_cmp, is_dir}
use Rattle.tree_ops.proofs.Finds.{In, any-in, in-any, in-find, find-in, is_true}
use Rattle.tree_ops.proofs.Heads.{last_of as split_last, parent_of-last}
use Rattle.tree_ops.proofs.Orders.{label_total}
use Rattle.root_image.specs.declared.root.RootEntry.{RootEntry}
use Rattle.root_image.specs.declared.root.RootEntry.TheVariants as root
use Rattle.root_image.specs.Lines.{Entries}
use Rattle.root_image.specs.Roots.{is_path, is_first, has_dir, has_first, last_of, rises, has_place, is_link_text, IsSaid, Fits, FitEach, IsRoot}
use Rattle.root_image.specs.Roots as image
use Rattle.root_merge.specs.Roots.{Standing, whole_file}
use Rattle.root_merge.specs.Firsts.{Firsts, named_file, node_entry, with_first, firsts_on, entries_on, IsSized}
use Rattle.root_merge.proofs.Members.{in-front, in-back, below-in}
use Rattle.root_merge.proofs.Unions.{IsUnion}

parent-below : (at : Names) (name : List ℕ) → path_cmp at (at ++ name ∷ []) ≡ Less
parent-below [] name = refl
parent-below (x ∷ at) name = ap (λ r. ordering_then r (path_cmp at (at ++ name ∷ []))) (tied_itself nat_list_cmp_total x) ∙ parent-below at name

-- nothing is below the root
none-below : (path : Names) → T (is_lt (path_cmp path [])) → ⊥
none-below [] less = less
none-below (x ∷ xs) less = less

not-below-itself : (path : Names) → T (is_lt (path_cmp path path)) → ⊥
not-below-itself path less = subst (λ r. T (is_lt r)) (tied_itself path_total path) less

-- a parent isn't above what stands in it
parent-not-above : (at : Names) (name : List ℕ) → T (is_lt (path_cmp (at ++ name ∷ []) at)) → ⊥
parent-not-above at name less = subst (λ r. T (is_lt r)) (path_total.antisymm (at ++ name ∷ []) at ∙ ap ordering_reverse (parent-below at name)) less

get-push : (es : Entries) (e : Names × RootEntry) → slice_get (es ++ e ∷ []) (length es) ≡ Some e
get-push [] e = refl
get-push (x ∷ es) e = get-push es e

last-push : (es : Entries) (e : Names × RootEntry) → last_of (es ++ e ∷ []) ≡ Some e
last-push es e =
    let more : length (es ++ e ∷ []) ≡ length es + 1 = length-append es (e ∷ []) in
    let place : length (es ++ e ∷ []) - 1 ≡ length es = omega arith in
    ap (slice_get (es ++ e ∷ [])) place ∙ get-push es e

link-said : (text : List ℕ) → IsLinkText text → is_link_text text ≡ true
link-said text is =
    (λ i. le-leb 1 (length text) is.filled i && le-leb (length text) 1024 is.short i && list_all-from_AllPass (λ byte. byte == 47 || is_name_byte byte) text is.printable i)

whole-is_first : (contents : Option Contents) → is_first (whole_file contents) ≡ true
whole-is_first None = refl
whole-is_first (Some contents) = refl

-- a folder, or a file that stands whole, among entries
dir-in : (past : Entries) (path : Names) (entry : RootEntry) → In (path, entry) past → image.is_dir entry ≡ true → has_dir past path ≡ true
dir-in past path entry there is = any-in (λ e. is_path e.0 path && image.is_dir e.1) (path, entry) past there (λ i. (names_decide path path).1 refl i && is i)

first-in : (past : Entries) (path : Names) (entry : RootEntry) → In (path, entry) past → is_first entry ≡ true → has_first past path ≡ true
first-in past path entry there is = any-in (λ e. is_path e.0 path && is_first e.1) (path, entry) past there (λ i. (names_decide path path).1 refl i && is i)

any-more : (test : Names × RootEntry → Bool) (past : Entries) (e : Names × RootEntry) → list_any test past ≡ true → list_any test (past ++ e ∷ []) ≡ true
any-more test past e is = let found = in-any test past is in any-in test found.0 (past ++ e ∷ []) (in-front found.0 past (e ∷ []) found.1) found.2

entry-dir : (firsts : Firsts) (contents : Option Contents) (node : Node) → is_dir (Some node) ≡ true → image.is_dir (node_entry firsts contents node) ≡ true
entry-dir firsts contents (Dir mode) is = refl
entry-dir firsts contents (Link text) is = cc
entry-dir firsts contents (File label) is = cc

module _ (m : FinMap path_cmp Standing) (union : IsUnion m) where
  abbrev entry_of : Firsts → Names × Standing → RootEntry
  entry_of firsts e = node_entry firsts e.1.contents e.1.node

  -- what is known of the entries so far: all folders that don't come yet are there, and the first names; and what comes is above them
  record Past (firsts : Firsts) (past : Entries) (rest : List (Names × Standing)) : Type 0 where
    folders : (q : Names) (t : Standing) → fin.get m q ≡ Some t → is_dir (Some t.node) ≡ true → In (q, t) rest ⊎ (has_dir past q ≡ true)
    names : (label : Label) (first : Names) → fin.get firsts label ≡ Some first → IsPath first × (has_first past first ≡ true)
    over : (x : Names × Standing) → In x rest → rises (last_of past) x.0 ≡ true
    there : (x : Names × Standing) → In x rest → fin.get m x.0 ≡ Some x.1

  whole-said : (past : Entries) (path : Names) (s : Standing) → fin.get m path ≡ Some s → (contents : Option Contents) → s.contents ≡ contents → IsSized (whole_file contents) → IsSaid past (whole_file contents)
  whole-said past path s there None is sized = (omega arith, sized.0, sized.1)
  whole-said past path s there (Some contents) is sized = let few = union.files path s contents there is in (omega arith, sized.0, sized.1)

  said-file : (firsts : Firsts) (past : Entries) (e : Names × Standing) → fin.get m e.0 ≡ Some e.1 → ((label : Label) (first : Names) → fin.get firsts label ≡ Some first → IsPath first × (has_first past first ≡ true))
      → (label : Label) (o : Option Names) → fin.get firsts label ≡ o → IsSized (named_file o e.1.contents) → IsSaid past (named_file o e.1.contents)
  said-file firsts past e there names label None found sized = whole-said past e.0 e.1 there e.1.contents refl sized
  said-file firsts past e there names label (Some first) found sized = names label first found

  said : (firsts : Firsts) (past : Entries) (e : Names × Standing) → fin.get m e.0 ≡ Some e.1 → ((label : Label) (first : Names) → fin.get firsts label ≡ Some first → IsPath first × (has_first past first ≡ true))
      → (node : Node) → e.1.node ≡ node → IsSized (node_entry firsts e.1.contents node) → IsSaid past (node_entry firsts e.1.contents node)
  said firsts past e there names (Dir mode) is sized = let few = union.dirs e.0 e.1 mode there is in omega arith
  said firsts past e there names (Link text) is sized = link-said text (union.links e.0 e.1 text there is)
  said firsts past e there names (File label) is sized = said-file firsts past e there names label (fin.get firsts label) refl sized

  -- the folder that an entry stands in came before
  place : (firsts : Firsts) (past : Entries) (e : Names × Standing) (rest : List (Names × Standing)) → Past firsts past (e ∷ rest) → T (below_all path_cmp e.0 rest) → (path : Names) → e.0 ≡ path → path ≢ [] → has_place past (parent_of e.0) ≡ true
  place firsts past e rest so_far below [] is away = absurd (away refl)
  place firsts past e rest so_far below (x ∷ xs) is away =
      let split = split_last x xs in
      let same : e.0 ≡ split.0 ++ split.1 ∷ [] = is ∙ split.2 in
      let parent = union.parents split.0 split.1 e.1 (ap (fin.get m) (sym same) ∙ so_far.there e (inl refl)) in
      ap (has_place past) (ap parent_of same ∙ parent_of-last split.0 split.1) ∙ by split.0 split.1 same parent.0 (so_far.folders split.0 parent.0 parent.1 parent.2)
    where
      by : (at : Names) (name : List ℕ) → e.0 ≡ at ++ name ∷ [] → (t : Standing) → In (at, t) (e ∷ rest) ⊎ (has_dir past at ≡ true) → has_dir past at ≡ true
      by at name same t (inr has) = has
      by at name same t (inl (inl it)) =
          let equal : at ++ name ∷ [] ≡ at = sym same ∙ ap (λ (y : Names × Standing). y.0) it in
          let never : Less ≡ Equal = sym (parent-below at name) ∙ ap (path_cmp at) equal ∙ (Equal-is (path_cmp at at)).0 (ap is_eq (tied_itself path_total at)) in
          cc
      by at name same t (inl (inr later)) =
          absurd (parent-not-above at name (subst (λ (p : Names). T (is_lt (path_cmp p at))) same (below-in path_cmp e.0 rest (at, t) below later)))

  fits-next : (firsts : Firsts) (p : Names × RootEntry) (ps : Entries) (e : Names × Standing) (rest : List (Names × Standing)) → Past firsts (p ∷ ps) (e ∷ rest) → T (below_all path_cmp e.0 rest) → e.0 ≢ [] → IsSized (entry_of firsts e)
      → Fits (p ∷ ps) e.0 (entry_of firsts e)
  fits-next firsts p ps e rest so_far below away sized = record {
    legal = union.paths e.0 e.1 (so_far.there e (inl refl));
    stands = (so_far.over e (inl refl), place firsts (p ∷ ps) e rest so_far below e.0 refl away);
    said = said firsts (p ∷ ps) e (so_far.there e (inl refl)) so_far.names e.1.node refl sized;
  }

  -- the first names after one more entry
  names-next : (firsts : Firsts) (past : Entries) (e : Names × Standing) → fin.get m e.0 ≡ Some e.1 → ((label : Label) (first : Names) → fin.get firsts label ≡ Some first → IsPath first × (has_first past first ≡ true))
      → (node : Node) → (label : Label) (first : Names) → fin.get (firsts_on firsts e.0 node) label ≡ Some first
      → IsPath first × (has_first (past ++ (e.0, node_entry firsts e.1.contents node) ∷ []) first ≡ true)
  names-next firsts past e there names node label first = by node
    where
      old : (entry : RootEntry) → fin.get firsts label ≡ Some first → IsPath first × (has_first (past ++ (e.0, entry) ∷ []) first ≡ true)
      old entry is = ((names label first is).0, any-more (λ e. is_path e.0 first && is_first e.1) past (e.0, entry) (names label first is).1)

      put : (own : Label) → (o : Option Names) → fin.get (with_first o own e.0 firsts) label ≡ Some first → IsPath first × (has_first (past ++ (e.0, named_file o e.1.contents) ∷ []) first ≡ true)
      put own (Some other) is = old (root.Same other) is
      put own None is = new (eq_by_cmp label_cmp label own) (sym (fin.get-insert label_total firsts own e.0 label) ∙ is)
        where
          new : (b : Bool) → cond b (Some e.0) (fin.get firsts label) ≡ Some first → IsPath first × (has_first (past ++ (e.0, whole_file e.1.contents) ∷ []) first ≡ true)
          new true is =
              let same : e.0 ≡ first = same_Some _ _ is in
              subst (λ (q : Names). IsPath q × (has_first (past ++ (e.0, whole_file e.1.contents) ∷ []) q ≡ true)) same
              (union.paths e.0 e.1 there, first-in (past ++ (e.0, whole_file e.1.contents) ∷ []) e.0 (whole_file e.1.contents) (in-back (e.0, whole_file e.1.contents) past ((e.0, whole_file e.1.contents) ∷ []) (inl refl)) (whole-is_first e.1.contents))
          new false is = old (whole_file e.1.contents) is

      by : (node : Node) → fin.get (firsts_on firsts e.0 node) label ≡ Some first → IsPath first × (has_first (past ++ (e.0, node_entry firsts e.1.contents node) ∷ []) first ≡ true)
      by (Dir mode) is = old (root.Dir mode) is
      by (Link text) is = old (root.Link text) is
      by (File own) is = put own (fin.get firsts own) is

  next-past : (firsts : Firsts) (past : Entries) (e : Names × Standing) (rest : List (Names × Standing)) → Past firsts past (e ∷ rest) → T (below_all path_cmp e.0 rest) → Past (firsts_on firsts e.0 e.1.node) (past ++ (e.0, entry_of firsts e) ∷ []) rest
  next-past firsts past e rest so_far below = record {
    folders = λ q t is dir. by q t dir (so_far.folders q t is dir);
    names = names-next firsts past e (so_far.there e (inl refl)) so_far.names e.1.node;
    over = λ x later. ap (λ o. rises o x.0) (last-push past (e.0, entry_of firsts e)) ∙ is_true (is_lt (path_cmp e.0 x.0)) (below-in path_cmp e.0 rest x below later);
    there = λ x later. so_far.there x (inr later);
  }
    where
      by : (q : Names) (t : Standing) → is_dir (Some t.node) ≡ true → In (q, t) (e ∷ rest) ⊎ (has_dir past q ≡ true) → In (q, t) rest ⊎ (has_dir (past ++ (e.0, entry_of firsts e) ∷ []) q ≡ true)
      by q t dir (inr has) = inr (any-more (λ e. is_path e.0 q && image.is_dir e.1) past (e.0, entry_of firsts e) has)
      by q t dir (inl (inr later)) = inl later
      by q t dir (inl (inl same)) =
          inr (subst (λ (p : Names). has_dir (past ++ (e.0, entry_of firsts e) ∷ []) p ≡ true) (ap (λ (y : Names × Standing). y.0) same)
          (dir-in (past ++ (e.0, entry_of firsts e) ∷ []) e.0 (entry_of firsts e) (in-back (e.0, entry_of firsts e) past ((e.0, entry_of firsts e) ∷ []) (inl refl))
          (entry-dir firsts e.1.contents e.1.node (ap (λ (y : Names × Standing). is_dir (Some y.1.node)) same ∙ dir))))

  abbrev AreSized : Entries → Type 0
  AreSized entries = All (λ entry. IsSized entry.1) entries

  fit-rest : (firsts : Firsts) (p : Names × RootEntry) (ps : Entries) (rest : List (Names × Standing)) → Past firsts (p ∷ ps) rest → T (is_sorted path_cmp rest) → ((x : Names × Standing) → In x rest → x.0 ≢ []) → AreSized (entries_on firsts rest)
      → FitEach (p ∷ ps) (entries_on firsts rest)
  fit-rest firsts p ps [] so_far sorted away sized = tt
  fit-rest firsts p ps (e ∷ rest) so_far sorted away sized =
      let parts = and_parts (below_all path_cmp e.0 rest) (is_sorted path_cmp rest) (is_true _ sorted) in
      let below = subst T (sym parts.0) tt in
      let later = entries_on (firsts_on firsts e.0 e.1.node) rest in (
        fits-next firsts p ps e rest so_far below (away e (inl refl)) (All-head (λ entry. IsSized entry.1) (e.0, entry_of firsts e) later sized),
        fit-rest (firsts_on firsts e.0 e.1.node) p (ps ++ (e.0, entry_of firsts e) ∷ []) rest (next-past firsts (p ∷ ps) e rest so_far below) (subst T (sym parts.1) tt) (λ x there. away x (inr there))
            (All-tail (λ entry. IsSized entry.1) (e.0, entry_of firsts e) later sized),
      )

  -- the root comes first
  root-first : (e : Names × Standing) (rest : List (Names × Standing)) → T (below_all path_cmp e.0 rest) → (t : Standing) → In ([], t) (e ∷ rest) → e ≡ ([], t)
  root-first e rest below t (inl same) = same
  root-first e rest below t (inr later) = absurd (none-below e.0 (below-in path_cmp e.0 rest ([], t) below later))

  start : (all : List (Names × Standing)) → fin.entries m ≡ all → Past fin.empty [] all
  start all is = record {
    folders = λ q t there dir. inl (subst (In (q, t)) is (in-find path_total path_same q t (fin.entries m) (sym (fin.get-entries m q) ∙ there)));
    names = λ label first there. let none = sym (fin.get-empty label_cmp label) ∙ there in cc;
    over = λ x there. refl;
    there = λ x there. fin.get-entries m x.0 ∙ find-in path_total path_same x (fin.entries m) (fin.entries_sorted m) (subst (In x) (sym is) there);
  }

  fit-all : (all : List (Names × Standing)) → fin.entries m ≡ all → T (is_sorted path_cmp all) → AreSized (entries_on fin.empty all) → FitEach [] (entries_on fin.empty all)
  fit-all [] is sorted sized = tt
  fit-all (e ∷ rest) is sorted sized =
      let parts = and_parts (below_all path_cmp e.0 rest) (is_sorted path_cmp rest) (is_true _ sorted) in
      let below = subst T (sym parts.0) tt in
      let so_far = start (e ∷ rest) is in
      let found = subst (In ([], union.root.0)) is (in-find path_total path_same [] union.root.0 (fin.entries m) (sym (fin.get-entries m []) ∙ union.root.1)) in
      let same = root-first e rest below union.root.0 found in
      let at_root : e.0 ≡ [] = ap (λ (y : Names × Standing). y.0) same in
      let dir : is_dir (Some e.1.node) ≡ true = ap (λ (y : Names × Standing). is_dir (Some y.1.node)) same ∙ union.root.2 in
      let later = entries_on (firsts_on fin.empty e.0 e.1.node) rest in
      let fits : Fits [] e.0 (entry_of fin.empty e) = record {
        legal = union.paths e.0 e.1 (so_far.there e (inl refl));
        stands = (at_root, entry-dir fin.empty e.1.contents e.1.node dir);
        said = said fin.empty [] e (so_far.there e (inl refl)) so_far.names e.1.node refl (All-head (λ entry. IsSized entry.1) (e.0, entry_of fin.empty e) later sized);
      } in (
        fits,
        fit-rest (firsts_on fin.empty e.0 e.1.node) (e.0, entry_of fin.empty e) [] rest (next-past fin.empty [] e rest so_far below) (subst T (sym parts.1) tt)
            (λ x there none. none-below e.0 (subst (λ (p : Names). T (is_lt (path_cmp e.0 p))) none (below-in path_cmp e.0 rest x below there)))
            (All-tail (λ entry. IsSized entry.1) (e.0, entry_of fin.empty e) later sized),
      )

  some-entries : (all : List (Names × Standing)) → fin.entries m ≡ all → 1 ≤ length (entries_on fin.empty all)
  some-entries [] is = absurd (subst (In ([], union.root.0)) is (in-find path_total path_same [] union.root.0 (fin.entries m) (sym (fin.get-entries m []) ∙ union.root.1)))
  some-entries (e ∷ rest) is = omega arith

  -- the entries of a union, whose files have bytes, are those of a root
  pub root-of_union : (entries : Entries) → entries ≡ entries_on fin.empty (fin.entries m) → AreSized entries → length entries < 2 ^ 63 → IsRoot entries
  root-of_union entries is sized few =
      subst IsRoot (sym is) (record {
        filled = some-entries (fin.entries m) refl;
        few = subst (λ (es : Entries). length es < 2 ^ 63) is few;
        each = fit-all (fin.entries m) refl (fin.entries_sorted m) (subst AreSized is sized);
      })
