-- How many names there are after a move, and how long their texts.
use Rattle.std.proofs.Common.{ℕ, ◌+◌, ◌*◌, ◌≡◌, Bool, true, false, cond, ◌||◌, ◌&&◌, not, List, [], ◌∷◌, ◌++◌, map, length, drop, Option, Some, None, Ordering, is_some, refl, sym, ap, subst, ◌∙◌, arith, append-nil, zero-add, ◌-◌, nat_eq, inl, inr, Less, Equal, Greater}
use Rattle.std.specs.Prelude.{T}
use Rattle.std.specs.Cmp.{IsTotalOrder, Equal-is}
use Rattle.std.specs.Cmp.Lexicographic.{pointwise}
use Rattle.std.specs.FinMap as fin
use Rattle.std.specs.FinMap.{IsAntisymmetric, find, is_sorted}
use Rattle.std.specs.FinMap.Entries.{where_key, below_all}
use Rattle.std.specs.List.{sum_by, count_by}
use Rattle.std.specs.Ordering.{eq_by_cmp, is_eq, is_lt}
use Rattle.std.proofs.lemmas.Bool.{true≢false, and_parts}
use Rattle.std.proofs.lemmas.List.{nil_from_length}
use Rattle.std.proofs.lemmas.List.Sums.{sum_by-cons}
use Rattle.std.proofs.lemmas.Option.{same_Some}
use Rattle.std.proofs.Math.Seq.{drop-append_seam}
use Rattle.br_path.specs.Path.{Names, path_cmp, rooted_text}
use Rattle.br_path.proofs.PathOrder.{path_total, path_same}
use Rattle.tree_ops.specs.declared.entry.Node.{Node}
use Rattle.tree_ops.specs.Tree.{Tree}
use Rattle.tree_ops.specs.Pen.{Counts}
use Rattle.tree_ops.specs.Change.{is_below, is_at_or_below, moved, moved_path, recounted, counted_anew, text_bytes}
use Rattle.tree_ops.proofs.Counts.{insert-remove, get-remove_same}
use Rattle.tree_ops.proofs.Finds.{In, find-in, get-removed, at_moved}
use Rattle.tree_ops.proofs.Heads.{rest-of_head, head-of_rest, moved_path-below, moved_path-other}
use Rattle.tree_ops.proofs.Inserts.{sum_by-entries_insert, len-insert_new}
use Rattle.tree_map.specs.NameTable.{NameMap}
use Rattle.tree_map.proofs.Listed.{entries-removed, path_tests}
use Rattle.tree_map.proofs.Moves.{rooted-append}

module _ {K X : Type 0} {R : K → K → Ordering} (o : IsTotalOrder R) (same : IsAntisymmetric R) where
  -- no key stands twice
  AreApart : List (K × X) → Type 0
  AreApart [] = Unit {0}
  AreApart (e ∷ es) = (find R e.0 es ≡ None) × AreApart es

  -- the map of entries with different keys has as many
  len-from_entries : (es : List (K × X)) → AreApart es → fin.len (fin.from_entries {R = R} es) ≡ length es
  unfolding AreApart
  len-from_entries [] apart = fin.len-empty R X
  len-from_entries (e ∷ es) apart = len-insert_new o (fin.from_entries es) e.0 e.1 (fin.get-from_entries o es e.0 ∙ apart.0) ∙ more (len-from_entries es apart.1)
    where
      more : fin.len (fin.from_entries {R = R} es) ≡ length es → fin.len (fin.from_entries {R = R} es) + 1 ≡ length (e ∷ es)
      more is = omega arith

  -- and the same sums
  sum_by-from_entries : (f : K × X → ℕ) (es : List (K × X)) → AreApart es → sum_by f (fin.entries (fin.from_entries {R = R} es)) ≡ sum_by f es
  unfolding AreApart
  sum_by-from_entries f [] apart = ap (sum_by f) no_entries
    where
      no_entries : fin.entries (fin.empty {X = X} {R = R}) ≡ []
      no_entries = nil_from_length _ (sym (fin.len-entries fin.empty) ∙ fin.len-empty R X)
  sum_by-from_entries f (e ∷ es) apart =
      sum_by-entries_insert o f (fin.from_entries es) e.0 e.1 (fin.get-from_entries o es e.0 ∙ apart.0) ∙ ap (λ n. f e + n) (sum_by-from_entries f es apart.1) ∙ sym (sum_by-cons f e es)

  find-below : (k : K) (es : List (K × X)) → T (below_all R k es) → find R k es ≡ None
  find-below k [] below = refl
  find-below k (e ∷ es) below =
      let parts = and_parts (is_lt (R k e.0)) (below_all R k es) (is_true _ below) in
      by (R k e.0) parts.0 ∙ find-below k es (subst T (sym parts.1) tt)
    where
      is_true : (b : Bool) → T b → b ≡ true
      is_true true t = refl
      is_true false t = absurd t

      by : (r : Ordering) → is_lt r ≡ true → cond (is_eq r) (Some e.1) (find R k es) ≡ find R k es
      by r less = ap (λ b. cond b (Some e.1) (find R k es)) (other r less)
        where
          other : (r : Ordering) → is_lt r ≡ true → is_eq r ≡ false
          other Less is = refl
          other Equal is = absurd (true≢false (sym is))
          other Greater is = refl

  -- what stands where entries lead, came from one of them
  moved-find : (f : K → K) (q : K) (v : X) (es : List (K × X)) → find R q (at_moved o same f es) ≡ Some v → (k : K) × In (k, v) es × (f k ≡ q)
  moved-find f q v [] is = cc
  moved-find f q v (e ∷ es) is = by (moved-find f q v es) (eq_by_cmp R q (f e.0)) refl is
    where
      by : (find R q (at_moved o same f es) ≡ Some v → (k : K) × In (k, v) es × (f k ≡ q)) → (b : Bool) → eq_by_cmp R q (f e.0) ≡ b → cond b (Some e.1) (find R q (at_moved o same f es)) ≡ Some v → (k : K) × In (k, v) (e ∷ es) × (f k ≡ q)
      by rest true tied is = (e.0, inl (λ i. (e.0, same_Some e.1 v is i)), sym (same q (f e.0) ((Equal-is (R q (f e.0))).0 tied)))
      by rest false other is = ((rest is).0, inr (rest is).1, (rest is).2)

  -- keys of a sorted list that lead to different places
  apart-moved : (f : K → K) (es : List (K × X)) → T (is_sorted R es) → ((a b : K) (x y : X) → In (a, x) es → In (b, y) es → f a ≡ f b → a ≡ b) → AreApart (at_moved o same f es)
  unfolding AreApart
  apart-moved f [] sorted one = tt
  apart-moved f (e ∷ es) sorted one =
      let parts = and_parts (below_all R e.0 es) (is_sorted R es) (is_true _ sorted) in
      (first (subst T (sym parts.0) tt) (subst T (sym parts.1) tt) (find R (f e.0) (at_moved o same f es)) refl, apart-moved f es (subst T (sym parts.1) tt) (λ a b x y i j. one a b x y (inr i) (inr j)))
    where
      is_true : (b : Bool) → T b → b ≡ true
      is_true true t = refl
      is_true false t = absurd t

      first : T (below_all R e.0 es) → T (is_sorted R es) → (found : Option X) → find R (f e.0) (at_moved o same f es) ≡ found → found ≡ None
      first below rest None is = refl
      first below rest (Some v) is =
          let from = moved-find f (f e.0) v es is in
          let equal : from.0 ≡ e.0 = one from.0 e.0 v e.1 (inr from.1) (inl refl) from.2 in
          let none : find R from.0 es ≡ None = ap (λ (k : K). find R k es) equal ∙ find-below e.0 es below in
          absurd (some_none (sym (find-in o same (from.0, v) es rest from.1) ∙ none))
        where
          some_none : Some v ≡ None → ⊥
          some_none is = cc

-- counts and sums of lists
count-kept : (p : Names → Bool) (es : List (Names × Node)) → length (where_key path_cmp p es) ≡ count_by (λ e. p e.0) es
count-kept p [] = refl
count-kept p (e ∷ es) = by (p e.0) (count-kept p es) ∙ sym (sum_by-cons (λ e. cond (p e.0) 1 0) e es)
  where
    by : (b : Bool) → length (where_key path_cmp p es) ≡ count_by (λ e. p e.0) es → length (cond b (e ∷ where_key path_cmp p es) (where_key path_cmp p es)) ≡ cond b 1 0 + count_by (λ e. p e.0) es
    by true is = omega arith
    by false is = omega arith

abbrev led : (Names → Names) → List (Names × Node) → List (Names × Node)
led g es = map (λ e. (g e.0, e.1)) es

sum_by-moved : (f : Names → ℕ) (g : Names → Names) (es : List (Names × Node)) → sum_by (λ e. f e.0) (led g es) ≡ sum_by (λ e. f (g e.0)) es
sum_by-moved f g [] = refl
sum_by-moved f g (e ∷ es) =
    sum_by-cons (λ (e : Names × Node). f e.0) (g e.0, e.1) (led g es) ∙ ap (λ n. f (g e.0) + n) (sum_by-moved f g es) ∙ sym (sum_by-cons (λ (e : Names × Node). f (g e.0)) e es)

length-moved : (g : Names → Names) (es : List (Names × Node)) → length (led g es) ≡ length es
length-moved g [] = refl
length-moved g (e ∷ es) = omega (arith, length-moved g es)

abbrev pub text : Names → ℕ
text names = length (rooted_text names)

-- each name that moves has the new head's bytes in place of the old one's
text-moved : (old at path : Names) → text (moved_path old at path) + cond (is_at_or_below old path) 1 0 * text old ≡ text path + cond (is_at_or_below old path) 1 0 * text at
text-moved old at path = by (is_at_or_below old path) refl
  where
    by : (b : Bool) → is_at_or_below old path ≡ b → text (moved_path old at path) + cond b 1 0 * text old ≡ text path + cond b 1 0 * text at
    by true is =
        let r = rest-of_head old path is in
        let whole : text path ≡ text old + text r.0 = ap text r.1 ∙ rooted-append old r.0 in
        let ends : text (moved_path old at path) ≡ text at + text r.0 = ap text (ap (moved_path old at) r.1 ∙ moved_path-below old at r.0) ∙ rooted-append at r.0 in
        omega arith
    by false is = let stays : text (moved_path old at path) ≡ text path = ap text (moved_path-other old at path is) in omega arith

texts-moved : (old at : Names) (es : List (Names × Node))
    → sum_by (λ e. text (moved_path old at e.0)) es + count_by (λ e. is_at_or_below old e.0) es * text old ≡ sum_by (λ e. text e.0) es + count_by (λ e. is_at_or_below old e.0) es * text at
texts-moved old at [] = omega arith
texts-moved old at (e ∷ es) =
    let one = sum_by-cons (λ (e : Names × Node). text (moved_path old at e.0)) e es in
    let two = sum_by-cons (λ (e : Names × Node). cond (is_at_or_below old e.0) 1 0) e es in
    let two_old = ap (λ n. n * text old) two in
    let two_at = ap (λ n. n * text at) two in
    let three = sum_by-cons (λ (e : Names × Node). text e.0) e es in
    let first = text-moved old at e.0 in
    let rest = texts-moved old at es in
    omega arith

module _ (names : NameMap) (old at : Names) (apart : is_at_or_below old at ≡ false)
    (bare : (name : List ℕ) (rest : Names) (node : Node) → fin.get names (at ++ name ∷ rest) ≡ Some node → ⊥) where
  abbrev left : NameMap
  left = fin.remove names at

  -- no two names lead to one path
  not_to : (rest p : Names) (n : Node) → fin.get names p ≡ Some n → (p ≡ at → ⊥) → at ++ rest ≡ p → ⊥
  not_to [] p n there other same = other (sym same ∙ append-nil at)
  not_to (name ∷ rest) p n there other same = bare name rest n (ap (fin.get names) same ∙ there)

  one_place : (a b : Names) (x y : Node) → In (a, x) (fin.entries left) → In (b, y) (fin.entries left) → moved_path old at a ≡ moved_path old at b → a ≡ b
  one_place a b x y i j same = by (is_at_or_below old a) (is_at_or_below old b) refl refl
    where
      at_a : (fin.get names a ≡ Some x) × (a ≡ at → ⊥)
      at_a = get-removed path_total path_same names at a x (fin.get-entries left a ∙ find-in path_total path_same (a, x) (fin.entries left) (fin.entries_sorted left) i)

      at_b : (fin.get names b ≡ Some y) × (b ≡ at → ⊥)
      at_b = get-removed path_total path_same names at b y (fin.get-entries left b ∙ find-in path_total path_same (b, y) (fin.entries left) (fin.entries_sorted left) j)

      by : (m n : Bool) → is_at_or_below old a ≡ m → is_at_or_below old b ≡ n → a ≡ b
      by true true below_a below_b =
          let r = rest-of_head old a below_a in
          let s = rest-of_head old b below_b in
          let ends : at ++ r.0 ≡ at ++ s.0 = sym (ap (moved_path old at) r.1 ∙ moved_path-below old at r.0) ∙ same ∙ (ap (moved_path old at) s.1 ∙ moved_path-below old at s.0) in
          let rests : r.0 ≡ s.0 = sym (drop-append_seam at r.0) ∙ ap (drop (length at)) ends ∙ drop-append_seam at s.0 in
          r.1 ∙ ap (λ (l : Names). old ++ l) rests ∙ sym s.1
      by true false below_a below_b =
          let r = rest-of_head old a below_a in
          let b_is = at_b in
          absurd (not_to r.0 b y b_is.0 b_is.1 (sym (ap (moved_path old at) r.1 ∙ moved_path-below old at r.0) ∙ same ∙ moved_path-other old at b below_b))
      by false true below_a below_b =
          let s = rest-of_head old b below_b in
          let a_is = at_a in
          absurd (not_to s.0 a x a_is.0 a_is.1 (sym (ap (moved_path old at) s.1 ∙ moved_path-below old at s.0) ∙ sym same ∙ moved_path-other old at a below_a))
      by false false below_a below_b = sym (moved_path-other old at a below_a) ∙ same ∙ moved_path-other old at b below_b

  abbrev moving : List (Names × Node)
  moving = led (moved_path old at) (fin.entries left)

  moving-apart : AreApart path_total path_same moving
  moving-apart = apart-moved path_total path_same (moved_path old at) (fin.entries left) (fin.entries_sorted left) one_place

  count : ℕ
  count = count_by (λ e. is_at_or_below old e.0) (fin.entries left)

  len-moved : fin.len (moved names old at) ≡ fin.len left
  len-moved = len-from_entries path_total path_same moving moving-apart ∙ length-moved (moved_path old at) (fin.entries left) ∙ sym (fin.len-entries left)

  text-all : sum_by (λ e. text e.0) (fin.entries (moved names old at)) ≡ sum_by (λ e. text (moved_path old at e.0)) (fin.entries left)
  text-all = sum_by-from_entries path_total path_same (λ e. text e.0) moving moving-apart ∙ sum_by-moved text (moved_path old at) (fin.entries left)

  -- what stood at the place
  abbrev replaced : ℕ
  replaced = cond (is_some (fin.get names at)) 1 0

  remove-none : fin.get names at ≡ None → left ≡ names
  remove-none none = fin.same_map path_total path_same _ _ (λ q. fin.get-remove path_total names at q ∙ by q (eq_by_cmp path_cmp q at) refl)
    where
      by : (q : Names) (b : Bool) → eq_by_cmp path_cmp q at ≡ b → cond b None (fin.get names q) ≡ fin.get names q
      by q true is = sym (ap (fin.get names) (path_same q at ((Equal-is (path_cmp q at)).0 is)) ∙ none)
      by q false is = refl

  -- a sum over all names, with what stood at the place apart
  sum-left : (f : Names → ℕ) → sum_by (λ e. f e.0) (fin.entries names) ≡ replaced * f at + sum_by (λ e. f e.0) (fin.entries left)
  sum-left f = by (fin.get names at) refl
    where
      by : (o : Option Node) → fin.get names at ≡ o → sum_by (λ e. f e.0) (fin.entries names) ≡ cond (is_some o) 1 0 * f at + sum_by (λ e. f e.0) (fin.entries left)
      by None none = let same = ap (λ (m : NameMap). sum_by (λ e. f e.0) (fin.entries m)) (remove-none none) in omega arith
      by (Some node) there =
          let whole = ap (λ (m : NameMap). sum_by (λ e. f e.0) (fin.entries m)) (sym (insert-remove path_total path_same names at node there))
          ∙ sum_by-entries_insert path_total (λ e. f e.0) left at node (get-remove_same path_total path_same names at) in
          omega arith

  len-left : fin.len names ≡ replaced + fin.len left
  len-left = by (fin.get names at) refl
    where
      by : (o : Option Node) → fin.get names at ≡ o → fin.len names ≡ cond (is_some o) 1 0 + fin.len left
      by None none = let same = ap (λ (m : NameMap). fin.len m) (remove-none none) in omega arith
      by (Some node) there =
          let whole = ap (λ (m : NameMap). fin.len m) (sym (insert-remove path_total path_same names at node there)) ∙ len-insert_new path_total left at node (get-remove_same path_total path_same names at) in
          omega arith

  -- how many names move: the name itself, and those below it
  module _ (node : Node) (stands : fin.get names old ≡ Some node) where
    same-below : (es : List (Names × Node)) → count_by (λ e. is_at_or_below old e.0) (where_key path_cmp (λ x. not (eq_by_cmp path_cmp old x)) es) ≡ count_by (λ e. is_below old e.0) (where_key path_cmp (λ x. not (eq_by_cmp path_cmp old x)) es)
    same-below [] = refl
    same-below (e ∷ es) = by (eq_by_cmp path_cmp old e.0) refl (same-below es)
      where
        rest : List (Names × Node)
        rest = where_key path_cmp (λ x. not (eq_by_cmp path_cmp old x)) es

        by : (b : Bool) → eq_by_cmp path_cmp old e.0 ≡ b → count_by (λ e. is_at_or_below old e.0) (where_key path_cmp (λ x. not (eq_by_cmp path_cmp old x)) es) ≡ count_by (λ e. is_below old e.0) (where_key path_cmp (λ x. not (eq_by_cmp path_cmp old x)) es)
            → count_by (λ e. is_at_or_below old e.0) (cond (not b) (e ∷ where_key path_cmp (λ x. not (eq_by_cmp path_cmp old x)) es) (where_key path_cmp (λ x. not (eq_by_cmp path_cmp old x)) es))
            ≡ count_by (λ e. is_below old e.0) (cond (not b) (e ∷ where_key path_cmp (λ x. not (eq_by_cmp path_cmp old x)) es) (where_key path_cmp (λ x. not (eq_by_cmp path_cmp old x)) es))
        by true is deeper = deeper
        by false is deeper =
            sum_by-cons (λ e. cond (is_at_or_below old e.0) 1 0) e (where_key path_cmp (λ x. not (eq_by_cmp path_cmp old x)) es)
            ∙ (λ i. cond ((path_tests old e.0 ∙ is) i || is_below old e.0) 1 0 + deeper i)
            ∙ sym (sum_by-cons (λ e. cond (is_below old e.0) 1 0) e (where_key path_cmp (λ x. not (eq_by_cmp path_cmp old x)) es))

    count-all : count_by (λ e. is_at_or_below old e.0) (fin.entries names) ≡ 1 + length (where_key path_cmp (is_below old) (fin.entries names))
    count-all =
        let kept = fin.remove names old in
        let back : fin.insert kept old node ≡ names = insert-remove path_total path_same names old node stands in
        let gone = get-remove_same path_total path_same names old in
        let first = ap (λ (m : NameMap). count_by (λ e. is_at_or_below old e.0) (fin.entries m)) (sym back) ∙ sum_by-entries_insert path_total (λ e. cond (is_at_or_below old e.0) 1 0) kept old node gone in
        let second = ap (λ (m : NameMap). count_by (λ e. is_below old e.0) (fin.entries m)) (sym back) ∙ sum_by-entries_insert path_total (λ e. cond (is_below old e.0) 1 0) kept old node gone in
        let equal = ap (count_by (λ e. is_at_or_below old e.0)) (entries-removed path_total path_same names old) ∙ same-below (fin.entries names) ∙ sym (ap (count_by (λ e. is_below old e.0)) (entries-removed path_total path_same names old)) in
        first ∙ (λ i. cond (itself i) 1 0 + equal i) ∙ ap (λ n. 1 + n) (sym (second ∙ ap (λ b. cond b 1 0 + count_by (λ e. is_below old e.0) (fin.entries kept)) (not_below old) ∙ zero-add (count_by (λ e. is_below old e.0) (fin.entries kept))) ∙ sym (count-kept (is_below old) (fin.entries names)))
      where
        itself : is_at_or_below old old ≡ true
        itself = ap (is_at_or_below old) (sym (append-nil old)) ∙ head-of_rest old []

        not_below : (p : Names) → is_below p p ≡ false
        not_below [] = refl
        not_below (x ∷ xs) = by (pointwise nat_eq x x) (not_below xs)
          where
            by : (b : Bool) → is_below xs xs ≡ false → (b && is_below xs xs) ≡ false
            by true is = is
            by false is = refl

    count-left : count_by (λ e. is_at_or_below old e.0) (fin.entries left) ≡ 1 + length (where_key path_cmp (is_below old) (fin.entries names))
    count-left =
        let all = count-all in
        let parted : count_by (λ e. is_at_or_below old e.0) (fin.entries names) ≡ replaced * 0 + count_by (λ e. is_at_or_below old e.0) (fin.entries left) =
        sum-left (λ p. cond (is_at_or_below old p) 1 0) ∙ ap (λ b. replaced * cond b 1 0 + count_by (λ e. is_at_or_below old e.0) (fin.entries left)) apart in
        omega arith

    pub counted-moved : (pen : Counts) (was new : Tree) → was.names ≡ names → new.names ≡ moved names old at
        → let moves = 1 + length (where_key path_cmp (is_below old) (fin.entries names)) in counted_anew pen (moves + replaced, moves * text old + replaced * text at) (moves, moves * text at) ≡ recounted pen was new
    counted-moved pen was new before after =
        let moves : ℕ = 1 + length (where_key path_cmp (is_below old) (fin.entries names)) in
        let n = count-left in
        let len : fin.len new.names ≡ fin.len left = ap (λ (m : NameMap). fin.len m) after ∙ len-moved in
        let was_len : fin.len was.names ≡ replaced + fin.len left = ap (λ (m : NameMap). fin.len m) before ∙ len-left in
        let texts : text_bytes new ≡ sum_by (λ e. text (moved_path old at e.0)) (fin.entries left) = ap (λ (m : NameMap). sum_by (λ e. text e.0) (fin.entries m)) after ∙ text-all in
        let was_texts : text_bytes was ≡ replaced * text at + sum_by (λ e. text e.0) (fin.entries left) = ap (λ (m : NameMap). sum_by (λ e. text e.0) (fin.entries m)) before ∙ sum-left text in
        let shift : sum_by (λ e. text (moved_path old at e.0)) (fin.entries left) + moves * text old ≡ sum_by (λ e. text e.0) (fin.entries left) + moves * text at =
        ap (λ m. sum_by (λ e. text (moved_path old at e.0)) (fin.entries left) + m * text old) (sym n) ∙ texts-moved old at (fin.entries left) ∙ ap (λ m. sum_by (λ e. text e.0) (fin.entries left) + m * text at) n in
        let first : pen.names + moves - (moves + replaced) ≡ pen.names + fin.len new.names - fin.len was.names = omega arith in
        let second : pen.path_bytes + moves * text at - (moves * text old + replaced * text at) ≡ pen.path_bytes + text_bytes new - text_bytes was = omega arith in
        λ i. record pen { names = first i; path_bytes = second i }
