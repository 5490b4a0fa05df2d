-- The names directly below a path, from the entries past it in their order.
use Rattle.std.proofs.Common.{ℕ, ◌+◌, ◌≡◌, ◌<◌, ◌≤◌, Bool, true, false, ◌&&◌, cond, All, List, [], ◌∷◌, ◌++◌, Option, Some, None, Less, Equal, Greater, Ordering, IsTrue, Result, Ok, Err, length, take, length-append, nat_eq, refl, sym, ap, subst, ◌∙◌, arith, append-nil}
use Rattle.std.specs.Prelude.{IfOk}
use Rattle.std.specs.BTreeMap.Comparable.{le_lt_trans}
use Rattle.std.specs.BTreeMap.Range.{IsLeBy, entries_between, range_contains}
use Rattle.std.specs.declared.ops.Bound.TheVariants.{Excluded, Unbounded}
use Rattle.std.specs.Cmp.Lexicographic.{pointwise}
use Rattle.std.specs.List.{AllByRecursion, filter, filter_map, cons_option}
use Rattle.std.specs.List.Sorted.{IsStrictlySortedBy}
use Rattle.std.specs.Map.{keys_of}
use Rattle.std.specs.Ordering.{is_gt, is_le, is_lt, ordering_reverse}
use Rattle.std.proofs.lemmas.Bool.{false≢true, true≢false}
use Rattle.std.proofs.lemmas.Cmp.{tied_itself, upto as upto_of}
use Rattle.std.proofs.lemmas.List.Elements.{All-nil}
use Rattle.std.proofs.lemmas.List.Kept.{IsStrictlySortedBy-filter}
use Rattle.std.proofs.lemmas.List.Sums.{length-filter, count_by-le-length}
use Rattle.std.proofs.lemmas.Map.Keys.{sorted_head}
use Rattle.std.proofs.Math.Seq.{take-append_seam}
use Rattle.br_path.specs.Path.{Names, IsPath, StartsWith, path_cmp}
use Rattle.br_path.proofs.PathOrder.{path_total, path_cmp-head, within_between}
use Rattle.tree_ops.specs.Tree.{child_name}
use Rattle.tree_ops.specs.Change.{is_below}
use Rattle.tree_ops.proofs.Heads.{rows, rest-of_below}
use Rattle.tree_map.specs.NameTable.{IsBehind}
use Rattle.tree_map.proofs.Below.{listed-more, paths-more}
use Rattle.tree_map.proofs.Neighbours.{Less-is_below, is_below-between}

-- whether a path is past another
abbrev pub is_past : Names → Names → Bool
is_past at = range_contains path_cmp (Excluded at) Unbounded

pub Less-is_past : (r : Ordering) → (is_lt r && true) ≡ true → r ≡ Less
Less-is_past Less is = refl
Less-is_past Equal is = absurd (false≢true is)
Less-is_past Greater is = absurd (false≢true is)

pub not_true : (b : Bool) → (b ≡ true → ⊥) → b ≡ false
not_true true never = absurd (never refl)
not_true false never = refl

-- what stands directly below a path is below it
child-not_below : (at path : Names) → is_below at path ≡ false → child_name at path ≡ None
child-not_below [] [] is = refl
child-not_below [] (x ∷ xs) is = absurd (true≢false is)
child-not_below (n ∷ ns) [] is = refl
child-not_below (n ∷ ns) (x ∷ xs) is = by (pointwise nat_eq n x) (child-not_below ns xs) is
  where
    by : (b : Bool) → (is_below ns xs ≡ false → child_name ns xs ≡ None) → (b && is_below ns xs) ≡ false → cond b (child_name ns xs) None ≡ None
    by true rest is = rest is
    by false rest is = refl

-- and so past it
child-not_past : (at path : Names) → is_past at path ≡ false → child_name at path ≡ None
child-not_past at path is = child-not_below at path (not_true (is_below at path) (λ below. false≢true (sym is ∙ ap (λ r. is_lt r && true) (Less-is_below at path below))))

-- what starts with a head isn't before it
from_head : (head path : Names) → StartsWith path head → IsLeBy path_cmp head path
from_head head path starts = ap (λ (path : Names). is_gt (path_cmp head path)) starts.1 ∙ path_cmp-head head starts.0

-- a path that isn't past another is at most it
upto-not_past : (from path : Names) → is_past from path ≡ false → IsLeBy path_cmp path from
upto-not_past from path is = ap is_gt (path_total.antisymm path from) ∙ by (path_cmp from path) is
  where
    by : (r : Ordering) → (is_lt r && true) ≡ false → is_gt (ordering_reverse r) ≡ false
    by Less is = absurd (true≢false is)
    by Equal is = refl
    by Greater is = refl

not_past-upto : (from path : Names) → IsLeBy path_cmp path from → is_past from path ≡ false
not_past-upto from path is = ap (λ r. is_lt r && true) (path_total.antisymm from path) ∙ by (path_cmp path from) is
  where
    by : (r : Ordering) → is_gt r ≡ false → (is_lt (ordering_reverse r) && true) ≡ false
    by Less is = refl
    by Equal is = refl
    by Greater is = absurd (true≢false is)

-- what comes past one that is at or past a path comes past the path
le_lt : (a b c : Names) → IsLeBy path_cmp a b → path_cmp b c ≡ Less → path_cmp a c ≡ Less
le_lt a b c upto less = le_lt_trans path_total a b c (by (path_cmp a b) upto) less
  where
    by : (r : Ordering) → is_gt r ≡ false → IsTrue (is_le r)
    by Less is = refl
    by Equal is = refl
    by Greater is = absurd (true≢false is)

-- what is past a path is past each before it
past-earlier : (from next path : Names) → IsLeBy path_cmp from next → is_past next path ≡ true → is_past from path ≡ true
past-earlier from next path before is = ap (λ r. is_lt r && true) (le_lt from next path before (Less-is_past (path_cmp next path) is))

upto_trans : (a b c : Names) → IsLeBy path_cmp a b → IsLeBy path_cmp b c → IsLeBy path_cmp a c
upto_trans = upto_of path_total

-- after what stands at or below one child of a path
pub behind-itself : (at path : Names) → is_gt (path_cmp at path) ≡ false → IsBehind at path path
behind-itself at path past = record {
  upto = ap is_gt (tied_itself path_total path);
  past = past;
  skips = λ q after before. absurd (true≢false (sym (ap is_gt (path_total.antisymm q path ∙ ap ordering_reverse after)) ∙ before));
}

child-deep : (at : Names) (name next : List ℕ) (rest : Names) → child_name at (at ++ name ∷ next ∷ rest) ≡ None
child-deep [] name next rest = refl
child-deep (x ∷ at) name next rest = by (pointwise nat_eq x x) (child-deep at name next rest)
  where
    by : (b : Bool) → child_name at (at ++ name ∷ next ∷ rest) ≡ None → cond b (child_name at (at ++ name ∷ next ∷ rest)) None ≡ None
    by true deeper = deeper
    by false deeper = refl

pub behind-child : (at : Names) (name : List ℕ) (rest path head from : Names) → path ≡ at ++ name ∷ rest → head ≡ at ++ name ∷ [] → StartsWith from head → IsLeBy path_cmp path from → IsBehind at path from
behind-child at name rest path head from is here starts upto = record {
  upto = upto;
  past = from_head at from (name ∷ starts.0, starts.1 ∙ ap (λ (h : Names). h ++ starts.0) here ∙ rows at (name ∷ []) starts.0);
  skips = λ q after before.
      let first : is_gt (path_cmp head path) ≡ false = from_head head path (rest, is ∙ sym (ap (λ (h : Names). h ++ rest) here ∙ rows at (name ∷ []) rest)) in
      let tail = within_between head q starts.0 (reaches q after first) (ap (λ (f : Names). is_gt (path_cmp q f)) (sym starts.1) ∙ before) in
      deeper q tail.0 tail.1 after first;
}
  where
    reaches : (q : Names) → path_cmp path q ≡ Less → is_gt (path_cmp head path) ≡ false → is_gt (path_cmp head q) ≡ false
    reaches q after first = upto_trans head path q first (ap is_gt after)

    deeper : (q : Names) (more : Names) → q ≡ head ++ more → path_cmp path q ≡ Less → is_gt (path_cmp head path) ≡ false → child_name at q ≡ None
    deeper q [] same after first =
        let equal : q ≡ head = same ∙ append-nil head in
        absurd (true≢false (sym (ap is_gt (path_total.antisymm head path ∙ ap ordering_reverse (ap (path_cmp path) (sym equal) ∙ after))) ∙ first))
    deeper q (next ∷ more) same after first =
        ap (child_name at) (same ∙ ap (λ (h : Names). h ++ next ∷ more) here ∙ rows at (name ∷ []) (next ∷ more)) ∙ child-deep at name next more

-- the depth of a name directly below a path, and the path of it above one that stands deeper
pub depth-below : (at path names : Names) → names ≡ at → is_below at path ≡ true → length names + 1 ≤ length path
depth-below at path names same below =
    let r = rest-of_below at path below in
    let whole : length path ≡ length (at ++ r.0 ∷ r.1) = ap (length {A = List ℕ}) r.2 in
    let depth : length names ≡ length at = ap (length {A = List ℕ}) same in
    omega (arith, length-append at (r.0 ∷ r.1))

take-head : (at : Names) (name : List ℕ) (rest : Names) → take (length at + 1) (at ++ name ∷ rest) ≡ at ++ name ∷ []
take-head at name rest =
    let depth : length at + 1 ≡ length (at ++ name ∷ []) = sym (length-append at (name ∷ [])) in
    (λ i. take (depth i) (sym (rows at (name ∷ []) rest) i)) ∙ take-append_seam (at ++ name ∷ []) rest

pub behind-greatest : {E : Type 0} (at path names head : Names) → names ≡ at → is_below at path ≡ true → IsPath path → head ≡ take (length names + 1) path → (r : Result Names E) → IfOk r (λ last. StartsWith last head)
    → IfOk r (λ last. (q : Names) → IsPath q → StartsWith q head → IsLeBy path_cmp q last) → IfOk r (IsBehind at path)
behind-greatest at path names head same below legal here (Err fault) starts greatest = tt
behind-greatest at path names head same below legal here (Ok last) starts greatest =
    let r = rest-of_below at path below in
    let top : head ≡ at ++ r.0 ∷ [] = here ∙ (λ i. take (length (same i) + 1) (r.2 i)) ∙ take-head at r.0 r.1 in
    let inside : path ≡ head ++ r.1 = r.2 ∙ sym (ap (λ (h : Names). h ++ r.1) top ∙ rows at (r.0 ∷ []) r.1) in
    behind-child at r.0 r.1 path head last r.2 top starts (greatest path legal (r.1, inside))

-- the entries past a path
abbrev pub past : {X : Type 0} → Names → List (Names × X) → List (Names × X)
past from entries = entries_between path_cmp (Excluded from) Unbounded entries

-- the names that the entries up to a path gave, and what is past it
pub record IsListed {X : Type 0} (at : Names) (entries : List (Names × X)) (below : Names) (from : Names) : Type 0 where
  pub names : below ++ filter_map (λ entry. child_name at entry.0) (past from entries) ≡ filter_map (λ entry. child_name at entry.0) entries
  pub paths : All (λ name. IsPath (at ++ name ∷ [])) below
  pub upto : IsLeBy path_cmp at from

module _ {X : Type 0} where
  pub all-past : (from : Names) (es : List (Names × X)) → AllByRecursion (λ e. path_cmp from e.0 ≡ Less) (past from es)
  all-past from [] = tt
  all-past from (e ∷ es) = by (is_past from e.0) refl (all-past from es)
    where
      by : (b : Bool) → is_past from e.0 ≡ b → AllByRecursion (λ e. path_cmp from e.0 ≡ Less) (past from es) → AllByRecursion (λ e. path_cmp from e.0 ≡ Less) (cond b (e ∷ past from es) (past from es))
      by true is rest = (Less-is_past (path_cmp from e.0) is, rest)
      by false is rest = rest

  pub keys_of-past : (from : Names) (es : List (Names × X)) → keys_of (past from es) ≡ filter (is_past from) (keys_of es)
  keys_of-past from [] = refl
  keys_of-past from (e ∷ es) = by (is_past from e.0) (keys_of-past from es)
    where
      by : (b : Bool) → keys_of (past from es) ≡ filter (is_past from) (keys_of es) → keys_of (cond b (e ∷ past from es) (past from es)) ≡ cond b (e.0 ∷ filter (is_past from) (keys_of es)) (filter (is_past from) (keys_of es))
      by true rest = ap (λ ks. e.0 ∷ ks) rest
      by false rest = rest

  -- what is past a path, of what is past one before it
  past-past : (from next : Names) → IsLeBy path_cmp from next → (es : List (Names × X)) → past next es ≡ past next (past from es)
  past-past from next before [] = refl
  past-past from next before (e ∷ es) = by (is_past next e.0) (is_past from e.0) refl refl (past-past from next before es)
    where
      by : (m n : Bool) → is_past next e.0 ≡ m → is_past from e.0 ≡ n → past next es ≡ past next (past from es) → cond m (e ∷ past next es) (past next es) ≡ past next (cond n (e ∷ past from es) (past from es))
      by true true is was rest = ap (λ l. e ∷ l) rest ∙ sym (ap (λ b. cond b (e ∷ past next (past from es)) (past next (past from es))) is)
      by true false is was rest = absurd (true≢false (sym (past-earlier from next e.0 before is) ∙ was))
      by false true is was rest = rest ∙ sym (ap (λ b. cond b (e ∷ past next (past from es)) (past next (past from es))) is)
      by false false is was rest = rest

module _ {X : Type 0} (at : Names) where
  abbrev child : Names × X → Option (List ℕ)
  child e = child_name at e.0

  -- the entries past a path give the names that all entries give
  listed-past : (es : List (Names × X)) → filter_map child (past at es) ≡ filter_map child es
  listed-past [] = refl
  listed-past (e ∷ es) = by (is_past at e.0) refl (listed-past es)
    where
      by : (b : Bool) → is_past at e.0 ≡ b → filter_map child (past at es) ≡ filter_map child es → filter_map child (cond b (e ∷ past at es) (past at es)) ≡ filter_map child (e ∷ es)
      by true is rest = ap (cons_option (child e)) rest
      by false is rest = rest ∙ ap (λ o. cons_option o (filter_map child es)) (sym (child-not_past at e.0 is))

  -- past one that isn't below a path, nothing is
  listed-none : (k : Names) → path_cmp at k ≡ Less → is_below at k ≡ false → (es : List (Names × X)) → AllByRecursion (λ q. path_cmp k q ≡ Less) (keys_of es) → filter_map child es ≡ []
  listed-none k past other [] all = refl
  listed-none k past other (e ∷ es) all =
      let none = child-not_below at e.0 (not_true (is_below at e.0) (λ below. true≢false (sym (is_below-between at k e.0 past (ap is_gt all.0) below) ∙ other))) in
      ap (λ o. cons_option o (filter_map child es)) none ∙ listed-none k past other es all.1

  -- what is passed over gives no name
  skipped : (path next : Names) → IsBehind at path next → (es : List (Names × X)) → AllByRecursion (λ q. path_cmp path q ≡ Less) (keys_of es) → filter_map child (past next es) ≡ filter_map child es
  skipped path next behind [] all = refl
  skipped path next behind (e ∷ es) all = by (is_past next e.0) refl (skipped path next behind es all.1)
    where
      by : (b : Bool) → is_past next e.0 ≡ b → filter_map child (past next es) ≡ filter_map child es → filter_map child (cond b (e ∷ past next es) (past next es)) ≡ filter_map child (e ∷ es)
      by true is rest = ap (cons_option (child e)) rest
      by false is rest = rest ∙ ap (λ o. cons_option o (filter_map child es)) (sym (behind.skips e.0 all.0 (upto-not_past next e.0 is)))

  -- as the first entry past the path comes
  pub listed-first : (entries : List (Names × X)) → IsListed at entries [] at
  listed-first entries = record { names = listed-past entries; paths = All-nil (λ (name : List ℕ). IsPath (at ++ name ∷ [])); upto = ap is_gt (tied_itself path_total at) }

  module _ (entries : List (Names × X)) (below : Names) (from : Names) (left : List (Names × X)) (e : Names × X) (rises : IsStrictlySortedBy path_cmp (keys_of entries)) (is : past from entries ≡ e ∷ left) where
    after : path_cmp from e.0 ≡ Less
    after = let all = subst (AllByRecursion (λ e. path_cmp from e.0 ≡ Less)) is (all-past from entries) in all.0

    later : AllByRecursion (λ q. path_cmp e.0 q ≡ Less) (keys_of left)
    later =
        let sorted = subst (IsStrictlySortedBy path_cmp) (sym (keys_of-past from entries) ∙ ap keys_of is) (IsStrictlySortedBy-filter path_cmp (is_past from) (keys_of entries) rises) in
        sorted_head path_cmp e.0 (keys_of left) sorted

    -- what is left after an entry, and after a path that follows it
    next-left : (next : Names) → IsBehind at e.0 next → past next entries ≡ past next left
    next-left next behind =
        past-past from next (upto_trans from e.0 next (ap is_gt after) behind.upto) entries ∙ ap (past next) is
        ∙ ap (λ b. cond b (e ∷ past next left) (past next left)) (not_past-upto next e.0 behind.upto)

    next-names : (next : Names) → IsBehind at e.0 next → filter_map child (past next entries) ≡ filter_map child left
    next-names next behind = ap (filter_map child) (next-left next behind) ∙ skipped e.0 next behind left later

    pub listed-shorter : (next : Names) → IsBehind at e.0 next → length (past next entries) < length (past from entries)
    listed-shorter next behind =
        let all : length (past from entries) ≡ length (e ∷ left) = ap length is in
        let rest : length (past next entries) ≡ length (past next left) = ap length (next-left next behind) in
        omega (arith, length-filter (λ e. is_past next e.0) left, count_by-le-length (λ e. is_past next e.0) left)

    module _ (so_far : IsListed at entries below from) where
      -- an entry that stands directly below the path
      pub listed-child : (new : Names) (name copy : List ℕ) (next : Names) → child_name at e.0 ≡ Some name → IsPath (at ++ name ∷ []) → copy ≡ name → new ≡ below ++ copy ∷ [] → IsBehind at e.0 next → IsListed at entries new next
      listed-child new name copy next found legal same pushed behind = record {
        names = ap (λ (l : Names). new ++ l) (next-names next behind) ∙ listed-more child below new (past from entries) left e name copy _ so_far.names is found same pushed;
        paths = paths-more (λ (name : List ℕ). IsPath (at ++ name ∷ [])) below new name copy so_far.paths legal same pushed;
        upto = behind.past;
      }

      -- and one that stands deeper
      pub listed-deeper : (next : Names) → child_name at e.0 ≡ None → IsBehind at e.0 next → IsListed at entries below next
      listed-deeper next none behind = record {
        names = ap (λ (l : Names). below ++ l) (next-names next behind ∙ sym (ap (filter_map child) is ∙ ap (λ o. cons_option o (filter_map child left)) none)) ∙ so_far.names;
        paths = so_far.paths;
        upto = behind.past;
      }

      -- the first that isn't below the path ends them
      pub listed-past_all : is_below at e.0 ≡ false → below ≡ filter_map (λ entry. child_name at entry.0) entries
      listed-past_all other =
          let here : path_cmp at e.0 ≡ Less = le_lt at from e.0 so_far.upto after in
          let none = ap (filter_map child) is ∙ ap (λ o. cons_option o (filter_map child left)) (child-not_below at e.0 other) ∙ listed-none e.0 here other left later in
          sym (append-nil below) ∙ ap (λ (l : Names). below ++ l) (sym none) ∙ so_far.names

  -- and so does the last
  pub listed-all : (entries : List (Names × X)) (below from : Names) → IsListed at entries below from → past from entries ≡ [] → below ≡ filter_map (λ entry. child_name at entry.0) entries
  listed-all entries below from so_far is = sym (append-nil below) ∙ ap (λ (l : Names). below ++ l) (sym (ap (filter_map child) is)) ∙ so_far.names
