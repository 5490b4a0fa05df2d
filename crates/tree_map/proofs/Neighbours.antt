-- What the first entry past a path tells of those below it.
use Rattle.std.proofs.Common.{ℕ, ◌≡◌, false, List, [], ◌∷◌, ◌++◌, Bool, true, Less, refl, sym, ap, subst, ◌∙◌, append-nil, is_some}
use Rattle.std.specs.FinMap as fin
use Rattle.std.specs.Prelude.{IfSome}
use Rattle.std.specs.BTreeMap as tree
use Rattle.std.specs.BTreeMap.{BTreeMap}
use Rattle.std.specs.BTreeMap.Range.{IsRangeOf, IsLeBy, IsEntryInRange}
use Rattle.std.specs.declared.ops.Bound.TheVariants.{Excluded, Unbounded}
use Rattle.std.specs.List.{list_any, slice_get}
use Rattle.std.specs.Ordering.{is_gt, is_lt, ordering_then}
use Rattle.std.specs.Cmp.Lexicographic.{nat_list_cmp_total}
use Rattle.std.proofs.lemmas.Bool.{false≢true}
use Rattle.std.proofs.lemmas.Cmp.{tied_itself}
use Rattle.br_path.specs.Path.{Names, path_cmp, StartsWith}
use Rattle.br_path.proofs.Maps.{get-entries_of}
use Rattle.br_path.proofs.PathOrder.{path_total, path_same, within_between}
use Rattle.tree_ops.specs.Change.{is_below}
use Rattle.tree_ops.proofs.Finds.{any-get, get-any}
use Rattle.tree_ops.proofs.Heads.{rest-of_below, below-of_rest}
use Rattle.tree_ops.proofs.Sound.{same_tests}

-- a path comes before those below it
pub Less-below : (at : Names) (name : List ℕ) (rest : Names) → path_cmp at (at ++ name ∷ rest) ≡ Less
Less-below [] name rest = refl
Less-below (x ∷ at) name rest = ap (λ r. ordering_then r (path_cmp at (at ++ name ∷ rest))) (tied_itself nat_list_cmp_total x) ∙ Less-below at name rest

pub Less-is_below : (at path : Names) → is_below at path ≡ true → path_cmp at path ≡ Less
Less-is_below at path below = let r = rest-of_below at path below in ap (path_cmp at) r.2 ∙ Less-below at r.0 r.1

-- what starts with a path and isn't the path itself, is below it
is_below-starts : (at path : Names) → path_cmp at path ≡ Less → StartsWith path at → is_below at path ≡ true
is_below-starts at path past (rest, is) =
    elim rest as (λ rest. path ≡ at ++ rest → is_below at path ≡ true) [
      | [] ↦ λ is. absurd (false≢true (ap is_lt (sym (tied_itself path_total at) ∙ ap (path_cmp at) (sym (is ∙ append-nil at)) ∙ past)))
      | name ∷ rest ↦ λ is. ap (is_below at) is ∙ below-of_rest at name rest
    ] is

-- what lies past a path and not past another that is below it, is below it too
pub is_below-between : (at between path : Names) → path_cmp at between ≡ Less → IsLeBy path_cmp between path → is_below at path ≡ true → is_below at between ≡ true
is_below-between at between path past upto below =
    let r = rest-of_below at path below in
    is_below-starts at between past (within_between at between (r.0 ∷ r.1) (ap is_gt past) (subst (IsLeBy path_cmp between) r.2 upto))

module _ {X : Type 0} (m : BTreeMap Names X) (at : Names) (part : List (Names × X)) where
  -- whether the map has a key below the path
  abbrev pub has_below : Bool
  has_below = list_any (λ entry. is_below at entry.0) (fin.entries (fin.from_entries {R = path_cmp} m.entries))

  -- a key that a look-up finds, where one is below the path
  found : has_below ≡ true → (q : Names) × IsLeBy path_cmp at q × (path_cmp at q ≡ Less) × (is_some (tree.get path_cmp m q) ≡ true) × (is_below at q ≡ true)
  found some =
      let w = any-get path_total path_same (λ entry. is_below at entry.0) (fin.from_entries {R = path_cmp} m.entries) some in
      let past = Less-is_below at w.0 w.3 in
      (w.0, ap is_gt past, past, ap is_some (sym (get-entries_of path_total m w.0) ∙ w.2), w.3)

  -- if nothing lies past the path, nothing is below it
  pub none_past : IsRangeOf path_cmp (Excluded at) Unbounded m part → part ≡ [] → false ≡ has_below
  none_past range none = same_tests false has_below (λ no. absurd (false≢true no))
      (λ some. let w = found some in absurd (false≢true (sym (ap is_some (range.5 none w.0 (w.2, tt))) ∙ w.3)))

  -- the first past the path is below it if any is
  pub first_past : (k : Names) (v : X) (more : List (Names × X)) → IsRangeOf path_cmp (Excluded at) Unbounded m part → part ≡ (k, v) ∷ more → is_below at k ≡ has_below
  first_past k v more range is =
      let first = subst (λ r. IfSome (slice_get r 0) (IsEntryInRange path_cmp (Excluded at) Unbounded m)) is range.1 in
      same_tests (is_below at k) has_below
      (λ below. get-any path_total path_same (λ entry. is_below at entry.0) (fin.from_entries {R = path_cmp} m.entries) k v (get-entries_of path_total m k ∙ first.1) below)
      (λ some.
      let w = found some in
      let least : IsLeBy path_cmp k w.0 = subst (λ r. IfSome (slice_get r 0) (λ e. IsLeBy path_cmp e.0 w.0)) is (range.2 w.0 (w.2, tt) w.3) in
      is_below-between at k w.0 first.0.0 least w.4)
