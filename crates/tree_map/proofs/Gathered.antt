-- Which names move with a path, as they are gone through in their order.
use Rattle.std.proofs.Common.{◌≡◌, Bool, true, false, ◌&&◌, ◌||◌, cond, List, [], ◌∷◌, ◌++◌, map, Some, Less, refl, sym, ap, subst, ◌∙◌, append-nil}
use Rattle.std.specs.FinMap as fin
use Rattle.std.specs.FinMap.Entries.{where_key}
use Rattle.std.specs.List.{AllByRecursion, list_any}
use Rattle.std.specs.List.Sorted.{IsStrictlySortedBy}
use Rattle.std.specs.Map.{keys_of}
use Rattle.std.specs.Ordering.{is_gt, is_lt}
use Rattle.std.proofs.lemmas.Bool.{true≢false, and_parts}
use Rattle.std.proofs.lemmas.List.Kept.{IsStrictlySortedBy-filter}
use Rattle.std.proofs.lemmas.Map.Keys.{sorted_head, sorted_tail}
use Rattle.br_path.specs.Path.{Names, path_cmp}
use Rattle.br_path.proofs.Paths.{names_decide}
use Rattle.br_path.proofs.PathOrder.{path_total, path_same}
use Rattle.tree_ops.specs.declared.entry.Node.{Node}
use Rattle.tree_ops.specs.Change.{is_below, is_path, is_at_or_below, is_too_long, moved_path}
use Rattle.tree_ops.proofs.Finds.{any-in, in-any, in-find, any-get, get-any}
use Rattle.tree_ops.proofs.Heads.{rows}
use Rattle.tree_ops.proofs.Sound.{same_tests}
use Rattle.tree_map.specs.declared.moving.Move.{Move}
use Rattle.tree_map.specs.NameTable.{NameMap}
use Rattle.tree_map.specs.Moving.{move_of}
use Rattle.tree_map.specs.Parts.{leads_too_far}
use Rattle.tree_map.proofs.Carried.{in-kept, kept-in}
use Rattle.tree_map.proofs.Children.{past, all-past, keys_of-past, is_past, not_true}
use Rattle.tree_map.proofs.Neighbours.{Less-is_below, is_below-between}

-- the moves so far, and what is left
pub record AreGathered (old at : Names) (entries : List (Names × Node)) (moves : List Move) (left : List (Names × Node)) : Type 0 where
  pub listed : moves ++ map (λ entry. move_of old at entry.0) (where_key path_cmp (is_below old) left) ≡ map (λ entry. move_of old at entry.0) (where_key path_cmp (is_below old) entries)
  pub short : list_any (leads_too_far old at) (where_key path_cmp (is_below old) left) ≡ list_any (leads_too_far old at) (where_key path_cmp (is_below old) entries)
  pub past : AllByRecursion (λ e. path_cmp old e.0 ≡ Less) left
  pub rises : IsStrictlySortedBy path_cmp (keys_of left)

module _ (old at : Names) where
  abbrev below : List (Names × Node) → List (Names × Node)
  below es = where_key path_cmp (is_below old) es

  abbrev all_of : List (Names × Node) → List Move
  all_of es = map (λ entry. move_of old at entry.0) es

  below-past : (es : List (Names × Node)) → below (past old es) ≡ below es
  below-past [] = refl
  below-past (e ∷ es) = by (is_past old e.0) refl (below-past es)
    where
      by : (b : Bool) → is_past old e.0 ≡ b → below (past old es) ≡ below es → below (cond b (e ∷ past old es) (past old es)) ≡ below (e ∷ es)
      by true is rest = ap (λ l. cond (is_below old e.0) (e ∷ l) l) rest
      by false is rest = rest ∙ sym (ap (λ b. cond b (e ∷ below es) (below es)) (not_true (is_below old e.0) (λ yes. true≢false (sym (ap (λ r. is_lt r && true) (Less-is_below old e.0 yes)) ∙ is))))

  below-none : (k : Names) → path_cmp old k ≡ Less → is_below old k ≡ false → (es : List (Names × Node)) → AllByRecursion (λ q. path_cmp k q ≡ Less) (keys_of es) → below es ≡ []
  below-none k past other [] all = refl
  below-none k past other (e ∷ es) all =
      ap (λ b. cond b (e ∷ below es) (below es)) (not_true (is_below old e.0) (λ yes. true≢false (sym (is_below-between old k e.0 past (ap is_gt all.0) yes) ∙ other))) ∙ below-none k past other es all.1

  pub gathered-first : (entries : List (Names × Node)) → IsStrictlySortedBy path_cmp (keys_of entries) → AreGathered old at entries [] (past old entries)
  gathered-first entries rises = record {
    listed = ap all_of (below-past entries);
    short = ap (list_any (leads_too_far old at)) (below-past entries);
    past = all-past old entries;
    rises = subst (IsStrictlySortedBy path_cmp) (sym (keys_of-past old entries)) (IsStrictlySortedBy-filter path_cmp (is_past old) (keys_of entries) rises);
  }

  module _ (entries : List (Names × Node)) (moves : List Move) (items left : List (Names × Node)) (e : Names × Node) (so_far : AreGathered old at entries moves items) (is : items ≡ e ∷ left) where
    rest : AreGathered old at entries moves (e ∷ left)
    rest = subst (AreGathered old at entries moves) is so_far

    pub gathered-more : (new : List Move) → is_below old e.0 ≡ true → leads_too_far old at e ≡ false → new ≡ moves ++ move_of old at e.0 ∷ [] → AreGathered old at entries new left
    gathered-more new inside fits pushed = record {
      listed = ap (λ (l : List Move). l ++ all_of (below left)) pushed ∙ rows moves (move_of old at e.0 ∷ []) (all_of (below left))
          ∙ ap (λ b. moves ++ all_of (cond b (e ∷ below left) (below left))) (sym inside) ∙ rest.listed;
      short = ap (λ b. b || list_any (leads_too_far old at) (below left)) (sym fits) ∙ ap (λ b. list_any (leads_too_far old at) (cond b (e ∷ below left) (below left))) (sym inside) ∙ rest.short;
      past = rest.past.1;
      rises = sorted_tail path_cmp e.0 (keys_of left) rest.rises;
    }

    pub gathered-long : is_below old e.0 ≡ true → leads_too_far old at e ≡ true → list_any (leads_too_far old at) (below entries) ≡ true
    gathered-long inside far = sym (ap (λ b. list_any (leads_too_far old at) (cond b (e ∷ below left) (below left))) (sym inside) ∙ rest.short) ∙ ap (λ b. b || list_any (leads_too_far old at) (below left)) far

    none-left : is_below old e.0 ≡ false → below (e ∷ left) ≡ []
    none-left other = ap (λ b. cond b (e ∷ below left) (below left)) other ∙ below-none e.0 rest.past.0 other left (sorted_head path_cmp e.0 (keys_of left) rest.rises)

    pub gathered-past : is_below old e.0 ≡ false → (list_any (leads_too_far old at) (below entries) ≡ false) × (moves ≡ all_of (below entries))
    gathered-past other = (sym rest.short ∙ ap (list_any (leads_too_far old at)) (none-left other), sym (append-nil moves) ∙ ap (λ es. moves ++ all_of es) (sym (none-left other)) ∙ rest.listed)

  pub gathered-all : (entries : List (Names × Node)) (moves : List Move) (items : List (Names × Node)) → AreGathered old at entries moves items → items ≡ []
      → (list_any (leads_too_far old at) (below entries) ≡ false) × (moves ≡ all_of (below entries))
  gathered-all entries moves items so_far is =
      let end = subst (AreGathered old at entries moves) is so_far in (sym end.short, sym (append-nil moves) ∙ end.listed)

  -- a move makes some path too long if it does that of the name itself or of one below it
  pub far-split : (names : NameMap) (node : Node) → fin.get names old ≡ Some node → list_any (leads_too_far old at) (fin.entries names) ≡ (leads_too_far old at (old, node) || list_any (leads_too_far old at) (below (fin.entries names)))
  far-split names node stands = same_tests (list_any (leads_too_far old at) (fin.entries names)) (leads_too_far old at (old, node) || list_any (leads_too_far old at) (below (fin.entries names)))
      (λ some. let found = any-get path_total path_same (leads_too_far old at) names some in on found.0 found.1 found.2 found.3 (is_path old found.0) refl)
      (λ some. back (leads_too_far old at (old, node)) refl some)
    where
      or_true : (a b : Bool) → b ≡ true → (a || b) ≡ true
      or_true true b is = refl
      or_true false b is = is

      on : (k : Names) (v : Node) → fin.get names k ≡ Some v → leads_too_far old at (k, v) ≡ true → (b : Bool) → is_path old k ≡ b → (leads_too_far old at (old, node) || list_any (leads_too_far old at) (below (fin.entries names))) ≡ true
      on k v there far true same =
          let equal : old ≡ k = (names_decide old k).0 same in
          ap (λ b. b || list_any (leads_too_far old at) (below (fin.entries names))) (ap (λ (p : Names). leads_too_far old at (p, v)) equal ∙ far)
      on k v there far false other =
          let inside : is_below old k ≡ true = sym (ap (λ b. b || is_below old k) other) ∙ (and_parts (is_at_or_below old k) (is_too_long (moved_path old at k)) far).0 in
          or_true (leads_too_far old at (old, node)) (list_any (leads_too_far old at) (below (fin.entries names)))
          (any-in (leads_too_far old at) (k, v) (below (fin.entries names)) (in-kept path_cmp (is_below old) (k, v) (fin.entries names) (in-find path_total path_same k v (fin.entries names) (sym (fin.get-entries names k) ∙ there)) inside) far)

      back : (b : Bool) → leads_too_far old at (old, node) ≡ b → (b || list_any (leads_too_far old at) (below (fin.entries names))) ≡ true → list_any (leads_too_far old at) (fin.entries names) ≡ true
      back true far some = get-any path_total path_same (leads_too_far old at) names old node stands far
      back false near some =
          let found = in-any (leads_too_far old at) (below (fin.entries names)) some in
          any-in (leads_too_far old at) found.0 (fin.entries names) (kept-in path_cmp (is_below old) found.0 (fin.entries names) found.1).0 found.2

  -- the name itself leads too far, or one below it, or none of all names
  module _ (names : NameMap) (node : Node) (stands : fin.get names old ≡ Some node) where
    pub far-itself : leads_too_far old at (old, node) ≡ true → list_any (leads_too_far old at) (fin.entries names) ≡ true
    far-itself far = get-any path_total path_same (leads_too_far old at) names old node stands far

    pub far-below : list_any (leads_too_far old at) (below (fin.entries names)) ≡ true → list_any (leads_too_far old at) (fin.entries names) ≡ true
    far-below some = far-split names node stands ∙ right (leads_too_far old at (old, node)) some
      where
        right : {b : Bool} (a : Bool) → b ≡ true → (a || b) ≡ true
        right true is = refl
        right false is = is

    pub far-none : leads_too_far old at (old, node) ≡ false → list_any (leads_too_far old at) (below (fin.entries names)) ≡ false → list_any (leads_too_far old at) (fin.entries names) ≡ false
    far-none near none = far-split names node stands ∙ (λ i. near i || none i)
