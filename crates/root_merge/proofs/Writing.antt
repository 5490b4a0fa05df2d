-- A make that is written into the map of the code.
use Rattle.std.proofs.Common.{ℕ, ◌≡◌, cond, List, [], ◌∷◌, Option, Some, None, sym, ap, ◌∙◌}
use Rattle.std.specs.Prelude.{is_some, IsSome, unwrap_or}
use Rattle.std.specs.BTreeMap as tree
use Rattle.std.specs.BTreeMap.{BTreeMap, is_at, UpdatesBy}
use Rattle.std.specs.FinMap as fin
use Rattle.br_path.specs.Path.{Names, path_cmp}
use Rattle.br_path.proofs.Maps.{get-entries_of, map-insert}
use Rattle.br_path.proofs.PathOrder.{path_total, path_same}
use Rattle.root_merge.specs.Found.{Makes, with_make, noted}

noted-is : (m n : BTreeMap Names (List ℕ)) (makes : Makes) (make : ℕ) (path : Names) (found : Option (List ℕ)) (new : List ℕ) → fin.from_entries {R = path_cmp} m.entries ≡ makes → tree.get path_cmp m path ≡ found
    → new ≡ with_make make (unwrap_or found []) → ((q : Names) → tree.get path_cmp n q ≡ cond (is_at (path_cmp path) q) (Some new) (tree.get path_cmp m q)) → fin.from_entries {R = path_cmp} n.entries ≡ noted make path makes
noted-is m n makes make path found new shown there is updates =
    map-insert path_total path_same m n path new updates
    ∙ ap (fin.insert (fin.from_entries {R = path_cmp} m.entries) path) (is ∙ ap (λ (o : Option (List ℕ)). with_make make (unwrap_or o [])) (sym (get-entries_of path_total m path ∙ there)))
    ∙ ap (noted make path) shown

-- after those that the path has
pub noted-there : (m n : BTreeMap Names (List ℕ)) (makes : Makes) (make : ℕ) (path : Names) (old new : List ℕ) → fin.from_entries {R = path_cmp} m.entries ≡ makes → Some old ≡ tree.get path_cmp m path
    → new ≡ with_make make old → (IsSome (tree.get path_cmp m path) → UpdatesBy path_cmp (path_cmp path) m n (Some new)) → fin.from_entries {R = path_cmp} n.entries ≡ noted make path makes
noted-there m n makes make path old new shown there is updates = noted-is m n makes make path (Some old) new shown (sym there) is (updates (ap is_some (sym there))).0

-- at a path that has none
pub noted-first : (m k n : BTreeMap Names (List ℕ)) (makes : Makes) (make : ℕ) (path at : Names) (new : List ℕ) → fin.from_entries {R = path_cmp} m.entries ≡ makes → None ≡ tree.get path_cmp m path
    → k ≡ m → at ≡ path → new ≡ make ∷ [] → ((q : Names) → tree.get path_cmp n q ≡ cond (is_at (path_cmp at) q) (Some new) (tree.get path_cmp k q)) → fin.from_entries {R = path_cmp} n.entries ≡ noted make path makes
noted-first m k n makes make path at new shown none kept copied is updates =
    noted-is m n makes make path None new shown (sym none) is
    (λ q. updates q ∙ (λ i. cond (is_at (path_cmp (copied i)) q) (Some new) (tree.get path_cmp (kept i) q)))
