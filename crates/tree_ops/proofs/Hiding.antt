-- Which paths stand below a file or link.
use Rattle.std.proofs.Common.{ℕ, ◌+◌, ◌≤◌, ◌<◌, ◌≡◌, inl, inr, Bool, true, false, List, [], ◌∷◌, ◌++◌, length, map, take, drop, get_or, nat_lt, zero, suc, refl, sym, ap, subst, ◌∙◌, arith, drop-cons, length-append}
use Rattle.std.specs.Prelude.{◌↔◌}
use Rattle.std.specs.List.{range_with_len}
use Rattle.std.proofs.lemmas.Bool.Decides.{nat_tests}
use Rattle.std.proofs.lemmas.List.{take-append-drop}
use Rattle.std.proofs.Math.Seq.{take-append_seam}
use Rattle.br_path.specs.Path.{Names, folders_of}
use Rattle.tree_ops.specs.Tree.{Tree, node_at, is_leaf, is_hidden}
use Rattle.tree_ops.proofs.Finds.{In, any-in, in-any}

in-map_range : {X : Type 0} (f : ℕ → X) (e : X) (a n : ℕ) → In e (map f (range_with_len a n)) → (k : ℕ) × (k < a + n) × (f k ≡ e)
in-map_range f e a zero there = absurd there
in-map_range f e a (suc n) (inl same) = (a, omega arith, same)
in-map_range f e a (suc n) (inr there) = let found = in-map_range f e (a + 1) n there in let less = found.1 in (found.0, omega arith, found.2)

map_range-in : {X : Type 0} (f : ℕ → X) (k a n : ℕ) → a ≤ k → k < a + n → In (f k) (map f (range_with_len a n))
map_range-in f k a zero from upto = absurd (omega arith)
map_range-in {X = X} f k a (suc n) from upto = by (nat_lt a k) refl (map_range-in f k (a + 1) n)
  where
    by : (b : Bool) → nat_lt a k ≡ b → (a + 1 ≤ k → k < a + 1 + n → In (f k) (map f (range_with_len (a + 1) n))) → In (f k) (map f (range_with_len a (suc n)))
    by true is rest = let later : a < k = grind (arith, nat_tests) in inr (rest (omega arith) (omega arith))
    by false is rest = let same : a ≡ k = grind (arith, nat_tests) in inl (ap f same)

abbrev hides : Tree → Names → Bool
hides tree folder = is_leaf (node_at tree folder)

-- a path is hidden just where it goes on after one at which a file or link stands
pub hidden-below : (tree : Tree) (path : Names) → is_hidden tree path ≡ true ↔ ((head : Names) × (name : List ℕ) × (rest : Names) × (path ≡ head ++ name ∷ rest) × (is_leaf (node_at tree head) ≡ true))
hidden-below tree path = (
  λ is.
      let folder = in-any (hides tree) (folders_of path) is in
      let depth = in-map_range (λ depth. take depth path) folder.0 0 (length path) folder.1 in
      let k : ℕ = depth.0 in
      let less : k < length path = omega (arith, depth.1) in (
        take k path,
        get_or path k [],
        drop (suc k) path,
        sym (take-append-drop k path) ∙ ap (λ (rest : Names). take k path ++ rest) (drop-cons path k [] less),
        ap (hides tree) depth.2 ∙ folder.2,
      ),
  λ (head, name, rest, same, leaf).
      let longer : length path ≡ length (head ++ name ∷ rest) = ap (length {A = List ℕ}) same in
      let first : take (length head) path ≡ head = ap (take (length head)) same ∙ take-append_seam head (name ∷ rest) in
      any-in (hides tree) head (folders_of path)
      (subst (λ (folder : Names). In folder (folders_of path)) first (map_range-in (λ depth. take depth path) (length head) 0 (length path) (omega arith) (omega (arith, length-append head (name ∷ rest))))) leaf,
)
