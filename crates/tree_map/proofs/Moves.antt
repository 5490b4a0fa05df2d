-- Tests of paths, and where moves lead.
use Rattle.std.specs.List.{list_any, range_with_len}
use Rattle.std.proofs.Common.{take, map, suc, ◌-◌, ℕ, ◌+◌, ◌<◌, ◌≤◌, ◌≡◌, Bool, true, false, cond, ◌||◌, ◌&&◌, List, [], ◌∷◌, ◌++◌, length, drop, nat_lt, sym, ap, ◌∙◌, arith, length-append}
use Rattle.std.specs.Prelude.{◌↔◌, IsTrue}
use Rattle.std.proofs.lemmas.Bool.{true≢false}
use Rattle.std.proofs.lemmas.Bool.Decides.{nat_tests}
use Rattle.br_path.specs.Path.{Names, StartsWith, rooted_text, path_text}
use Rattle.tree_ops.specs.Change.{is_below, is_at_or_below, is_too_long, moved_path}
use Rattle.tree_ops.proofs.Sound.{same_tests}
use Rattle.tree_ops.proofs.Heads.{rest-of_head, head-of_rest, rest-of_below, below-of_rest, moved_path-below, path_text-rooted}

pub starts-is : (head path : Names) (b : Bool) → (IsTrue b ↔ StartsWith path head) → b ≡ is_at_or_below head path
starts-is head path b is = same_tests b (is_at_or_below head path)
    (λ yes. let w = is.0 yes in ap (is_at_or_below head) w.1 ∙ head-of_rest head w.0)
    (λ yes. is.1 (rest-of_head head path yes))

pub below-then : (head path : Names) (b : Bool) → length head < length path → (IsTrue b ↔ StartsWith path head) → b ≡ is_below head path
below-then head path b less is = same_tests b (is_below head path)
    (λ yes. let w = is.0 yes in some w.0 w.1)
    (λ yes. let r = rest-of_below head path yes in is.1 (r.0 ∷ r.1, r.2))
  where
    some : (rest : Names) → path ≡ head ++ rest → is_below head path ≡ true
    some [] same = let lengths : length path ≡ length (head ++ []) = ap (length {A = List ℕ}) same in absurd (omega (arith, length-append head []))
    some (name ∷ rest) same = ap (is_below head) same ∙ below-of_rest head name rest

pub below-else : (head path : Names) → length path ≤ length head → false ≡ is_below head path
below-else head path less = same_tests false (is_below head path) (λ no. absurd (true≢false (sym no)))
    (λ yes. let r = rest-of_below head path yes in let lengths : length path ≡ length (head ++ r.0 ∷ r.1) = ap (length {A = List ℕ}) r.2 in absurd (omega (arith, length-append head (r.0 ∷ r.1))))

pub rooted-append : (xs ys : Names) → length (rooted_text (xs ++ ys)) ≡ length (rooted_text xs) + length (rooted_text ys)
rooted-append [] ys = omega arith
rooted-append (x ∷ xs) ys = omega (arith, rooted-append xs ys, length-append (47 ∷ x) (rooted_text (xs ++ ys)), length-append (47 ∷ x) (rooted_text xs))

-- a move makes a path too long where its text is longer than the limit with the old head's in place of the new one's
pub too_far : (old at path : Names) → is_at_or_below old path ≡ true → nat_lt (1024 + length (rooted_text old)) (length (rooted_text path) + length (rooted_text at)) ≡ is_too_long (moved_path old at path)
too_far old at path below =
    let r = rest-of_head old path below in
    let whole : length (rooted_text path) ≡ length (rooted_text old) + length (rooted_text r.0) = ap (λ (p : Names). length (rooted_text p)) r.1 ∙ rooted-append old r.0 in
    let ends : length (rooted_text (moved_path old at path)) ≡ length (rooted_text at) + length (rooted_text r.0) =
    ap (λ (p : Names). length (rooted_text p)) (ap (moved_path old at) r.1 ∙ moved_path-below old at r.0) ∙ rooted-append at r.0 in
    grind (arith, nat_tests)

pub fits-depth : (old path : Names) → is_at_or_below old path ≡ true → length old ≤ length path
fits-depth old path below =
    let r = rest-of_head old path below in
    let whole : length path ≡ length (old ++ r.0) = ap (length {A = List ℕ}) r.1 in omega (arith, length-append old r.0)

pub fits-short : (old at path : Names) → is_at_or_below old path ≡ true → (is_at_or_below old path && is_too_long (moved_path old at path)) ≡ false → length (path_text (at ++ drop (length old) path)) ≤ 1024
fits-short old at path below none =
    let ends : moved_path old at path ≡ at ++ drop (length old) path = ap (λ b. cond b (at ++ drop (length old) path) path) below in
    let fits : is_too_long (at ++ drop (length old) path) ≡ false = ap is_too_long (sym ends) ∙ sym (ap (λ b. b && is_too_long (moved_path old at path)) below) ∙ none in
    let few : length (rooted_text (at ++ drop (length old) path)) ≤ 1024 = within (length (rooted_text (at ++ drop (length old) path))) fits in
    omega (arith, few, path_text-rooted (at ++ drop (length old) path))
  where
    within : (n : ℕ) → nat_lt 1024 n ≡ false → n ≤ 1024
    within n is = grind (arith, nat_tests)

-- the first of the folders that are left, and the rest
pub unrolled : (f : Names → Bool) (at : Names) (depth : ℕ) → depth < length at
    → list_any f (map (λ d. take d at) (range_with_len depth (length at - depth))) ≡ (f (take depth at) || list_any f (map (λ d. take d at) (range_with_len (depth + 1) (length at - (depth + 1)))))
unrolled f at depth less =
    let more : length at - depth ≡ suc (length at - (depth + 1)) = omega arith in
    ap (λ n. list_any f (map (λ d. take d at) (range_with_len depth n))) more
