-- The makes at each path, once the paths of one more package are noted.
use Rattle.std.proofs.Common.{ℕ, ◌-◌, ◌≡◌, Bool, true, false, cond, ◌&&◌, ◌||◌, List, [], ◌∷◌, ◌++◌, map, length, Option, Some, refl, sym, ap, subst, ◌∙◌, arith}
use Rattle.std.specs.Prelude.{slice_get, unwrap_or, filter}
use Rattle.std.specs.FinMap as fin
use Rattle.std.specs.Cmp.{eq_by_cmp_equiv}
use Rattle.std.specs.Cmp.Lexicographic.{lists_ties, texts_ties, slice_cmp}
use Rattle.std.specs.Ordering.{nat_cmp, eq_by_cmp, is_eq}
use Rattle.std.proofs.lemmas.Bool.{eq-eqb}
use Rattle.std.proofs.lemmas.Cmp.{tied_itself}
use Rattle.std.proofs.lemmas.List.{length-append}
use Rattle.std.proofs.lemmas.List.Elements.{filter-append}
use Rattle.br_path.specs.Path.{Names, path_cmp}
use Rattle.br_path.specs.declared.area.Area.{Area}
use Rattle.br_path.proofs.PathOrder.{path_total}
use Rattle.br_path.proofs.Paths.{names_decide}
use Rattle.tree_ops.specs.Change.{is_path}
use Rattle.task_shelves.specs.Packages.{Left, is_area, has_written, wrote}
use Rattle.root_merge.specs.Found.{Makes, is_last, ends_with, with_make, noted, noted_if, all_noted, makes_at, some_makes, AreWriters}

-- a make that is noted stands after those from before
abbrev pub noted_after : ℕ → Bool → List ℕ → List ℕ
noted_after make true before = before ++ make ∷ []
noted_after make false before = before

some_push : (makes : List ℕ) (make : ℕ) → some_makes (makes ++ make ∷ []) ≡ Some (makes ++ make ∷ [])
some_push [] make = refl
some_push (one ∷ makes) make = refl

or_none : (makes : List ℕ) → unwrap_or (some_makes makes) [] ≡ makes
or_none [] = refl
or_none (make ∷ makes) = refl

get_push : (makes : List ℕ) (make : ℕ) → slice_get (makes ++ make ∷ []) (length makes) ≡ Some make
get_push [] make = refl
get_push (one ∷ makes) make = get_push makes make

ends_push : (makes : List ℕ) (make : ℕ) → ends_with (makes ++ make ∷ []) make ≡ true
ends_push makes make =
    let last : length (makes ++ make ∷ []) - 1 ≡ length makes = let all = length-append makes (make ∷ []) in omega arith in
    ap (λ place. is_last make (slice_get (makes ++ make ∷ []) place)) last ∙ ap (is_last make) (get_push makes make) ∙ eq-eqb make make refl

-- noted once, whether it was before or not
once : (make : ℕ) (done : Bool) (before : List ℕ) → ends_with before make ≡ false → with_make make (noted_after make done before) ≡ before ++ make ∷ []
once make true before other = ap (λ b. cond b (before ++ make ∷ []) ((before ++ make ∷ []) ++ make ∷ [])) (ends_push before make)
once make false before other = ap (λ b. cond b before (before ++ make ∷ [])) other

or_false : (b : Bool) → (b || false) ≡ b
or_false true = refl
or_false false = refl

or_true : (b : Bool) → (b || true) ≡ true
or_true true = refl
or_true false = refl

or_assoc : (a b c : Bool) → ((a || b) || c) ≡ (a || (b || c))
or_assoc true b c = refl
or_assoc false b c = refl

-- two paths tie the other way round where they aren't one
no_tie : (at path : Names) → is_path at path ≡ false → eq_by_cmp path_cmp path at ≡ false
no_tie at path other = sym ((eq_by_cmp_equiv path_total).symm at path) ∙ sym (lists_ties (slice_cmp nat_cmp) texts_ties at path) ∙ other

module _ (make : ℕ) (before : Names → List ℕ) where
  -- at some paths the make is noted, after those from before
  abbrev AreNoted : Makes → (Names → Bool) → Type 0
  AreNoted makes done = (path : Names) → fin.get makes path ≡ some_makes (noted_after make (done path) (before path))

  module _ (fresh : (path : Names) → ends_with (before path) make ≡ false) where
    one_noted : (makes : Makes) (done : Names → Bool) (at : Names) → AreNoted makes done → AreNoted (noted make at makes) (λ path. done path || is_path at path)
    one_noted makes done at are path = by (is_path at path) refl
      where
        there : fin.get (noted make at makes) at ≡ some_makes (noted_after make (done at || true) (before at))
        there =
            fin.get-insert path_total makes at (with_make make (unwrap_or (fin.get makes at) [])) at
            ∙ ap (λ b. cond b (Some (with_make make (unwrap_or (fin.get makes at) []))) (fin.get makes at)) (ap is_eq (tied_itself path_total at))
            ∙ ap (λ (found : Option (List ℕ)). Some (with_make make (unwrap_or found []))) (are at)
            ∙ ap (λ (found : List ℕ). Some (with_make make found)) (or_none (noted_after make (done at) (before at)))
            ∙ ap (λ (found : List ℕ). Some found) (once make (done at) (before at) (fresh at))
            ∙ sym (some_push (before at) make)
            ∙ ap (λ b. some_makes (noted_after make b (before at))) (sym (or_true (done at)))

        by : (b : Bool) → is_path at path ≡ b → fin.get (noted make at makes) path ≡ some_makes (noted_after make (done path || b) (before path))
        by true same = subst (λ (p : Names). fin.get (noted make at makes) p ≡ some_makes (noted_after make (done p || true) (before p))) ((names_decide at path).0 same) there
        by false other =
            fin.get-insert path_total makes at (with_make make (unwrap_or (fin.get makes at) [])) path
            ∙ ap (λ b. cond b (Some (with_make make (unwrap_or (fin.get makes at) []))) (fin.get makes path)) (no_tie at path other)
            ∙ are path
            ∙ ap (λ b. some_makes (noted_after make b (before path))) (sym (or_false (done path)))

    maybe_noted : (here : Bool) (makes : Makes) (done : Names → Bool) (at : Names) → AreNoted makes done → AreNoted (noted_if here make at makes) (λ path. done path || (here && is_path at path))
    maybe_noted true makes done at are path = one_noted makes done at are path
    maybe_noted false makes done at are path = are path ∙ ap (λ b. some_makes (noted_after make b (before path))) (sym (or_false (done path)))

    all : (area : Area) (written : List (Area × Names)) (makes : Makes) (done : Names → Bool) → AreNoted makes done → AreNoted (all_noted area make written makes) (λ path. done path || has_written area path written)
    all area [] makes done are path = are path ∙ ap (λ b. some_makes (noted_after make b (before path))) (sym (or_false (done path)))
    all area (pair ∷ written) makes done are path =
        all area written (noted_if (is_area pair.0 area) make pair.1 makes) (λ p. done p || (is_area pair.0 area && is_path pair.1 p)) (maybe_noted (is_area pair.0 area) makes done pair.1 are) path
        ∙ ap (λ b. some_makes (noted_after make b (before path))) (or_assoc (done path) (is_area pair.0 area && is_path pair.1 path) (has_written area path written))

one_writer : (area : Area) (path : Names) (left : Left) → makes_at area (left ∷ []) path ≡ noted_after left.task (wrote area path left) []
one_writer area path left = by (wrote area path left)
  where
    by : (b : Bool) → map (λ (l : Left). l.task) (cond b (left ∷ []) []) ≡ noted_after left.task b []
    by true = refl
    by false = refl

map_append : {A B : Type 0} (f : A → B) (xs ys : List A) → map f (xs ++ ys) ≡ map f xs ++ map f ys
map_append f [] ys = refl
map_append {B = B} f (x ∷ xs) ys = ap (λ (l : List B). f x ∷ l) (map_append f xs ys)

noted_behind : (make : ℕ) (b : Bool) (before : List ℕ) → before ++ noted_after make b [] ≡ noted_after make b before
noted_behind make true before = refl
noted_behind make false before = none before
  where
    none : (makes : List ℕ) → makes ++ [] ≡ makes
    none [] = refl
    none (make ∷ makes) = ap (λ (l : List ℕ). make ∷ l) (none makes)

-- one more package
makes-more : (area : Area) (packages : List Left) (left : Left) (path : Names) → makes_at area (packages ++ left ∷ []) path ≡ noted_after left.task (wrote area path left) (makes_at area packages path)
makes-more area packages left path =
    ap (map (λ (l : Left). l.task)) (filter-append (wrote area path) packages (left ∷ []))
    ∙ map_append (λ (l : Left). l.task) (filter (wrote area path) packages) (filter (wrote area path) (left ∷ []))
    ∙ ap (λ (l : List ℕ). makes_at area packages path ++ l) (one_writer area path left)
    ∙ noted_behind left.task (wrote area path left) (makes_at area packages path)

pub writers-more : (area : Area) (packages : List Left) (left : Left) (makes : Makes) → ((path : Names) → ends_with (makes_at area packages path) left.task ≡ false)
    → AreWriters area packages makes → AreWriters area (packages ++ left ∷ []) (all_noted area left.task left.written makes)
writers-more area packages left makes fresh are path =
    all left.task (makes_at area packages) fresh area left.written makes (λ _. false) are path
    ∙ ap some_makes (sym (makes-more area packages left path))
