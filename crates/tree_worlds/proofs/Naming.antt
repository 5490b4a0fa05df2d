-- Which paths stand below a head, and what is there of the input.
use Rattle.std.proofs.Common.{ℕ, ◌≡◌, Bool, true, false, ◌||◌, List, [], ◌∷◌, ◌++◌, map, length, nat_eq, nat_lt, Option, Some, refl, sym, ap, subst, ◌∙◌, arith, length-append}
use Rattle.std.specs.Prelude.{◌↔◌, IsTrue, IsSome, ◌&&◌, if◌then◌else◌}
use Rattle.std.specs.FinMap as fin
use Rattle.std.specs.Cmp.Lexicographic.{pointwise, bytes_decides}
use Rattle.std.specs.List.{starts_with}
use Rattle.std.proofs.lemmas.Bool.{true≢false, le-ltb, lt-ltb}
use Rattle.std.proofs.Math.Seq.{take-append_seam}
use Rattle.br_path.specs.Path.{Names, IsPath}
use Rattle.br_path.specs.Text.{is_text}
use Rattle.br_path.specs.Files.{FileMap, IsFolder, IsInput}
use Rattle.br_path.proofs.Paths.{starts_with-names, IsPath-take}
use Rattle.br_path.proofs.PathOrder.{path_total, path_same}
use Rattle.tree_ops.specs.Tree.{Tree}
use Rattle.tree_ops.specs.Change.{is_below, is_at_or_below}
use Rattle.tree_ops.proofs.Heads.{rest-of_head, head-of_rest, rest-of_below, below-of_rest}
use Rattle.tree_ops.proofs.Finds.{any-get, get-any}
use Rattle.tree_ops.proofs.Sound.{is_there as value_of, same_tests}
use Rattle.tree_worlds.specs.declared.world.ShownTree.{ShownTree}
use Rattle.tree_worlds.specs.World.{readable_data}
use Rattle.tree_worlds.specs.Naming.{shown_task}
use Rattle.tree_worlds.specs.Operand.{readable_of, is_file, is_folder, is_there}

pub at_or_below-starts : (head names : Names) → starts_with (pointwise nat_eq) names head ≡ is_at_or_below head names
at_or_below-starts head names =
    same_tests _ _ (λ is. let found = (starts_with-names names head).0 is in ap (is_at_or_below head) found.1 ∙ head-of_rest head found.0) (λ is. (starts_with-names names head).1 (rest-of_head head names is))

below_itself : (head : Names) → is_below head (head ++ []) ≡ false
below_itself [] = refl
below_itself (first ∷ head) = ap (λ b. b && is_below head (head ++ [])) ((bytes_decides first first).1 refl) ∙ below_itself head

-- of the names at a head or below it, those that are more are below it
pub below-longer : (head names : Names) → is_at_or_below head names ≡ true → nat_lt (length head) (length names) ≡ is_below head names
below-longer head names is = by (rest-of_head head names is).0 (rest-of_head head names is).1
  where
    by : (rest : Names) → names ≡ head ++ rest → nat_lt (length head) (length names) ≡ is_below head names
    by [] same = le-ltb (length head) (length names) (omega (ap length same, length-append head [], arith)) ∙ sym (ap (is_below head) same ∙ below_itself head)
    by (name ∷ rest) same = lt-ltb (length head) (length names) (omega (ap length same, length-append head (name ∷ rest), arith)) ∙ sym (ap (is_below head) same ∙ below-of_rest head name rest)

pub not_below : (head names : Names) → is_at_or_below head names ≡ false → is_below head names ≡ false
not_below head names other = same_tests _ _ (λ below. let found = rest-of_below head names below in absurd (true≢false (sym (ap (is_at_or_below head) found.2 ∙ head-of_rest head (found.0 ∷ found.1)) ∙ other))) (λ no. absurd (true≢false (sym no)))

-- a folder, by the entries
pub folder-any : (files : FileMap) (at : Names) (b : Bool) → IsTrue b ↔ IsFolder files at → b ≡ is_folder files at
folder-any files at b says = same_tests _ _
    (λ is. let found = says.0 is in let value = value_of (fin.get files (at ++ found.0 ∷ found.1.0)) found.1.1 in
    get-any path_total path_same (λ file. is_below at file.0) files (at ++ found.0 ∷ found.1.0) value.0 value.1 (below-of_rest at found.0 found.1.0))
    (λ is. let found = any-get path_total path_same (λ file. is_below at file.0) files is in let rest = rest-of_below at found.0 found.3 in
    says.1 (rest.0, (rest.1, subst (λ (k : Names). IsSome (fin.get files k)) rest.2 (subst IsSome (sym found.2) refl))))

-- names that are no path have no file, and none goes on after them
pub no_path-none : (folder : Names) (files : FileMap) (names : Names) → IsInput files → (IsPath names → ⊥) → is_there folder files names ≡ false
no_path-none folder files names input none = both _ _ _ no_file no_folder
  where
    both : (inside file below : Bool) → file ≡ false → below ≡ false → ((inside && file) || below) ≡ false
    both true file below is_no none = (λ i. is_no i || none i)
    both false file below is_no none = none

    is_front : (rest : Names) → IsPath (names ++ rest) → IsPath names
    is_front rest path = subst IsPath (take-append_seam names rest) (IsPath-take (length names) (names ++ rest) path)

    no_file : is_file files names ≡ false
    no_file = same_tests _ _ (λ is. absurd (none (input.legal names is))) (λ no. absurd (true≢false (sym no)))

    no_folder : is_folder files names ≡ false
    no_folder = same_tests _ _
        (λ is. let found = any-get path_total path_same (λ file. is_below names file.0) files is in let rest = rest-of_below names found.0 found.3 in
        absurd (none (is_front (rest.0 ∷ rest.1) (subst IsPath rest.2 (input.legal found.0 (subst IsSome (sym found.2) refl))))))
        (λ no. absurd (true≢false (sym no)))

-- the readable trees of a world are those that it shows
pub readable_shown : {T : Type 0} (tree : T → Tree) (shown : List (ShownTree T)) (name : List ℕ) → readable_of (map (readable_data tree) shown) name ≡ shown_task shown name
readable_shown tree [] name = refl
readable_shown tree (first ∷ more) name = ap (λ (found : Option ℕ). if is_text name first.«package» then Some first.task else found) (readable_shown tree more name)
