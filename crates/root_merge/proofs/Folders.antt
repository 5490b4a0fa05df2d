-- What makes left is what their packages left.
use Rattle.std.proofs.Common.{ℕ, suc, ◌≡◌, ◌≤◌, ◌++◌, Bool, true, cond, ◌&&◌, List, [], ◌∷◌, All, map, length, Option, Some, None, refl, sym, ap, ◌∙◌}
use Rattle.std.specs.Prelude.{not, nat_le}
use Rattle.std.specs.List.{list_all}
use Rattle.std.specs.Option.{option_map, option_and_then}
use Rattle.std.proofs.lemmas.Bool.{le-leb}
use Rattle.std.proofs.lemmas.List.Elements.{All-head, All-tail, All-filter}
use Rattle.br_path.specs.Path.{Names}
use Rattle.br_path.specs.declared.area.Area.{Area}
use Rattle.plan_rows.specs.Plan.{Planned}
use Rattle.tree_ops.specs.declared.entry.Node.{Node}
use Rattle.tree_ops.specs.declared.entry.Node.TheVariants.{Dir, Link, File}
use Rattle.tree_ops.specs.Tree.{kind_of}
use Rattle.task_shelves.specs.Shelf.{ShelfData}
use Rattle.task_shelves.specs.declared.overwrites.Overwrite.{Overwrite}
use Rattle.task_shelves.specs.Packages.{Left, left_by, packages_left, wrote}
use Rattle.root_merge.specs.Overwrites.{writers, nodes_left, is_folder_of, are_one_folder, is_overwritten, overwrite_at}
use Rattle.root_merge.specs.Found.{folder_mode, mode_left, folder_left, is_mode, are_one_mode, makes_at, owner_of, overwrite_if}
use Rattle.root_merge.proofs.Prefixes.{all_first, task-is, name-is}

abbrev mode_of_node : Option Node → Option ℕ
mode_of_node node = folder_mode (option_map kind_of node)

folder-is : (mode : ℕ) (node : Option Node) → is_folder_of mode node ≡ is_mode mode (mode_of_node node)
folder-is mode None = refl
folder-is mode (Some (Dir other)) = refl
folder-is mode (Some (Link text)) = refl
folder-is mode (Some (File label)) = refl

folders-are : (mode : ℕ) (nodes : List (Option Node)) → list_all (is_folder_of mode) nodes ≡ list_all (is_mode mode) (map mode_of_node nodes)
folders-are mode [] = refl
folders-are mode (node ∷ nodes) = (λ i. folder-is mode node i && folders-are mode nodes i)

one-folder : (nodes : List (Option Node)) → are_one_folder nodes ≡ are_one_mode (map mode_of_node nodes)
one-folder [] = refl
one-folder (None ∷ nodes) = refl
one-folder (Some (Dir mode) ∷ nodes) = folders-are mode nodes
one-folder (Some (Link text) ∷ nodes) = refl
one-folder (Some (File label) ∷ nodes) = refl

-- the packages of a plan are those of their makes
abbrev AreFound : (ℕ → Option Left) → List Left → Type 0
AreFound left_by lefts = All (λ left. left_by left.task ≡ Some left) lefts

modes-left : (area : Area) (path : Names) (left_by : ℕ → Option Left) (lefts : List Left) → AreFound left_by lefts
    → map (folder_left area path left_by) (map (λ (left : Left). left.task) lefts) ≡ map mode_of_node (nodes_left area path lefts)
modes-left area path left_by [] are = refl
modes-left area path left_by (left ∷ lefts) are =
    (λ i. option_and_then (mode_left area path) (All-head (λ (l : Left). left_by l.task ≡ Some l) left lefts are i)
    ∷ modes-left area path left_by lefts (All-tail (λ (l : Left). left_by l.task ≡ Some l) left lefts are) i)

found_left : (plan : Planned) (shelves : ℕ → ShelfData) → AreFound (left_by plan shelves) (packages_left plan shelves)
found_left plan shelves = all_first (left_by plan shelves) (λ left. left_by plan shelves left.task ≡ Some left) (length plan.rows) (λ i left below is. ap (left_by plan shelves) (task-is plan shelves i left is) ∙ is)

length_map : {A B : Type 0} (f : A → B) (xs : List A) → length (map f xs) ≡ length xs
length_map f [] = refl
length_map f (x ∷ xs) = ap (λ n. suc n) (length_map f xs)

-- a path is overwritten just as the makes that wrote it tell
pub overwritten-is : (plan : Planned) (shelves : ℕ → ShelfData) (area : Area) (path : Names)
    → let packages = packages_left plan shelves in
    is_overwritten area packages path ≡ (nat_le 2 (length (makes_at area packages path)) && not (are_one_mode (map (folder_left area path (left_by plan shelves)) (makes_at area packages path))))
overwritten-is plan shelves area path =
    let wrote_it = writers area path (packages_left plan shelves) in
    let are = All-filter (wrote area path) (λ (l : Left). left_by plan shelves l.task ≡ Some l) (packages_left plan shelves) (found_left plan shelves) in
    (λ i. nat_le 2 (sym (length_map (λ (l : Left). l.task) wrote_it) i) && not ((one-folder (nodes_left area path wrote_it) ∙ ap are_one_mode (sym (modes-left area path (left_by plan shelves) wrote_it are))) i))

names-of : (plan : Planned) (lefts : List Left) → All (λ left. owner_of plan left.task ≡ left.name) lefts → map (owner_of plan) (map (λ (left : Left). left.task) lefts) ≡ map (λ (left : Left). left.name) lefts
names-of plan [] are = refl
names-of plan (left ∷ lefts) are =
    (λ i. All-head (λ (l : Left). owner_of plan l.task ≡ l.name) left lefts are i ∷ names-of plan lefts (All-tail (λ (l : Left). owner_of plan l.task ≡ l.name) left lefts are) i)

-- the names of the makes' packages
pub names-are : (plan : Planned) (shelves : ℕ → ShelfData) (area : Area) (path : Names)
    → map (owner_of plan) (makes_at area (packages_left plan shelves) path) ≡ map (λ (left : Left). left.name) (writers area path (packages_left plan shelves))
names-are plan shelves area path =
    names-of plan (writers area path (packages_left plan shelves)) (All-filter (wrote area path) (λ (l : Left). owner_of plan l.task ≡ l.name) (packages_left plan shelves)
    (all_first (left_by plan shelves) (λ left. owner_of plan left.task ≡ left.name) (length plan.rows) (λ i left below is. ap (owner_of plan) (task-is plan shelves i left is) ∙ name-is plan shelves i left is)))

-- two makes or more that left no one folder
pub overwritten-by : (plan : Planned) (shelves : ℕ → ShelfData) (area : Area) (path : Names) (makes : List ℕ) (one : Bool) → makes ≡ makes_at area (packages_left plan shelves) path → 2 ≤ length makes
    → one ≡ are_one_mode (map (folder_left area path (left_by plan shelves)) makes) → not one ≡ is_overwritten area (packages_left plan shelves) path
overwritten-by plan shelves area path makes one are more is =
    ap not is
    ∙ ap (λ b. b && not (are_one_mode (map (folder_left area path (left_by plan shelves)) makes))) (sym (le-leb 2 (length makes) more))
    ∙ ap (λ (l : List ℕ). nat_le 2 (length l) && not (are_one_mode (map (folder_left area path (left_by plan shelves)) l))) are
    ∙ sym (overwritten-is plan shelves area path)

-- what is put for a path that is overwritten
pub one_put : (plan : Planned) (shelves : ℕ → ShelfData) (area : Area) (path : Names) (items : List Overwrite) (names : Names) (told : Bool) → told ≡ is_overwritten area (packages_left plan shelves) path → told ≡ true
    → names ≡ map (owner_of plan) (makes_at area (packages_left plan shelves) path) → items ++ record { area = area; path = path; packages = names } ∷ [] ≡ items ++ overwrite_if area (packages_left plan shelves) path
one_put plan shelves area path items names told is passes named =
    ap (λ (names : Names). items ++ record { area = area; path = path; packages = names } ∷ []) (named ∙ names-are plan shelves area path)
    ∙ ap (λ b. items ++ cond b (overwrite_at area (packages_left plan shelves) path ∷ []) []) (sym (sym is ∙ passes))
