-- Which paths of the target tree a make wrote.
use Rattle.std.proofs.Common.{◌≡◌, Bool, true, false, not, ◌&&◌, ◌||◌, List, [], ◌∷◌, ◌++◌, map, Option, Some, None, is_some, is_eq, nat_eq, refl, sym, ap, subst, ◌∙◌, true≢false}
use Rattle.std.specs.Bool.{one_answer}
use Rattle.std.specs.List.{list_any}
use Rattle.std.specs.Cmp.{Equal-is}
use Rattle.std.specs.Cmp.Lexicographic.{bytes_decides}
use Rattle.std.specs.FinMap as fin
use Rattle.std.specs.FinMap.{FinMap}
use Rattle.std.specs.Option.{option_or}
use Rattle.std.specs.Ordering.{eq_by_cmp}
use Rattle.std.proofs.lemmas.Bool.{and_parts, eqb-true}
use Rattle.std.proofs.lemmas.Cmp.{tied_itself}
use Rattle.std.proofs.lemmas.List.Folds.{list_any-append}
use Rattle.std.proofs.lemmas.Map.Views.{any-filter_same}
use Rattle.br_path.specs.Path.{Names, path_cmp}
use Rattle.br_path.specs.declared.area.Area.{Area}
use Rattle.br_path.specs.declared.area.Area.TheVariants.{Host, Staging, Target}
use Rattle.br_path.proofs.PathOrder.{path_total, path_same}
use Rattle.br_path.proofs.Paths.{names_decide}
use Rattle.tree_names.specs.Changes.{is_node, changed_names}
use Rattle.tree_ops.specs.declared.entry.Node.{Node}
use Rattle.tree_ops.specs.declared.entry.Node.TheVariants.{Dir, Link, File}
use Rattle.tree_ops.specs.Change.{is_path}
use Rattle.tree_ops.specs.Tree.{Tree, node_at, laid}
use Rattle.tree_ops.proofs.Finds.{get-laid}
use Rattle.tree_worlds.specs.World.{AreaTrees}
use Rattle.task_shelves.specs.Packages.{is_area, has_written}
use Rattle.pkg_steps.specs.Outcome.{written, written_in}

-- nodes that the test finds equal are
pub is_node-same : (one other : Option Node) → is_node one other ≡ true → one ≡ other
is_node-same None None is = refl
is_node-same None (Some node) is = absurd (true≢false (sym is))
is_node-same (Some (Dir mode)) None is = absurd (true≢false (sym is))
is_node-same (Some (Link text)) None is = absurd (true≢false (sym is))
is_node-same (Some (File label)) None is = absurd (true≢false (sym is))
is_node-same (Some (Dir mode)) (Some (Dir other)) is = ap (λ m. Some (Dir m)) (eqb-true mode other is)
is_node-same (Some (Dir mode)) (Some (Link other)) is = absurd (true≢false (sym is))
is_node-same (Some (Dir mode)) (Some (File other)) is = absurd (true≢false (sym is))
is_node-same (Some (Link text)) (Some (Dir other)) is = absurd (true≢false (sym is))
is_node-same (Some (Link text)) (Some (Link other)) is = ap (λ t. Some (Link t)) ((bytes_decides text other).0 is)
is_node-same (Some (Link text)) (Some (File other)) is = absurd (true≢false (sym is))
is_node-same (Some (File label)) (Some (Dir other)) is = absurd (true≢false (sym is))
is_node-same (Some (File label)) (Some (Link other)) is = absurd (true≢false (sym is))
is_node-same (Some (File label)) (Some (File other)) is =
    let parts = and_parts (nat_eq label.task other.task) (nat_eq label.number other.number) is in
    λ i. Some (File (record { task = eqb-true label.task other.task parts.0 i; number = eqb-true label.number other.number parts.1 i }))

-- where a path that isn't there afterwards was written, something stood there
pub was_there : (one other : Option Node) → is_node one other ≡ false → other ≡ None → (node : Node) × (one ≡ Some node)
was_there None other is gone = absurd (true≢false (sym (ap (is_node None) gone) ∙ is))
was_there (Some node) other is gone = (node, refl)

abbrev of_target : Names → Area × Names → Bool
of_target path pair = is_area pair.0 Target && is_path pair.1 path

other_area : (path : Names) (area : Area) → is_area area Target ≡ false → (paths : List Names) → list_any (of_target path) (map (λ (p : Names). (area, p)) paths) ≡ false
other_area path area not_it [] = refl
other_area path area not_it (p ∷ paths) =
    ap (λ b. (b && is_path p path) || list_any (of_target path) (map (λ (q : Names). (area, q)) paths)) not_it ∙ other_area path area not_it paths

this_area : (path : Names) (paths : List Names) → list_any (of_target path) (map (λ (p : Names). (Target, p)) paths) ≡ list_any (λ (p : Names). is_path p path) paths
this_area path [] = refl
this_area path (p ∷ paths) = ap (λ b. is_path p path || b) (this_area path paths)

tied : (path k : Names) → is_path k path ≡ eq_by_cmp path_cmp path k
tied path k = one_answer {P = k ≡ path} _ _ (names_decide k path)
    (λ is. sym (path_same path k ((Equal-is (path_cmp path k)).0 is)), λ same. subst (λ p. eq_by_cmp path_cmp p k ≡ true) same (ap is_eq (tied_itself path_total k)))

-- a key of a map stands among its keys
among_keys : (m : FinMap path_cmp Node) (path : Names) → list_any (λ (p : Names). is_path p path) (fin.keys m) ≡ fin.contains_key m path
among_keys m path = (λ i. list_any (λ p. tied path p i) (fin.keys m)) ∙ sym (fin.contains_key-keys m path)

some_or : (above below : Option Node) → is_node below above ≡ false → is_some (option_or above below) ≡ true
some_or None None differ = absurd (true≢false differ)
some_or None (Some node) differ = refl
some_or (Some node) below differ = refl

stands : (old new : Tree) (path : Names) → is_node (node_at old path) (node_at new path) ≡ false → fin.contains_key (laid old.names new.names) path ≡ true
stands old new path differ = ap is_some (get-laid path_total path_same old.names new.names path) ∙ some_or (node_at new path) (node_at old path) differ

known : (same there : Bool) → (same ≡ false → there ≡ true) → (not same && there) ≡ not same
known true there is = refl
known false there is = is refl

-- a path was written exactly where another node stands there than before
pub has_written-is : (old new : AreaTrees) (path : Names) → has_written Target path (written old new) ≡ not (is_node (node_at old.target path) (node_at new.target path))
has_written-is old new path =
    let differ = λ (p : Names). not (is_node (node_at old.target p) (node_at new.target p)) in
    let host : List (Area × Names) = written_in Host old new in
    let staging : List (Area × Names) = written_in Staging old new in
    let target : List (Area × Names) = written_in Target old new in
    list_any-append (of_target path) (host ++ staging) target
    ∙ ap (λ b. b || list_any (of_target path) target) (
    list_any-append (of_target path) host staging
    ∙ ap (λ b. b || list_any (of_target path) staging) (other_area path Host refl (changed_names old.host new.host))
    ∙ other_area path Staging refl (changed_names old.staging new.staging))
    ∙ this_area path (changed_names old.target new.target)
    ∙ any-filter_same (λ (p : Names). is_path p path) differ (differ path) (λ k is. ap differ ((names_decide k path).0 is)) (fin.keys (laid old.target.names new.target.names))
    ∙ ap (λ b. differ path && b) (among_keys (laid old.target.names new.target.names) path)
    ∙ known (is_node (node_at old.target path) (node_at new.target path)) _ (stands old.target new.target path)
