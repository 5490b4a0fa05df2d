-- The names in a folder: they are those at which something stands, each once.
use Rattle.std.proofs.Common.{ℕ, ◌≡◌, inl, inr, Bool, true, false, ◌||◌, List, [], ◌∷◌, ◌++◌, map, Option, Some, None, Ordering, Less, ◌↔◌, nat_eq, refl, sym, ap, subst, ◌∙◌}
use Rattle.std.specs.Prelude.{IsSome, if◌then◌else◌}
use Rattle.std.specs.FinMap as fin
use Rattle.std.specs.FinMap.{is_sorted}
use Rattle.std.specs.FinMap.Entries.{below_all, is_some-find}
use Rattle.std.specs.Cmp.{Equal-is}
use Rattle.std.specs.Cmp.Lexicographic.{pointwise, slice_cmp, nat_list_cmp_total, bytes_decides, same_text}
use Rattle.std.specs.List.{AllByRecursion, list_any, filter_map, cons_option}
use Rattle.std.specs.List.Sorted.{IsStrictlySortedBy}
use Rattle.std.specs.Option.{is_some, option_map}
use Rattle.std.specs.Ordering.{nat_cmp, is_eq, is_lt, eq_by_cmp}
use Rattle.std.proofs.lemmas.Bool.{true≢false, and_parts}
use Rattle.std.proofs.lemmas.Cmp.{tied_itself, eq_by_cmp_equiv}
use Rattle.std.proofs.lemmas.List.{append-nil}
use Rattle.std.proofs.lemmas.Map.Views.{Contains-from_any, list_any-from_Contains}
use Rattle.br_path.specs.Path.{Names}
use Rattle.br_path.specs.Files.{FileMap, IsInput}
use Rattle.br_path.proofs.Inputs.{IsFolder-apart}
use Rattle.br_path.proofs.PathOrder.{name_same, path_total, path_same}
use Rattle.tree_ops.specs.Tree as trees
use Rattle.tree_ops.specs.Tree.{Tree, names_below, node_at}
use Rattle.tree_ops.specs.declared.entry.Node.{Node}
use Rattle.tree_ops.specs.Change.{is_below}
use Rattle.tree_ops.proofs.Finds.{In, any-in, in-any, any-get, get-any, is_true}
use Rattle.tree_ops.proofs.Heads.{rows, rest-of_below, below-of_rest}
use Rattle.tree_ops.proofs.Listing.{exactly-below, below-rise}
use Rattle.tree_ops.proofs.Sound.{is_there}
use Rattle.tree_worlds.specs.World.{WorldData}
use Rattle.tree_worlds.specs.Operand.{is_file, is_folder}
use Rattle.sh_places.specs.declared.kind.Kind.{Kind}
use Rattle.sh_places.specs.declared.kind.Kind.TheVariants.{Dir, File}
use Rattle.sh_places.specs.declared.spot.Site.{Site}
use Rattle.sh_places.specs.declared.spot.Site.TheVariants.{Tree as in_tree, Readable as in_readable, Input as in_input}
use Rattle.sh_places.specs.Looks.{kind_of, kind_in, kind_at, input_kind, input_names, names_in, names_at, next_name, tree_of}
use Rattle.sh_places.specs.Finding.{spot}
use Rattle.sh_files.specs.Goals.{is_dir}

abbrev order : List ℕ → List ℕ → Ordering
order = slice_cmp nat_cmp

-- each of the names comes once
abbrev pub IsOnce : Names → Type 0
IsOnce [] = Unit {0}
IsOnce (name ∷ names) = (In name names → ⊥) × IsOnce names

-- 1. Names of a list.

exact : (x y : List ℕ) → eq_by_cmp order x y ≡ true → x ≡ y
exact x y same = name_same x y ((Equal-is (order x y)).0 same)

itself : (name : List ℕ) → eq_by_cmp order name name ≡ true
itself name = ap is_eq (tied_itself nat_list_cmp_total name)

in-any_of : (names : Names) (name : List ℕ) → In name names → list_any (eq_by_cmp order name) names ≡ true
in-any_of names name there = any-in (eq_by_cmp order name) name names there (itself name)

any_of-in : (names : Names) (name : List ℕ) → list_any (eq_by_cmp order name) names ≡ true → In name names
any_of-in names name is =
    let found = in-any (eq_by_cmp order name) names is in
    subst (λ (n : List ℕ). In n names) (sym (exact name found.0 found.2)) found.1

not_less : (name : List ℕ) → order name name ≡ Less → ⊥
not_less name less = true≢false (sym (itself name) ∙ ap is_eq less)

all-in : (P : List ℕ → Type 0) (names : Names) (name : List ℕ) → AllByRecursion P names → In name names → P name
all-in P [] name all there = absurd there
all-in P (x ∷ names) name all (inl same) = subst P same all.0
all-in P (x ∷ names) name all (inr there) = all-in P names name all.1 there

once-sorted : (names : Names) → IsStrictlySortedBy order names → IsOnce names
unfolding IsStrictlySortedBy
once-sorted [] sorted = tt
once-sorted (name ∷ names) sorted = (λ there. not_less name (all-in (λ other. order name other ≡ Less) names name sorted.0 there), once-sorted names sorted.1)

once-keys : {X : Type 0} (es : List (List ℕ × X)) → is_sorted order es ≡ true → IsOnce (map (λ e. e.0) es)
once-keys [] sorted = tt
once-keys {X = X} (e ∷ es) sorted = (λ there. below es parts.0 there, once-keys es parts.1)
  where
    parts : (below_all order e.0 es ≡ true) × (is_sorted order es ≡ true)
    parts = and_parts (below_all order e.0 es) (is_sorted order es) sorted

    below : (es : List (List ℕ × X)) → below_all order e.0 es ≡ true → In e.0 (map (λ e. e.0) es) → ⊥
    below [] is there = there
    below (f ∷ fs) is (inl same) =
        let less = (and_parts (is_lt (order e.0 f.0)) (below_all order e.0 fs) is).0 in
        true≢false (sym less ∙ ap is_lt (ap (order e.0) same ∙ tied_itself nat_list_cmp_total e.0))
    below (f ∷ fs) is (inr there) = below fs (and_parts (is_lt (order e.0 f.0)) (below_all order e.0 fs) is).1 there

-- 2. In trees.

some-mapped : {A B : Type 0} (f : A → B) (o : Option A) → is_some (option_map f o) ≡ is_some o
some-mapped f None = refl
some-mapped f (Some a) = refl

some-kind : (node : Option Node) → is_some (option_map kind_of (option_map trees.kind_of node)) ≡ is_some node
some-kind node = some-mapped kind_of (option_map trees.kind_of node) ∙ some-mapped trees.kind_of node

tree-names : (tree : Option Tree) (path : Names) (name : List ℕ) → In name (names_in path tree) ↔ IsSome (kind_in (path ++ name ∷ []) tree)
tree-names None path name = (λ there. absurd there, λ is. absurd (true≢false (sym is)))
tree-names (Some tree) path name = (
  λ there. some-kind (node_at tree (path ++ name ∷ [])) ∙ (exactly-below tree path name).0 (Contains-from_any exact name (names_below tree path) (in-any_of (names_below tree path) name there)),
  λ is. any_of-in (names_below tree path) name
      (list_any-from_Contains (eq_by_cmp_equiv nat_list_cmp_total) name (names_below tree path) ((exactly-below tree path name).1 (sym (some-kind (node_at tree (path ++ name ∷ []))) ∙ is))),
)

tree-once : (tree : Option Tree) (path : Names) → IsOnce (names_in path tree)
tree-once None path = tt
tree-once (Some tree) path = once-sorted (names_below tree path) (below-rise tree path)

-- 3. In the input: something stands where a file's path begins.

either_some : (file folder : Bool) → is_some (if file then Some (File None) else if folder then Some (Dir 493) else None) ≡ (file || folder)
either_some true folder = refl
either_some false true = refl
either_some false false = refl

kind-head : (files : FileMap) (path : Names) → IsSome (input_kind files path) → (rest : Names) × IsSome (fin.get files (path ++ rest))
kind-head files path is = by (is_file files path) (is_folder files path) refl refl (sym (either_some (is_file files path) (is_folder files path)) ∙ is)
  where
    by : (file folder : Bool) → is_file files path ≡ file → is_folder files path ≡ folder → (file || folder) ≡ true → (rest : Names) × IsSome (fin.get files (path ++ rest))
    by true folder there below is = ([], ap (λ (p : Names). is_some (fin.get files p)) (append-nil path) ∙ there)
    by false true there below is =
        let found = any-get path_total path_same (λ file. is_below path file.0) files below in
        let rest = rest-of_below path found.0 found.3 in
        (rest.0 ∷ rest.1, ap (λ (p : Names). is_some (fin.get files p)) (sym rest.2) ∙ ap is_some found.2)
    by false false there below is = absurd (true≢false (sym is))

folder-there : (files : FileMap) (path : Names) (name : List ℕ) (rest : Names) → IsSome (fin.get files (path ++ name ∷ rest)) → is_folder files path ≡ true
folder-there files path name rest is =
    let value = is_there (fin.get files (path ++ name ∷ rest)) is in
    get-any path_total path_same (λ file. is_below path file.0) files (path ++ name ∷ rest) value.0 value.1 (below-of_rest path name rest)

head-kind : (files : FileMap) (path rest : Names) → IsSome (fin.get files (path ++ rest)) → IsSome (input_kind files path)
head-kind files path [] is =
    either_some (is_file files path) (is_folder files path) ∙ ap (λ b. b || is_folder files path) (ap (λ (p : Names). is_some (fin.get files p)) (sym (append-nil path)) ∙ is)
head-kind files path (name ∷ rest) is =
    either_some (is_file files path) (is_folder files path) ∙ ap (λ b. is_file files path || b) (folder-there files path name rest is) ∙ or_true (is_file files path)
  where
    or_true : (b : Bool) → (b || true) ≡ true
    or_true true = refl
    or_true false = refl

-- below what is no folder of the input nothing stands
pub input-leaf : (files : FileMap) (path : Names) (name : List ℕ) (rest : Names) → IsInput files → is_dir (input_kind files path) ≡ false → input_kind files (path ++ name ∷ rest) ≡ None
input-leaf files path name rest input leaf = none (input_kind files (path ++ name ∷ rest)) (λ some.
    let head = kind-head files (path ++ name ∷ rest) some in
    let below : IsSome (fin.get files (path ++ name ∷ (rest ++ head.0))) = ap (λ (p : Names). is_some (fin.get files p)) (sym (rows path (name ∷ rest) head.0)) ∙ head.1 in
    by (is_file files path) (is_folder files path) refl (folder-there files path name (rest ++ head.0) below) (rest ++ head.0) below leaf)
  where
    none : (kind : Option Kind) → (is_some kind ≡ true → ⊥) → kind ≡ None
    none None never = refl
    none (Some kind) never = absurd (never refl)

    by : (file folder : Bool) → is_file files path ≡ file → folder ≡ true → (more : Names) → IsSome (fin.get files (path ++ name ∷ more))
        → is_dir (if file then Some (File None) else if folder then Some (Dir 493) else None) ≡ false → ⊥
    by true folder there is more below leaf = IsFolder-apart files path input (name, (more, below)) there
    by false true there is more below leaf = true≢false leaf
    by false false there is more below leaf = true≢false (sym is)

-- 4. The names that the input's files go on with.

abbrev named : List ℕ → List ℕ × Unit {0}
named name = (name, tt {0})

abbrev gives : List ℕ → Option (List ℕ) → Bool
gives q None = false
gives q (Some name) = eq_by_cmp order q name

next-is : (at path : Names) (q : List ℕ) → gives q (next_name at path) ≡ true → (rest : Names) × (path ≡ at ++ q ∷ rest)
next-is [] [] q passes = absurd (true≢false (sym passes))
next-is [] (name ∷ names) q passes = (names, ap (λ (n : List ℕ). n ∷ names) (sym (exact q name passes)))
next-is (name ∷ at) [] q passes = absurd (true≢false (sym passes))
next-is (name ∷ at) (other ∷ path) q passes = by (pointwise nat_eq name other) refl (next-is at path q) passes
  where
    by : (b : Bool) → pointwise nat_eq name other ≡ b → (gives q (next_name at path) ≡ true → (rest : Names) × (path ≡ at ++ q ∷ rest))
        → gives q (if b then next_name at path else None) ≡ true → (rest : Names) × (other ∷ path ≡ (name ∷ at) ++ q ∷ rest)
    by true same later passes = let found = later passes in (found.0, λ i. sym (same_text name other (sym same)) i ∷ found.1 i)
    by false same later passes = absurd (true≢false (sym passes))

next-of : (at : Names) (q : List ℕ) (rest : Names) → next_name at (at ++ q ∷ rest) ≡ Some q
next-of [] q rest = refl
next-of (name ∷ at) q rest = ap (λ b. if b then next_name at (at ++ q ∷ rest) else None) ((bytes_decides name name).1 refl) ∙ next-of at q rest

any-given : {X : Type 0} (h : X → Option (List ℕ)) (q : List ℕ) (xs : List X) → list_any (eq_by_cmp order q) (filter_map h xs) ≡ list_any (λ x. gives q (h x)) xs
any-given h q [] = refl
any-given {X = X} h q (x ∷ xs) = by (h x) (any-given h q xs)
  where
    by : (o : Option (List ℕ)) → list_any (eq_by_cmp order q) (filter_map h xs) ≡ list_any (λ (y : X). gives q (h y)) xs
        → list_any (eq_by_cmp order q) (cons_option o (filter_map h xs)) ≡ (gives q o || list_any (λ (y : X). gives q (h y)) xs)
    by None rest = rest
    by (Some name) rest = ap (λ b. eq_by_cmp order q name || b) rest

any-mapped : {X Y : Type 0} (f : X → Y) (test : Y → Bool) (xs : List X) → list_any test (map f xs) ≡ list_any (λ x. test (f x)) xs
any-mapped f test [] = refl
any-mapped f test (x ∷ xs) = ap (λ b. test (f x) || b) (any-mapped f test xs)

map-keys : (names : Names) → map (λ e. e.0) (map named names) ≡ names
map-keys [] = refl
map-keys (name ∷ names) = ap (λ (rest : Names). name ∷ rest) (map-keys names)

-- a name is among them just where the files have it
any-input : (files : FileMap) (path : Names) (q : List ℕ) → list_any (eq_by_cmp order q) (input_names files path) ≡ list_any (λ entry. gives q (next_name path entry.0)) (fin.entries files)
any-input files path q =
    let listed : Names = filter_map (next_name path) (fin.keys files) in
    sym (fin.contains_key-keys (fin.from_entries {R = order} (map named listed)) q)
    ∙ ap is_some (fin.get-from_entries nat_list_cmp_total (map named listed) q)
    ∙ is_some-find order q (map named listed)
    ∙ ap (list_any (eq_by_cmp order q)) (map-keys listed)
    ∙ any-given (next_name path) q (fin.keys files)
    ∙ any-mapped (λ entry. entry.0) (λ p. gives q (next_name path p)) (fin.entries files)

names-input : (files : FileMap) (path : Names) (name : List ℕ) → In name (input_names files path) ↔ IsSome (input_kind files (path ++ name ∷ []))
names-input files path name = (
  λ there.
      let found = any-get path_total path_same (λ entry. gives name (next_name path entry.0)) files (sym (any-input files path name) ∙ in-any_of (input_names files path) name there) in
      let next = next-is path found.0 name found.3 in
      head-kind files (path ++ name ∷ []) next.0 (ap (λ (p : Names). is_some (fin.get files p)) (rows path (name ∷ []) next.0 ∙ sym next.1) ∙ ap is_some found.2),
  λ is.
      let head = kind-head files (path ++ name ∷ []) is in
      let value = is_there (fin.get files (path ++ name ∷ head.0)) (ap (λ (p : Names). is_some (fin.get files p)) (sym (rows path (name ∷ []) head.0)) ∙ head.1) in
      any_of-in (input_names files path) name (any-input files path name
      ∙ get-any path_total path_same (λ entry. gives name (next_name path entry.0)) files (path ++ name ∷ head.0) value.0 value.1 (ap (gives name) (next-of path name head.0) ∙ itself name)),
)

-- 5. At every site.

pub entries-exact : (world : WorldData) (files : FileMap) (site : Site) (path : Names) (name : List ℕ) → In name (names_at world files (spot site path)) ↔ IsSome (kind_at world files (spot site (path ++ name ∷ [])))
entries-exact world files (in_tree area) path name = tree-names (tree_of world (in_tree area)) path name
entries-exact world files (in_readable task) path name = tree-names (tree_of world (in_readable task)) path name
entries-exact world files in_input path name = names-input files path name

pub entries-once : (world : WorldData) (files : FileMap) (site : Site) (path : Names) → IsOnce (names_at world files (spot site path))
entries-once world files (in_tree area) path = tree-once (tree_of world (in_tree area)) path
entries-once world files (in_readable task) path = tree-once (tree_of world (in_readable task)) path
entries-once world files in_input path =
    let map_of = fin.from_entries {R = order} (map named (filter_map (next_name path) (fin.keys files))) in
    once-keys (fin.entries map_of) (is_true (is_sorted order (fin.entries map_of)) (fin.entries_sorted map_of))
