-- Names that are carried one after another are those after a move.
use Rattle.std.proofs.Common.{ℕ, ◌≡◌, inl, inr, Bool, true, false, cond, ◌||◌, List, [], ◌∷◌, ◌++◌, map, Option, Some, None, Ordering, is_some, refl, sym, ap, ◌∙◌, append-nil, length, length-append, arith}
use Rattle.std.specs.FinMap as fin
use Rattle.std.specs.FinMap.Entries.{where_key}
use Rattle.std.specs.List.{list_any}
use Rattle.std.specs.Ordering.{eq_by_cmp}
use Rattle.std.proofs.lemmas.Bool.{true≢false}
use Rattle.std.proofs.lemmas.Option.{same_Some}
use Rattle.br_path.specs.Path.{Names, path_cmp}
use Rattle.br_path.proofs.Paths.{names_decide}
use Rattle.br_path.proofs.PathOrder.{path_total, path_same}
use Rattle.tree_ops.specs.declared.entry.Node.{Node}
use Rattle.tree_ops.specs.Tree.{Tree, node_at}
use Rattle.tree_ops.specs.Change.{is_below, is_path, is_at_or_below, moved, moved_path}
use Rattle.tree_ops.proofs.Finds.{In, any-in, in-any, in-find, find-in}
use Rattle.tree_ops.proofs.Heads.{rest-of_head, head-of_rest, rest-of_below, below-of_rest, moved_path-below, moved_path-other}
use Rattle.tree_ops.proofs.Inserts.{get-insert_same}
use Rattle.tree_ops.proofs.Moving.{IsMove, stay-moved, came-moved}
use Rattle.tree_ops.proofs.Sound.{IsSound, is_there}
use Rattle.tree_map.specs.declared.moving.Move.{Move}
use Rattle.tree_map.specs.NameTable.{NameMap}
use Rattle.tree_map.specs.Moving.{move_of, moves_below, is_taken, put_there, with_copy, with_copies, without_paths, carried}
use Rattle.tree_map.proofs.Listed.{path_tests}

-- 1. Members of lists.

pub in-kept : {K X : Type 0} (R : K → K → Ordering) (p : K → Bool) (e : K × X) (es : List (K × X)) → In e es → p e.0 ≡ true → In e (where_key R p es)
in-kept R p e [] there is = absurd there
in-kept {K = K} {X = X} R p e (x ∷ xs) (inl same) is = by (p x.0) (ap (λ (e : K × X). p e.0) same ∙ is)
  where
    by : (b : Bool) → b ≡ true → In e (cond b (x ∷ where_key R p xs) (where_key R p xs))
    by true holds = inl same
    by false holds = absurd (true≢false (sym holds))
in-kept R p e (x ∷ xs) (inr there) is = by (p x.0) (in-kept R p e xs there is)
  where
    by : (b : Bool) → In e (where_key R p xs) → In e (cond b (x ∷ where_key R p xs) (where_key R p xs))
    by true rest = inr rest
    by false rest = rest

pub kept-in : {K X : Type 0} (R : K → K → Ordering) (p : K → Bool) (e : K × X) (es : List (K × X)) → In e (where_key R p es) → In e es × (p e.0 ≡ true)
kept-in R p e [] there = absurd there
kept-in {K = K} {X = X} R p e (x ∷ xs) there = by (kept-in R p e xs) (p x.0) refl there
  where
    by : (In e (where_key R p xs) → In e xs × (p e.0 ≡ true)) → (b : Bool) → p x.0 ≡ b → In e (cond b (x ∷ where_key R p xs) (where_key R p xs)) → In e (x ∷ xs) × (p e.0 ≡ true)
    by deeper true is (inl same) = (inl same, ap (λ (e : K × X). p e.0) (sym same) ∙ is)
    by deeper true is (inr rest) = (inr (deeper rest).0, (deeper rest).1)
    by deeper false is rest = (inr (deeper rest).0, (deeper rest).1)

in-map : {A B : Type 0} (f : A → B) (a : A) (xs : List A) → In a xs → In (f a) (map f xs)
in-map f a [] there = absurd there
in-map f a (x ∷ xs) (inl same) = inl (ap f same)
in-map f a (x ∷ xs) (inr there) = inr (in-map f a xs there)

map-in : {A B : Type 0} (f : A → B) (b : B) (xs : List A) → In b (map f xs) → (a : A) × In a xs × (f a ≡ b)
map-in f b [] there = absurd there
map-in f b (x ∷ xs) (inl same) = (x, inl refl, same)
map-in f b (x ∷ xs) (inr there) = let found = map-in f b xs there in (found.0, inr found.1, found.2)

-- 2. What copies and removes leave at a path.

eq-path : (a b : Names) → is_path a b ≡ true → a ≡ b
eq-path a b is = (names_decide a b).0 is

eq-other : (q k : Names) → (q ≡ k → ⊥) → eq_by_cmp path_cmp q k ≡ false
eq-other q k apart = by (eq_by_cmp path_cmp q k) refl
  where
    by : (b : Bool) → eq_by_cmp path_cmp q k ≡ b → b ≡ false
    by true is = absurd (apart (eq-path q k (path_tests q k ∙ is)))
    by false is = refl

insert-other : (m : NameMap) (k : Names) (node : Node) (q : Names) → (q ≡ k → ⊥) → fin.get (fin.insert m k node) q ≡ fin.get m q
insert-other m k node q apart = fin.get-insert path_total m k node q ∙ ap (λ b. cond b (Some node) (fin.get m q)) (eq-other q k apart)

pub copy-other : (m : NameMap) (from to q : Names) → (to ≡ q → ⊥) → fin.get (with_copy m from to) q ≡ fin.get m q
copy-other m from to q apart = by (fin.get m from)
  where
    by : (o : Option Node) → fin.get (put_there m to o) q ≡ fin.get m q
    by None = refl
    by (Some node) = insert-other m to node q (λ same. apart (sym same))

copy-to : (m : NameMap) (from to : Names) (node : Node) → fin.get m from ≡ Some node → fin.get (with_copy m from to) to ≡ Some node
copy-to m from to node there = ap (λ o. fin.get (put_there m to o) to) there ∙ get-insert_same path_total m to node

pub copies-other : (moves : List Move) (m : NameMap) (q : Names) → ((move : Move) → In move moves → move.to ≡ q → ⊥) → fin.get (with_copies moves m) q ≡ fin.get m q
copies-other [] m q none = refl
copies-other (e ∷ es) m q none = copies-other es (with_copy m e.from e.to) q (λ move there. none move (inr there)) ∙ copy-other m e.from e.to q (none e (inl refl))

-- a copy to a path that isn't this one, with the rest of them
pub copied-other_than : (m : NameMap) (one : Move) (left : List Move) (q : Names) → (is_path one.to q || list_any (λ one. is_path one.to q) left) ≡ false
    → (list_any (λ one. is_path one.to q) left ≡ false) × (fin.get (with_copy m one.from one.to) q ≡ fin.get m q)
copied-other_than m one left q none = by (is_path one.to q) refl none
  where
    by : (b : Bool) → is_path one.to q ≡ b → (b || list_any (λ one. is_path one.to q) left) ≡ false → (list_any (λ one. is_path one.to q) left ≡ false) × (fin.get (with_copy m one.from one.to) q ≡ fin.get m q)
    by true same none = absurd (true≢false none)
    by false other rest = (rest, copy-other m one.from one.to q (λ same. true≢false (sym ((names_decide one.to q).1 same) ∙ other)))

-- moves of names that stand, none to where another comes from, and each to a place of its own
record AreMoves (m : NameMap) (moves : List Move) : Type 0 where
  apart : (move other : Move) → In move moves → In other moves → move.to ≡ other.from → ⊥
  one : (move other : Move) → In move moves → In other moves → move.to ≡ other.to → move.from ≡ other.from

copies-to : (was m : NameMap) (moves : List Move) → AreMoves was moves → ((move : Move) → In move moves → fin.get m move.from ≡ fin.get was move.from) → (move : Move) (node : Node) → In move moves → fin.get was move.from ≡ Some node
    → fin.get (with_copies moves m) move.to ≡ Some node
copies-to was m [] are reads move node there stands = absurd there
copies-to was m (e ∷ es) are reads move node there stands =
    let next : NameMap = with_copy m e.from e.to in
    let later : (other : Move) (node : Node) → In other es → fin.get was other.from ≡ Some node → fin.get (with_copies es next) other.to ≡ Some node = λ other node rest stands.
    copies-to was next es (record { apart = λ a b i j. are.apart a b (inr i) (inr j); one = λ a b i j. are.one a b (inr i) (inr j) })
    (λ o inside. copy-other m e.from e.to o.from (are.apart e o (inl refl) (inr inside)) ∙ reads o (inr inside)) other node rest stands in
    elim there [
      | inl same ↦ by later same (list_any (λ other. is_path other.to e.to) es) refl
      | inr rest ↦ later move node rest stands
    ]
  where
    by : ((other : Move) (node : Node) → In other es → fin.get was other.from ≡ Some node → fin.get (with_copies es (with_copy m e.from e.to)) other.to ≡ Some node)
        → e ≡ move → (b : Bool) → list_any (λ other. is_path other.to e.to) es ≡ b → fin.get (with_copies es (with_copy m e.from e.to)) move.to ≡ Some node
    by later same true again =
        let found = in-any (λ other. is_path other.to e.to) es again in
        let target : found.0.to ≡ e.to = eq-path found.0.to e.to found.2 in
        let source : found.0.from ≡ move.from = are.one found.0 e (inr found.1) (inl refl) target ∙ ap (λ (move : Move). move.from) same in
        ap (fin.get (with_copies es (with_copy m e.from e.to))) (sym (target ∙ ap (λ (move : Move). move.to) same)) ∙ later found.0 node found.1 (ap (fin.get was) source ∙ stands)
    by later same false once =
        ap (λ (move : Move). fin.get (with_copies es (with_copy m e.from e.to)) move.to) (sym same)
        ∙ copies-other es (with_copy m e.from e.to) e.to (λ other inside equal. true≢false (sym (any-in (λ other. is_path other.to e.to) other es inside ((names_decide other.to e.to).1 equal)) ∙ once))
        ∙ copy-to m e.from e.to node (reads e (inl refl) ∙ ap (λ (move : Move). fin.get was move.from) same ∙ stands)

cond-none : {A : Type 0} (a b : Bool) (x : Option A) → cond a None (cond b None x) ≡ cond (b || a) None x
cond-none true true x = refl
cond-none true false x = refl
cond-none false true x = refl
cond-none false false x = refl

pub get-without : (paths : List Names) (m : NameMap) (q : Names) → fin.get (without_paths paths m) q ≡ cond (list_any (λ path. is_path path q) paths) None (fin.get m q)
get-without [] m q = refl
get-without (p ∷ ps) m q =
    get-without ps (fin.remove m p) q
    ∙ ap (cond (list_any (λ path. is_path path q) ps) None) (fin.get-remove path_total m p q ∙ ap (λ b. cond b None (fin.get m q)) (sym (path_tests q p) ∙ flipped q p))
    ∙ cond-none (list_any (λ path. is_path path q) ps) (is_path p q) (fin.get m q)
  where
    flipped : (a b : Names) → is_path a b ≡ is_path b a
    flipped a b = same_bools (is_path a b) (is_path b a) (λ is. (names_decide b a).1 (sym ((names_decide a b).0 is))) (λ is. (names_decide a b).1 (sym ((names_decide b a).0 is)))
      where
        same_bools : (a b : Bool) → (a ≡ true → b ≡ true) → (b ≡ true → a ≡ true) → a ≡ b
        same_bools true b f g = sym (f refl)
        same_bools false true f g = g refl
        same_bools false false f g = refl

-- 3. A refused carry leaves the names.

pub undone-copies : (was m : NameMap) (moves : List Move) → ((q : Names) → list_any (λ move. is_path move.to q) moves ≡ false → fin.get m q ≡ fin.get was q)
    → list_any (λ move. is_some (fin.get was move.to)) moves ≡ false → without_paths (map (λ move. move.to) moves) m ≡ was
undone-copies was m moves others free = fin.same_map path_total path_same _ _ (λ q.
    get-without (map (λ move. move.to) moves) m q ∙ ap (λ b. cond b None (fin.get m q)) (any-map q moves) ∙ by q (list_any (λ move. is_path move.to q) moves) refl)
  where
    any-map : (q : Names) (moves : List Move) → list_any (λ path. is_path path q) (map (λ move. move.to) moves) ≡ list_any (λ move. is_path move.to q) moves
    any-map q [] = refl
    any-map q (e ∷ es) = ap (λ b. is_path e.to q || b) (any-map q es)

    none : (o : Option Node) → is_some o ≡ false → o ≡ None
    none None is = refl
    none (Some node) is = absurd (true≢false is)

    not_any : (test : Move → Bool) (move : Move) → In move moves → list_any test moves ≡ false → (b : Bool) → test move ≡ b → test move ≡ false
    not_any test move there all true is = absurd (true≢false (sym (any-in test move moves there is) ∙ all))
    not_any test move there all false is = is

    by : (q : Names) (b : Bool) → list_any (λ move. is_path move.to q) moves ≡ b → cond b None (fin.get m q) ≡ fin.get was q
    by q true is =
        let found = in-any (λ move. is_path move.to q) moves is in
        sym (ap (fin.get was) (sym (eq-path found.0.to q found.2)) ∙ none (fin.get was found.0.to) (not_any (λ move. is_some (fin.get was move.to)) found.0 found.1 free (is_some (fin.get was found.0.to)) refl))
    by q false is = others q is

-- 4. What is carried is what moves.

same_options : {X : Type 0} (a b : Option X) → ((x : X) → a ≡ Some x → b ≡ Some x) → ((x : X) → b ≡ Some x → a ≡ Some x) → a ≡ b
same_options (Some x) b f g = sym (f x refl)
same_options None (Some x) f g = g x refl
same_options None None f g = refl

module _ (tree : Tree) (old at : Names) (sound : IsSound tree) (move : IsMove tree old at) (node : Node) (stands : node_at tree old ≡ Some node) where
  abbrev all_moves : List Move
  all_moves = moves_below old at (fin.entries tree.names)

  -- what each of the moves moves
  record Moves (one : Move) : Type 0 where
    name : List ℕ
    rest : Names
    what : Node
    from : one.from ≡ old ++ name ∷ rest
    to : one.to ≡ at ++ name ∷ rest
    there : node_at tree one.from ≡ Some what
    leads : moved_path old at one.from ≡ one.to

  moves-of : (one : Move) → In one all_moves → Moves one
  moves-of one inside =
      let entry = map-in (λ entry. move_of old at entry.0) one (where_key path_cmp (is_below old) (fin.entries tree.names)) inside in
      let found = kept-in path_cmp (is_below old) entry.0 (fin.entries tree.names) entry.1 in
      let below = rest-of_below old entry.0.0 found.1 in
      record {
        name = below.0;
        rest = below.1;
        what = entry.0.1;
        from = sym (ap (λ (move : Move). move.from) entry.2) ∙ below.2;
        to = sym (ap (λ (move : Move). move.to) entry.2) ∙ ap (moved_path old at) below.2 ∙ moved_path-below old at (below.0 ∷ below.1);
        there = ap (node_at tree) (sym (ap (λ (move : Move). move.from) entry.2)) ∙ fin.get-entries tree.names entry.0.0 ∙ find-in path_total path_same entry.0 (fin.entries tree.names) (fin.entries_sorted tree.names) found.0;
        leads = ap (moved_path old at) (sym (ap (λ (move : Move). move.from) entry.2)) ∙ ap (λ (move : Move). move.to) entry.2;
      }

  -- and which there are
  in-moves : (p : Names) (n : Node) → node_at tree p ≡ Some n → is_below old p ≡ true → In (move_of old at p) all_moves
  in-moves p n there below =
      in-map (λ entry. move_of old at entry.0) (p, n) (where_key path_cmp (is_below old) (fin.entries tree.names))
      (in-kept path_cmp (is_below old) (p, n) (fin.entries tree.names) (in-find path_total path_same p n (fin.entries tree.names) (sym (fin.get-entries tree.names p) ∙ there)) below)

  -- nothing that stands is below `at`, and `old` and `at` are apart
  not_below : (name : List ℕ) (rest p : Names) (n : Node) → node_at tree p ≡ Some n → p ≡ at ++ name ∷ rest → ⊥
  not_below name rest p n there is = move.bare name rest n (ap (node_at tree) (sym is) ∙ there)

  below_old : (rest : Names) → old ++ rest ≡ at → ⊥
  below_old rest is = true≢false (sym (head-of_rest old rest) ∙ ap (is_at_or_below old) is ∙ move.outside)

  old_other : (rest : Names) → old ≡ at ++ rest → ⊥
  old_other [] is = below_old [] (append-nil old ∙ is ∙ append-nil at)
  old_other (name ∷ rest) is = not_below name rest old node stands is

  are_moves : AreMoves tree.names all_moves
  are_moves = record {
    apart = λ a b i j same. let m = moves-of a i in let o = moves-of b j in not_below m.name m.rest b.from o.what o.there (sym same ∙ m.to);
    one = λ a b i j same.
        let m = moves-of a i in
        let o = moves-of b j in
        m.from ∙ ap (λ (l : Names). old ++ l) (behind at (m.name ∷ m.rest) (o.name ∷ o.rest) (sym m.to ∙ same ∙ o.to)) ∙ sym o.from;
  }
    where
      behind : (head a b : Names) → head ++ a ≡ head ++ b → a ≡ b
      behind [] a b is = is
      behind (x ∷ head) a b is = behind head a b (ap (λ (l : Names). drop_first l) is)
        where
          drop_first : Names → Names
          drop_first [] = []
          drop_first (x ∷ xs) = xs

  longer : (head : Names) (name : List ℕ) (rest : Names) → head ≡ head ++ name ∷ rest → ⊥
  longer head name rest same = let lengths : length head ≡ length (head ++ name ∷ rest) = ap (length {A = List ℕ}) same in absurd (omega (arith, length-append head (name ∷ rest)))

  abbrev copied : NameMap
  copied = with_copies all_moves tree.names

  copied-other : (q : Names) (n : Node) → node_at tree q ≡ Some n → fin.get copied q ≡ Some n
  copied-other q n there = copies-other all_moves tree.names q (λ one inside same. let m = moves-of one inside in not_below m.name m.rest q n there (sym same ∙ m.to)) ∙ there

  copied-to : (p : Names) (n : Node) → node_at tree p ≡ Some n → is_below old p ≡ true → fin.get copied (moved_path old at p) ≡ Some n
  copied-to p n there below = copies-to tree.names tree.names all_moves are_moves (λ one inside. refl) (move_of old at p) n (in-moves p n there below) there

  -- at a path after all
  abbrev gone : Names → Bool
  gone q = list_any (λ path. is_path path q) (map (λ one. one.from) all_moves)

  carried-get : (q : Names) → fin.get (carried old at all_moves tree.names) q ≡ cond (gone q) None (cond (eq_by_cmp path_cmp q old) None (cond (eq_by_cmp path_cmp q at) (Some node) (fin.get copied q)))
  carried-get q =
      get-without (map (λ one. one.from) all_moves) (fin.remove (with_copy copied old at) old) q
      ∙ ap (cond (gone q) None) (fin.get-remove path_total (with_copy copied old at) old q
      ∙ ap (cond (eq_by_cmp path_cmp q old) None) (ap (λ o. fin.get (put_there copied at o) q) (copied-other old node stands) ∙ fin.get-insert path_total copied at node q))

  gone-below : (q : Names) → gone q ≡ true → (name : List ℕ) × (rest : Names) × (q ≡ old ++ name ∷ rest) × (n : Node) × (node_at tree q ≡ Some n)
  gone-below q is =
      let path = in-any (λ path. is_path path q) (map (λ one. one.from) all_moves) is in
      let one = map-in (λ (one : Move). one.from) path.0 all_moves path.1 in
      let m = moves-of one.0 one.1 in
      let same : one.0.from ≡ q = one.2 ∙ eq-path path.0 q path.2 in
      (m.name, m.rest, sym same ∙ m.from, m.what, ap (node_at tree) (sym same) ∙ m.there)

  below-gone : (q : Names) (n : Node) → node_at tree q ≡ Some n → is_below old q ≡ true → gone q ≡ true
  below-gone q n there below =
      any-in (λ path. is_path path q) q (map (λ one. one.from) all_moves) (in-map (λ (one : Move). one.from) (move_of old at q) all_moves (in-moves q n there below)) ((names_decide q q).1 refl)

  false-of : (b : Bool) → (b ≡ true → ⊥) → b ≡ false
  false-of true never = absurd (never refl)
  false-of false never = refl

  -- what stays or goes is found where it leads
  stay-carried : (p : Names) (n : Node) → node_at tree p ≡ Some n → (p ≡ at → ⊥) → fin.get (carried old at all_moves tree.names) (moved_path old at p) ≡ Some n
  stay-carried p n there other = by (is_at_or_below old p) refl
    where
      found : (q : Names) → gone q ≡ false → (q ≡ old → ⊥) → (q ≡ at → ⊥) → fin.get copied q ≡ Some n → fin.get (carried old at all_moves tree.names) q ≡ Some n
      found q stays not_old not_at is =
          carried-get q ∙ (λ i. cond (stays i) None (cond (eq-other q old not_old i) None (cond (eq-other q at not_at i) (Some node) (is i))))

      first : (q : Names) → gone q ≡ false → q ≡ at → node ≡ n → fin.get (carried old at all_moves tree.names) q ≡ Some n
      first q stays same is =
          carried-get q ∙ (λ i. cond (stays i) None (cond (eq-other q old (λ equal. old_other [] (sym equal ∙ same ∙ sym (append-nil at))) i) None (cond (eq-at i) (Some (is i)) (fin.get copied q))))
        where
          eq-at : eq_by_cmp path_cmp q at ≡ true
          eq-at = sym (path_tests q at) ∙ (names_decide q at).1 same

      at_gone : (rest q : Names) → q ≡ at ++ rest → gone q ≡ false
      at_gone [] q is = false-of (gone q) (λ yes. let g = gone-below q yes in below_old (g.0 ∷ g.1) (sym g.2 ∙ is ∙ append-nil at))
      at_gone (name ∷ rest) q is = false-of (gone q) (λ yes. let g = gone-below q yes in not_below name rest q g.3 g.4 is)

      at_below : (rest : Names) → p ≡ old ++ rest → fin.get (carried old at all_moves tree.names) (moved_path old at p) ≡ Some n
      at_below [] is =
          let here : moved_path old at p ≡ at ++ [] = ap (moved_path old at) is ∙ moved_path-below old at [] in
          first (moved_path old at p) (at_gone [] (moved_path old at p) here) (here ∙ append-nil at) (same_Some node n (sym stands ∙ ap (node_at tree) (sym (is ∙ append-nil old)) ∙ there))
      at_below (name ∷ rest) is =
          let leads : moved_path old at p ≡ at ++ name ∷ rest = ap (moved_path old at) is ∙ moved_path-below old at (name ∷ rest) in
          let below : is_below old p ≡ true = ap (is_below old) is ∙ below-of_rest old name rest in
          found (moved_path old at p) (at_gone (name ∷ rest) (moved_path old at p) leads) (λ same. old_other (name ∷ rest) (sym same ∙ leads)) (λ same. longer at name rest (sym same ∙ leads)) (copied-to p n there below)

      by : (b : Bool) → is_at_or_below old p ≡ b → fin.get (carried old at all_moves tree.names) (moved_path old at p) ≡ Some n
      by true is = let r = rest-of_head old p is in at_below r.0 r.1
      by false is = ap (fin.get (carried old at all_moves tree.names)) (moved_path-other old at p is)
          ∙ found p (false-of (gone p) (λ yes. let g = gone-below p yes in true≢false (sym (head-of_rest old (g.0 ∷ g.1)) ∙ ap (is_at_or_below old) (sym g.2) ∙ is)))
          (λ same. true≢false (sym (head-of_rest old []) ∙ ap (is_at_or_below old) (append-nil old ∙ sym same) ∙ is)) other (copied-other p n there)

  -- and what is found came from somewhere
  came-carried : (q : Names) (n : Node) → fin.get (carried old at all_moves tree.names) q ≡ Some n → (p : Names) × (node_at tree p ≡ Some n) × (p ≡ at → ⊥) × (moved_path old at p ≡ q)
  came-carried q n is = by (gone q) refl (sym (carried-get q) ∙ is)
    where
      Came : Type 0
      Came = (p : Names) × (node_at tree p ≡ Some n) × (p ≡ at → ⊥) × (moved_path old at p ≡ q)

      unmoved : gone q ≡ false → (q ≡ old → ⊥) → node_at tree q ≡ Some n → is_at_or_below old q ≡ false
      unmoved stays not_old there = false-of (is_at_or_below old q) (λ yes. let r = rest-of_head old q yes in behind r.0 r.1)
        where
          behind : (rest : Names) → q ≡ old ++ rest → ⊥
          behind [] same = not_old (same ∙ append-nil old)
          behind (name ∷ rest) same = true≢false (sym (below-gone q n there (ap (is_below old) same ∙ below-of_rest old name rest)) ∙ stays)

      by_copies : gone q ≡ false → (q ≡ old → ⊥) → (q ≡ at → ⊥) → fin.get copied q ≡ Some n → (b : Bool) → list_any (λ one. is_path one.to q) all_moves ≡ b → Came
      by_copies stays not_old not_at found true any =
          let one = in-any (λ one. is_path one.to q) all_moves any in
          let m = moves-of one.0 one.1 in
          let target : one.0.to ≡ q = eq-path one.0.to q one.2 in
          let here : fin.get copied q ≡ Some m.what = ap (fin.get copied) (sym (m.leads ∙ target)) ∙ copied-to one.0.from m.what m.there (ap (is_below old) m.from ∙ below-of_rest old m.name m.rest) in
          (one.0.from, m.there ∙ sym here ∙ found, λ same. below_old (m.name ∷ m.rest) (sym m.from ∙ same), m.leads ∙ target)
      by_copies stays not_old not_at found false none =
          let there : node_at tree q ≡ Some n = sym (copies-other all_moves tree.names q (λ one inside same. true≢false (sym (any-in (λ one. is_path one.to q) one all_moves inside ((names_decide one.to q).1 same)) ∙ none))) ∙ found in
          (q, there, not_at, moved_path-other old at q (unmoved stays not_old there))

      by_at : gone q ≡ false → (q ≡ old → ⊥) → (b : Bool) → eq_by_cmp path_cmp q at ≡ b → cond b (Some node) (fin.get copied q) ≡ Some n → Came
      by_at stays not_old true same found =
          (old, stands ∙ found, λ equal. below_old [] (append-nil old ∙ equal), (ap (moved_path old at) (sym (append-nil old)) ∙ moved_path-below old at [] ∙ append-nil at) ∙ sym (eq-path q at (path_tests q at ∙ same)))
      by_at stays not_old false other found =
          by_copies stays not_old (λ same. true≢false (sym (sym (path_tests q at) ∙ (names_decide q at).1 same) ∙ other)) found (list_any (λ one. is_path one.to q) all_moves) refl

      by_old : gone q ≡ false → (b : Bool) → eq_by_cmp path_cmp q old ≡ b → cond b None (cond (eq_by_cmp path_cmp q at) (Some node) (fin.get copied q)) ≡ Some n → Came
      by_old stays true same found = cc
      by_old stays false other found = by_at stays (λ same. true≢false (sym (sym (path_tests q old) ∙ (names_decide q old).1 same) ∙ other)) (eq_by_cmp path_cmp q at) refl found

      by : (b : Bool) → gone q ≡ b → cond b None (cond (eq_by_cmp path_cmp q old) None (cond (eq_by_cmp path_cmp q at) (Some node) (fin.get copied q))) ≡ Some n → Came
      by true went found = cc
      by false stays found = by_old stays (eq_by_cmp path_cmp q old) refl found

  -- they move to where nothing stands
  pub none-taken : is_taken tree.names all_moves ≡ false
  none-taken = false-of (is_taken tree.names all_moves) (λ some.
      let one = in-any (λ one. is_some (fin.get tree.names one.to)) all_moves some in
      let m = moves-of one.0 one.1 in
      let there = is_there (fin.get tree.names one.0.to) one.2 in
      not_below m.name m.rest one.0.to there.0 there.1 m.to)

  pub carried-moved : carried old at all_moves tree.names ≡ moved tree.names old at
  carried-moved = fin.same_map path_total path_same _ _ (λ q. same_options _ _
      (λ n is. let p = came-carried q n is in ap (fin.get (moved tree.names old at)) (sym p.3) ∙ stay-moved tree old at sound move p.0 n p.1 p.2)
      (λ n is. let p = came-moved tree old at sound move q n is in ap (fin.get (carried old at all_moves tree.names)) (sym p.3) ∙ stay-carried p.0 n p.1 p.2))
