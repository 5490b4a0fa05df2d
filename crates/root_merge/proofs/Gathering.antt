-- Owners that are added one after the other are those of one list.
use Rattle.std.proofs.Common.{ℕ, ◌≡◌, Bool, true, false, cond, List, [], ◌∷◌, ◌++◌, Option, Some, None, refl, sym, ap, ◌∙◌}
use Rattle.std.specs.Prelude.{is_some, flat_map}
use Rattle.std.specs.List.{filter_map, range_with_len, cons_option}
use Rattle.std.specs.Option.{option_or}
use Rattle.std.specs.FinMap as fin
use Rattle.std.specs.FinMap.{find}
use Rattle.std.specs.Cmp.{Equal-is}
use Rattle.std.specs.Ordering.{eq_by_cmp}
use Rattle.std.proofs.lemmas.Bool.{true≢false}
use Rattle.std.proofs.lemmas.List.{append-nil}
use Rattle.br_path.specs.Path.{Names, path_cmp}
use Rattle.br_path.specs.declared.area.Area.{Area}
use Rattle.br_path.proofs.PathOrder.{path_total, path_same}
use Rattle.tree_ops.specs.Tree.{Tree}
use Rattle.tree_ops.proofs.Finds.{find-both}
use Rattle.tree_ops.proofs.Heads.{rows}
use Rattle.task_shelves.specs.Packages.{Left}
use Rattle.root_merge.specs.Owners.{Owners, is_left, with_owner, with_written, with_left, with_tasks, all_owners}

abbrev pub Pairs : Type 0
Pairs = List (Names × Option ℕ)

abbrev pub made : Pairs → Owners
made pairs = fin.from_entries pairs

-- what a pair of the written list adds
abbrev pub owned_at : Tree → ℕ → Area × Names → Option (Names × Option ℕ)
owned_at tree task pair = cond (is_left tree pair.0 pair.1) (Some (pair.1, Some task)) None

abbrev pub owned_in : Tree → ℕ → List (Area × Names) → Pairs
owned_in tree task written = filter_map (owned_at tree task) written

abbrev pub owned_by : ℕ → Option Left → Pairs
owned_by task None = []
owned_by task (Some left) = owned_in left.trees.target task left.written

abbrev pub owned_among : (ℕ → Option Left) → List ℕ → Pairs
owned_among lefts tasks = flat_map (λ task. owned_by task (lefts task)) tasks

abbrev pub owned : (ℕ → Option Left) → ℕ → Pairs
owned lefts count = owned_among lefts (range_with_len 0 count) ++ ([], None) ∷ []

none_of : {A : Type 0} (o : Option A) → is_some o ≡ false → o ≡ None
none_of None none = refl
none_of (Some x) none = absurd (true≢false none)

-- a pair whose key is there already changes nothing
stays : (es : Pairs) (k : Names) (v : Option ℕ) (q : Names) → is_some (find path_cmp k es) ≡ true → find path_cmp q es ≡ option_or (find path_cmp q es) (find path_cmp q ((k, v) ∷ []))
stays es k v q there = by (find path_cmp q es) refl (eq_by_cmp path_cmp q k) refl
  where
    by : (o : Option (Option ℕ)) → find path_cmp q es ≡ o → (b : Bool) → eq_by_cmp path_cmp q k ≡ b → o ≡ option_or o (cond b (Some v) None)
    by (Some w) found b tied = refl
    by None found false tied = refl
    by None found true tied = absurd (true≢false (sym there ∙ ap (λ (p : Names). is_some (find path_cmp p es)) (sym (path_same q k ((Equal-is (path_cmp q k)).0 tied))) ∙ ap is_some found))

pub pushed : (es : Pairs) (k : Names) (v : Option ℕ) → with_owner k v (made es) ≡ made (es ++ (k, v) ∷ [])
pushed es k v = by (is_some (find path_cmp k es)) refl
  where
    by : (b : Bool) → is_some (find path_cmp k es) ≡ b → with_owner k v (made es) ≡ made (es ++ (k, v) ∷ [])
    by true there =
        ap (λ b. cond b (made es) (fin.insert (made es) k v)) (ap is_some (fin.get-from_entries path_total es k) ∙ there)
        ∙ fin.same_map path_total path_same _ _ (λ q. fin.get-from_entries path_total es q ∙ stays es k v q there ∙ sym (find-both path_total path_same q es ((k, v) ∷ [])) ∙ sym (fin.get-from_entries path_total (es ++ (k, v) ∷ []) q))
    by false none =
        ap (λ b. cond b (made es) (fin.insert (made es) k v)) (ap is_some (fin.get-from_entries path_total es k) ∙ none)
        ∙ sym (fin.from_entries_push path_total path_same es k v (none_of (find path_cmp k es) none))

gathers-written : (tree : Tree) (task : ℕ) (written : List (Area × Names)) (es : Pairs) → with_written tree task written (made es) ≡ made (es ++ owned_in tree task written)
gathers-written tree task [] es = ap made (sym (append-nil es))
gathers-written tree task (pair ∷ written) es = by (gathers-written tree task written) (is_left tree pair.0 pair.1)
  where
    by : ((es : Pairs) → with_written tree task written (made es) ≡ made (es ++ owned_in tree task written)) → (b : Bool)
        → with_written tree task written (cond b (with_owner pair.1 (Some task) (made es)) (made es)) ≡ made (es ++ cons_option (cond b (Some (pair.1, Some task)) None) (owned_in tree task written))
    by rest true =
        ap (with_written tree task written) (pushed es pair.1 (Some task)) ∙ rest (es ++ (pair.1, Some task) ∷ [])
        ∙ ap made (rows es ((pair.1, Some task) ∷ []) (owned_in tree task written))
    by rest false = rest es

gathers-left : (task : ℕ) (left : Option Left) (es : Pairs) → with_left task left (made es) ≡ made (es ++ owned_by task left)
gathers-left task None es = ap made (sym (append-nil es))
gathers-left task (Some left) es = gathers-written left.trees.target task left.written es

gathers : (lefts : ℕ → Option Left) (tasks : List ℕ) (es : Pairs) → with_tasks lefts tasks (made es) ≡ made (es ++ owned_among lefts tasks)
gathers lefts [] es = ap made (sym (append-nil es))
gathers lefts (task ∷ tasks) es =
    ap (with_tasks lefts tasks) (gathers-left task (lefts task) es) ∙ gathers lefts tasks (es ++ owned_by task (lefts task))
    ∙ ap made (rows es (owned_by task (lefts task)) (owned_among lefts tasks))

-- all owners are those of one list, of which the first counts
pub all-gathered : (lefts : ℕ → Option Left) (count : ℕ) → all_owners lefts count ≡ made (owned lefts count)
all-gathered lefts count = ap (with_owner [] None) (gathers lefts (range_with_len 0 count) []) ∙ pushed (owned_among lefts (range_with_len 0 count)) [] None
