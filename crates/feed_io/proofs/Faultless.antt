-- Facts on lists of files without fault, and on their map.
use Rattle.std.proofs.Common.{ℕ, ◌+◌, ◌<◌, ◌≤◌, ◌≡◌, List, [], ◌∷◌, ◌++◌, length, map, get_or, refl, sym, ap, subst, ◌∙◌, true, false, cond, Option, Some, None, inl, inr, ◌⊎◌, IsSome, length-append, append-nil, nat_eq, arith, zero-add}
use Rattle.std.specs.Prelude.{All, AllPairs}
use Rattle.std.specs.FinMap as fin
use Rattle.std.specs.Ordering.{eq_by_cmp}
use Rattle.std.proofs.Math.Seq.{get_or-append_seam}
use Rattle.std.proofs.lemmas.Bool.{true≢false}
use Rattle.std.proofs.lemmas.Cmp.{eq_by_cmp_equiv}
use Rattle.std.proofs.lemmas.List.{get_or_append_left, map-append}
use Rattle.std.proofs.lemmas.List.Elements.{All-head, All-tail, All-cons, All-nil, All-push, All-weaker}
use Rattle.std.proofs.lemmas.List.Quantifiers.{all_pairs_push}
use Rattle.std.proofs.lemmas.List.Splits.{length-slice_split}
use Rattle.std.proofs.lemmas.List.Sums.{sum_by-append}
use Rattle.br_path.specs.Path.{Names, path_cmp}
use Rattle.br_path.specs.PathFault.{path_fault}
use Rattle.br_path.specs.Files.{FileMap, IsFile, Clashes}
use Rattle.br_path.proofs.Inputs.{IsFile-empty, IsFile-insert}
use Rattle.br_path.proofs.PathOrder.{path_total, path_same}
use Rattle.feed_io.specs.declared.feed.FeedFile.{FeedFile}
use Rattle.feed_io.specs.Reading.{place_of, files_of, total_size, AreApart, IsFaultless}

-- what holds of each element of a list holds of each of its front's
All-front : {X : Type 0} (P : X → Type 0) (xs ys : List X) → All P (xs ++ ys) → All P xs
All-front P xs ys all = λ k d below. subst P (get_or_append_left xs ys d k below) (all k d (omega (arith, length-append xs ys)))

-- what holds of each pair of a list holds of each of its front's
AllPairs-front : {X : Type 0} (R : X → X → Type 0) (xs ys : List X) → AllPairs R (xs ++ ys) → AllPairs R xs
AllPairs-front R xs ys all = λ i j d below within.
    let first : i < length xs = omega arith in
    subst (λ x. R x (get_or xs j d)) (get_or_append_left xs ys d i first)
    (subst (R (get_or (xs ++ ys) i d)) (get_or_append_left xs ys d j within) (all i j d below (omega (arith, length-append xs ys))))

-- the front of files without fault has none
pub IsFaultless-front : (front behind : List FeedFile) → IsFaultless (front ++ behind) → IsFaultless front
IsFaultless-front front behind whole = record {
  few = omega (arith, whole.few, length-append front behind);
  paths = All-front (λ file. path_fault file.path ≡ None) front behind whole.paths;
  apart = AllPairs-front AreApart front behind whole.apart;
  small = omega (arith, whole.small, sum_by-append (λ file. length file.bytes) front behind);
}

-- a path that a file has keeps it where a file is put, and the path put has one
IsFile-put : (files : FileMap) (at : Names) (bytes : List ℕ) (q : Names) → (q ≡ at) ⊎ IsFile files q → IsFile (fin.insert files at bytes) q
IsFile-put files at bytes q holds =
    subst IsSome (sym (fin.get-insert path_total files at bytes q))
    (elim (eq_by_cmp path_cmp q at) as (λ b. eq_by_cmp path_cmp q at ≡ b → IsSome (cond b (Some bytes) (fin.get files q))) [
      | true ↦ λ _. refl
      | false ↦ λ other. elim holds [
        | inl is ↦ absurd (true≢false (sym (ap (eq_by_cmp path_cmp q) (sym is) ∙ (eq_by_cmp_equiv path_total).refl q) ∙ other))
        | inr there ↦ there
      ]
    ] refl)

-- each file of a list has its place in the map
pub All-files_of : (list : List FeedFile) → All (λ file. IsFile (files_of list) (place_of file)) list
All-files_of [] = All-nil (λ file. IsFile (files_of []) (place_of file))
All-files_of (file ∷ list) =
    All-cons (λ other. IsFile (files_of (file ∷ list)) (place_of other)) file list
    (IsFile-put (files_of list) (place_of file) file.bytes (place_of file) (inl refl))
    (All-weaker _ _ (λ other there. IsFile-put (files_of list) (place_of file) file.bytes (place_of other) (inr there)) list (All-files_of list))

-- a path that a file has in the map is the place of one of the list's files
pub file_at : (P : FeedFile → Type 0) (list : List FeedFile) (q : Names) → All P list → IsFile (files_of list) q → (file : FeedFile) × P file × (q ≡ place_of file)
file_at P [] q all there = absurd (IsFile-empty q there)
file_at P (file ∷ list) q all there = elim (IsFile-insert (files_of list) (place_of file) file.bytes q there) [
  | inl is ↦ (file, All-head P file list all, is)
  | inr old ↦ file_at P list q (All-tail P file list all) old
]

-- the parts of a text are never none
pub place_of-filled : (file : FeedFile) → place_of file ≡ [] → ⊥
place_of-filled file none = omega (arith, length-slice_split (λ byte. nat_eq byte 47) file.path, ap length none)

-- each file of a list is apart from the one after it
pub All-apart : (list : List FeedFile) (file : FeedFile) → AllPairs AreApart (list ++ file ∷ []) → All (λ other. AreApart other file) list
All-apart list file apart = λ k d below.
    subst (λ other. AreApart other file) (get_or_append_left list (file ∷ []) d k below)
    (subst (AreApart (get_or (list ++ file ∷ []) k d)) (get_or-append_seam list file [] d)
    (apart k (length list) d below (omega (arith, length-append list (file ∷ [])))))

-- where a place is free, each file of the list is apart from one there
apart_from_free : (list : List FeedFile) (file : FeedFile) → (Clashes (files_of list) (place_of file) → ⊥) → All (λ other. AreApart other file) list
apart_from_free list file free =
    All-weaker (λ other. IsFile (files_of list) (place_of other)) (λ other. AreApart other file) (λ other there. (λ starts. free (inr (place_of other, there, inl starts)), λ starts. free (inr (place_of other, there, inr starts)))) list (All-files_of list)

-- the sizes of a list and one more file
pub total_size-push : (list : List FeedFile) (file : FeedFile) → total_size (list ++ file ∷ []) ≡ total_size list + length file.bytes
total_size-push list file = sum_by-append (λ other. length other.bytes) list (file ∷ []) ∙ ap (λ n. total_size list + n) (zero-add (length file.bytes))

-- files without fault and one more with none
pub IsFaultless-push : (list : List FeedFile) (file : FeedFile) → IsFaultless list → length list < 65536 → path_fault file.path ≡ None → (Clashes (files_of list) (place_of file) → ⊥) → total_size list + length file.bytes ≤ 67108864 → IsFaultless (list ++ file ∷ [])
IsFaultless-push list file whole few path free small = record {
  few = omega (arith, length-append list (file ∷ []));
  paths = All-push (λ other. path_fault other.path ≡ None) list file whole.paths path;
  apart = all_pairs_push AreApart list file whole.apart (apart_from_free list file free);
  small = omega (arith, total_size-push list file);
}

-- where no file is at a place, the map finds none there
none_from_free : (o : Option (List ℕ)) → (IsSome o → ⊥) → o ≡ None
none_from_free None free = refl
none_from_free (Some bytes) free = absurd (free refl)

-- the map of a list and one more file, where its place is free
pub files_of-push : (list : List FeedFile) (file : FeedFile) → (Clashes (files_of list) (place_of file) → ⊥) → files_of (list ++ file ∷ []) ≡ fin.insert (files_of list) (place_of file) file.bytes
files_of-push list file free =
    let entry : FeedFile → Names × List ℕ = λ other. (place_of other, other.bytes) in
    let none = none_from_free (fin.get (files_of list) (place_of file)) (λ there. free (inr (place_of file, there, inl ([], sym (append-nil (place_of file)))))) in
    ap fin.from_entries (map-append entry list (file ∷ []))
    ∙ fin.from_entries_push path_total path_same (map entry list) (place_of file) file.bytes (sym (fin.get-from_entries path_total (map entry list) (place_of file)) ∙ none)
