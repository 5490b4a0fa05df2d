-- The greatest path that can stand at or below another.
use Rattle.std.proofs.Common.{ℕ, zero, suc, ◌+◌, ◌-◌, min, ◌<◌, ◌≤◌, ◌≡◌, ◌⊎◌, inl, inr, Less, Equal, Greater, List, [], ◌∷◌, ◌++◌, length, refl, sym, ap, subst, ◌∙◌, arith, length-append, append-nil}
use Rattle.std.specs.Prelude.{All, IsTrue, replicate}
use Rattle.std.specs.BTreeMap.Range.{IsLeBy}
use Rattle.std.specs.Cmp.Lexicographic.{slice_cmp, nat_list_cmp_total}
use Rattle.std.specs.Ordering.{nat_cmp, is_gt, ordering_then}
use Rattle.std.proofs.lemmas.Bool.{cases_lt}
use Rattle.std.proofs.lemmas.Bool.Decides.{nat_tests}
use Rattle.std.proofs.lemmas.Cmp.{ranked, tied_itself, upto}
use Rattle.std.proofs.lemmas.List.Elements.{All-head, All-tail}
use Rattle.br_path.specs.Path.{Names, IsName, IsPath, StartsWith, path_cmp, path_text, rooted_text, is_name_byte}
use Rattle.br_path.proofs.PathOrder.{path_total, path_cmp-head}
use Rattle.tree_ops.proofs.Heads.{rows}
use Rattle.tree_map.proofs.Moves.{rooted-append}

-- no byte of a name is above 126
byte_upto : (byte : ℕ) → IsTrue (is_name_byte byte) → byte ≤ 126
byte_upto byte is = grind (arith, nat_tests)

-- a name is at most that of as many bytes 126, or more
top-name : (name : List ℕ) (count : ℕ) → All (λ byte. IsTrue (is_name_byte byte)) name → length name ≤ count → (slice_cmp nat_cmp name (replicate count 126) ≡ Less) ⊎ (name ≡ replicate count 126)
top-name [] zero legal fits = inr refl
top-name [] (suc count) legal fits = inl refl
top-name (x ∷ xs) zero legal fits = absurd (omega arith)
top-name (x ∷ xs) (suc count) legal fits =
    let rest = top-name xs count (All-tail (λ byte. IsTrue (is_name_byte byte)) x xs legal) (omega arith) in
    let byte = byte_upto x (All-head (λ byte. IsTrue (is_name_byte byte)) x xs legal) in
    elim (nat_cmp x 126) as (λ r. nat_cmp x 126 ≡ r → (ordering_then r (slice_cmp nat_cmp xs (replicate count 126)) ≡ Less) ⊎ (x ∷ xs ≡ 126 ∷ replicate count 126)) [
      | Less ↦ λ is. inl refl
      | Equal ↦ λ is.
          elim rest [
            | inl less ↦ inl less
            | inr same ↦ inr (λ i. ranked x 126 Equal (sym is) i ∷ same i)
          ]
      | Greater ↦ λ is. let above : 126 < x = ranked x 126 Greater (sym is) in absurd (omega arith)
    ] refl

-- paths after one head are ordered as what is after it
cmp-behind : (head a b : Names) → path_cmp (head ++ a) (head ++ b) ≡ path_cmp a b
cmp-behind [] a b = refl
cmp-behind (x ∷ head) a b = ap (λ r. ordering_then r (path_cmp (head ++ a) (head ++ b))) (tied_itself nat_list_cmp_total x) ∙ cmp-behind head a b

-- the text of a path is one slash shorter than that with a slash before each name
rooted-path_text : (name : List ℕ) (names : Names) → length (rooted_text (name ∷ names)) ≡ length (path_text (name ∷ names)) + 1
rooted-path_text name [] = omega (arith, length-append name [])
rooted-path_text name (next ∷ names) = omega (arith, rooted-path_text next names, length-append name (47 ∷ path_text (next ∷ names)), length-append name (rooted_text (next ∷ names)))

-- how long a name can be that a path goes on with
name_fits : (last : Names) (name : List ℕ) (names : Names) → IsPath (last ++ name ∷ names) → length (rooted_text last) + length name ≤ 1024
name_fits [] name names path = omega (arith, path.short, rooted-path_text name names, length-append name (rooted_text names))
name_fits (x ∷ last) name names path =
    omega (arith, path.short, rooted-path_text x (last ++ name ∷ names), rooted-append (x ∷ last) (name ∷ names), length-append name (rooted_text names))

-- the names after a head of a path
legal_name : (last : Names) (name : List ℕ) (names : Names) → All IsName (last ++ name ∷ names) → IsName name
legal_name [] name names legal = All-head IsName name names legal
legal_name (x ∷ last) name names legal = legal_name last name names (All-tail IsName x (last ++ name ∷ names) legal)

-- a path at or below the head; each other that can stand there is at most it, or goes on from it
pub record IsReach (head last : Names) : Type 0 where
  pub below : StartsWith last head
  pub others : (q : Names) → IsPath q → StartsWith q head → IsLeBy path_cmp q last ⊎ StartsWith q last

pub reach-first : (head : Names) → IsReach head head
reach-first head = record { below = ([], sym (append-nil head)); others = λ q path starts. inr starts }

-- it goes on with a name of bytes 126 that is as long as it can be
pub reach-more : (head last next : Names) (count : ℕ) → IsReach head last → next ≡ last ++ replicate count 126 ∷ [] → (255 ≤ count) ⊎ (1024 ≤ length (rooted_text last) + count) → IsReach head next
reach-more head last next count reach is long = subst (IsReach head) (sym is) (record {
  below = (reach.below.0 ++ replicate count 126 ∷ [], ap (λ (l : Names). l ++ replicate count 126 ∷ []) reach.below.1 ∙ rows head reach.below.0 (replicate count 126 ∷ []));
  others = λ q path starts. elim (reach.others q path starts) [
    | inl less ↦ inl (upto path_total q last (last ++ replicate count 126 ∷ []) less (path_cmp-head last (replicate count 126 ∷ [])))
    | inr on ↦ behind q path on.0 on.1
  ];
})
  where
    long_enough : (name : List ℕ) (names : Names) → IsPath (last ++ name ∷ names) → length name ≤ count
    long_enough name names path =
        let short = (legal_name last name names path.legal).short in
        let fits = name_fits last name names path in
        elim long [ inl at_most ↦ omega arith | inr room ↦ omega arith ]

    behind : (q : Names) → IsPath q → (rest : Names) → q ≡ last ++ rest → IsLeBy path_cmp q (last ++ replicate count 126 ∷ []) ⊎ StartsWith q (last ++ replicate count 126 ∷ [])
    behind q path [] is = inl (ap (λ (q : Names). is_gt (path_cmp q (last ++ replicate count 126 ∷ []))) (is ∙ append-nil last) ∙ path_cmp-head last (replicate count 126 ∷ []))
    behind q path (name ∷ names) is =
        let whole = subst IsPath is path in
        elim (top-name name count (legal_name last name names whole.legal).printable (long_enough name names whole)) [
          | inl less ↦ inl (ap (λ (q : Names). is_gt (path_cmp q (last ++ replicate count 126 ∷ []))) is ∙ ap is_gt (cmp-behind last (name ∷ names) (replicate count 126 ∷ []) ∙ ap (λ r. ordering_then r (path_cmp names [])) less))
          | inr same ↦ inr (names, is ∙ ap (λ (n : List ℕ). last ++ n ∷ names) same ∙ sym (rows last (replicate count 126 ∷ []) names))
        ]

-- a name as long as there is room for, and as a name can be
pub room_used : (rooted read count : ℕ) → read ≡ rooted → count ≡ min (1024 - read) 255 → (255 ≤ count) ⊎ (1024 ≤ rooted + count)
room_used rooted read count same is = elim (cases_lt count 255) [ inl less ↦ inr (omega arith) | inr full ↦ inl full ]

-- where there is no room for one more name, it is the greatest
pub reach-last : (head last : Names) → IsReach head last → 1024 ≤ length (rooted_text last) → (q : Names) → IsPath q → StartsWith q head → IsLeBy path_cmp q last
reach-last head last reach full q path starts = elim (reach.others q path starts) [ inl less ↦ less | inr on ↦ behind on.0 on.1 ]
  where
    behind : (rest : Names) → q ≡ last ++ rest → IsLeBy path_cmp q last
    behind [] is = ap (λ (q : Names). is_gt (path_cmp q last)) (is ∙ append-nil last) ∙ ap is_gt (tied_itself path_total last)
    behind (name ∷ names) is =
        let whole = subst IsPath is path in
        let filled = (legal_name last name names whole.legal).filled in
        let fits = name_fits last name names whole in
        absurd (omega arith)
