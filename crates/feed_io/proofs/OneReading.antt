-- A list of files has at most one fault.
use Rattle.std.proofs.Common.{◌<◌, ◌≡◌, inl, inr, List, [], ◌∷◌, ◌++◌, length, refl, sym, ap, subst, ◌∙◌, None, append_assoc, length-append, arith}
use Rattle.std.proofs.Math.Seq.{get_or-append_seam}
use Rattle.std.proofs.lemmas.Bool.{cases_lt}
use Rattle.br_path.specs.Path.{StartsWith}
use Rattle.br_path.specs.PathFault.{path_fault}
use Rattle.br_path.specs.Files.{Clashes}
use Rattle.feed_io.specs.declared.feed.FeedFile.{FeedFile}
use Rattle.feed_io.specs.declared.read.ReadFault.{ReadFault}
use Rattle.feed_io.specs.declared.read.ReadFault.TheVariants.{Feed, TooManyFiles, TooLarge, BadPath, Twice, Memory}
use Rattle.feed_io.specs.Reading.{place_of, files_of, AreApart, IsFaultless, HasFault, IsFirstReadFault}
use Rattle.feed_io.proofs.Faultless.{IsFaultless-front, All-apart, file_at, place_of-filled, total_size-push}

-- the last file of a list without fault has a path
last_path : (before : List FeedFile) (file : FeedFile) → IsFaultless (before ++ file ∷ []) → path_fault file.path ≡ None
last_path before file whole =
    subst (λ other. path_fault other.path ≡ None) (get_or-append_seam before file [] file)
    (whole.paths (length before) file (omega (arith, length-append before (file ∷ []))))

-- the place of the last file of a list without fault was free
last_free : (before : List FeedFile) (file : FeedFile) → IsFaultless (before ++ file ∷ []) → Clashes (files_of before) (place_of file) → ⊥
last_free before file whole (inl root) = place_of-filled file root
last_free before file whole (inr (other, there, starts)) =
    let (found, apart, is) = file_at (λ one. AreApart one file) before other (All-apart before file whole.apart) there in
    elim starts [
      | inl starts ↦ apart.0 (subst (λ q. StartsWith q (place_of file)) is starts)
      | inr starts ↦ apart.1 (subst (λ q. StartsWith (place_of file) q) is starts)
    ]

-- the last file of a list without fault has none
no_fault : (before : List FeedFile) (file : FeedFile) (fault : ReadFault) → IsFaultless (before ++ file ∷ []) → HasFault before file fault → ⊥
no_fault before file Feed whole has = has
no_fault before file Memory whole has = has
no_fault before file TooManyFiles whole has = omega (arith, has, whole.few, length-append before (file ∷ []))
no_fault before file (BadPath number) whole has = has.1 (last_path before file whole)
no_fault before file (Twice at) whole has = last_free before file whole has.2
no_fault before file TooLarge whole has = omega (arith, has.3, whole.small, total_size-push before file)

-- a file has at most one fault after the same files
one_fault : (before : List FeedFile) (file : FeedFile) (a b : ReadFault) → HasFault before file a → HasFault before file b → a ≡ b
one_fault before file Feed b first second = absurd first
one_fault before file Memory b first second = absurd first
one_fault before file TooManyFiles Feed first second = absurd second
one_fault before file TooManyFiles Memory first second = absurd second
one_fault before file TooManyFiles TooManyFiles first second = refl
one_fault before file TooManyFiles (BadPath number) first second = absurd (omega (arith, first, second.0))
one_fault before file TooManyFiles (Twice at) first second = absurd (omega (arith, first, second.0))
one_fault before file TooManyFiles TooLarge first second = absurd (omega (arith, first, second.0))
one_fault before file (BadPath number) Feed first second = absurd second
one_fault before file (BadPath number) Memory first second = absurd second
one_fault before file (BadPath number) TooManyFiles first second = absurd (omega (arith, second, first.0))
one_fault before file (BadPath number) (BadPath other) first second = ap BadPath (first.2 ∙ sym second.2)
one_fault before file (BadPath number) (Twice at) first second = absurd (first.1 second.1)
one_fault before file (BadPath number) TooLarge first second = absurd (first.1 second.1)
one_fault before file (Twice at) Feed first second = absurd second
one_fault before file (Twice at) Memory first second = absurd second
one_fault before file (Twice at) TooManyFiles first second = absurd (omega (arith, second, first.0))
one_fault before file (Twice at) (BadPath number) first second = absurd (second.1 first.1)
one_fault before file (Twice at) (Twice other) first second = ap Twice (first.3 ∙ sym second.3)
one_fault before file (Twice at) TooLarge first second = absurd (second.2 first.2)
one_fault before file TooLarge Feed first second = absurd second
one_fault before file TooLarge Memory first second = absurd second
one_fault before file TooLarge TooManyFiles first second = absurd (omega (arith, second, first.0))
one_fault before file TooLarge (BadPath number) first second = absurd (second.1 first.1)
one_fault before file TooLarge (Twice at) first second = absurd (first.2 second.2)
one_fault before file TooLarge TooLarge first second = refl

-- of two cuts of a list, the element at the earlier one stands before the later one
cut_within : {X : Type 0} (xs ys : List X) (x : X) (us vs : List X) → xs ++ x ∷ us ≡ ys ++ vs → length xs < length ys → (rest : List X) × (ys ≡ (xs ++ x ∷ []) ++ rest)
cut_within [] [] x us vs same below = absurd (omega arith)
cut_within [] (y ∷ ys) x us vs same below = let head : x ≡ y = cc in (ys, ap (λ z. z ∷ ys) (sym head))
cut_within (z ∷ xs) [] x us vs same below = absurd (omega arith)
cut_within (z ∷ xs) (y ∷ ys) x us vs same below =
    let head : z ≡ y = cc in
    let tail : xs ++ x ∷ us ≡ ys ++ vs = cc in
    let (rest, is) = cut_within xs ys x us vs tail (omega arith) in
    (rest, λ i. sym head i ∷ is i)

-- two cuts of a list at one place are the same
same_cut : {X : Type 0} (xs ys : List X) (x y : X) (us vs : List X) → xs ++ x ∷ us ≡ ys ++ y ∷ vs → length xs ≡ length ys → (xs ≡ ys) × (x ≡ y)
same_cut [] [] x y us vs same even = (refl, cc)
same_cut [] (w ∷ ys) x y us vs same even = absurd (omega arith)
same_cut (z ∷ xs) [] x y us vs same even = absurd (omega arith)
same_cut (z ∷ xs) (w ∷ ys) x y us vs same even =
    let head : z ≡ w = cc in
    let tail : xs ++ x ∷ us ≡ ys ++ y ∷ vs = cc in
    let (front, is) = same_cut xs ys x y us vs tail (omega arith) in
    (λ i. head i ∷ front i, is)

-- no file at fault stands before the first one
none_earlier : (list : List FeedFile) (a b : ReadFault) (first : IsFirstReadFault list a) (second : IsFirstReadFault list b) → length first.before < length second.before → ⊥
none_earlier list a b first second below =
    let (rest, is) = cut_within first.before second.before first.file first.behind (second.file ∷ second.behind) (sym first.cut ∙ second.cut) below in
    no_fault first.before first.file a (IsFaultless-front (first.before ++ first.file ∷ []) rest (subst IsFaultless is second.faultless)) first.cause

-- a list without fault has none
pub faultless_none : (list : List FeedFile) (fault : ReadFault) → IsFaultless list → IsFirstReadFault list fault → ⊥
faultless_none list fault whole first =
    no_fault first.before first.file fault
    (IsFaultless-front (first.before ++ first.file ∷ []) first.behind (subst IsFaultless (first.cut ∙ sym (append_assoc first.before (first.file ∷ []) first.behind)) whole))
    first.cause

-- a list has one first fault
pub first_same : (list : List FeedFile) (a b : ReadFault) → IsFirstReadFault list a → IsFirstReadFault list b → a ≡ b
first_same list a b first second = elim (cases_lt (length first.before) (length second.before)) [
  | inl below ↦ absurd (none_earlier list a b first second below)
  | inr upto ↦ elim (cases_lt (length second.before) (length first.before)) [
    | inl below ↦ absurd (none_earlier list b a second first below)
    | inr under ↦
        let (before, file) = same_cut first.before second.before first.file second.file first.behind second.behind (sym first.cut ∙ second.cut) (omega arith) in
        one_fault second.before second.file a b (subst (λ f. HasFault second.before f a) file (subst (λ l. HasFault l first.file a) before first.cause)) second.cause
  ]
]
