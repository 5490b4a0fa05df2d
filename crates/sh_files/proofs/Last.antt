-- The last of a list of names.
use Rattle.std.proofs.Common.{ℕ, ◌≡◌, List, [], ◌∷◌, ◌++◌, All, Some, refl, sym, subst}
use Rattle.std.proofs.lemmas.List.Elements.{All-head, All-tail}
use Rattle.std.proofs.lemmas.Option.{same_Some}
use Rattle.br_path.specs.Path.{Names}
use Rattle.sh_files.specs.Goals.{last_of}

pub last-of : (front : Names) (last : List ℕ) → last_of (front ++ last ∷ []) ≡ Some last
last-of [] last = refl
last-of (name ∷ []) last = refl
last-of (name ∷ other ∷ front) last = last-of (other ∷ front) last

-- what holds of each name holds of the last
pub last-holds : (P : List ℕ → Type 0) (names : Names) (last : List ℕ) → All P names → Some last ≡ last_of names → P last
last-holds P [] last all is = absurd cc
last-holds P (name ∷ []) last all is = subst P (sym (same_Some last name is)) (All-head P name [] all)
last-holds P (name ∷ other ∷ names) last all is = last-holds P (other ∷ names) last (All-tail P name (other ∷ names) all) is
