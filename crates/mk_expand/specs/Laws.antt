-- What the steps of the reading of arguments and of `subst` come to, in words without those steps.
use Rattle.std.specs.Prelude.{◌≡◌, ℕ, suc, ◌+◌, true, List, [], ◌∷◌, ◌++◌, take, drop, Option, None, Some}
use Rattle.mk_expand.specs.declared.bracket.Bracket.{Bracket}
use Rattle.mk_expand.specs.Bracket.{opening, IsUnclosed}
use Rattle.mk_expand.specs.Table.{may_divide}

-- each bracket of this kind that is opened in the text is closed in it
abbrev pub IsShut : Bracket → List ℕ → Type 0
IsShut kind text = (before behind : List ℕ) → text ≡ before ++ opening kind ∷ behind → IsUnclosed kind behind → ⊥

-- no comma of the text stands outside brackets
abbrev pub IsWhole : Bracket → List ℕ → Type 0
IsWhole kind text = (front rest : List ℕ) → text ≡ front ++ 44 ∷ rest → IsShut kind front → ⊥

-- the first comma outside brackets divides the text into a front and a rest
pub record IsCut (kind : Bracket) (text front rest : List ℕ) : Type 0 where
  pub cut : text ≡ front ++ 44 ∷ rest
  pub shut : IsShut kind front
  pub whole : IsWhole kind front

-- the place of the first comma outside brackets, where there is one
abbrev pub IsFirstComma : Bracket → List ℕ → Option ℕ → Type 0
IsFirstComma kind text None = IsWhole kind text
IsFirstComma kind text (Some place) = IsCut kind text (take place text) (drop (suc place) text)

-- the arguments of a text after so many others: each ends at the first comma outside brackets, and the last is what is left
-- where no more comma may divide, or none does
pub data AreArguments (kind : Bracket) (most : Option ℕ) : ℕ → List ℕ → List (List ℕ) → Type 0 where
  last : {count : ℕ} {text : List ℕ} → (may_divide most count ≡ true → IsWhole kind text) → AreArguments kind most count text (text ∷ [])
  next : {count : ℕ} {text front rest : List ℕ} {args : List (List ℕ)} → may_divide most count ≡ true → IsCut kind text front rest →
      AreArguments kind most (count + 1) rest args → AreArguments kind most count text (front ∷ args)

-- a text with `to` in place of `from`, read from the left: at `from` the reading goes on after it, and another byte stays
pub data IsReplaced (from to : List ℕ) : List ℕ → List ℕ → Type 0 where
  end : IsReplaced from to [] []
  there : {text out : List ℕ} → IsReplaced from to text out → IsReplaced from to (from ++ text) (to ++ out)
  other : {b : ℕ} {text out : List ℕ} → ((rest : List ℕ) → b ∷ text ≡ from ++ rest → ⊥) → IsReplaced from to text out →
      IsReplaced from to (b ∷ text) (b ∷ out)
