-- Walks, paths and cycles.
use Rattle.std.proofs.Common.{ℕ, List, [], ◌∷◌, ◌++◌, ◌≡◌, sym, subst, ◌∙◌, Bool, true, inl, inr}
use Rattle.std.proofs.lemmas.Bool.{false≢true, cases_eq}
use Rattle.cycle_walks.specs.Graph.{is_in}
use Rattle.cycle_walks.specs.Walks.{IsWalk, Reaches, OnCycle}
use Rattle.cycle_walks.specs.Descent.{IsLinked}
use Rattle.cycle_walks.proofs.Members.{is_in-other}

-- what a walk leads to is named
pub named_last : (names : ℕ → ℕ → Bool) (s : ℕ) (between : List ℕ) (t : ℕ) → IsWalk names s (between ++ t ∷ []) → (u : ℕ) × (names u t ≡ true)
named_last names s [] t walk = (s, walk.0)
named_last names s (u ∷ us) t walk = named_last names u us t walk.1

-- one step more
pub IsWalk-push : (names : ℕ → ℕ → Bool) (s : ℕ) (between : List ℕ) (t u : ℕ) → IsWalk names s (between ++ t ∷ []) → names t u ≡ true → IsWalk names s ((between ++ t ∷ []) ++ u ∷ [])
IsWalk-push names s [] t u walk step = (walk.0, (step, tt))
IsWalk-push names s (v ∷ vs) t u walk step = (walk.0, IsWalk-push names v vs t u walk.1 step)

pub Reaches-step : (names : ℕ → ℕ → Bool) (s t u : ℕ) → Reaches names s t → names t u ≡ true → Reaches names s u
Reaches-step names s t u (between, walk) step = (between ++ t ∷ [], IsWalk-push names s between t u walk step)

-- a walk from the last node of a path to a node on it closes a cycle
pub closed_path : (names : ℕ → ℕ → Bool) (rest : List ℕ) (top : ℕ) (between : List ℕ) (t : ℕ) → IsLinked names (top ∷ rest) → is_in (top ∷ rest) t ≡ true → IsWalk names top (between ++ t ∷ []) → OnCycle names t
closed_path names [] top between t linked there walk =
    elim (cases_eq t top) [
      | inl is ↦ (between, subst (λ s. IsWalk names s (between ++ t ∷ [])) (sym is) walk)
      | inr apart ↦ absurd (false≢true (sym (is_in-other [] top t apart) ∙ there))
    ]
closed_path names (before ∷ rest) top between t linked there walk =
    elim (cases_eq t top) [
      | inl is ↦ (between, subst (λ s. IsWalk names s (between ++ t ∷ [])) (sym is) walk)
      | inr apart ↦ closed_path names rest before (top ∷ between) t linked.1 (sym (is_in-other (before ∷ rest) top t apart) ∙ there) (linked.0, walk)
    ]
