-- Cycles of places are cycles of symbols.
use Rattle.std.proofs.Common.{ℕ, ◌≡◌, ◌<◌, ◌≤◌, Bool, true, List, [], ◌∷◌, ◌++◌, length, map, unwrap_or, sym, ap, ap₂, subst, ◌∙◌, inl, inr, arith}
use Rattle.std.specs.Ordering.{nat_cmp, is_le}
use Rattle.std.specs.Cmp.Lexicographic.{slice_cmp}
use Rattle.std.proofs.lemmas.Bool.{cases_eq}
use Rattle.std.proofs.lemmas.List.{map-append}
use Rattle.std.proofs.lemmas.Map.Keys.{Less-from_sorted}
use Rattle.cycle_walks.specs.Walks as node
use Rattle.kc_menu.specs.Menu.{Declared}
use Rattle.kc_equations.specs.Faults.{IsLeast}
use Rattle.kc_equations.specs.Names.{is_declared, names}
use Rattle.kc_equations.specs.Walks.{IsWalk, OnCycle}
use Rattle.kc_solve.specs.Filled.{names_at}
use Rattle.kc_solve.specs.Index.{AreDeclared}
use Rattle.kc_solve.specs.Symbols.{AreSymbols, symbol_at, place_of}
use Rattle.kc_solve.proofs.Places.{place_is, place_there, le_self, le_from_less}
use Rattle.kc_solve.proofs.Filling.{names_there}

module _ (menu : Declared) (symbols : List (List ℕ)) (are : AreSymbols symbols) (declared : AreDeclared menu symbols)
    (links : ℕ → ℕ → Bool) (within : (s t : ℕ) → links s t ≡ true → (s < length symbols) × (t < length symbols))
    (same : (s t : ℕ) → s < length symbols → t < length symbols → links s t ≡ names_at menu symbols s t) where
  step_up : (s t : ℕ) → links s t ≡ true → names menu (symbol_at symbols s) (symbol_at symbols t) ≡ true
  step_up s t step = let inside = within s t step in sym (same s t inside.0 inside.1) ∙ step

  walk_up : (s : ℕ) (path : List ℕ) → node.IsWalk links s path → IsWalk (names menu) (symbol_at symbols s) (map (symbol_at symbols) path)
  walk_up s [] walk = tt
  walk_up s (t ∷ path) walk = (step_up s t walk.0, walk_up t path walk.1)

  pub cycle_up : (s : ℕ) → node.OnCycle links s → OnCycle (names menu) (symbol_at symbols s)
  cycle_up s (between, walk) =
      (map (symbol_at symbols) between, subst (IsWalk (names menu) (symbol_at symbols s)) (map-append (symbol_at symbols) between (s ∷ [])) (walk_up s (between ++ s ∷ []) walk))

  -- the place of a symbol that is declared
  abbrev at : List ℕ → ℕ
  at s = unwrap_or (place_of symbols s) 0

  at_is : (s : List ℕ) → is_declared menu.entries s ≡ true → (at s < length symbols) × (symbol_at symbols (at s) ≡ s)
  at_is s there =
      let (place, found) = place_there symbols s (declared s ∙ there) in
      let here : at s ≡ place = ap (λ o. unwrap_or o 0) found in
      subst (λ p. (p < length symbols) × (symbol_at symbols p ≡ s)) (sym here) (place_is symbols s place found)

  step_down : (s t : List ℕ) → names menu s t ≡ true → links (at s) (at t) ≡ true
  step_down s t step =
      let both = names_there menu s t step in
      let first = at_is s both.0 in
      let second = at_is t both.1 in
      same (at s) (at t) first.0 second.0 ∙ (ap₂ (names menu) first.1 second.1 ∙ step)

  walk_down : (s : List ℕ) (path : List (List ℕ)) → IsWalk (names menu) s path → node.IsWalk links (at s) (map at path)
  walk_down s [] walk = tt
  walk_down s (t ∷ path) walk = (step_down s t walk.0, walk_down t path walk.1)

  first_there : (s : List ℕ) (between : List (List ℕ)) (t : List ℕ) → IsWalk (names menu) s (between ++ t ∷ []) → is_declared menu.entries s ≡ true
  first_there s [] t walk = (names_there menu s t walk.0).0
  first_there s (u ∷ between) t walk = (names_there menu s u walk.0).0

  pub cycle_down : (s : List ℕ) → OnCycle (names menu) s → (place : ℕ) × (place < length symbols) × (symbol_at symbols place ≡ s) × node.OnCycle links place
  cycle_down s (between, walk) =
      let here = at_is s (first_there s between s walk) in
      (at s, here.0, here.1, (map at between, subst (node.IsWalk links (at s)) (map-append at between (s ∷ [])) (walk_down s (between ++ s ∷ []) walk)))

  -- the least place is that of the least symbol
  pub least_symbol : (place : ℕ) → place < length symbols → node.IsLeast (node.OnCycle links) place → IsLeast (OnCycle (names menu)) (symbol_at symbols place)
  least_symbol place short least = record {
    holds = cycle_up place least.holds;
    below = λ other on.
        let (q, inside, is, back) = cycle_down other on in
        let before : place ≤ q = least.below q back in
        subst (λ s. is_le (slice_cmp nat_cmp (symbol_at symbols place) s) ≡ true) is
        (elim (cases_eq place q) [
          | inl one ↦ subst (λ p. is_le (slice_cmp nat_cmp (symbol_at symbols place) (symbol_at symbols p)) ≡ true) one (le_self (symbol_at symbols place))
          | inr apart ↦ le_from_less (slice_cmp nat_cmp (symbol_at symbols place) (symbol_at symbols q)) (Less-from_sorted (slice_cmp nat_cmp) symbols place q [] are.rising (omega (arith, before, apart)) inside)
        ]);
  }

  pub no_cycle_down : ((place : ℕ) → node.OnCycle links place → ⊥) → (s : List ℕ) → OnCycle (names menu) s → ⊥
  no_cycle_down none s on = let (place, _, _, back) = cycle_down s on in none place back
