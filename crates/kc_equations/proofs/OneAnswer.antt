-- A configuration is solved in one way or has one first fault, and not both.
use Rattle.std.proofs.Common.{ℕ, ◌≡◌, ◌≢◌, Bool, true, false, List, Ordering, Less, Equal, Greater, refl, sym, ap, subst, ◌∙◌}
use Rattle.std.specs.Cmp.Lexicographic.{slice_cmp, nat_list_cmp_total, texts_ties}
use Rattle.std.specs.Ordering.{nat_cmp, is_le, is_eq, ordering_reverse}
use Rattle.std.proofs.lemmas.Bool.{false≢true, true≢false}
use Rattle.kc_values.specs.Values.{Table}
use Rattle.kc_menu.specs.Menu.{Declared}
use Rattle.kc_menu.specs.declared.wishes.Wish.{Wish}
use Rattle.kc_equations.specs.Faults.{IsLeast, is_named_member, is_named_value, is_bad_number, NoCycle, IsFirstFault, IsSolved}
use Rattle.kc_equations.specs.Names.{names}
use Rattle.kc_equations.specs.Solution.{IsSolution}
use Rattle.kc_equations.specs.Walks.{OnCycle}
use Rattle.kc_equations.specs.declared.fault.SolveFault.{SolveFault}
use Rattle.kc_equations.specs.declared.fault.SolveFault.TheVariants.{SelectOfChoice, SelectOfValue, Cycle, BadNumber, Memory}
use Rattle.kc_equations.proofs.Texts.{same_text}
use Rattle.kc_equations.proofs.Runs.{one_solution}

-- what isn't above another, which isn't above it, ties
tied : (o p : Ordering) → o ≡ ordering_reverse p → is_le o ≡ true → is_le p ≡ true → is_eq o ≡ true
tied Equal p back up down = refl
tied Less Less back up down = absurd (cc)
tied Less Equal back up down = absurd (cc)
tied Less Greater back up down = absurd (false≢true down)
tied Greater p back up down = absurd (false≢true up)

pub least_same : (P : List ℕ → Type 0) (a b : List ℕ) → IsLeast P a → IsLeast P b → a ≡ b
least_same P a b first second =
    same_text a b (texts_ties a b
    ∙ tied (slice_cmp nat_cmp a b) (slice_cmp nat_cmp b a) (nat_list_cmp_total.antisymm a b) (first.below b second.holds) (second.below a first.holds))

-- none passes, and the least does
none_least : (test : List ℕ → Bool) (least : List ℕ) → ((s : List ℕ) → test s ≡ false) → IsLeast (λ s. test s ≡ true) least → ⊥
none_least test least none is = true≢false (sym is.holds ∙ none least)

module _ (menu : Declared) (wishes : List Wish) where
  same_solution : NoCycle menu → (values others : Table) → IsSolution menu wishes values → IsSolution menu wishes others → values ≡ others
  same_solution acyclic values others first second =
      let one = one_solution menu wishes acyclic in
      one.alone values first ∙ sym (one.alone others second)

  member : List ℕ → Bool
  member = is_named_member menu.entries

  value : List ℕ → Bool
  value = is_named_value menu.entries

  pub one_fault : (fault other : SolveFault) → fault ≢ Memory → other ≢ Memory → IsFirstFault menu wishes fault → IsFirstFault menu wishes other → fault ≡ other
  one_fault Memory other here there f g = absurd (here refl)
  one_fault (SelectOfChoice s) Memory here there f g = absurd (there refl)
  one_fault (SelectOfValue s) Memory here there f g = absurd (there refl)
  one_fault (Cycle s) Memory here there f g = absurd (there refl)
  one_fault (BadNumber s) Memory here there f g = absurd (there refl)
  one_fault (SelectOfChoice s) (SelectOfChoice t) here there f g = ap SelectOfChoice (least_same (λ u. is_named_member menu.entries u ≡ true) s t f g)
  one_fault (SelectOfChoice s) (SelectOfValue t) here there f g = absurd (none_least (is_named_member menu.entries) s g.0 f)
  one_fault (SelectOfChoice s) (Cycle t) here there f g = absurd (none_least (is_named_member menu.entries) s g.0 f)
  one_fault (SelectOfChoice s) (BadNumber t) here there f g = absurd (none_least (is_named_member menu.entries) s g.0 f)
  one_fault (SelectOfValue s) (SelectOfChoice t) here there f g = absurd (none_least (is_named_member menu.entries) t f.0 g)
  one_fault (SelectOfValue s) (SelectOfValue t) here there f g = ap SelectOfValue (least_same (λ u. is_named_value menu.entries u ≡ true) s t f.1 g.1)
  one_fault (SelectOfValue s) (Cycle t) here there f g = absurd (none_least (is_named_value menu.entries) s g.1 f.1)
  one_fault (SelectOfValue s) (BadNumber t) here there f g = absurd (none_least (is_named_value menu.entries) s g.1 f.1)
  one_fault (Cycle s) (SelectOfChoice t) here there f g = absurd (none_least (is_named_member menu.entries) t f.0 g)
  one_fault (Cycle s) (SelectOfValue t) here there f g = absurd (none_least (is_named_value menu.entries) t f.1 g.1)
  one_fault (Cycle s) (Cycle t) here there f g = ap Cycle (least_same (OnCycle (names menu)) s t f.2 g.2)
  one_fault (Cycle s) (BadNumber t) here there f g = absurd (g.2 s f.2.holds)
  one_fault (BadNumber s) (SelectOfChoice t) here there f g = absurd (none_least (is_named_member menu.entries) t f.0 g)
  one_fault (BadNumber s) (SelectOfValue t) here there f g = absurd (none_least (is_named_value menu.entries) t f.1 g.1)
  one_fault (BadNumber s) (Cycle t) here there f g = absurd (f.2 t g.2.holds)
  one_fault (BadNumber s) (BadNumber t) here there f g =
      let (values, solution, least) = f.3 in
      let (others, another, least_there) = g.3 in
      let same : others ≡ values = same_solution f.2 others values another solution in
      ap BadNumber (least_same (λ u. is_bad_number values u ≡ true) s t least (subst (λ x. IsLeast (λ u. is_bad_number x u ≡ true) t) same least_there))

  pub not_both : (values : Table) (forced : List (List ℕ)) (fault : SolveFault) → fault ≢ Memory → IsSolved menu wishes values forced → IsFirstFault menu wishes fault → ⊥
  not_both values forced (SelectOfChoice s) here solved f = none_least (is_named_member menu.entries) s solved.members f
  not_both values forced (SelectOfValue s) here solved f = none_least (is_named_value menu.entries) s solved.plain f.1
  not_both values forced (Cycle s) here solved f = solved.acyclic s f.2.holds
  not_both values forced (BadNumber s) here solved f =
      let (others, another, least) = f.3 in
      let same : others ≡ values = same_solution solved.acyclic others values another solved.solution in
      none_least (is_bad_number values) s solved.numbers (subst (λ x. IsLeast (λ u. is_bad_number x u ≡ true) s) same least)
  not_both values forced Memory here solved f = here refl

  pub one_table : (values others : Table) (forced rest : List (List ℕ)) → IsSolved menu wishes values forced → IsSolved menu wishes others rest → values ≡ others
  one_table values others forced rest first second = same_solution first.acyclic values others first.solution second.solution
