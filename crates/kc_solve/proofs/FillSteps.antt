-- One symbol more in the order.
use Rattle.std.proofs.Common.{ℕ, ◌+◌, ◌≡◌, ◌<◌, ◌↔◌, true, false, cond, ◌||◌, List, [], ◌∷◌, ◌++◌, length, take, get_or, Contains, Some, None, is_some, refl, sym, ap, subst, ◌∙◌, inl, inr, ⊎_elim, arith}
use Rattle.std.proofs.lemmas.Bool.{cases_Bool, cases_lt, or_left, or_right, false≢true}
use Rattle.std.proofs.lemmas.List.{get_or_default}
use Rattle.br_path.specs.Text.{is_text}
use Rattle.kc_values.specs.Values.{Table, IsFit, find as valued}
use Rattle.kc_values.specs.declared.values.Valued.{Valued}
use Rattle.cycle_walks.specs.Order.{IsOrder}
use Rattle.cycle_walks.proofs.Members.{Contains-take, place_in_take}
use Rattle.kc_menu.specs.Menu.{Declared}
use Rattle.kc_menu.specs.declared.wishes.Wish.{Wish}
use Rattle.kc_equations.specs.Names.{is_declared, names}
use Rattle.kc_equations.specs.Solution.{valued_by}
use Rattle.kc_equations.proofs.Texts.{same_text, is_text-self}
use Rattle.kc_equations.proofs.Parts.{IsPart, part_nil, part_push}
use Rattle.kc_equations.proofs.Fits.{valued_fit}
use Rattle.kc_solve.specs.Filled.{IsFilled, names_within, with_value}
use Rattle.kc_solve.specs.Index.{AreDeclared}
use Rattle.kc_solve.specs.Symbols.{AreSymbols, symbol_at}
use Rattle.kc_solve.specs.Taken.{Known, choice_place, with_taken}
use Rattle.kc_solve.proofs.Kept.{IsKept, kept_more}
use Rattle.kc_solve.proofs.Places.{place_is, place_there, one_place, symbol_among}
use Rattle.kc_solve.proofs.Sequences.{within_same}
use Rattle.kc_solve.proofs.Filling.{names_there, none_from, filled_from}

-- which symbols have a value with one more
pub some_push : (t : List ℕ) (values : Table) (s : List ℕ) (x : Valued) → is_some (valued t (values ++ (s, x) ∷ [])) ≡ (is_some (valued t values) || is_text t s)
some_push t [] s x = elim (is_text t s) as (λ b. is_some (cond b (Some x) None) ≡ b) [ true ↦ refl | false ↦ refl ]
some_push t (e ∷ values) s x =
    elim (is_text t e.0) as (λ b. is_some (cond b (Some e.1) (valued t (values ++ (s, x) ∷ []))) ≡ (is_some (cond b (Some e.1) (valued t values)) || is_text t s)) [
      | true ↦ refl
      | false ↦ some_push t values s x
    ]

-- the value that an equation gives is fit for its type
pub fit_at : (menu : Declared) (wishes : List Wish) (symbols : List (List ℕ)) → AreDeclared menu symbols → (values : Table) (place : ℕ) → place < length symbols
    → (v : Valued) → v ≡ valued_by menu wishes values (symbol_at symbols place) → IsFit v
fit_at menu wishes symbols declared values place short v is =
    subst IsFit (sym is) (valued_fit menu wishes values (symbol_at symbols place) (sym (declared (symbol_at symbols place)) ∙ symbol_among symbols place short))

-- the symbols that have a value are the first of the order
pub record IsFilledTo (menu : Declared) (wishes : List Wish) (symbols : List (List ℕ)) (order : List ℕ) (count : ℕ) (values : Table) : Type 0 where
  pub part : IsPart menu wishes values
  pub there : (p : ℕ) → p < length symbols → (is_some (valued (symbol_at symbols p) values) ≡ true) ↔ Contains (take count order) p

module _ (menu : Declared) (wishes : List Wish) (symbols : List (List ℕ)) (are : AreSymbols symbols) (declared : AreDeclared menu symbols) (order : List ℕ)
    (is : IsOrder (length symbols) (names_within menu symbols) order) where
  pub place_short : (i : ℕ) → i < length order → get_or order i 0 < length symbols
  place_short i short = (is.nodes (get_or order i 0)).0 (i, short, get_or_default order i (get_or order i 0) 0 short)

  pub filled_none : IsFilledTo menu wishes symbols order 0 []
  filled_none = record {
    part = part_nil menu wishes;
    there = λ p short. (λ some. absurd (false≢true some), λ inside. let (k, before, _, _) = place_in_take order 0 p inside in absurd (omega (arith, before)));
  }

  module _ (i : ℕ) (short : i < length order) (values : Table) (filled : IsFilledTo menu wishes symbols order i values) where
    abbrev symbol : List ℕ
    symbol = symbol_at symbols (get_or order i 0)

    pub symbol_there : is_declared menu.entries symbol ≡ true
    symbol_there = sym (declared symbol) ∙ symbol_among symbols (get_or order i 0) (place_short i short)

    pub symbol_fresh : valued symbol values ≡ None
    symbol_fresh =
        ⊎_elim
        (λ some. absurd ((is.in_order i short).fresh ((filled.there (get_or order i 0) (place_short i short)).0 some)))
        (λ none. none_from (valued symbol values) none)
        (cases_Bool (is_some (valued symbol values)))

    symbol_named : (t : List ℕ) → names menu symbol t ≡ true → is_some (valued t values) ≡ true
    symbol_named t step =
        let (place, found) = place_there symbols t (declared t ∙ (names_there menu symbol t step).1) in
        let at = place_is symbols t place found in
        let linked : names_within menu symbols (get_or order i 0) place ≡ true = within_same menu symbols (get_or order i 0) place (place_short i short) at.0 ∙ (ap (names menu symbol) at.1 ∙ step) in
        let before : Contains (take i order) place = (is.in_order i short).named place linked in
        subst (λ u. is_some (valued u values) ≡ true) at.1 ((filled.there place at.0).1 before)

    abbrev pub more : Table
    more = with_value menu wishes values symbol

    there_more : (p : ℕ) → p < length symbols → (is_some (valued (symbol_at symbols p) more) ≡ true) ↔ Contains (take (i + 1) order) p
    there_more p inside =
        let pushed : is_some (valued (symbol_at symbols p) more) ≡ (is_some (valued (symbol_at symbols p) values) || is_text (symbol_at symbols p) symbol) =
        some_push (symbol_at symbols p) values symbol (valued_by menu wishes values symbol) in (
          λ some.
              ⊎_elim
              (λ old.
              let (k, before, within, here) = place_in_take order i p ((filled.there p inside).0 old) in
              Contains-take order (i + 1) k p (omega (arith, before)) within here)
              (λ none.
              let same : is_text (symbol_at symbols p) symbol ≡ true = subst (λ b. (b || is_text (symbol_at symbols p) symbol) ≡ true) none (sym pushed ∙ some) in
              let one : p ≡ get_or order i 0 = one_place symbols are.rising p (get_or order i 0) inside (place_short i short) (same_text (symbol_at symbols p) symbol same) in
              Contains-take order (i + 1) i p (omega arith) short (sym one))
              (cases_Bool (is_some (valued (symbol_at symbols p) values))),
          λ inner.
              let (k, before, within, here) = place_in_take order (i + 1) p inner in
              pushed
              ∙ elim (cases_lt k i) [
                | inl less ↦ or_left (is_some (valued (symbol_at symbols p) values)) (is_text (symbol_at symbols p) symbol) ((filled.there p inside).1 (Contains-take order i k p less within here))
                | inr past ↦
                    let last : k ≡ i = omega (arith, before, past) in
                    or_right (is_some (valued (symbol_at symbols p) values)) (is_text (symbol_at symbols p) symbol)
                    (subst (λ q. is_text (symbol_at symbols q) symbol ≡ true) (ap (λ j. get_or order j 0) (sym last) ∙ here) (is_text-self symbol))
              ],
        )

    pub filled_more : IsFilledTo menu wishes symbols order (i + 1) more
    filled_more = record {
      part = part_push menu wishes values filled.part symbol symbol_there symbol_fresh symbol_named;
      there = there_more;
    }

    pub kept_next : (known : Known) → IsKept menu wishes values known → IsKept menu wishes more (with_taken menu wishes values known (choice_place menu.entries symbol))
    kept_next = kept_more menu wishes values filled.part symbol symbol_there symbol_fresh symbol_named

  pub filled_all : (values : Table) → IsFilledTo menu wishes symbols order (length order) values → IsFilled menu wishes values
  filled_all values filled =
      filled_from menu wishes values filled.part (λ s is_here.
      let (place, found) = place_there symbols s (declared s ∙ is_here) in
      let at = place_is symbols s place found in
      let (k, short, here) = (is.nodes place).1 at.0 in
      let at_zero : get_or order k 0 ≡ place = get_or_default order k 0 place short ∙ here in
      subst (λ u. is_some (valued u values) ≡ true) at.1
      ((filled.there place at.0).1 (Contains-take order (length order) k place short short at_zero)))
