-- Values that are found in an order are the solution.
use Rattle.std.proofs.Common.{ℕ, ◌≡◌, Bool, true, false, cond, ◌||◌, ◌&&◌, List, [], ◌∷◌, ◌++◌, map, fold, Option, Some, None, is_some, refl, sym, ap, subst, ◌∙◌, ⊎_elim}
use Rattle.std.specs.List.{list_any}
use Rattle.std.proofs.lemmas.Bool.{cases_Bool, or_left, or_right, true≢false, and_parts}
use Rattle.std.proofs.lemmas.List.{map-append}
use Rattle.br_path.specs.Text.{is_text}
use Rattle.kc_values.specs.Values.{Table, IsFit, find as valued}
use Rattle.kc_values.specs.declared.values.Valued.{Valued}
use Rattle.kc_menu.specs.Menu.{Declared}
use Rattle.kc_menu.specs.declared.menu.KcEntry.{KcEntry}
use Rattle.kc_menu.specs.declared.wishes.Wish.{Wish}
use Rattle.kc_equations.specs.Names.{is_declared, names, stands_in}
use Rattle.kc_equations.specs.Solution.{put_symbol, symbols_of, valued_by, by_equations, IsSolution}
use Rattle.kc_equations.proofs.Texts.{is_text-self}
use Rattle.kc_equations.proofs.Parts.{IsPart, part_value, part_whole}
use Rattle.kc_equations.proofs.Fits.{valued_fit}
use Rattle.kc_solve.specs.Filled.{IsFilled, put_valued, in_order}

some_from : {A : Type 0} (o : Option A) (b : Bool) (x : A) → o ≡ cond b (Some x) None → is_some o ≡ b
some_from o true x is = ap is_some is
some_from o false x is = ap is_some is

pub none_from : {A : Type 0} (o : Option A) → is_some o ≡ false → o ≡ None
none_from None off = refl
none_from (Some x) off = absurd (true≢false off)

pub names_there : (menu : Declared) (s t : List ℕ) → names menu s t ≡ true → (is_declared menu.entries s ≡ true) × (is_declared menu.entries t ≡ true) × (stands_in menu s t ≡ true)
unfolding names
names_there menu s t named =
    let whole = and_parts (is_declared menu.entries s && is_declared menu.entries t) (stands_in menu s t) named in
    let both = and_parts (is_declared menu.entries s) (is_declared menu.entries t) whole.0 in
    (both.0, both.1, whole.1)

module _ (menu : Declared) (wishes : List Wish) where
  -- ---- the end of the filling

  pub filled_from : (values : Table) → IsPart menu wishes values → ((s : List ℕ) → is_declared menu.entries s ≡ true → is_some (valued s values) ≡ true) → IsFilled menu wishes values
  filled_from values part all s =
      ⊎_elim
      (λ there. part_value menu wishes values part s (all s there) ∙ sym (ap (λ b. cond b (Some (valued_by menu wishes values s)) None) there))
      (λ off.
      ⊎_elim
      (λ some. absurd (true≢false (sym (part.declared s some) ∙ off)))
      (λ none. none_from (valued s values) none ∙ sym (ap (λ b. cond b (Some (valued_by menu wishes values s)) None) off))
      (cases_Bool (is_some (valued s values))))
      (cases_Bool (is_declared menu.entries s))

  module _ (values : Table) (filled : IsFilled menu wishes values) where
    there_is : (s : List ℕ) → is_some (valued s values) ≡ is_declared menu.entries s
    there_is s = some_from (valued s values) (is_declared menu.entries s) (valued_by menu wishes values s) (filled s)

    part_filled : IsPart menu wishes values
    part_filled = record {
      declared = λ s there. sym (there_is s) ∙ there;
      closed = λ s t there named. there_is t ∙ (names_there menu s t named).1;
      solved = λ s x is.
          ⊎_elim
          (λ declared.
          let made : Some x ≡ Some (valued_by menu wishes values s) = sym is ∙ (filled s ∙ ap (λ b. cond b (Some (valued_by menu wishes values s)) None) declared) in
          cc (made))
          (λ off.
          let gone : Some x ≡ None = sym is ∙ (filled s ∙ ap (λ b. cond b (Some (valued_by menu wishes values s)) None) off) in
          absurd (true≢false (ap is_some gone)))
          (cases_Bool (is_declared menu.entries s));
    }

    -- each value is fit for its type
    pub filled_fit : (s : List ℕ) (v : Valued) → valued s values ≡ Some v → IsFit v
    filled_fit s v is =
        let declared : is_declared menu.entries s ≡ true = sym (there_is s) ∙ ap is_some is in
        subst IsFit (sym (part_filled.solved s v is)) (valued_fit menu wishes values s declared)

    -- ---- the order of the first entries

    abbrev pair : List ℕ → List ℕ × Valued
    pair s = (s, valued_by menu wishes values s)

    some_in : (s : List ℕ) (symbols : List (List ℕ)) → is_some (valued s (map pair symbols)) ≡ list_any (is_text s) symbols
    some_in s [] = refl
    some_in s (t ∷ symbols) =
        elim (is_text s t) as (λ b. is_some (cond b (Some (valued_by menu wishes values t)) (valued s (map pair symbols))) ≡ (b || list_any (is_text s) symbols)) [
          | true ↦ refl
          | false ↦ some_in s symbols
        ]

    put_more : (symbols : List (List ℕ)) (s : List ℕ) → is_declared menu.entries s ≡ true → put_valued (map pair symbols) s (valued s values) ≡ map pair (put_symbol symbols s)
    put_more symbols s declared =
        ap (put_valued (map pair symbols) s) (filled s ∙ ap (λ b. cond b (Some (valued_by menu wishes values s)) None) declared)
        ∙ (ap (λ b. cond b (map pair symbols) (map pair symbols ++ pair s ∷ [])) (some_in s symbols)
        ∙ elim (list_any (is_text s) symbols) as (λ b. cond b (map pair symbols) (map pair symbols ++ pair s ∷ []) ≡ map pair (cond b symbols (symbols ++ s ∷ []))) [
          | true ↦ refl
          | false ↦ sym (map-append pair symbols (s ∷ []))
        ])

    in_order_from : (entries : List KcEntry) → ((s : List ℕ) → is_declared entries s ≡ true → is_declared menu.entries s ≡ true) → (symbols : List (List ℕ))
        → fold (λ found e. put_valued found e.symbol (valued e.symbol values)) (map pair symbols) entries ≡ map pair (fold (λ more e. put_symbol more e.symbol) symbols entries)
    in_order_from [] among symbols = refl
    in_order_from (e ∷ entries) among symbols =
        let first : is_declared menu.entries e.symbol ≡ true = among e.symbol (or_left (is_text e.symbol e.symbol) (is_declared entries e.symbol) (is_text-self e.symbol)) in
        ap (λ found. fold (λ more x. put_valued more x.symbol (valued x.symbol values)) found entries) (put_more symbols e.symbol first)
        ∙ in_order_from entries (λ s there. among s (or_right (is_text e.symbol s) (is_declared entries s) there)) (put_symbol symbols e.symbol)

    -- in this order they are the solution
    pub filled_solution : IsSolution menu wishes (in_order values menu.entries)
    unfolding by_equations symbols_of
    filled_solution =
        subst (IsSolution menu wishes) (sym (in_order_from menu.entries (λ s there. there) []))
        (part_whole menu wishes values part_filled (λ s declared. there_is s ∙ declared))
