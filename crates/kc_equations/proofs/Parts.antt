-- Values that are found one by one, each symbol after all that its equation names: in the end they are the solution.
use Rattle.std.proofs.Common.{ℕ, ◌≡◌, true, false, cond, List, [], ◌∷◌, ◌++◌, Option, Some, None, is_some, refl, sym, ap, subst, ◌∙◌, ⊎_elim}
use Rattle.std.specs.Option.{option_or}
use Rattle.std.proofs.lemmas.Bool.{cases_Bool, false≢true, true≢false}
use Rattle.br_path.specs.Text.{is_text}
use Rattle.kc_values.specs.Values.{Table, find as valued}
use Rattle.kc_values.specs.declared.values.Valued.{Valued}
use Rattle.kc_menu.specs.Menu.{Declared}
use Rattle.kc_menu.specs.declared.wishes.Wish.{Wish}
use Rattle.kc_equations.specs.Equation.{equation}
use Rattle.kc_equations.specs.Names.{is_declared, names}
use Rattle.kc_equations.specs.Solution.{valued_by, by_equations, IsSolution}
use Rattle.kc_equations.proofs.Texts.{same_text, is_text-self}
use Rattle.kc_equations.proofs.Agree.{equation_agrees}
use Rattle.kc_equations.proofs.Runs.{valued_turn, same_valued, same_turn, is_named}

-- the values of some declared symbols, with all that their equations name: each has the text that its equation gives at them
pub record IsPart (menu : Declared) (wishes : List Wish) (values : Table) : Type 0 where
  pub declared : (s : List ℕ) → is_some (valued s values) ≡ true → is_declared menu.entries s ≡ true
  pub closed : (s t : List ℕ) → is_some (valued s values) ≡ true → names menu s t ≡ true → is_some (valued t values) ≡ true
  pub solved : (s : List ℕ) (x : Valued) → valued s values ≡ Some x → x ≡ valued_by menu wishes values s

some_is : {A : Type 0} (o : Option A) → is_some o ≡ true → (x : A) × (o ≡ Some x)
some_is None there = absurd (false≢true there)
some_is (Some x) there = (x, refl)

none_is : {A : Type 0} (o : Option A) → is_some o ≡ false → o ≡ None
none_is None off = refl
none_is (Some x) off = absurd (true≢false off)

valued_push : (t : List ℕ) (values : Table) (s : List ℕ) (x : Valued) → valued t (values ++ (s, x) ∷ []) ≡ option_or (valued t values) (cond (is_text t s) (Some x) None)
valued_push t [] s x = refl
valued_push t (e ∷ values) s x =
    elim (is_text t e.0) as (λ b. cond b (Some e.1) (valued t (values ++ (s, x) ∷ [])) ≡ option_or (cond b (Some e.1) (valued t values)) (cond (is_text t s) (Some x) None)) [
      | true ↦ refl
      | false ↦ valued_push t values s x
    ]

module _ (menu : Declared) (wishes : List Wish) where
  pub part_nil : IsPart menu wishes []
  part_nil = record {
    declared = λ s there. absurd (false≢true there);
    closed = λ s t there named. absurd (false≢true there);
    solved = λ s x is. absurd (cc);
  }

  -- a symbol that isn't declared has no value in a part
  off_part : (values : Table) → IsPart menu wishes values → (u : List ℕ) → is_declared menu.entries u ≡ false → valued u values ≡ None
  off_part values part u off =
      ⊎_elim
      (λ there. absurd (true≢false (sym (part.declared u there) ∙ off)))
      (λ none. none_is (valued u values) none)
      (cases_Bool (is_some (valued u values)))

  -- the value that a symbol of a part has
  pub part_value : (values : Table) → IsPart menu wishes values → (s : List ℕ) → is_some (valued s values) ≡ true → valued s values ≡ Some (valued_by menu wishes values s)
  part_value values part s there =
      let (x, is) = some_is (valued s values) there in
      is ∙ ap Some (part.solved s x is)

  module _ (values : Table) (part : IsPart menu wishes values) (s : List ℕ) (is_here : is_declared menu.entries s ≡ true) (fresh : valued s values ≡ None)
      (named : (t : List ℕ) → names menu s t ≡ true → is_some (valued t values) ≡ true) where
    abbrev new : Table
    new = values ++ (s, valued_by menu wishes values s) ∷ []

    new_is : (t : List ℕ) → valued t new ≡ option_or (valued t values) (cond (is_text t s) (Some (valued_by menu wishes values s)) None)
    new_is t = valued_push t values s (valued_by menu wishes values s)

    pub kept : (u : List ℕ) → is_some (valued u values) ≡ true → valued u values ≡ valued u new
    kept u there =
        let (x, is) = some_is (valued u values) there in
        is ∙ sym (new_is u ∙ ap (λ o. option_or o (cond (is_text u s) (Some (valued_by menu wishes values s)) None)) is)

    pub off : (u : List ℕ) → is_declared menu.entries u ≡ false → valued u values ≡ valued u new
    off u none =
        let gone : valued u values ≡ None = off_part values part u none in
        let apart : is_text u s ≡ false =
        ⊎_elim (λ is. absurd (true≢false (sym is_here ∙ (sym (ap (is_declared menu.entries) (same_text u s is)) ∙ none)))) (λ other. other) (cases_Bool (is_text u s)) in
        gone ∙ sym (new_is u ∙ (ap (λ o. option_or o (cond (is_text u s) (Some (valued_by menu wishes values s)) None)) gone ∙ ap (λ b. cond b (Some (valued_by menu wishes values s)) None) apart))

    -- an equation all of whose symbols are there gives the same text with one symbol more
    same_equation : (z : List ℕ) → is_declared menu.entries z ≡ true → ((t : List ℕ) → names menu z t ≡ true → is_some (valued t values) ≡ true) → equation menu wishes values z ≡ equation menu wishes new z
    same_equation z there all =
        equation_agrees values new menu wishes z (λ u stands.
        ⊎_elim
        (λ declared. kept u (all u (is_named menu wishes z u there declared stands)))
        (λ none. off u none)
        (cases_Bool (is_declared menu.entries u)))

    -- what has a value now had one, or is the new symbol
    which : (t : List ℕ) → is_some (valued t new) ≡ true → (is_some (valued t values) ≡ false) → t ≡ s
    which t there none =
        let gone : valued t values ≡ None = none_is (valued t values) none in
        let tested : is_some (cond (is_text t s) (Some (valued_by menu wishes values s)) None) ≡ true =
        sym (ap is_some (new_is t ∙ ap (λ o. option_or o (cond (is_text t s) (Some (valued_by menu wishes values s)) None)) gone)) ∙ there in
        ⊎_elim
        (λ is. same_text t s is)
        (λ other. absurd (false≢true (sym (ap (λ b. is_some (cond b (Some (valued_by menu wishes values s)) None)) other) ∙ tested)))
        (cases_Bool (is_text t s))

    at_new : valued s new ≡ Some (valued_by menu wishes values s)
    at_new = new_is s ∙ (ap (λ o. option_or o (cond (is_text s s) (Some (valued_by menu wishes values s)) None)) fresh ∙ ap (λ b. cond b (Some (valued_by menu wishes values s)) None) (is_text-self s))

    still : (t : List ℕ) → is_some (valued t values) ≡ true → is_some (valued t new) ≡ true
    still t there = sym (ap is_some (kept t there)) ∙ there

    pub part_push : IsPart menu wishes new
    part_push = record {
      declared = λ t there.
          ⊎_elim
          (λ old. part.declared t old)
          (λ none. ap (is_declared menu.entries) (which t there none) ∙ is_here)
          (cases_Bool (is_some (valued t values)));
      closed = λ t u there goes.
          ⊎_elim
          (λ old. still u (part.closed t u old goes))
          (λ none. still u (named u (subst (λ z. names menu z u ≡ true) (which t there none) goes)))
          (cases_Bool (is_some (valued t values)));
      solved = λ t x is.
          ⊎_elim
          (λ old.
          let value : valued t values ≡ Some x = kept t old ∙ is in
          part.solved t x value ∙ same_valued menu wishes values new t (same_equation t (part.declared t old) (λ u goes. part.closed t u old goes)))
          (λ none.
          let same : t ≡ s = which t (ap is_some is) none in
          let made : Some x ≡ Some (valued_by menu wishes values s) = sym is ∙ (ap (λ z. valued z new) same ∙ at_new) in
          let text : x ≡ valued_by menu wishes values s = cc (made) in
          text ∙ (same_valued menu wishes values new s (same_equation s is_here named) ∙ ap (valued_by menu wishes new) (sym same)))
          (cases_Bool (is_some (valued t values)));
    }

  -- where all declared symbols have a value, the values in the order of the symbols are a solution
  pub part_whole : (values : Table) → IsPart menu wishes values → ((s : List ℕ) → is_declared menu.entries s ≡ true → is_some (valued s values) ≡ true) → IsSolution menu wishes (by_equations menu wishes values)
  unfolding IsSolution
  part_whole values part all =
      same_turn menu wishes values (by_equations menu wishes values) (λ s there.
      equation_agrees values (by_equations menu wishes values) menu wishes s (λ u stands.
      ⊎_elim
      (λ declared. part_value values part u (all u declared) ∙ sym (valued_turn menu wishes values u ∙ ap (λ b. cond b (Some (valued_by menu wishes values u)) None) declared))
      (λ none. off_part values part u none ∙ sym (valued_turn menu wishes values u ∙ ap (λ b. cond b (Some (valued_by menu wishes values u)) None) none))
      (cases_Bool (is_declared menu.entries u))))
