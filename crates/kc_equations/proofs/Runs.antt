-- Where no symbol is on a cycle, any two runs of the equations agree after as many turns as there are symbols.
use Rattle.std.proofs.Common.{ℕ, zero, suc, ◌≡◌, ◌<◌, ◌≤◌, Bool, true, false, cond, ◌&&◌, ◌||◌, List, [], ◌∷◌, ◌++◌, length, map, fold, Some, None, refl, sym, ap, ap₂, subst, ◌∙◌, ◌⊎◌, inl, inr, ⊎_elim, arith}
use Rattle.std.specs.Prelude.{if◌then◌else◌}
use Rattle.std.specs.List.{list_any}
use Rattle.std.specs.Map.{lookup}
use Rattle.std.proofs.lemmas.Bool.{cases_Bool, or_left, or_right, and_from, cond-true, cond-false, false≢true}
use Rattle.std.proofs.lemmas.List.Folds.{list_any-append}
use Rattle.br_path.specs.Text.{is_text}
use Rattle.kc_values.specs.Values.{Table, find as valued}
use Rattle.kc_values.specs.declared.values.Valued.{Valued}
use Rattle.kc_menu.specs.Menu.{Declared}
use Rattle.kc_menu.specs.declared.menu.KcEntry.{KcEntry}
use Rattle.kc_menu.specs.declared.wishes.Wish.{Wish}
use Rattle.kc_equations.specs.Equation.{equation}
use Rattle.kc_equations.specs.Names.{is_declared, stands_in, names}
use Rattle.kc_equations.specs.Solution.{put_symbol, symbols_of, kind_of, valued_by, by_equations, IsSolution, HasOneSolution}
use Rattle.kc_equations.specs.Walks.{IsWalk, Reaches, OnCycle}
use Rattle.kc_equations.proofs.Texts.{same_text, is_text-self, is_text-flip, none_in, without, without-lt, without-keeps}
use Rattle.kc_equations.proofs.Agree.{equation_agrees}

-- ---- the declared symbols

or_nothing : (a : Bool) → (a || false) ≡ a
or_nothing true = refl
or_nothing false = refl

or_twice : (a b : Bool) → a ≡ true → (a || b) ≡ a
or_twice true b is = refl
or_twice false b is = absurd (false≢true is)

or_before : (a b c : Bool) → ((a || b) || c) ≡ (a || (b || c))
or_before true b c = refl
or_before false b c = refl

-- a symbol that is one of them already changes nothing
stays : (t s : List ℕ) (symbols : List (List ℕ)) → list_any (is_text s) symbols ≡ true → list_any (is_text t) symbols ≡ (list_any (is_text t) symbols || is_text s t)
stays t s symbols there =
    ⊎_elim
    (λ is.
    let same : s ≡ t = same_text s t is in
    let found : list_any (is_text t) symbols ≡ true = subst (λ x. list_any (is_text x) symbols ≡ true) same there in
    sym (or_twice (list_any (is_text t) symbols) (is_text s t) found))
    (λ apart. sym (ap (λ b. list_any (is_text t) symbols || b) apart ∙ or_nothing (list_any (is_text t) symbols)))
    (cases_Bool (is_text s t))

put_is : (t s : List ℕ) (symbols : List (List ℕ)) → list_any (is_text t) (put_symbol symbols s) ≡ (list_any (is_text t) symbols || is_text s t)
put_is t s symbols =
    ⊎_elim
    (λ there. ap (λ b. list_any (is_text t) (if b then symbols else symbols ++ s ∷ [])) there ∙ stays t s symbols there)
    (λ new.
    ap (λ b. list_any (is_text t) (if b then symbols else symbols ++ s ∷ [])) new
    ∙ (list_any-append (is_text t) symbols (s ∷ [])
    ∙ ap (λ b. list_any (is_text t) symbols || b) (or_nothing (is_text t s) ∙ is_text-flip t s)))
    (cases_Bool (list_any (is_text s) symbols))

fold_is : (t : List ℕ) (entries : List KcEntry) (symbols : List (List ℕ)) → list_any (is_text t) (fold (λ seen e. put_symbol seen e.symbol) symbols entries) ≡ (list_any (is_text t) symbols || is_declared entries t)
fold_is t [] symbols = sym (or_nothing (list_any (is_text t) symbols))
fold_is t (e ∷ entries) symbols =
    fold_is t entries (put_symbol symbols e.symbol)
    ∙ (ap (λ b. b || is_declared entries t) (put_is t e.symbol symbols)
    ∙ or_before (list_any (is_text t) symbols) (is_text e.symbol t) (is_declared entries t))

-- the symbols of a menu are those that are declared
pub declared_is : (entries : List KcEntry) (t : List ℕ) → list_any (is_text t) (symbols_of entries) ≡ is_declared entries t
unfolding symbols_of
declared_is entries t = fold_is t entries []

-- ---- a turn of the equations

valued_at : (f : List ℕ → Valued) (symbols : List (List ℕ)) (t : List ℕ) → valued t (map (λ s. (s, f s)) symbols) ≡ cond (list_any (is_text t) symbols) (Some (f t)) None
valued_at f [] t = refl
valued_at f (s ∷ symbols) t =
    ⊎_elim
    (λ is.
    let here : Some (f s) ≡ Some (f t) = ap (λ x. Some (f x)) (sym (same_text t s is)) in
    cond-true (is_text t s) (Some (f s)) (lookup (is_text t) (map (λ x. (x, f x)) symbols)) is
    ∙ (here ∙ sym (cond-true (is_text t s || list_any (is_text t) symbols) (Some (f t)) None (or_left (is_text t s) (list_any (is_text t) symbols) is))))
    (λ other.
    cond-false (is_text t s) (Some (f s)) (lookup (is_text t) (map (λ x. (x, f x)) symbols)) other
    ∙ (valued_at f symbols t ∙ ap (λ b. cond (b || list_any (is_text t) symbols) (Some (f t)) None) (sym other)))
    (cases_Bool (is_text t s))

map_same : (f g : List ℕ → Valued) (symbols : List (List ℕ)) → ((t : List ℕ) → list_any (is_text t) symbols ≡ true → f t ≡ g t) → map {B = List ℕ × Valued} (λ s. (s, f s)) symbols ≡ map (λ s. (s, g s)) symbols
map_same f g [] same = refl
map_same f g (s ∷ symbols) same =
    ap₂ {C = List (List ℕ × Valued)} (λ x rest. (s, x) ∷ rest) (same s (or_left (is_text s s) (list_any (is_text s) symbols) (is_text-self s)))
    (map_same f g symbols (λ t there. same t (or_right (is_text t s) (list_any (is_text t) symbols) there)))

-- ---- walks

IsWalk-push : (names : List ℕ → List ℕ → Bool) (s : List ℕ) (between : List (List ℕ)) (t u : List ℕ) → IsWalk names s (between ++ t ∷ []) → names t u ≡ true → IsWalk names s ((between ++ t ∷ []) ++ u ∷ [])
IsWalk-push names s [] t u walk step = (walk.0, (step, tt))
IsWalk-push names s (x ∷ between) t u walk step = (walk.0, IsWalk-push names x between t u walk.1 step)

-- one step more
Reaches-step : (names : List ℕ → List ℕ → Bool) (s t u : List ℕ) → Reaches names s t → names t u ≡ true → Reaches names s u
Reaches-step names s t u (between, walk) step = (between ++ t ∷ [], IsWalk-push names s between t u walk step)

module _ (menu : Declared) (wishes : List Wish) where
  abbrev pub turn : Table → Table
  turn = by_equations menu wishes

  pub valued_turn : (x : Table) (t : List ℕ) → valued t (turn x) ≡ cond (is_declared menu.entries t) (Some (valued_by menu wishes x t)) None
  unfolding by_equations
  valued_turn x t = valued_at (valued_by menu wishes x) (symbols_of menu.entries) t ∙ ap (λ b. cond b (Some (valued_by menu wishes x t)) None) (declared_is menu.entries t)

  pub same_valued : (x y : Table) (t : List ℕ) → equation menu wishes x t ≡ equation menu wishes y t → valued_by menu wishes x t ≡ valued_by menu wishes y t
  same_valued x y t same = ap (λ text. record { kind = kind_of menu.entries t; text = text }) same

  -- after a turn two tables agree on a symbol if its equation gave one text, and on all that aren't declared
  turn_agrees : (x y : Table) (t : List ℕ) → (is_declared menu.entries t ≡ true → equation menu wishes x t ≡ equation menu wishes y t) → valued t (turn x) ≡ valued t (turn y)
  turn_agrees x y t same =
      valued_turn x t
      ∙ (⊎_elim
      (λ there. ap (λ z. cond (is_declared menu.entries t) (Some z) None) (same_valued x y t (same there)))
      (λ off. cond-false (is_declared menu.entries t) (Some (valued_by menu wishes x t)) None off ∙ sym (cond-false (is_declared menu.entries t) (Some (valued_by menu wishes y t)) None off))
      (cases_Bool (is_declared menu.entries t))
      ∙ sym (valued_turn y t))

  pub same_turn : (x y : Table) → ((t : List ℕ) → is_declared menu.entries t ≡ true → equation menu wishes x t ≡ equation menu wishes y t) → turn x ≡ turn y
  unfolding by_equations
  same_turn x y same =
      map_same (valued_by menu wishes x) (valued_by menu wishes y) (symbols_of menu.entries) (λ t there. same_valued x y t (same t (sym (declared_is menu.entries t) ∙ there)))

  pub is_named : (t u : List ℕ) → is_declared menu.entries t ≡ true → is_declared menu.entries u ≡ true → stands_in menu t u ≡ true → names menu t u ≡ true
  unfolding names
  is_named t u from to stands = and_from (is_declared menu.entries t && is_declared menu.entries u) (stands_in menu t u) (and_from (is_declared menu.entries t) (is_declared menu.entries u) from to) stands

  module _ (acyclic : (s : List ℕ) → OnCycle (names menu) s → ⊥) (v w : ℕ → Table) (v_turns : (k : ℕ) → v (suc k) ≡ turn (v k)) (w_turns : (k : ℕ) → w (suc k) ≡ turn (w k)) where
    -- a symbol's texts are equal after a turn if those of all that it names were before
    next_agrees : (k : ℕ) (t : List ℕ) → is_declared menu.entries t ≡ true
        → ((u : List ℕ) → is_declared menu.entries u ≡ true → names menu t u ≡ true → equation menu wishes (v k) u ≡ equation menu wishes (w k) u)
        → equation menu wishes (v (suc k)) t ≡ equation menu wishes (w (suc k)) t
    next_agrees k t there named =
        equation_agrees (v (suc k)) (w (suc k)) menu wishes t (λ u stands.
        ap (valued u) (v_turns k)
        ∙ (turn_agrees (v k) (w k) u (λ declared. named u declared (is_named t u there declared stands))
        ∙ ap (valued u) (sym (w_turns k))))

    -- each declared symbol is among the rest, or leads to t; so t is among the rest, and the symbols that it names have fewer
    settled : (k : ℕ) (rest : List (List ℕ)) (t : List ℕ) → length rest ≤ k → is_declared menu.entries t ≡ true
        → ((u : List ℕ) → is_declared menu.entries u ≡ true → (list_any (is_text u) rest ≡ true) ⊎ Reaches (names menu) u t)
        → equation menu wishes (v k) t ≡ equation menu wishes (w k) t
    settled zero rest t room there left =
        ⊎_elim (λ among. absurd (none_in rest t room among)) (λ back. absurd (acyclic t back)) (left t there)
    settled (suc k) rest t room there left =
        ⊎_elim
        (λ among.
        let less : length (without t rest) < length rest = without-lt t rest among in
        next_agrees k t there (λ u declared named.
        settled k (without t rest) u (omega arith) declared (λ z is.
        ⊎_elim
        (λ same. inr (subst (λ x. Reaches (names menu) x u) (same_text t z same) ([], (named, tt))))
        (λ apart.
        ⊎_elim
        (λ among_rest. inl (without-keeps t z rest apart among_rest))
        (λ leads. inr (Reaches-step (names menu) z t u leads named))
        (left z is))
        (cases_Bool (is_text t z)))))
        (λ back. absurd (acyclic t back))
        (left t there)

    all_settled : turn (v (length (symbols_of menu.entries))) ≡ turn (w (length (symbols_of menu.entries)))
    all_settled =
        same_turn (v (length (symbols_of menu.entries))) (w (length (symbols_of menu.entries))) (λ t there.
        settled (length (symbols_of menu.entries)) (symbols_of menu.entries) t (omega arith) there (λ u is. inl (declared_is menu.entries u ∙ is)))

  turns : ℕ → Table
  turns zero = []
  turns (suc k) = turn (turns k)

  -- exactly one solution: enough turns reach one, and each solution is reached by none
  pub one_solution : ((s : List ℕ) → OnCycle (names menu) s → ⊥) → HasOneSolution menu wishes
  unfolding turns IsSolution
  one_solution acyclic =
      let count : ℕ = length (symbols_of menu.entries) in
      let fixed : turn (turns count) ≡ turn (turns (suc count)) = all_settled acyclic turns (λ k. turns (suc k)) (λ k. refl) (λ k. refl) in
      record {
        values = turns (suc count);
        solution = fixed;
        alone = λ others is.
            is ∙ (all_settled acyclic (λ k. others) (λ k. turns (suc count)) (λ k. is) (λ k. fixed) ∙ sym fixed);
      }
