-- What a fault, a value or a forced symbol tells of the symbol: it is declared.
use Rattle.std.proofs.Common.{ℕ, suc, ◌≡◌, Bool, true, false, cond, ◌&&◌, ◌||◌, not, ◌==◌, List, [], ◌∷◌, ◌++◌, length, map, filter, Option, Some, None, is_some, refl, sym, ap, subst, ◌∙◌, ⊎_elim, arith}
use Rattle.std.specs.List.{list_any}
use Rattle.std.specs.Option.{option_map_or}
use Rattle.std.specs.Borrow.{Bor}
use Rattle.std.proofs.lemmas.List.{length-map}
use Rattle.std.proofs.lemmas.Bool.{cases_Bool, ne_eqb, or_left, or_right, and_parts, false≢true, true≢false}
use Rattle.br_path.specs.Text.{is_text}
use Rattle.kc_values.specs.Values.{Table, find as valued, is_bool, is_yes}
use Rattle.kc_values.specs.declared.values.Valued.{Valued}
use Rattle.kc_menu.specs.Menu.{Declared}
use Rattle.kc_menu.specs.declared.menu.KcEntry.{KcEntry}
use Rattle.kc_menu.specs.declared.menu.SymbolIf.{SymbolIf}
use Rattle.kc_menu.specs.declared.wishes.Wish.{Wish}
use Rattle.kc_equations.specs.Behind.{selects_behind}
use Rattle.kc_equations.specs.Equation.{entries_of, selects_of, is_selected}
use Rattle.kc_equations.specs.Faults.{is_select_named, is_named_member, is_named_value, is_bad, is_bad_number, is_forced, depends_hold}
use Rattle.kc_equations.specs.Names.{is_declared}
use Rattle.kc_equations.specs.Solution.{valued_by, IsSolution}
use Rattle.kc_equations.proofs.Runs.{valued_turn}

any_in_filter : {A : Type 0} (p q : A → Bool) (xs : List A) → list_any q (filter p xs) ≡ true → list_any p xs ≡ true
any_in_filter p q [] there = absurd (false≢true there)
any_in_filter p q (x ∷ xs) there =
    ⊎_elim
    (λ kept. or_left (p x) (list_any p xs) kept)
    (λ out. or_right (p x) (list_any p xs) (any_in_filter p q xs (subst (λ b. list_any q (cond b (x ∷ filter p xs) (filter p xs)) ≡ true) out there)))
    (cases_Bool (p x))

-- what is true of one of the entries of a symbol
entry_there : (q : KcEntry → Bool) (entries : List KcEntry) (s : List ℕ) → list_any q (entries_of entries s) ≡ true → is_declared entries s ≡ true
unfolding entries_of
entry_there q entries s there = any_in_filter (λ e. is_text e.symbol s) q entries there

pub named_member_there : (entries : List KcEntry) (s : List ℕ) → is_named_member entries s ≡ true → is_declared entries s ≡ true
named_member_there entries s is = entry_there (λ e. is_some e.choice) entries s (and_parts (is_select_named entries s) (list_any (λ e. is_some e.choice) (entries_of entries s)) is).1

pub named_value_there : (entries : List KcEntry) (s : List ℕ) → is_named_value entries s ≡ true → is_declared entries s ≡ true
named_value_there entries s is = entry_there (λ e. not (is_bool e.kind)) entries s (and_parts (is_select_named entries s) (list_any (λ e. not (is_bool e.kind)) (entries_of entries s)) is).1

-- ---- selects

suc_apart : (n : ℕ) → (suc n == 0) ≡ false
suc_apart n = ne_eqb (suc n) 0 (λ is. absurd (omega (arith, is)))

none-append : {A : Type 0} (xs ys : List A) → (length (xs ++ ys) == 0) ≡ ((length xs == 0) && (length ys == 0))
none-append [] ys = refl
none-append (x ∷ xs) ys = suc_apart (length (xs ++ ys)) ∙ sym (ap (λ b. b && (length ys == 0)) (suc_apart (length xs)))

none-map-filter : {A B : Type 0} (f : A → B) (p : A → Bool) (xs : List A) → (length (map f (filter p xs)) == 0) ≡ not (list_any p xs)
none-map-filter f p [] = refl
none-map-filter f p (x ∷ xs) =
    elim (p x) as (λ b. (length (map f (cond b (x ∷ filter p xs) (filter p xs))) == 0) ≡ not (b || list_any p xs)) [
      | true ↦ suc_apart (length (map f (filter p xs)))
      | false ↦ none-map-filter f p xs
    ]

not_or : (a b : Bool) → (not a && not b) ≡ not (a || b)
not_or true b = refl
not_or false b = refl

not_not : (b : Bool) → not (not b) ≡ b
not_not true = refl
not_not false = refl

-- no select is listed for a symbol exactly where none names it
pub no_selects : (entries : List KcEntry) (s : List ℕ) → (length (selects_of entries s) == 0) ≡ not (is_select_named entries s)
unfolding selects_of
no_selects [] s = refl
no_selects (e ∷ entries) s =
    none-append (map (λ x. (e, x)) (filter (λ x. is_text x.symbol s) e.selects)) (selects_of entries s)
    ∙ (ap (λ b. b && (length (selects_of entries s) == 0)) (none-map-filter (λ x. (e, x)) (λ x. is_text x.symbol s) e.selects)
    ∙ (ap (λ b. not (list_any (λ x. is_text x.symbol s) e.selects) && b) (no_selects entries s)
    ∙ not_or (list_any (λ x. is_text x.symbol s) e.selects) (is_select_named entries s)))

-- a select is listed for a symbol exactly where one names it
pub some_selects : (listed : List (Bor KcEntry × Bor SymbolIf)) (entries : List KcEntry) (s : List ℕ) → selects_behind listed ≡ selects_of entries s → not (length listed == 0) ≡ is_select_named entries s
some_selects listed entries s same =
    ap (λ n. not (n == 0)) (sym (length-map listed (λ x. (x.0.now, x.1.now))) ∙ ap length same)
    ∙ (ap not (no_selects entries s) ∙ not_not (is_select_named entries s))

-- ---- values

module _ (menu : Declared) (wishes : List Wish) (values : Table) (solution : IsSolution menu wishes values) where
  value_is : (s : List ℕ) → valued s values ≡ cond (is_declared menu.entries s) (Some (valued_by menu wishes values s)) None
  unfolding IsSolution
  value_is s = ap (valued s) solution ∙ valued_turn menu wishes values s

  -- what holds of a value, and of none doesn't, holds of declared symbols alone
  value_there : (test : Option Valued → Bool) → test None ≡ false → (s : List ℕ) → test (valued s values) ≡ true → is_declared menu.entries s ≡ true
  value_there test fails s is =
      ⊎_elim
      (λ there. there)
      (λ off. absurd (true≢false (sym is ∙ (ap test (value_is s ∙ ap (λ b. cond b (Some (valued_by menu wishes values s)) None) off) ∙ fails))))
      (cases_Bool (is_declared menu.entries s))

  pub bad_number_there : (s : List ℕ) → is_bad_number values s ≡ true → is_declared menu.entries s ≡ true
  bad_number_there s is = value_there (λ o. option_map_or is_bad o false) refl s is

  pub forced_there : (s : List ℕ) → is_forced menu values s ≡ true → is_declared menu.entries s ≡ true
  forced_there s is =
      value_there is_yes refl s
      (and_parts (is_yes (valued s values)) (is_selected values (selects_of menu.entries s))
      (and_parts (is_yes (valued s values) && is_selected values (selects_of menu.entries s)) (not (depends_hold values (entries_of menu.entries s))) is).0).0
