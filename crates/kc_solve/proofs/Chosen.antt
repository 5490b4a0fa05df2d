-- The choice of a symbol is that of its first entry.
use Rattle.std.proofs.Common.{ℕ, zero, suc, ◌≡◌, ◌<◌, Bool, true, false, cond, ◌||◌, ◌==◌, List, [], ◌∷◌, length, filter, Contains, slice_get, Option, Some, None, option_and_then, refl, sym, ap, subst, ◌∙◌, ⊎_elim, arith}
use Rattle.std.specs.List.{list_any}
use Rattle.std.specs.Option.{option_map_or}
use Rattle.std.specs.Borrow.{Bor}
use Rattle.std.proofs.lemmas.Bool.{cases_Bool, or_left, or_right, false≢true, true≢false}
use Rattle.br_path.specs.Text.{is_text}
use Rattle.kc_menu.specs.Menu.{Declared, IsMenu}
use Rattle.kc_menu.specs.declared.menu.KcEntry.{KcEntry}
use Rattle.kc_equations.specs.Behind.{behind}
use Rattle.kc_equations.specs.Equation.{entries_of, members_of}
use Rattle.kc_equations.specs.Names.{is_declared}
use Rattle.kc_equations.proofs.ChoiceLaws.{first_kept}
use Rattle.kc_equations.proofs.Texts.{same_text, both_ways}
use Rattle.kc_solve.specs.Index.{AreDeclared}
use Rattle.kc_solve.specs.Symbols.{symbol_at, place_of}
use Rattle.kc_solve.specs.Taken.{choice_place}
use Rattle.kc_solve.proofs.Places.{place_is, place_there}

abbrev in_choice : ℕ → Option ℕ → Bool
in_choice choice found = option_map_or (λ other. other == choice) found false

later : {A : Type 0} (x : A) (xs : List A) (y : A) → Contains xs y → Contains (x ∷ xs) y
later x xs y (k, below, is) = (suc k, omega (arith, below), is)

-- what passes a test among those that are kept
found_in : {A : Type 0} (p q : A → Bool) (xs : List A) → list_any q (filter p xs) ≡ true → (x : A) × Contains xs x × (p x ≡ true) × (q x ≡ true)
found_in p q [] there = absurd (false≢true there)
found_in {A} p q (x ∷ xs) there =
    let rest : list_any q (filter p xs) ≡ true → (y : A) × Contains (x ∷ xs) y × (p y ≡ true) × (q y ≡ true) =
    λ more. let (y, inside, passes, found) = found_in p q xs more in (y, later x xs y inside, passes, found) in
    ⊎_elim
    (λ kept.
    let now : (q x || list_any q (filter p xs)) ≡ true = subst (λ b. list_any q (cond b (x ∷ filter p xs) (filter p xs)) ≡ true) kept there in
    ⊎_elim (λ found. (x, (zero, omega arith, refl), kept, found)) (λ other. rest (subst (λ b. (b || list_any q (filter p xs)) ≡ true) other now)) (cases_Bool (q x)))
    (λ out. rest (subst (λ b. list_any q (cond b (x ∷ filter p xs) (filter p xs)) ≡ true) out there))
    (cases_Bool (p x))

any_kept : {A : Type 0} (p q : A → Bool) (xs : List A) (x : A) → Contains xs x → p x ≡ true → q x ≡ true → list_any q (filter p xs) ≡ true
any_kept p q [] x (k, below, is) keeps passes = absurd (omega (arith, below))
any_kept p q (y ∷ ys) x (zero, below, is) keeps passes =
    ap (λ b. list_any q (cond b (y ∷ filter p ys) (filter p ys))) (subst (λ z. p z ≡ true) (sym is) keeps)
    ∙ or_left (q y) (list_any q (filter p ys)) (subst (λ z. q z ≡ true) (sym is) passes)
any_kept p q (y ∷ ys) x (suc k, below, is) keeps passes =
    let rest : list_any q (filter p ys) ≡ true = any_kept p q ys x (k, omega (arith, below), is) keeps passes in
    elim (p y) as (λ b. list_any q (cond b (y ∷ filter p ys) (filter p ys)) ≡ true) [
      | true ↦ or_right (q y) (list_any q (filter p ys)) rest
      | false ↦ rest
    ]

any_at : {A : Type 0} (p : A → Bool) (xs : List A) (x : A) → Contains xs x → p x ≡ true → list_any p xs ≡ true
any_at p [] x (k, below, is) passes = absurd (omega (arith, below))
any_at p (y ∷ ys) x (zero, below, is) passes = or_left (p y) (list_any p ys) (subst (λ z. p z ≡ true) (sym is) passes)
any_at p (y ∷ ys) x (suc k, below, is) passes = or_right (p y) (list_any p ys) (any_at p ys x (k, omega (arith, below), is) passes)

pub some_of : {A B : Type 0} (f : A → Option B) (o : Option A) (y : B) → option_and_then f o ≡ Some y → (x : A) × (o ≡ Some x) × (f x ≡ Some y)
some_of f None y is = absurd (cc)
some_of f (Some x) y is = (x, refl, is)

first_behind : {A : Type 0} (references : List (Bor A)) (x : Bor A) → Some x ≡ slice_get references 0 → slice_get (behind references) 0 ≡ Some x.now
first_behind [] x first = absurd (cc)
first_behind (y ∷ references) x first = let one : x ≡ y = cc (first) in ap (λ z. Some z.now) (sym one)

module _ (menu : Declared) (is_menu : IsMenu menu) (s : List ℕ) where
  -- the first entry of a symbol
  first_entry : (e : KcEntry) → slice_get (entries_of menu.entries s) 0 ≡ Some e → Contains menu.entries e × (is_text e.symbol s ≡ true)
  unfolding entries_of
  first_entry e first =
      ⊎_elim
      (λ there.
      let (x, is, inside, same) = first_kept (λ y. is_text y.symbol s) menu.entries there in
      let made : Some x ≡ Some e = sym is ∙ first in
      let one : x ≡ e = cc (made) in
      subst (λ y. Contains menu.entries y × (is_text y.symbol s ≡ true)) one (inside, same))
      (λ none. absurd (no_first (λ y. is_text y.symbol s) menu.entries none first))
      (cases_Bool (is_declared menu.entries s))
    where
      no_first : (p : KcEntry → Bool) (xs : List KcEntry) → list_any p xs ≡ false → slice_get (filter p xs) 0 ≡ Some e → ⊥
      no_first p [] none found = cc
      no_first p (x ∷ xs) none found =
          ⊎_elim
          (λ kept. true≢false (sym (or_left (p x) (list_any p xs) kept) ∙ none))
          (λ out. no_first p xs (subst (λ b. (b || list_any p xs) ≡ false) out none) (subst (λ b. slice_get (cond b (x ∷ filter p xs) (filter p xs)) 0 ≡ Some e) out found))
          (cases_Bool (p x))

  -- the choice of a symbol is there
  pub choice_short : (choice : ℕ) → choice_place menu.entries s ≡ Some choice → choice < length menu.choices
  choice_short choice is =
      let (e, first, chosen) = some_of (λ x. x.choice) (slice_get (entries_of menu.entries s) 0) choice is in
      is_menu.there e choice (first_entry e first).0 chosen

  -- the same of references to the entries
  pub choice_there : (own : List (Bor KcEntry)) → behind own ≡ entries_of menu.entries s → (e : Bor KcEntry) → Some e ≡ slice_get own 0 → (choice : ℕ) → e.now.choice ≡ Some choice → choice < length menu.choices
  choice_there own own_is e first choice chosen =
      choice_short choice (ap (option_and_then (λ x. x.choice)) (ap (λ xs. slice_get xs 0) (sym own_is) ∙ first_behind own e first) ∙ chosen)

  -- a symbol is a member of a choice where its first entry is
  pub member_is : (choice : ℕ) → is_declared (members_of menu.entries choice) s ≡ in_choice choice (choice_place menu.entries s)
  unfolding entries_of members_of
  member_is choice =
      both_ways (is_declared (members_of menu.entries choice) s) (in_choice choice (choice_place menu.entries s))
      (λ there.
      let (x, inside, chosen, same) = found_in (λ e. in_choice choice e.choice) (λ e. is_text e.symbol s) menu.entries there in
      let declared : is_declared menu.entries s ≡ true = any_at (λ e. is_text e.symbol s) menu.entries x inside same in
      let (e, first, e_in, e_same) = first_kept (λ y. is_text y.symbol s) menu.entries declared in
      let one : x.choice ≡ e.choice = is_menu.places x e inside e_in (same_text x.symbol s same ∙ sym (same_text e.symbol s e_same)) in
      ap (λ o. in_choice choice (option_and_then (λ y. y.choice) o)) first ∙ (ap (in_choice choice) (sym one) ∙ chosen))
      (λ chosen. by (slice_get (entries_of menu.entries s) 0) refl chosen)
    where
      by : (o : Option KcEntry) → slice_get (entries_of menu.entries s) 0 ≡ o → in_choice choice (option_and_then (λ y. y.choice) o) ≡ true → is_declared (members_of menu.entries choice) s ≡ true
      by None none chosen = absurd (false≢true chosen)
      by (Some e) first chosen =
          let here = first_entry e first in
          any_kept (λ x. in_choice choice x.choice) (λ x. is_text x.symbol s) menu.entries e here.0 chosen here.1

  -- a symbol that isn't declared is no member
  none_member : is_declared menu.entries s ≡ false → (choice : ℕ) → is_declared (members_of menu.entries choice) s ≡ false
  unfolding members_of
  none_member none choice =
      ⊎_elim
      (λ there.
      let (x, inside, chosen, same) = found_in (λ e. in_choice choice e.choice) (λ e. is_text e.symbol s) menu.entries there in
      absurd (true≢false (sym (any_at (λ e. is_text e.symbol s) menu.entries x inside same) ∙ none)))
      (λ off. off)
      (cases_Bool (is_declared (members_of menu.entries choice) s))

  module _ (symbols : List (List ℕ)) (declared : AreDeclared menu symbols) (choice : ℕ) where
    pub member_none : place_of symbols s ≡ None → false ≡ is_declared (members_of menu.entries choice) s
    member_none none =
        ⊎_elim
        (λ there. absurd (let (place, found) = place_there symbols s there in cc))
        (λ off. sym (none_member (sym (declared s) ∙ off) choice))
        (cases_Bool (list_any (is_text s) symbols))

    pub member_some : (place : ℕ) → place_of symbols s ≡ Some place → (found : Option ℕ) → found ≡ choice_place menu.entries (symbol_at symbols place) → in_choice choice found ≡ is_declared (members_of menu.entries choice) s
    member_some place at found is = ap (in_choice choice) (is ∙ ap (choice_place menu.entries) (place_is symbols s place at).1) ∙ sym (member_is choice)
