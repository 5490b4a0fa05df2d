-- A visible choice with a visible member has exactly one member that is y, and others have none.
use Rattle.std.proofs.Common.{ℕ, zero, suc, ◌≡◌, ◌⊎◌, inl, inr, ⊎_elim, Bool, true, false, cond, ◌&&◌, ◌||◌, List, [], ◌∷◌, filter, find, reverse, Contains, slice_get, ◌==◌, if◌then◌else◌, Option, Some, None, option_map, option_and_then, refl, sym, ap, ap₂, subst, ◌∙◌, arith}
use Rattle.std.specs.List.{list_any}
use Rattle.std.specs.Option.{option_map_or, option_or}
use Rattle.std.proofs.lemmas.Bool.{cases_Bool, eqb-true, or_left, or_right, and_parts, and_from, and_right, false≢true, true≢false}
use Rattle.br_path.specs.Text.{is_text}
use Rattle.kc_values.specs.Values.{Table, find as valued, is_y, is_yes, is_bool}
use Rattle.kc_expr.specs.Holds.{holds}
use Rattle.kc_values.specs.declared.kind.Kind.TheVariants.{Bool as BoolKind}
use Rattle.kc_menu.specs.Menu.{Declared}
use Rattle.kc_menu.specs.Visible.{shows, is_visible}
use Rattle.kc_menu.specs.declared.menu.KcEntry.{KcEntry}
use Rattle.kc_menu.specs.declared.menu.KcChoice.{KcChoice}
use Rattle.kc_menu.specs.declared.wishes.Wish.{Wish}
use Rattle.kc_equations.specs.Choices.{IsChoice, has_visible, TakesOne, TakesNone}
use Rattle.kc_equations.specs.Equation.{entries_of, selects_of, members_of, choice_at, wish_of, shows_choice, is_wished_y, wished_member, default_member, first_member, taken, member_text, yes_or_no, text_by_kind, taken_at, text_with, equation}
use Rattle.kc_equations.specs.Names.{is_declared}
use Rattle.kc_equations.specs.Solution.{kind_of, valued_by, IsSolution}
use Rattle.kc_equations.proofs.Texts.{same_text, is_text-self}
use Rattle.kc_equations.proofs.Runs.{valued_turn}

-- ---- lists

later_in : {A : Type 0} (x : A) (xs : List A) (y : A) → Contains xs y → Contains (x ∷ xs) y
later_in x xs y (k, below, is) = (suc k, omega (arith, below), is)

first_in : {A : Type 0} (x : A) (xs : List A) → Contains (x ∷ xs) x
first_in x xs = (zero, omega arith, refl)

-- what passes a test in a filtered list
found_in : {A : Type 0} (p q : A → Bool) (xs : List A) → list_any q (filter p xs) ≡ true → (x : A) × Contains xs x × (p x ≡ true) × (q x ≡ true)
found_in p q [] there = absurd (false≢true there)
found_in {A} p q (x ∷ xs) there =
    let rest : list_any q (filter p xs) ≡ true → (y : A) × Contains (x ∷ xs) y × (p y ≡ true) × (q y ≡ true) =
    λ more. let (y, is_in, passes, found) = found_in p q xs more in (y, later_in x xs y is_in, passes, found) in
    ⊎_elim
    (λ kept.
    let now : (q x || list_any q (filter p xs)) ≡ true = subst (λ b. list_any q (cond b (x ∷ filter p xs) (filter p xs)) ≡ true) kept there in
    ⊎_elim (λ found. (x, first_in x xs, kept, found)) (λ other. rest (subst (λ b. (b || list_any q (filter p xs)) ≡ true) other now)) (cases_Bool (q x)))
    (λ left_out. rest (subst (λ b. list_any q (cond b (x ∷ filter p xs) (filter p xs)) ≡ true) left_out there))
    (cases_Bool (p x))

some_in : {A : Type 0} (q : A → Bool) (xs : List A) → list_any q xs ≡ true → (x : A) × Contains xs x × (q x ≡ true)
some_in q [] there = absurd (false≢true there)
some_in q (x ∷ xs) there =
    ⊎_elim
    (λ found. (x, first_in x xs, found))
    (λ other.
    let (y, is_in, found) = some_in q xs (subst (λ b. (b || list_any q xs) ≡ true) other there) in
    (y, later_in x xs y is_in, found))
    (cases_Bool (q x))

any_at : {A : Type 0} (p : A → Bool) (xs : List A) (x : A) → Contains xs x → p x ≡ true → list_any p xs ≡ true
any_at p [] x (k, below, is) passes = absurd (omega (arith, below))
any_at p (y ∷ ys) x (zero, below, is) passes = or_left (p y) (list_any p ys) (subst (λ z. p z ≡ true) (sym is) passes)
any_at p (y ∷ ys) x (suc k, below, is) passes = or_right (p y) (list_any p ys) (any_at p ys x (k, omega (arith, below), is) passes)

-- a filter keeps a first element if one passes
pub first_kept : {A : Type 0} (p : A → Bool) (xs : List A) → list_any p xs ≡ true → (first : A) × (slice_get (filter p xs) 0 ≡ Some first) × Contains xs first × (p first ≡ true)
first_kept p [] there = absurd (false≢true there)
first_kept p (y ∷ ys) there =
    ⊎_elim
    (λ kept. (y, ap (λ b. slice_get (cond b (y ∷ filter p ys) (filter p ys)) 0) kept, first_in y ys, kept))
    (λ out.
    let (first, is, is_in, good) = first_kept p ys (subst (λ b. (b || list_any p ys) ≡ true) out there) in
    (first, ap (λ b. slice_get (cond b (y ∷ filter p ys) (filter p ys)) 0) out ∙ is, later_in y ys first is_in, good))
    (cases_Bool (p y))

find_passes : {A : Type 0} (p : A → Bool) (xs : List A) (x : A) → find p xs ≡ Some x → p x ≡ true
find_passes p [] x is = absurd (cc)
find_passes p (y ∷ ys) x is =
    ⊎_elim
    (λ kept.
    let made : Some y ≡ Some x = subst (λ b. cond b (Some y) (find p ys) ≡ Some x) kept is in
    let same : y ≡ x = cc (made) in
    subst (λ z. p z ≡ true) same kept)
    (λ out. find_passes p ys x (subst (λ b. cond b (Some y) (find p ys) ≡ Some x) out is))
    (cases_Bool (p y))

find_some : {A : Type 0} (p : A → Bool) (xs : List A) → list_any p xs ≡ true → (x : A) × (find p xs ≡ Some x)
find_some p [] there = absurd (false≢true there)
find_some p (y ∷ ys) there =
    ⊎_elim
    (λ kept. (y, ap (λ b. cond b (Some y) (find p ys)) kept))
    (λ out.
    let (x, is) = find_some p ys (subst (λ b. (b || list_any p ys) ≡ true) out there) in
    (x, ap (λ b. cond b (Some y) (find p ys)) out ∙ is))
    (cases_Bool (p y))

find_none : {A : Type 0} (p : A → Bool) (xs : List A) → ((x : A) → p x ≡ false) → find p xs ≡ None
find_none p [] none = refl
find_none p (y ∷ ys) none = ap (λ b. cond b (Some y) (find p ys)) (none y) ∙ find_none p ys none

both_arms : {A : Type 0} (b : Bool) (x : A) → (if b then x else x) ≡ x
both_arms true x = refl
both_arms false x = refl

-- ---- the member that is taken

module _ (values : Table) (members : List KcEntry) where
  -- a symbol, if there is one, is visible
  Sees : Option (List ℕ) → Type 0
  Sees found = (member : List ℕ) → found ≡ Some member → is_visible members member values ≡ true

  sees_found : {A : Type 0} (p : A → Bool) (symbol : A → List ℕ) (xs : List A) → ((x : A) → p x ≡ true → is_visible members (symbol x) values ≡ true) → (found : Option A) → find p xs ≡ found → Sees (option_map symbol found)
  unfolding Sees
  sees_found p symbol xs good None is member made = absurd (cc)
  sees_found p symbol xs good (Some x) is member made =
      let same : symbol x ≡ member = cc (made) in
      subst (λ m. is_visible members m values ≡ true) same (good x (find_passes p xs x is))

  sees_or : (o p : Option (List ℕ)) → Sees o → Sees p → Sees (option_or o p)
  sees_or None p first second = second
  sees_or (Some x) p first second = first

  sees_wished : (wishes : List Wish) → Sees (wished_member values wishes members)
  unfolding wished_member
  sees_wished wishes =
      sees_found (λ w. is_wished_y w.value && is_visible members w.symbol values) (λ w. w.symbol) (reverse wishes)
      (λ w both. (and_parts (is_wished_y w.value) (is_visible members w.symbol values) both).1)
      (find (λ w. is_wished_y w.value && is_visible members w.symbol values) (reverse wishes)) refl

  sees_default : (choice : KcChoice) → Sees (default_member values choice members)
  unfolding default_member
  sees_default choice =
      sees_found (λ d. holds values d.condition && is_visible members d.symbol values) (λ d. d.symbol) choice.defaults
      (λ d both. (and_parts (holds values d.condition) (is_visible members d.symbol values) both).1)
      (find (λ d. holds values d.condition && is_visible members d.symbol values) choice.defaults) refl

  sees_first : Sees (first_member values members)
  unfolding first_member
  sees_first =
      sees_found (λ e. is_visible members e.symbol values) (λ e. e.symbol) members (λ e good. good) (find (λ e. is_visible members e.symbol values) members) refl

  or_some : (o p : Option (List ℕ)) → (m : List ℕ) × (p ≡ Some m) → (m : List ℕ) × (option_or o p ≡ Some m)
  or_some None p there = there
  or_some (Some x) p there = (x, refl)

  -- the member of an entry that shows is visible
  entry_visible : has_visible values members ≡ true → list_any (λ e. is_visible members e.symbol values) members ≡ true
  entry_visible there =
      let (e, is_in, seen) = some_in (λ f. shows f values) members there in
      any_at (λ f. is_visible members f.symbol values) members e is_in
      (any_at (λ f. is_text f.symbol e.symbol && shows f values) members e is_in (and_from (is_text e.symbol e.symbol) (shows e values) (is_text-self e.symbol) seen))

  none_visible : has_visible values members ≡ false → (symbol : List ℕ) → is_visible members symbol values ≡ false
  none_visible none symbol =
      ⊎_elim
      (λ seen.
      let (e, is_in, both) = some_in (λ f. is_text f.symbol symbol && shows f values) members seen in
      let there : has_visible values members ≡ true = any_at (λ f. shows f values) members e is_in (and_parts (is_text e.symbol symbol) (shows e values) both).1 in
      absurd (true≢false (sym there ∙ none)))
      (λ off. off)
      (cases_Bool (is_visible members symbol values))

  first_some : has_visible values members ≡ true → (m : List ℕ) × (first_member values members ≡ Some m)
  unfolding first_member
  first_some there =
      let (e, is) = find_some (λ f. is_visible members f.symbol values) members (entry_visible there) in
      (e.symbol, ap (option_map (λ f. f.symbol)) is)

  taken_some : (wishes : List Wish) (choice : KcChoice) → shows_choice values choice ≡ true → has_visible values members ≡ true
      → (m : List ℕ) × (taken values wishes choice members ≡ Some m) × (is_visible members m values ≡ true)
  unfolding taken Sees
  taken_some wishes choice shown there =
      let wished : Option (List ℕ) = wished_member values wishes members in
      let by_default : Option (List ℕ) = default_member values choice members in
      let (m, is) = or_some wished (option_or by_default (first_member values members)) (or_some by_default (first_member values members) (first_some there)) in
      let seen : is_visible members m values ≡ true =
      sees_or wished (option_or by_default (first_member values members)) (sees_wished wishes) (sees_or by_default (first_member values members) (sees_default choice) sees_first) m is in
      (m, ap (λ b. if b then option_or wished (option_or by_default (first_member values members)) else None) shown ∙ is, seen)

  nothing_wished : (wishes : List Wish) → has_visible values members ≡ false → wished_member values wishes members ≡ None
  unfolding wished_member
  nothing_wished wishes none =
      ap (option_map (λ w. w.symbol)) (find_none (λ w. is_wished_y w.value && is_visible members w.symbol values) (reverse wishes) (λ w. and_right (is_wished_y w.value) (is_visible members w.symbol values) (none_visible none w.symbol)))

  nothing_by_default : (choice : KcChoice) → has_visible values members ≡ false → default_member values choice members ≡ None
  unfolding default_member
  nothing_by_default choice none =
      ap (option_map (λ d. d.symbol)) (find_none (λ d. holds values d.condition && is_visible members d.symbol values) choice.defaults (λ d. and_right (holds values d.condition) (is_visible members d.symbol values) (none_visible none d.symbol)))

  nothing_first : has_visible values members ≡ false → first_member values members ≡ None
  unfolding first_member
  nothing_first none = ap (option_map (λ e. e.symbol)) (find_none (λ e. is_visible members e.symbol values) members (λ e. none_visible none e.symbol))

  pub taken_none : (wishes : List Wish) (choice : KcChoice) → (shows_choice values choice ≡ false) ⊎ (has_visible values members ≡ false) → taken values wishes choice members ≡ None
  unfolding taken
  taken_none wishes choice (inl hidden) = ap (λ b. if b then option_or (wished_member values wishes members) (option_or (default_member values choice members) (first_member values members)) else None) hidden
  taken_none wishes choice (inr none) =
      ap (λ o. if shows_choice values choice then o else None) (ap₂ option_or (nothing_wished wishes none) (ap₂ option_or (nothing_by_default choice none) (nothing_first none)))
      ∙ both_arms (shows_choice values choice) None

-- ---- a member's text

is_y_yes_or_no : (b : Bool) → is_y (yes_or_no b) ≡ b
is_y_yes_or_no true = refl
is_y_yes_or_no false = refl

module _ (menu : Declared) (wishes : List Wish) (values : Table) (place : ℕ) (choice : KcChoice) (is : IsChoice menu wishes values place choice) where
  abbrev members : List KcEntry
  members = members_of menu.entries place

  choice_here : choice_at menu place ≡ Some (choice, members)
  unfolding choice_at
  choice_here = ap (option_map (λ c. (c, members_of menu.entries place))) is.choice_is

  at_place : (o : Option ℕ) → option_map_or (λ other. other == place) o false ≡ true → o ≡ Some place
  at_place None there = absurd (false≢true there)
  at_place (Some other) there = ap Some (eqb-true other place there)

  -- the first entry of a member is a bool in the choice
  member_first : (s : List ℕ) → is_declared members s ≡ true → (e : KcEntry) × (slice_get (entries_of menu.entries s) 0 ≡ Some e) × (e.choice ≡ Some place) × (e.kind ≡ BoolKind) × (is_declared menu.entries s ≡ true)
  unfolding members_of entries_of
  member_first s there =
      let (f, f_in, placed, named) = found_in (λ e. option_map_or (λ other. other == place) e.choice false) (λ e. is_text e.symbol s) menu.entries there in
      let declared : is_declared menu.entries s ≡ true = any_at (λ e. is_text e.symbol s) menu.entries f f_in named in
      let (e, first, e_in, same) = first_kept (λ x. is_text x.symbol s) menu.entries declared in
      let symbols : e.symbol ≡ f.symbol = same_text e.symbol s same ∙ sym (same_text f.symbol s named) in
      let chosen : e.choice ≡ Some place = is.menu_is.places e f e_in f_in symbols ∙ at_place f.choice placed in
      (e, first, chosen, is.menu_is.members e place e_in chosen, declared)

  with_first : (s : List ℕ) (first : Option KcEntry) (e : KcEntry) → first ≡ Some e → e.choice ≡ Some place
      → option_map_or (text_with menu wishes values s) first [] ≡ member_text (taken values wishes choice members) s
  with_first s first e is_first chosen =
      ap (λ o. option_map_or (text_with menu wishes values s) o []) is_first
      ∙ (ap (λ o. option_map_or (λ at. member_text (taken_at menu wishes values at) s) o (text_by_kind values e.kind (wish_of wishes s) (entries_of menu.entries s) (selects_of menu.entries s))) chosen
      ∙ ap (λ c. member_text (option_and_then (λ x. taken values wishes x.0 x.1) c) s) choice_here)

  member_equation : (s : List ℕ) (e : KcEntry) → slice_get (entries_of menu.entries s) 0 ≡ Some e → e.choice ≡ Some place → equation menu wishes values s ≡ member_text (taken values wishes choice members) s
  unfolding equation
  member_equation s e first chosen = with_first s (slice_get (entries_of menu.entries s) 0) e first chosen

  member_kind : (s : List ℕ) (e : KcEntry) → slice_get (entries_of menu.entries s) 0 ≡ Some e → e.kind ≡ BoolKind → kind_of menu.entries s ≡ BoolKind
  unfolding kind_of
  member_kind s e first kind = ap (λ o. option_map_or (λ x. x.kind) o BoolKind) first ∙ kind

  -- in a solution a member is y where the choice takes it
  member_is : (s : List ℕ) → is_declared members s ≡ true → is_yes (valued s values) ≡ option_map_or (λ m. is_text m s) (taken values wishes choice members) false
  unfolding IsSolution
  member_is s there =
      let (e, first, chosen, kind, declared) = member_first s there in
      let made : valued s values ≡ Some (valued_by menu wishes values s) =
      ap (valued s) is.solution ∙ (valued_turn menu wishes values s ∙ ap (λ b. cond b (Some (valued_by menu wishes values s)) None) declared) in
      ap is_yes made
      ∙ (ap₂ (λ k text. is_bool k && is_y text) (member_kind s e first kind) (member_equation s e first chosen)
      ∙ is_y_yes_or_no (option_map_or (λ m. is_text m s) (taken values wishes choice members) false))

  pub takes_one : TakesOne menu values place choice
  takes_one shown there =
      let (m, found, seen) = taken_some values members wishes choice shown there in (
        m,
        record {
          visible = seen;
          only = λ s declared. member_is s declared ∙ ap (λ o. option_map_or (λ x. is_text x s) o false) found;
        },
      )

  pub takes_none : TakesNone menu values place choice
  takes_none why s declared = member_is s declared ∙ ap (λ o. option_map_or (λ x. is_text x s) o false) (taken_none values members wishes choice why)
