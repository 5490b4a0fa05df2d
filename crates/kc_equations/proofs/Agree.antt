-- An equation gives one text at two tables of values that agree on the symbols that it names.
use Rattle.std.proofs.Common.{ℕ, ◌≡◌, Bool, true, false, ◌&&◌, ◌||◌, not, List, [], ◌∷◌, find, reverse, slice_get, if◌then◌else◌, Option, Some, None, option_map, option_and_then, unwrap_or, refl, sym, ap, ap₂, ◌∙◌}
use Rattle.std.specs.List.{list_any, list_all}
use Rattle.std.specs.Option.{option_map_or, option_or}
use Rattle.std.proofs.lemmas.Bool.{or_left, or_right}
use Rattle.br_path.specs.Text.{is_text}
use Rattle.kc_values.specs.Values.{Table, find as valued, is_y, is_yes}
use Rattle.kc_expr.specs.Holds.{holds, atom_holds, same_texts, text_of}
use Rattle.kc_expr.specs.declared.expr.Atom.{Atom}
use Rattle.kc_expr.specs.declared.expr.Atom.TheVariants.{Word, Quoted}
use Rattle.kc_expr.specs.declared.expr.Expr.{Expr, True, And', Or', Not', Holds, Same, Differ, more_of-Expr}
use Rattle.kc_values.specs.declared.kind.Kind.{Kind}
use Rattle.kc_values.specs.declared.kind.Kind.TheVariants.{Bool as BoolKind, Text as TextKind, Int as IntKind}
use Rattle.kc_menu.specs.Menu.{Declared}
use Rattle.kc_menu.specs.Visible.{all_hold, some_holds, shows, is_visible}
use Rattle.kc_menu.specs.declared.menu.KcDefault.{KcDefault}
use Rattle.kc_menu.specs.declared.menu.SymbolIf.{SymbolIf}
use Rattle.kc_menu.specs.declared.menu.KcEntry.{KcEntry}
use Rattle.kc_menu.specs.declared.menu.KcChoice.{KcChoice}
use Rattle.kc_menu.specs.declared.wishes.Wish.{Wish}
use Rattle.kc_menu.specs.declared.wishes.WishValue.{WishValue}
use Rattle.kc_equations.specs.Equation.{entries_of, selects_of, choice_at, wish_of, counts, is_shown, default_of, fitting, wished, yes_or_no, base, is_effective, is_selected, default_text, value_text, shows_choice, is_wished_y, wished_member, default_member, first_member, taken, member_text, text_by_kind, taken_at, text_with, equation}
use Rattle.kc_equations.specs.Names.{is_atom_of, mentions, some_mentions, names_shown, names_own, names_by_select, names_by_default, names_by_choice, stands_in}
use Rattle.kc_equations.proofs.Texts.{is_text-self, and_same, or_same, option_map-option_or, found_step, find_same}

module _ (v w : Table) where
  -- both tables have the same of each symbol that passes
  abbrev pub Agree : (List ℕ → Bool) → Type 0
  Agree m = (t : List ℕ) → m t ≡ true → valued t v ≡ valued t w

  left : (m n : List ℕ → Bool) → Agree (λ t. m t || n t) → Agree m
  left m n h t is = h t (or_left (m t) (n t) is)

  right : (m n : List ℕ → Bool) → Agree (λ t. m t || n t) → Agree n
  right m n h t is = h t (or_right (m t) (n t) is)

  -- ---- conditions

  word_agrees : (word : List ℕ) → Agree (is_text word) → valued word v ≡ valued word w
  word_agrees word h = h word (is_text-self word)

  text_agrees : (a : Atom) → Agree (is_atom_of a) → text_of v a ≡ text_of w a
  text_agrees (Word word) h = ap (λ found. unwrap_or (option_map (λ x. x.text) found) word) (word_agrees word h)
  text_agrees (Quoted text) h = refl

  atom_agrees : (a : Atom) → Agree (is_atom_of a) → atom_holds v a ≡ atom_holds w a
  atom_agrees (Word word) h = ap (λ found. is_y word || is_yes found) (word_agrees word h)
  atom_agrees (Quoted text) h = refl

  same_agrees : (a b : Atom) → Agree (λ t. is_atom_of a t || is_atom_of b t) → same_texts v a b ≡ same_texts w a b
  same_agrees a b h = ap₂ is_text (text_agrees a (left (is_atom_of a) (is_atom_of b) h)) (text_agrees b (right (is_atom_of a) (is_atom_of b) h))

  pub holds_agrees : (e : Expr) → Agree (mentions e) → holds v e ≡ holds w e
  holds_agrees True h = refl
  holds_agrees (And' s (more_of-Expr a r) u (more_of-Expr b q)) h =
      and_same (holds_agrees a (left (mentions a) (mentions b) h)) (holds_agrees b (right (mentions a) (mentions b) h))
  holds_agrees (Or' s (more_of-Expr a r) u (more_of-Expr b q)) h =
      or_same (holds_agrees a (left (mentions a) (mentions b) h)) (holds_agrees b (right (mentions a) (mentions b) h))
  holds_agrees (Not' s (more_of-Expr a r)) h = ap not (holds_agrees a h)
  holds_agrees (Holds atom) h = atom_agrees atom h
  holds_agrees (Same a b) h = same_agrees a b h
  holds_agrees (Differ a b) h = ap not (same_agrees a b h)

  default_agrees : (e : Expr) → Agree (mentions e) → default_text v e ≡ default_text w e
  default_agrees True h = refl
  default_agrees (And' s (more_of-Expr a r) u (more_of-Expr b q)) h = refl
  default_agrees (Or' s (more_of-Expr a r) u (more_of-Expr b q)) h = refl
  default_agrees (Not' s (more_of-Expr a r)) h = refl
  default_agrees (Holds atom) h = text_agrees atom h
  default_agrees (Same a b) h = refl
  default_agrees (Differ a b) h = refl

  -- ---- lists

  any_same : {A : Type 0} (f g : A → Bool) (m : A → List ℕ → Bool) (xs : List A) → ((x : A) → Agree (m x) → f x ≡ g x)
      → Agree (λ t. list_any (λ x. m x t) xs) → list_any f xs ≡ list_any g xs
  any_same f g m [] same h = refl
  any_same f g m (x ∷ xs) same h =
      or_same (same x (left (m x) (λ t. list_any (λ y. m y t) xs) h)) (any_same f g m xs same (right (m x) (λ t. list_any (λ y. m y t) xs) h))

  all_same : {A : Type 0} (f g : A → Bool) (m : A → List ℕ → Bool) (xs : List A) → ((x : A) → Agree (m x) → f x ≡ g x)
      → Agree (λ t. list_any (λ x. m x t) xs) → list_all f xs ≡ list_all g xs
  all_same f g m [] same h = refl
  all_same f g m (x ∷ xs) same h =
      and_same (same x (left (m x) (λ t. list_any (λ y. m y t) xs) h)) (all_same f g m xs same (right (m x) (λ t. list_any (λ y. m y t) xs) h))

  found_same : {A B : Type 0} (f g : A → Bool) (k l : A → B) (m : A → List ℕ → Bool) (xs : List A)
      → ((x : A) → Agree (m x) → f x ≡ g x) → ((x : A) → Agree (m x) → k x ≡ l x)
      → Agree (λ t. list_any (λ x. m x t) xs) → option_map k (find f xs) ≡ option_map l (find g xs)
  found_same f g k l m [] same made h = refl
  found_same f g k l m (x ∷ xs) same made h =
      let here : Agree (m x) = left (m x) (λ t. list_any (λ y. m y t) xs) h in
      found_step k l x (f x) (g x) (find f xs) (find g xs) (same x here) (made x here)
      (found_same f g k l m xs same made (right (m x) (λ t. list_any (λ y. m y t) xs) h))

  some_agrees : (es : List Expr) → Agree (some_mentions es) → some_holds es v ≡ some_holds es w
  some_agrees es h = any_same (holds v) (holds w) mentions es holds_agrees h

  all_agrees : (es : List Expr) → Agree (some_mentions es) → all_hold es v ≡ all_hold es w
  all_agrees es h = all_same (holds v) (holds w) mentions es holds_agrees h

  -- ---- entries

  shows_agrees : (e : KcEntry) → Agree (names_shown e) → shows e v ≡ shows e w
  shows_agrees e h =
      and_same (all_agrees e.depends (right (some_mentions e.prompts) (some_mentions e.depends) h))
      (some_agrees e.prompts (left (some_mentions e.prompts) (some_mentions e.depends) h))

  abbrev in_defaults : KcEntry → List ℕ → Bool
  in_defaults e t = list_any (λ d. mentions d.value t || mentions d.condition t) e.defaults

  own_shown : (e : KcEntry) → Agree (names_own e) → Agree (names_shown e)
  own_shown e h = left (names_shown e) (in_defaults e) h

  shown_agrees : (own : List KcEntry) → Agree (λ t. list_any (λ e. names_own e t) own) → is_shown v own ≡ is_shown w own
  shown_agrees own h = any_same (λ e. shows e v) (λ e. shows e w) names_own own (λ e here. shows_agrees e (own_shown e here)) h

  counts_agrees : (e : KcEntry) (condition : Expr) → Agree (some_mentions e.depends) → Agree (mentions condition) → counts v e condition ≡ counts w e condition
  counts_agrees e condition depends own = and_same (all_agrees e.depends depends) (holds_agrees condition own)

  -- the first default that counts, and what is made of it
  module _ {B : Type 0} (k l : KcDefault → B) (made : (d : KcDefault) → Agree (mentions d.value) → k d ≡ l d) where
    in_entry : (e : KcEntry) → Agree (names_own e) → option_map k (find (λ d. counts v e d.condition) e.defaults) ≡ option_map l (find (λ d. counts w e d.condition) e.defaults)
    in_entry e h =
        let depends : Agree (some_mentions e.depends) = right (some_mentions e.prompts) (some_mentions e.depends) (own_shown e h) in
        found_same (λ d. counts v e d.condition) (λ d. counts w e d.condition) k l (λ d t. mentions d.value t || mentions d.condition t) e.defaults
        (λ d here. counts_agrees e d.condition depends (right (mentions d.value) (mentions d.condition) here))
        (λ d here. made d (left (mentions d.value) (mentions d.condition) here))
        (right (names_shown e) (in_defaults e) h)

    first_agrees : (own : List KcEntry) → Agree (λ t. list_any (λ e. names_own e t) own) → option_map k (default_of v own) ≡ option_map l (default_of w own)
    first_agrees [] h = refl
    first_agrees (e ∷ own) h =
        option_map-option_or k (find (λ d. counts v e d.condition) e.defaults) (default_of v own)
        ∙ (ap₂ option_or (in_entry e (left (names_own e) (λ t. list_any (λ f. names_own f t) own) h)) (first_agrees own (right (names_own e) (λ t. list_any (λ f. names_own f t) own) h))
        ∙ sym (option_map-option_or l (find (λ d. counts w e d.condition) e.defaults) (default_of w own)))

  wished_agrees : (kind : Kind) (wish : Option WishValue) (own : List KcEntry) → Agree (λ t. list_any (λ e. names_own e t) own) → wished v kind wish own ≡ wished w kind wish own
  unfolding wished
  wished_agrees kind wish own h = ap (λ b. if b then option_and_then (fitting kind) wish else None) (shown_agrees own h)

  base_agrees : (wish : Option WishValue) (own : List KcEntry) → Agree (λ t. list_any (λ e. names_own e t) own) → base v wish own ≡ base w wish own
  unfolding base
  base_agrees wish own h =
      ap₂ (λ x y. unwrap_or (option_or (option_map is_y x) y) false) (wished_agrees BoolKind wish own h)
      (first_agrees (λ d. holds v d.value) (λ d. holds w d.value) (λ d here. holds_agrees d.value here) own h)

  value_agrees : (kind : Kind) (wish : Option WishValue) (own : List KcEntry) → Agree (λ t. list_any (λ e. names_own e t) own) → value_text v kind wish own ≡ value_text w kind wish own
  unfolding value_text
  value_agrees kind wish own h =
      ap₂ (λ x y. unwrap_or (option_or x y) []) (wished_agrees kind wish own h)
      (first_agrees (λ d. default_text v d.value) (λ d. default_text w d.value) (λ d here. default_agrees d.value here) own h)

  -- ---- selects

  effective_agrees : (e : KcEntry) (s : SymbolIf) → Agree (names_by_select e s) → is_effective v e s ≡ is_effective w e s
  effective_agrees e s h =
      let front : Agree (λ t. is_text e.symbol t || mentions s.condition t) = left (λ t. is_text e.symbol t || mentions s.condition t) (some_mentions e.depends) h in
      and_same (ap is_yes (word_agrees e.symbol (left (is_text e.symbol) (mentions s.condition) front)))
      (counts_agrees e s.condition (right (λ t. is_text e.symbol t || mentions s.condition t) (some_mentions e.depends) h) (right (is_text e.symbol) (mentions s.condition) front))

  selected_agrees : (selects : List (KcEntry × SymbolIf)) → Agree (λ t. list_any (λ x. names_by_select x.0 x.1 t) selects) → is_selected v selects ≡ is_selected w selects
  selected_agrees selects h =
      any_same (λ x. is_effective v x.0 x.1) (λ x. is_effective w x.0 x.1) (λ x. names_by_select x.0 x.1) selects (λ x here. effective_agrees x.0 x.1 here) h

  -- ---- choices

  visible_agrees : (members : List KcEntry) (symbol : List ℕ) → Agree (λ t. list_any (λ e. names_shown e t) members) → is_visible members symbol v ≡ is_visible members symbol w
  visible_agrees members symbol h =
      any_same (λ e. is_text e.symbol symbol && shows e v) (λ e. is_text e.symbol symbol && shows e w) names_shown members (λ e here. ap (λ b. is_text e.symbol symbol && b) (shows_agrees e here)) h

  wished_member_agrees : (wishes : List Wish) (members : List KcEntry) → Agree (λ t. list_any (λ e. names_shown e t) members) → wished_member v wishes members ≡ wished_member w wishes members
  unfolding wished_member
  wished_member_agrees wishes members h =
      ap (option_map (λ x. x.symbol)) (find_same (λ x. is_wished_y x.value && is_visible members x.symbol v) (λ x. is_wished_y x.value && is_visible members x.symbol w) (reverse wishes)
      (λ x. ap (λ b. is_wished_y x.value && b) (visible_agrees members x.symbol h)))

  first_member_agrees : (members : List KcEntry) → Agree (λ t. list_any (λ e. names_shown e t) members) → first_member v members ≡ first_member w members
  unfolding first_member
  first_member_agrees members h =
      ap (option_map (λ e. e.symbol)) (find_same (λ e. is_visible members e.symbol v) (λ e. is_visible members e.symbol w) members (λ e. visible_agrees members e.symbol h))

  default_member_agrees : (choice : KcChoice) (members : List KcEntry) → Agree (λ t. list_any (λ d. names_by_default members d t) choice.defaults)
      → Agree (λ t. list_any (λ e. names_shown e t) members) → default_member v choice members ≡ default_member w choice members
  unfolding default_member
  default_member_agrees choice members defaults h =
      found_same (λ d. holds v d.condition && is_visible members d.symbol v) (λ d. holds w d.condition && is_visible members d.symbol w) (λ d. d.symbol) (λ d. d.symbol) (names_by_default members) choice.defaults
      (λ d here. and_same (holds_agrees d.condition (λ t is. here t (or_left (mentions d.condition t) _ is))) (visible_agrees members d.symbol h))
      (λ d here. refl) defaults

  taken_agrees : (wishes : List Wish) (choice : KcChoice) (members : List KcEntry) → Agree (names_by_choice choice members) → taken v wishes choice members ≡ taken w wishes choice members
  unfolding taken
  taken_agrees wishes choice members h =
      let some_default : List ℕ → Bool = λ t. list_any (λ d. names_by_default members d t) choice.defaults in
      let some_member : List ℕ → Bool = λ t. list_any (λ e. names_shown e t) members in
      let conditions : List ℕ → Bool = λ t. some_mentions choice.prompts t || some_mentions choice.depends t in
      let front : Agree (λ t. conditions t || some_default t) = left (λ t. conditions t || some_default t) some_member h in
      let own : Agree conditions = left conditions some_default front in
      let defaults : Agree some_default = right conditions some_default front in
      let shown : Agree some_member = right (λ t. conditions t || some_default t) some_member h in
      let is_shown : shows_choice v choice ≡ shows_choice w choice =
      and_same (some_agrees choice.prompts (left (some_mentions choice.prompts) (some_mentions choice.depends) own)) (all_agrees choice.depends (right (some_mentions choice.prompts) (some_mentions choice.depends) own)) in
      ap₂ (λ b o. if b then o else None) is_shown
      (ap₂ option_or (wished_member_agrees wishes members shown) (ap₂ option_or (default_member_agrees choice members defaults shown) (first_member_agrees members shown)))

  -- ---- all symbols

  kind_agrees : (kind : Kind) (wish : Option WishValue) (own : List KcEntry) (selects : List (KcEntry × SymbolIf)) → Agree (λ t. list_any (λ e. names_own e t) own)
      → Agree (λ t. list_any (λ x. names_by_select x.0 x.1 t) selects) → text_by_kind v kind wish own selects ≡ text_by_kind w kind wish own selects
  kind_agrees BoolKind wish own selects h by_select = ap yes_or_no (or_same (base_agrees wish own h) (selected_agrees selects by_select))
  kind_agrees TextKind wish own selects h by_select = value_agrees TextKind wish own h
  kind_agrees IntKind wish own selects h by_select = value_agrees IntKind wish own h

  found_agrees : (wishes : List Wish) (found : Option (KcChoice × List KcEntry)) → Agree (λ t. option_map_or (λ c. names_by_choice c.0 c.1 t) found false)
      → option_and_then (λ c. taken v wishes c.0 c.1) found ≡ option_and_then (λ c. taken w wishes c.0 c.1) found
  found_agrees wishes None h = refl
  found_agrees wishes (Some c) h = taken_agrees wishes c.0 c.1 h

  member_agrees : (wishes : List Wish) (symbol : List ℕ) (found : Option (KcChoice × List KcEntry)) → Agree (λ t. option_map_or (λ c. names_by_choice c.0 c.1 t) found false)
      → member_text (option_and_then (λ c. taken v wishes c.0 c.1) found) symbol ≡ member_text (option_and_then (λ c. taken w wishes c.0 c.1) found) symbol
  member_agrees wishes symbol found h = ap (λ o. member_text o symbol) (found_agrees wishes found h)

  module _ (menu : Declared) (wishes : List Wish) (symbol : List ℕ) where
    abbrev by_own : List ℕ → Bool
    by_own t = list_any (λ e. names_own e t) (entries_of menu.entries symbol)

    abbrev by_selects : List ℕ → Bool
    by_selects t = list_any (λ x. names_by_select x.0 x.1 t) (selects_of menu.entries symbol)

    -- by the place of an entry's choice
    placed_agrees : (place : Option ℕ) (kind : Kind) → Agree by_own → Agree by_selects → Agree (λ t. option_map_or (λ c. names_by_choice c.0 c.1 t) (option_and_then (choice_at menu) place) false)
        → option_map_or (λ at. member_text (taken_at menu wishes v at) symbol) place (text_by_kind v kind (wish_of wishes symbol) (entries_of menu.entries symbol) (selects_of menu.entries symbol))
        ≡ option_map_or (λ at. member_text (taken_at menu wishes w at) symbol) place (text_by_kind w kind (wish_of wishes symbol) (entries_of menu.entries symbol) (selects_of menu.entries symbol))
    placed_agrees None kind own selects choice = kind_agrees kind (wish_of wishes symbol) (entries_of menu.entries symbol) (selects_of menu.entries symbol) own selects
    placed_agrees (Some at) kind own selects choice = member_agrees wishes symbol (choice_at menu at) choice

    with_agrees : (first : Option KcEntry) → Agree by_own → Agree by_selects → Agree (λ t. option_map_or (λ c. names_by_choice c.0 c.1 t) (option_and_then (λ e. option_and_then (choice_at menu) e.choice) first) false)
        → option_map_or (text_with menu wishes v symbol) first [] ≡ option_map_or (text_with menu wishes w symbol) first []
    with_agrees None own selects choice = refl
    with_agrees (Some e) own selects choice = placed_agrees e.choice e.kind own selects choice

  -- a choice takes one member at tables that agree on the symbols that stand in it
  pub taken_at_agrees : (menu : Declared) (wishes : List Wish) (place : ℕ) → Agree (λ t. option_map_or (λ c. names_by_choice c.0 c.1 t) (choice_at menu place) false)
      → taken_at menu wishes v place ≡ taken_at menu wishes w place
  taken_at_agrees menu wishes place h = found_agrees wishes (choice_at menu place) h

  -- an equation gives one text at tables that agree on the symbols that stand in it
  pub equation_agrees : (menu : Declared) (wishes : List Wish) (symbol : List ℕ) → Agree (stands_in menu symbol) → equation menu wishes v symbol ≡ equation menu wishes w symbol
  unfolding equation stands_in
  equation_agrees menu wishes symbol h =
      let own : List ℕ → Bool = λ t. list_any (λ e. names_own e t) (entries_of menu.entries symbol) in
      let selects : List ℕ → Bool = λ t. list_any (λ x. names_by_select x.0 x.1 t) (selects_of menu.entries symbol) in
      let choice : List ℕ → Bool = λ t. option_map_or (λ c. names_by_choice c.0 c.1 t) (option_and_then (λ e. option_and_then (choice_at menu) e.choice) (slice_get (entries_of menu.entries symbol) 0)) false in
      let front : Agree (λ t. own t || selects t) = left (λ t. own t || selects t) choice h in
      with_agrees menu wishes symbol (slice_get (entries_of menu.entries symbol) 0) (left own selects front) (right own selects front) (right (λ t. own t || selects t) choice h)
