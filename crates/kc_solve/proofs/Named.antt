-- A row of places tells what the equation of a symbol names.
use Rattle.std.proofs.Common.{ℕ, ◌+◌, ◌≡◌, ◌≢◌, ◌<◌, ◌≤◌, ◌==◌, Bool, true, false, ◌&&◌, ◌||◌, List, [], ◌∷◌, ◌++◌, length, flat_map, get_or, drop, Option, Some, None, option_map, option_and_then, slice_get, refl, sym, ap, ap₂, subst, ◌∙◌, inl, inr, arith}
use Rattle.std.specs.Borrow.{Bor}
use Rattle.std.specs.Option.{option_map_or}
use Rattle.std.proofs.lemmas.Bool.{cases_eq, eq-eqb, ne_eqb}
use Rattle.std.proofs.lemmas.List.{get_or-set_same, get_or-set_other, length-set, get_or_read, append_assoc, append-nil, drop_more}
use Rattle.std.proofs.lemmas.Grind.{flat_map-append}
use Rattle.std.proofs.lemmas.Option.{slice_get_read}
use Rattle.std.proofs.lemmas.List.Folds.{list_any-append}
use Rattle.cycle_walks.specs.Graph.{Rows, row, is_in}
use Rattle.kc_menu.specs.Menu.{Declared}
use Rattle.kc_menu.specs.declared.menu.KcChoice.{KcChoice}
use Rattle.kc_menu.specs.declared.menu.KcEntry.{KcEntry}
use Rattle.kc_equations.specs.Behind.{behind}
use Rattle.kc_equations.specs.Equation.{entries_of, selects_of, members_of, choice_at}
use Rattle.kc_equations.specs.Names.{is_declared, names_own, names_by_select, names_by_choice, choice_of, stands_in, names}
use Rattle.kc_solve.specs.Filled.{names_at}
use Rattle.kc_solve.specs.Index.{AreDeclared}
use Rattle.kc_solve.specs.Named.{named, listed, places_in, words_at, own_words_at, chosen_words_at, choice_words_at, AreChoiceWords}
use Rattle.kc_solve.specs.Symbols.{AreSymbols, symbol_at, place_of}
use Rattle.kc_solve.specs.Words.{words_in, shown_words, own_words, select_words, taken_words, choice_words}
use Rattle.kc_solve.specs.Taken.{choice_place}
use Rattle.kc_solve.proofs.Places.{is_placed, symbol_among}
use Rattle.kc_solve.proofs.Rows.{is_at}
use Rattle.kc_solve.proofs.WordLaws.{has, has-append, has-flat_map, has-own, has-select, has-choice}

eqb-flip : (a b : ℕ) → (a == b) ≡ (b == a)
eqb-flip a b =
    elim (cases_eq a b) [
      | inl is ↦ eq-eqb a b is ∙ sym (eq-eqb b a (sym is))
      | inr apart ↦ ne_eqb a b apart ∙ sym (ne_eqb b a (λ is. apart (sym is)))
    ]

or_nothing : (b : Bool) → (b || false) ≡ b
or_nothing true = refl
or_nothing false = refl

module _ (symbols : List (List ℕ)) (are : AreSymbols symbols) (t : ℕ) (short : t < length symbols) where
  in_listed : (found : Option ℕ) → is_in (listed found) t ≡ is_at t found
  in_listed None = refl
  in_listed (Some place) = or_nothing (t == place) ∙ eqb-flip t place

  -- a place is listed where its symbol is a word
  pub in_places : (words : List (List ℕ)) → is_in (places_in symbols words) t ≡ has (symbol_at symbols t) words
  in_places [] = refl
  in_places (word ∷ words) =
      list_any-append (λ other. t == other) (listed (place_of symbols word)) (places_in symbols words)
      ∙ ap₂ (λ a b. a || b) (in_listed (place_of symbols word) ∙ is_placed symbols are.rising word t short) (in_places words)

has-choice_of : (t : List ℕ) (found : Option (KcChoice × List KcEntry)) → has t (option_map_or (λ c. choice_words c.0 c.1) found []) ≡ option_map_or (λ c. names_by_choice c.0 c.1 t) found false
has-choice_of t None = refl
has-choice_of t (Some c) = has-choice t c.0 c.1

-- the words of a choice that is there
choice_words_there : (menu : Declared) (place : ℕ) (choices : List KcChoice) (choice : KcChoice) → choices ≡ menu.choices → place < length menu.choices → choice ≡ get_or choices place choice
    → choice_words_at menu place ≡ choice_words choice (members_of menu.entries place)
unfolding choice_at
choice_words_there menu place choices choice are short is =
    ap (λ found. option_map_or {T = KcChoice × List KcEntry} (λ c. choice_words c.0 c.1) (option_map (λ c. (c, members_of menu.entries place)) found) [])
    (slice_get_read menu.choices (length menu.choices) place choice refl short (subst (λ cs. choice ≡ get_or cs place choice) are is))

-- four parts, one after the other
four_parts : (old first second third a b c d : List (List ℕ)) → first ≡ old ++ a → second ≡ first ++ b → third ≡ second ++ c → third ++ d ≡ old ++ (((a ++ b) ++ c) ++ d)
four_parts old first second third a b c d one two three = simp (three, two, one, append_assoc)

-- the parts of a choice give its words
pub choice_gathered : (menu : Declared) (place : ℕ) (choices : List KcChoice) (choice : KcChoice) (members : List KcEntry) (old first second third : List (List ℕ))
    → choices ≡ menu.choices → place < length menu.choices → choice ≡ get_or choices place choice → members ≡ members_of menu.entries place
    → first ≡ old ++ words_in choice.prompts → second ≡ first ++ words_in choice.depends → third ≡ second ++ flat_map (taken_words (members_of menu.entries place)) choice.defaults
    → third ++ flat_map shown_words members ≡ old ++ choice_words_at menu place
choice_gathered menu place choices choice members old first second third are short is members_are one two three =
    ap (λ es. third ++ flat_map shown_words es) members_are
    ∙ (four_parts old first second third (words_in choice.prompts) (words_in choice.depends) (flat_map (taken_words (members_of menu.entries place)) choice.defaults) (flat_map shown_words (members_of menu.entries place)) one two three
    ∙ ap (λ ws. old ++ ws) (sym (choice_words_there menu place choices choice are short is)))

-- the words of an equation are the symbols that stand in it
pub has-words_at : (menu : Declared) (s t : List ℕ) → has t (words_at menu s) ≡ stands_in menu s t
unfolding words_at stands_in
has-words_at menu s t =
    has-append t (flat_map own_words (entries_of menu.entries s) ++ flat_map (λ x. select_words x.0 x.1) (selects_of menu.entries s)) (option_map_or (λ c. choice_words c.0 c.1) (choice_of menu s) [])
    ∙ ap₂ (λ a b. a || b)
    (has-append t (flat_map own_words (entries_of menu.entries s)) (flat_map (λ x. select_words x.0 x.1) (selects_of menu.entries s))
    ∙ ap₂ (λ a b. a || b)
    (has-flat_map t own_words (λ e. names_own e t) (has-own t) (entries_of menu.entries s))
    (has-flat_map t (λ x. select_words x.0 x.1) (λ x. names_by_select x.0 x.1 t) (λ x. has-select t x.0 x.1) (selects_of menu.entries s)))
    (has-choice_of t (choice_of menu s))

-- between declared symbols an equation names what stands in it
pub names_is : (menu : Declared) (s t : List ℕ) → is_declared menu.entries s ≡ true → is_declared menu.entries t ≡ true → names menu s t ≡ stands_in menu s t
unfolding names
names_is menu s t from to = ap₂ (λ a b. (a && b) && stands_in menu s t) from to

pub names_in_row : (menu : Declared) (symbols : List (List ℕ)) → AreSymbols symbols → AreDeclared menu symbols → (s t : ℕ) → s < length symbols → t < length symbols
    → is_in (places_in symbols (words_at menu (symbol_at symbols s))) t ≡ names_at menu symbols s t
names_in_row menu symbols are declared s t from to =
    in_places symbols are t to (words_at menu (symbol_at symbols s))
    ∙ (has-words_at menu (symbol_at symbols s) (symbol_at symbols t)
    ∙ sym (names_is menu (symbol_at symbols s) (symbol_at symbols t)
    (sym (declared (symbol_at symbols s)) ∙ symbol_among symbols s from)
    (sym (declared (symbol_at symbols t)) ∙ symbol_among symbols t to)))

-- ---- a row that gets its places

row_named : (rows : Rows) (place : ℕ) (found : Option ℕ) → place < length rows → row (named rows place found) place ≡ row rows place ++ listed found
row_named rows place None short = sym (append-nil (row rows place))
row_named rows place (Some other) short = get_or-set_same rows place (row rows place ++ other ∷ []) [] short

pub row_named_other : (rows : Rows) (place : ℕ) (found : Option ℕ) (s : ℕ) → s ≢ place → row (named rows place found) s ≡ row rows s
row_named_other rows place None s apart = refl
row_named_other rows place (Some other) s apart = get_or-set_other rows place s (row rows place ++ other ∷ []) [] apart

pub length_named : (rows : Rows) (place : ℕ) (found : Option ℕ) → length (named rows place found) ≡ length rows
length_named rows place None = refl
length_named rows place (Some other) = length-set rows place (row rows place ++ other ∷ [])

-- a place more, and the rest that is still to come
pub named_step : (rows : Rows) (place : ℕ) (found : Option ℕ) (rest whole : List ℕ) → place < length rows → row rows place ++ (listed found ++ rest) ≡ whole → row (named rows place found) place ++ rest ≡ whole
named_step rows place found rest whole short is =
    ap (λ r. r ++ rest) (row_named rows place found short) ∙ (append_assoc (row rows place) (listed found) rest ∙ is)

-- likewise where the words are after references
pub words_step : (symbols : List (List ℕ)) (old new : Rows) (place : ℕ) (words : List (Bor (List ℕ))) (i : ℕ) (d : Bor (List ℕ)) (whole : List ℕ)
    → place < length old → i < length words → new ≡ named old place (place_of symbols (get_or words i d).now)
    → row old place ++ places_in symbols (behind (drop i words)) ≡ whole → row new place ++ places_in symbols (behind (drop (i + 1) words)) ≡ whole
words_step symbols old new place words i d whole short within made before =
    ap (λ rows. row rows place ++ places_in symbols (behind (drop (i + 1) words))) made
    ∙ named_step old place (place_of symbols (get_or words i d).now) (places_in symbols (behind (drop (i + 1) words))) whole short
    (sym (ap (λ ws. row old place ++ places_in symbols (behind ws)) (drop_more words i d within)) ∙ before)

module _ (menu : Declared) (symbols : List (List ℕ)) (old new : Rows) (place : ℕ) (others : (s : ℕ) → s ≢ place → row new s ≡ row old s) where
  -- a row more is made
  pub rows_more : row new place ≡ places_in symbols (words_at menu (symbol_at symbols place))
      → ((s : ℕ) → s < place → row old s ≡ places_in symbols (words_at menu (symbol_at symbols s)))
      → (s : ℕ) → s < place + 1 → row new s ≡ places_in symbols (words_at menu (symbol_at symbols s))
  rows_more here made s short =
      elim (cases_eq s place) [
        | inl is ↦ subst (λ p. row new p ≡ places_in symbols (words_at menu (symbol_at symbols p))) (sym is) here
        | inr apart ↦ others s apart ∙ made s (omega (arith, short, apart))
      ]

  -- and the others are still empty
  pub rows_left : ((s : ℕ) → place ≤ s → row old s ≡ []) → (s : ℕ) → place + 1 ≤ s → row new s ≡ []
  rows_left empty s past = others s (λ is. absurd (omega (arith, past, is))) ∙ empty s (omega (arith, past))

-- ---- the words of each choice

some_choice : (menu : Declared) (choice : ℕ) (first : Option KcEntry) → option_and_then (λ e. e.choice) first ≡ Some choice → option_and_then (λ e. option_and_then (choice_at menu) e.choice) first ≡ choice_at menu choice
some_choice menu choice None is = absurd (cc)
some_choice menu choice (Some e) is = ap (option_and_then (choice_at menu)) is

no_choice : (menu : Declared) (first : Option KcEntry) → option_and_then (λ e. e.choice) first ≡ None → option_and_then (λ e. option_and_then (choice_at menu) e.choice) first ≡ None
no_choice menu None is = refl
no_choice menu (Some e) is = ap (option_and_then (choice_at menu)) is

-- the words of a symbol's choice are those at its place
chosen_there : (menu : Declared) (s : List ℕ) (choice : ℕ) → choice_place menu.entries s ≡ Some choice → chosen_words_at menu s ≡ choice_words_at menu choice
chosen_there menu s choice is = ap (λ found. option_map_or {T = KcChoice × List KcEntry} (λ c. choice_words c.0 c.1) found []) (some_choice menu choice (slice_get (entries_of menu.entries s) 0) is)

pub chosen_none : (menu : Declared) (s : List ℕ) → choice_place menu.entries s ≡ None → chosen_words_at menu s ≡ []
chosen_none menu s is = ap (λ found. option_map_or {T = KcChoice × List KcEntry} (λ c. choice_words c.0 c.1) found []) (no_choice menu (slice_get (entries_of menu.entries s) 0) is)

-- those that are at hand at the place of a symbol's choice
pub chosen_at : (menu : Declared) (s : List ℕ) (chosen : List (List (List ℕ))) → AreChoiceWords menu chosen → (choice : ℕ) (found : List (List ℕ)) → choice < length chosen → found ≡ get_or chosen choice found → choice_place menu.entries s ≡ Some choice
    → found ≡ chosen_words_at menu s
chosen_at menu s chosen are choice found short is at =
    get_or_read chosen choice found short is [] ∙ (are.each choice (subst (λ n. choice < n) are.count short) ∙ sym (chosen_there menu s choice at))

-- a row that was empty gets the places of both kinds of words
pub row_gathered : (menu : Declared) (symbols : List (List ℕ)) (s : List ℕ) (old first : List ℕ) (own chosen : List (List ℕ)) → old ≡ [] → first ≡ old ++ places_in symbols own
    → own ≡ own_words_at menu s → chosen ≡ chosen_words_at menu s → first ++ places_in symbols chosen ≡ places_in symbols (words_at menu s)
unfolding words_at
row_gathered menu symbols s old first own chosen empty one own_are chosen_are =
    rw (one, empty, own_are, chosen_are) (sym (flat_map-append (λ word. listed (place_of symbols word)) (own_words_at menu s) (chosen_words_at menu s)))
