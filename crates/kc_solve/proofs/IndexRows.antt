-- What the rows of an index have.
use Rattle.std.proofs.Common.{ℕ, zero, suc, ◌+◌, ◌≡◌, ◌<◌, List, [], ◌∷◌, ◌++◌, length, map, filter, get_or, drop, set, replicate, slice_get, ◌==◌, Option, Some, None, false, refl, sym, ap, subst, ◌∙◌}
use Rattle.std.specs.Borrow.{Bor}
use Rattle.std.specs.List.{list_any}
use Rattle.std.specs.Option.{option_map_or}
use Rattle.std.proofs.Math.ListN.{get_or-map}
use Rattle.std.proofs.lemmas.List.{map-id, map-append, map-set, length-map, drop_more}
use Rattle.br_path.specs.Text.{is_text}
use Rattle.kc_menu.specs.Menu.{IsMenu}
use Rattle.kc_menu.specs.declared.menu.KcEntry.{KcEntry}
use Rattle.kc_menu.specs.declared.menu.KcChoice.{KcChoice}
use Rattle.kc_menu.specs.declared.menu.SymbolIf.{SymbolIf}
use Rattle.kc_menu.specs.declared.wishes.Wish.{Wish}
use Rattle.kc_equations.specs.Behind.{behind, selects_behind}
use Rattle.kc_equations.specs.Equation.{entries_of, selects_of, members_of, wish_of}
use Rattle.kc_equations.specs.Names.{is_declared}
use Rattle.kc_solve.specs.Groups.{row, put, put_all, grouped}
use Rattle.kc_solve.specs.Index.{placed_entries, placed_selects, placed_wishes, placed_members, IsIndex}
use Rattle.kc_solve.specs.Symbols.{AreSymbols, symbol_at, place_of}
use Rattle.kc_solve.specs.declared.index.Index.{Index}
use Rattle.kc_solve.proofs.Places.{is_placed}
use Rattle.kc_solve.proofs.Rows.{kept, kept_pieces, first-kept, row-grouped, length-grouped}

module _ (symbols : List (List ℕ)) (are : AreSymbols symbols) (place : ℕ) (short : place < length symbols) where
  own_is : (entries : List KcEntry) → row (grouped (length symbols) (placed_entries symbols entries)) place ≡ entries_of entries (symbol_at symbols place)
  unfolding entries_of
  own_is entries =
      row-grouped (length symbols) (placed_entries symbols entries) place short
      ∙ (kept (λ e. place_of symbols e.symbol) (λ e. e) (λ e. is_text e.symbol (symbol_at symbols place)) place (λ e. is_placed symbols are.rising e.symbol place short) entries
      ∙ map-id (filter (λ e. is_text e.symbol (symbol_at symbols place)) entries))

  selects_is : (entries : List KcEntry) → row (grouped (length symbols) (placed_selects symbols entries)) place ≡ selects_of entries (symbol_at symbols place)
  unfolding selects_of
  selects_is entries =
      row-grouped (length symbols) (placed_selects symbols entries) place short
      ∙ kept_pieces (λ e. map (λ s. (place_of symbols s.symbol, (e, s))) e.selects) (λ e. map (λ s. (e, s)) (filter (λ s. is_text s.symbol (symbol_at symbols place)) e.selects)) place
      (λ e. kept (λ s. place_of symbols s.symbol) (λ s. (e, s)) (λ s. is_text s.symbol (symbol_at symbols place)) place (λ s. is_placed symbols are.rising s.symbol place short) e.selects)
      entries

  wish_is : (wishes : List Wish) → slice_get (row (grouped (length symbols) (placed_wishes symbols wishes)) place) 0 ≡ wish_of wishes (symbol_at symbols place)
  unfolding wish_of
  wish_is wishes =
      ap (λ r. slice_get r 0)
      (row-grouped (length symbols) (placed_wishes symbols wishes) place short
      ∙ kept (λ w. place_of symbols w.symbol) (λ w. w.value) (λ w. is_text w.symbol (symbol_at symbols place)) place (λ w. is_placed symbols are.rising w.symbol place short) wishes)
      ∙ first-kept (λ w. w.value) (λ w. is_text w.symbol (symbol_at symbols place)) wishes

members_is : (count place : ℕ) → place < count → (entries : List KcEntry) → row (grouped count (placed_members entries)) place ≡ members_of entries place
unfolding members_of
members_is count place short entries =
    row-grouped count (placed_members entries) place short
    ∙ (kept (λ e. e.choice) (λ e. e) (λ e. option_map_or (λ other. other == place) e.choice false) place (λ e. refl) entries
    ∙ map-id (filter (λ e. option_map_or (λ other. other == place) e.choice false) entries))

-- what the references of a row lead to
row_behind : {X : Type 0} (rows : List (List (Bor X))) (place : ℕ) → behind (row rows place) ≡ row (map behind rows) place
row_behind rows place = sym (get_or-map behind rows place [])

selects_row_behind : (rows : List (List (Bor KcEntry × Bor SymbolIf))) (place : ℕ) → selects_behind (row rows place) ≡ row (map selects_behind rows) place
selects_row_behind rows place = sym (get_or-map selects_behind rows place [])

pub index_is : (index : Index) (entries : List KcEntry) (choices : List KcChoice) (wishes : List Wish)
    → entries ≡ index.menu.now.entries → choices ≡ index.menu.now.choices → wishes ≡ index.wishes.now
    → IsMenu index.menu.now → AreSymbols index.symbols → ((s : List ℕ) → list_any (is_text s) index.symbols ≡ is_declared entries s)
    → map behind index.own ≡ grouped (length index.symbols) (placed_entries index.symbols entries)
    → map selects_behind index.selects ≡ grouped (length index.symbols) (placed_selects index.symbols entries)
    → map behind index.asked ≡ grouped (length index.symbols) (placed_wishes index.symbols wishes)
    → map behind index.members ≡ grouped (length choices) (placed_members entries)
    → IsIndex index
index_is index entries choices wishes entries_are choices_are wishes_are is_menu are declared own selects asked members = record {
  menu = is_menu;
  symbols = are;
  declared = λ s. declared s ∙ ap (λ es. is_declared es s) entries_are;
  own = λ place short.
      row_behind index.own place
      ∙ (ap (λ rows. row rows place) own ∙ (own_is index.symbols are place short entries ∙ ap (λ es. entries_of es (symbol_at index.symbols place)) entries_are));
  selects = λ place short.
      selects_row_behind index.selects place
      ∙ (ap (λ rows. row rows place) selects ∙ (selects_is index.symbols are place short entries ∙ ap (λ es. selects_of es (symbol_at index.symbols place)) entries_are));
  wishes = λ place short.
      ap (λ r. slice_get r 0) (row_behind index.asked place ∙ ap (λ rows. row rows place) asked)
      ∙ (wish_is index.symbols are place short wishes ∙ ap (λ ws. wish_of ws (symbol_at index.symbols place)) wishes_are);
  members = λ place short.
      row_behind index.members place
      ∙ (ap (λ rows. row rows place) members
      ∙ (members_is (length choices) place (subst (λ cs. place < length cs) (sym choices_are) short) entries ∙ ap (λ es. members_of es place) entries_are));
  own_rows = sym (length-map index.own behind) ∙ (ap length own ∙ length-grouped (length index.symbols) (placed_entries index.symbols entries));
  select_rows = sym (length-map index.selects selects_behind) ∙ (ap length selects ∙ length-grouped (length index.symbols) (placed_selects index.symbols entries));
  wish_rows = sym (length-map index.asked behind) ∙ (ap length asked ∙ length-grouped (length index.symbols) (placed_wishes index.symbols wishes));
  member_rows = sym (length-map index.members behind) ∙ (ap length members ∙ (length-grouped (length choices) (placed_members entries) ∙ ap length choices_are));
}

-- ---- references that are put

pub none_behind : {X : Type 0} (count : ℕ) → map behind (replicate {A = List (Bor X)} count []) ≡ replicate count []
none_behind zero = refl
none_behind (suc count) = ap (λ rows. [] ∷ rows) (none_behind count)

pub none_selected : (count : ℕ) → map selects_behind (replicate {A = List (Bor KcEntry × Bor SymbolIf)} count []) ≡ replicate count []
none_selected zero = refl
none_selected (suc count) = ap (λ rows. [] ∷ rows) (none_selected count)

pub behind_put : {X : Type 0} (rows : List (List (Bor X))) (found : Option ℕ) (x : Bor X) → map behind (put rows found x) ≡ put (map behind rows) found x.now
behind_put rows None x = refl
behind_put rows (Some place) x =
    map-set behind rows place (row rows place ++ x ∷ [])
    ∙ ap (set (map behind rows) place) (map-append (λ y. y.now) (row rows place) (x ∷ []) ∙ ap (λ r. r ++ x.now ∷ []) (row_behind rows place))

pub selects_put : (rows : List (List (Bor KcEntry × Bor SymbolIf))) (found : Option ℕ) (x : Bor KcEntry × Bor SymbolIf) → map selects_behind (put rows found x) ≡ put (map selects_behind rows) found (x.0.now, x.1.now)
selects_put rows None x = refl
selects_put rows (Some place) x =
    map-set selects_behind rows place (row rows place ++ x ∷ [])
    ∙ ap (set (map selects_behind rows) place) (map-append (λ y. (y.0.now, y.1.now)) (row rows place) (x ∷ []) ∙ ap (λ r. r ++ (x.0.now, x.1.now) ∷ []) (selects_row_behind rows place))

-- one more is put, and those after it are still to be put
pub put_more : {E X : Type 0} (item : E → Option ℕ × X) (old new : List (List (Bor X))) (es : List E) (place : ℕ) (e : E) (found : Option ℕ) (x : Bor X) (whole : List (List X))
    → place < length es → e ≡ get_or es place e → new ≡ put old found x → (found, x.now) ≡ item e
    → put_all (map behind old) (map item (drop place es)) ≡ whole → put_all (map behind new) (map item (drop (place + 1) es)) ≡ whole
put_more {E} {X} item old new es place e found x whole short is made shows before =
    let rest : List (Option ℕ × X) = map item (drop (place + 1) es) in
    ap (λ rows. put_all (map behind rows) rest) made
    ∙ (ap (λ rows. put_all rows rest) (behind_put old found x)
    ∙ (ap (λ y. put_all (map behind old) (y ∷ rest)) shows
    ∙ (ap (λ f. put_all (map behind old) (item f ∷ rest)) is
    ∙ (sym (ap (λ ys. put_all (map behind old) (map item ys)) (drop_more es place e short)) ∙ before))))

-- likewise with selects
pub put_select_more : {E : Type 0} (item : E → Option ℕ × (KcEntry × SymbolIf)) (old new : List (List (Bor KcEntry × Bor SymbolIf))) (es : List E) (place : ℕ) (e : E) (found : Option ℕ) (x : Bor KcEntry × Bor SymbolIf)
    (whole : List (List (KcEntry × SymbolIf)))
    → place < length es → e ≡ get_or es place e → new ≡ put old found x → (found, (x.0.now, x.1.now)) ≡ item e
    → put_all (map selects_behind old) (map item (drop place es)) ≡ whole → put_all (map selects_behind new) (map item (drop (place + 1) es)) ≡ whole
put_select_more {E} item old new es place e found x whole short is made shows before =
    let rest : List (Option ℕ × (KcEntry × SymbolIf)) = map item (drop (place + 1) es) in
    ap (λ rows. put_all (map selects_behind rows) rest) made
    ∙ (ap (λ rows. put_all rows rest) (selects_put old found x)
    ∙ (ap (λ y. put_all (map selects_behind old) (y ∷ rest)) shows
    ∙ (ap (λ f. put_all (map selects_behind old) (item f ∷ rest)) is
    ∙ (sym (ap (λ ys. put_all (map selects_behind old) (map item ys)) (drop_more es place e short)) ∙ before))))

pub ruleset putting = (none_behind, behind_put)

pub ruleset putting_selects = (none_selected, selects_put)
