-- What stands in the rows into which items are put.
use Rattle.std.proofs.Common.{ℕ, ◌≡◌, ◌<◌, Bool, true, false, cond, List, [], ◌∷◌, ◌++◌, length, map, filter, find, flat_map, replicate, set, slice_get, Option, Some, None, option_map, ◌==◌, refl, sym, ap, subst, ◌∙◌, inl, inr}
use Rattle.std.specs.Option.{option_map_or}
use Rattle.std.proofs.lemmas.Bool.{cases_eq, eq-eqb, ne_eqb}
use Rattle.std.proofs.lemmas.List.{get_or-set_same, get_or-set_other, get_or-replicate, length-replicate, length-set, map-append, append_assoc, append-nil}
use Rattle.std.proofs.lemmas.List.Elements.{filter-append}
use Rattle.kc_solve.specs.Groups.{row, put, put_all, grouped}

abbrev pub is_at : ℕ → Option ℕ → Bool
is_at place found = option_map_or (λ other. other == place) found false

module _ {X : Type 0} where
  row-put : (rows : List (List X)) (found : Option ℕ) (x : X) (place : ℕ) → place < length rows → row (put rows found x) place ≡ row rows place ++ cond (is_at place found) (x ∷ []) []
  row-put rows None x place within = sym (append-nil (row rows place))
  row-put rows (Some other) x place within =
      elim (cases_eq place other) [
        | inl is ↦
            ap (row (set rows other (row rows other ++ x ∷ []))) is
            ∙ (get_or-set_same rows other (row rows other ++ x ∷ []) [] (subst (λ z. z < length rows) is within)
            ∙ (ap (λ z. row rows z ++ x ∷ []) (sym is)
            ∙ ap (λ b. row rows place ++ cond b (x ∷ []) []) (sym (eq-eqb other place (sym is)))))
        | inr apart ↦
            get_or-set_other rows other place (row rows other ++ x ∷ []) [] apart
            ∙ (sym (append-nil (row rows place))
            ∙ ap (λ b. row rows place ++ cond b (x ∷ []) []) (sym (ne_eqb other place (λ is. apart (sym is)))))
      ]

  pub length-put : (rows : List (List X)) (found : Option ℕ) (x : X) → length (put rows found x) ≡ length rows
  length-put rows None x = refl
  length-put rows (Some other) x = length-set rows other (row rows other ++ x ∷ [])

  pub length-put_all : (rows : List (List X)) (items : List (Option ℕ × X)) → length (put_all rows items) ≡ length rows
  length-put_all rows [] = refl
  length-put_all rows (x ∷ items) = length-put_all (put rows x.0 x.1) items ∙ length-put rows x.0 x.1

  -- the items of a row
  abbrev pub items_at : ℕ → List (Option ℕ × X) → List X
  items_at place items = map (λ x. x.1) (filter (λ x. is_at place x.0) items)

  one_more : (b : Bool) (x : Option ℕ × X) (rest : List (Option ℕ × X)) → cond b (x.1 ∷ []) [] ++ map (λ y. y.1) rest ≡ map (λ y. y.1) (cond b (x ∷ rest) rest)
  one_more true x rest = refl
  one_more false x rest = refl

  row-put_all : (rows : List (List X)) (items : List (Option ℕ × X)) (place : ℕ) → place < length rows → row (put_all rows items) place ≡ row rows place ++ items_at place items
  row-put_all rows [] place within = sym (append-nil (row rows place))
  row-put_all rows (x ∷ items) place within =
      row-put_all (put rows x.0 x.1) items place (subst (λ n. place < n) (sym (length-put rows x.0 x.1)) within)
      ∙ (ap (λ r. r ++ items_at place items) (row-put rows x.0 x.1 place within)
      ∙ (append_assoc (row rows place) (cond (is_at place x.0) (x.1 ∷ []) []) (items_at place items)
      ∙ ap (λ r. row rows place ++ r) (one_more (is_at place x.0) x (filter (λ y. is_at place y.0) items))))

  pub row-grouped : (count : ℕ) (items : List (Option ℕ × X)) (place : ℕ) → place < count → row (grouped count items) place ≡ items_at place items
  row-grouped count items place within =
      row-put_all (replicate count []) items place (subst (λ n. place < n) (sym (length-replicate count [])) within)
      ∙ ap (λ r. r ++ items_at place items) (get_or-replicate count place [] [] within)

  pub length-grouped : (count : ℕ) (items : List (Option ℕ × X)) → length (grouped count items) ≡ count
  length-grouped count items = length-put_all (replicate count []) items ∙ length-replicate count []

-- what is made of the elements that are kept, where a key tells which
pub kept : {E V : Type 0} (key : E → Option ℕ) (value : E → V) (keep : E → Bool) (place : ℕ) → ((e : E) → is_at place (key e) ≡ keep e) → (es : List E) → items_at place (map (λ e. (key e, value e)) es) ≡ map value (filter keep es)
kept key value keep place same [] = refl
kept {E} {V} key value keep place same (e ∷ es) =
    let rest : List (Option ℕ × V) = filter (λ x. is_at place x.0) (map (λ x. (key x, value x)) es) in
    ap (λ b. map (λ x. x.1) (cond b ((key e, value e) ∷ rest) rest)) (same e)
    ∙ elim (keep e) as (λ b. map (λ x. x.1) (cond b ((key e, value e) ∷ rest) rest) ≡ map value (cond b (e ∷ filter keep es) (filter keep es))) [
      | true ↦ ap (λ r. value e ∷ r) (kept key value keep place same es)
      | false ↦ kept key value keep place same es
    ]

-- the first that is kept
pub first-kept : {E V : Type 0} (value : E → V) (keep : E → Bool) (es : List E) → slice_get (map value (filter keep es)) 0 ≡ option_map value (find keep es)
first-kept value keep [] = refl
first-kept value keep (e ∷ es) =
    elim (keep e) as (λ b. slice_get (map value (cond b (e ∷ filter keep es) (filter keep es))) 0 ≡ option_map value (cond b (Some e) (find keep es))) [
      | true ↦ refl
      | false ↦ first-kept value keep es
    ]

-- pieces of items, kept piece by piece
pub kept_pieces : {E V : Type 0} (items : E → List (Option ℕ × V)) (values : E → List V) (place : ℕ) → ((e : E) → items_at place (items e) ≡ values e) → (es : List E) → items_at place (flat_map items es) ≡ flat_map values es
kept_pieces items values place same [] = refl
kept_pieces items values place same (e ∷ es) =
    ap (map (λ x. x.1)) (filter-append (λ x. is_at place x.0) (items e) (flat_map items es))
    ∙ (map-append (λ x. x.1) (filter (λ x. is_at place x.0) (items e)) (filter (λ x. is_at place x.0) (flat_map items es))
    ∙ (ap (λ r. r ++ items_at place (flat_map items es)) (same e) ∙ ap (λ r. values e ++ r) (kept_pieces items values place same es)))
