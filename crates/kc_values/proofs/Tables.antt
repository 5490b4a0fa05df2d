-- A table of values whose keys are seen as texts.
use Rattle.std.proofs.Common.{◌≡◌, Bool, true, false, cond, List, [], ◌∷◌, ◌++◌, map, None, Some, refl, sym, ap, subst, ◌∙◌, is_some}
use Rattle.std.specs.Prelude.{ℕ}
use Rattle.std.specs.List.{IsDistinct}
use Rattle.std.specs.Map.{lookup, keys_of}
use Rattle.std.specs.Cmp.Lexicographic.{nat_list_eq_equiv}
use Rattle.std.proofs.lemmas.List.Elements.{All-nil, All-push}
use Rattle.std.proofs.lemmas.Map.Keys.{IsDistinct-push}
use Rattle.std.proofs.lemmas.Map.Made.{is_some-lookup}
use Rattle.indexmap.specs.IndexMap.{insert_entry}
use Rattle.kc_values.specs.declared.values.Valued.{Valued}
use Rattle.kc_values.specs.Values.{Table, find, IsFit, IsTable}
use Rattle.br_path.specs.Text.{is_text}

-- a symbol is found among the keys as it is among their texts
pub lookup-map : {K V : Type 0} (shown : K → List ℕ) (test : List ℕ → Bool) (es : List (K × V)) → lookup test (map {B = List ℕ × V} (λ e. (shown e.0, e.1)) es) ≡ lookup (λ k. test (shown k)) es
lookup-map shown test [] = refl
lookup-map shown test (e ∷ es) = ap (cond (test (shown e.0)) _) (lookup-map shown test es)

module _ {K V : Type 0} (shown : K → List ℕ) where
  -- the entries, with their keys as texts
  abbrev pub texts : List (K × V) → List (List ℕ × V)
  texts es = map {B = List ℕ × V} (λ e. (shown e.0, e.1)) es

  -- a new key goes after the others
  insert-map : (same : List ℕ → List ℕ → Bool) (es : List (K × V)) (k : K) (v : V) → lookup (same (shown k)) (texts es) ≡ None →
      texts (insert_entry (λ a b. same (shown a) (shown b)) es k v) ≡ texts es ++ (shown k, v) ∷ []
  insert-map same [] k v absent = refl
  insert-map same (e ∷ es) k v absent =
      (elim (same (shown k) (shown e.0)) as (λ b. cond b (Some e.1) (lookup (same (shown k)) (texts es)) ≡ None → texts (cond b ((e.0, v) ∷ es) (e ∷ insert_entry (λ a b. same (shown a) (shown b)) es k v)) ≡ (shown e.0, e.1) ∷ (texts es ++ (shown k, v) ∷ []))
      [ true ↦ λ there. absurd (cc) | false ↦ λ rest. ap (λ r. (shown e.0, e.1) ∷ r) (insert-map same es k v rest) ]) absent

keys_push : (values : Table) (symbol : List ℕ) (valued : Valued) → keys_of (values ++ (symbol, valued) ∷ []) ≡ keys_of values ++ symbol ∷ []
keys_push [] symbol valued = refl
keys_push (e ∷ values) symbol valued = ap (λ ks. e.0 ∷ ks) (keys_push values symbol valued)

-- a table stays one with a symbol after that isn't in it
pub table_push : (values : Table) (symbol : List ℕ) (valued : Valued) → IsTable values → find symbol values ≡ None → IsFit valued → IsTable (values ++ (symbol, valued) ∷ [])
table_push values symbol valued table absent fit = record {
  distinct = subst (IsDistinct is_text) (sym (keys_push values symbol valued)) (IsDistinct-push nat_list_eq_equiv (keys_of values) symbol table.distinct (sym (is_some-lookup (is_text symbol) values) ∙ ap is_some absent));
  fit = All-push (λ e. IsFit e.1) values (symbol, valued) table.fit fit;
}

table_nil : IsTable []
unfolding IsDistinct
table_nil = record { distinct = tt; fit = All-nil (λ e. IsFit e.1) }

module _ {K : Type 0} (shown : K → List ℕ) where
  -- a map without entries is a table
  pub table_new : (es : List (K × Valued)) → es ≡ [] → IsTable (texts shown es)
  table_new es none = subst (λ xs. IsTable (texts shown xs)) (sym none) table_nil

  module _ (es new : List (K × Valued)) (k : K) (valued : Valued) (table : Table) (symbol : List ℕ) (is_table : texts shown es ≡ table) (is_symbol : shown k ≡ symbol)
      (is_new : new ≡ insert_entry (λ a b. is_text (shown a) (shown b)) es k valued) (absent : find symbol table ≡ None) where
    -- a new symbol goes after the others
    pub table_added : texts shown new ≡ table ++ (symbol, valued) ∷ []
    table_added =
        let none : find (shown k) (texts shown es) ≡ None = rw (is_table, is_symbol) absent in
        ap (texts shown) is_new ∙ (insert-map shown is_text es k valued none ∙ rw (is_table, is_symbol) refl)

    pub table_kept : IsTable (texts shown es) → IsFit valued → IsTable (texts shown new)
    table_kept kept fit = subst IsTable (sym table_added) (table_push table symbol valued (subst IsTable is_table kept) absent fit)
