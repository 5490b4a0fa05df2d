-- The text of values, one value after the other.
use Rattle.std.proofs.Common.{ℕ, ◌≡◌, ◌+◌, ◌≤◌, length, List, [], ◌∷◌, ◌++◌, drop, get_or, Option, Some, None, refl, sym, ap, subst, ◌∙◌, append_assoc}
use Rattle.std.specs.List.{flat_map, filter_map, cons_option, slice_get}
use Rattle.std.specs.Option.{option_map}
use Rattle.std.proofs.lemmas.List.{append-nil, drop_more, drop_all}
use Rattle.std.proofs.lemmas.Option.{slice_get_within, get_or_from_slice_get}
use Rattle.kc_values.specs.Values.{Table}
use Rattle.kc_values.specs.declared.values.Valued.{Valued}
use Rattle.kc_menu.specs.Visible.{is_visible}
use Rattle.kc_menu.specs.declared.menu.KcEntry.{KcEntry}
use Rattle.kc_menu.specs.declared.wishes.WishValue.{WishValue}
use Rattle.dot_config.specs.Writing.{wish_for, wish_text, line_of, written, config_text}

-- the text of those values that are left
abbrev pub rest_text : List KcEntry → Table → Table → List ℕ
rest_text entries values left =
    flat_map (λ (w : List ℕ × WishValue). wish_text w.0 w.1 ++ 10 ∷ []) (filter_map (λ (v : List ℕ × Valued). option_map (λ value. (v.0, value)) (wish_for (is_visible entries v.0 values) v.1)) left)

pub whole_text : (entries : List KcEntry) (values : Table) → rest_text entries values values ≡ config_text entries values
unfolding config_text written
whole_text entries values = refl

one_line : (symbol : List ℕ) (wish : Option WishValue) (more : List (List ℕ × WishValue)) →
    flat_map (λ (w : List ℕ × WishValue). wish_text w.0 w.1 ++ 10 ∷ []) (cons_option (option_map (λ value. (symbol, value)) wish) more) ≡ line_of symbol wish ++ flat_map (λ (w : List ℕ × WishValue). wish_text w.0 w.1 ++ 10 ∷ []) more
one_line symbol None more = refl
one_line symbol (Some value) more = refl

-- the text with one value more
pub text_more : (entries : List KcEntry) (values : Table) (place : ℕ) (front : List ℕ) (symbol : List ℕ) (valued : Valued) → slice_get values place ≡ Some (symbol, valued) →
    (front ++ line_of symbol (wish_for (is_visible entries symbol values) valued)) ++ rest_text entries values (drop (place + 1) values) ≡ front ++ rest_text entries values (drop place values)
text_more entries values place front symbol valued at =
    let one : List ℕ × Valued = (symbol, valued) in
    let here : drop place values ≡ one ∷ drop (place + 1) values =
    drop_more values place one (slice_get_within values place one at) ∙ ap (λ v. v ∷ drop (place + 1) values) (get_or_from_slice_get values place one one at) in
    append_assoc front (line_of symbol (wish_for (is_visible entries symbol values) valued)) (rest_text entries values (drop (place + 1) values))
    ∙ ap (λ t. front ++ t) (sym (one_line symbol (wish_for (is_visible entries symbol values) valued) (filter_map (λ (v : List ℕ × Valued). option_map (λ value. (v.0, value)) (wish_for (is_visible entries v.0 values) v.1)) (drop (place + 1) values))) ∙ ap (rest_text entries values) (sym here))

-- where no value is left, the text is whole
pub text_all : (entries : List KcEntry) (values : Table) (place : ℕ) (front : List ℕ) → length values ≤ place → front ++ rest_text entries values (drop place values) ≡ rest_text entries values values → front ≡ config_text entries values
text_all entries values place front all e =
    sym (append-nil front) ∙ ap (λ left. front ++ rest_text entries values left) (sym (drop_all place values all)) ∙ e ∙ whole_text entries values
