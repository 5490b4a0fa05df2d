-- Upper-case forms of recipes' folders, as a set.
use Rattle.std.proofs.Common.{◌≡◌, ℕ, Bool, true, false, cond, List, [], ◌∷◌, ◌++◌, refl, sym, ap, ◌∙◌}
use Rattle.std.specs.Prelude.{◌||◌, ◌&&◌, not}
use Rattle.std.specs.List.{list_any}
use Rattle.std.specs.BTreeSet.{BTreeSet, contains}
use Rattle.std.specs.Ordering.{nat_cmp, eq_by_cmp}
use Rattle.std.specs.Cmp.Lexicographic.{slice_cmp, texts_ties}
use Rattle.std.proofs.lemmas.List.Folds.{list_any-append}
use Rattle.br_path.specs.Text.{is_text}
use Rattle.recipe_set.specs.Names.{is_package_name, is_allowed, upper_form}
use Rattle.recipe_set.specs.Forms.{AreFormsOf}

or_swap : (x y : Bool) → cond x true y ≡ (y || (x || false))
or_swap true true = refl
or_swap true false = refl
or_swap false true = refl
or_swap false false = refl

-- the forms with one more
pub forms_more : (names : List (List ℕ)) (name form : List ℕ) (old new : BTreeSet (List ℕ)) → AreFormsOf names old → form ≡ upper_form name →
    ((q : List ℕ) → contains (slice_cmp nat_cmp) new q ≡ cond (eq_by_cmp (slice_cmp nat_cmp) form q) true (contains (slice_cmp nat_cmp) old q)) → AreFormsOf (names ++ name ∷ []) new
forms_more names name form old new are is updates q =
    updates q
    ∙ ap (λ b. cond b true (contains (slice_cmp nat_cmp) old q)) (sym (texts_ties form q))
    ∙ ap (λ f. cond (is_text f q) true (contains (slice_cmp nat_cmp) old q)) is
    ∙ ap (cond (is_text (upper_form name) q) true) (are q)
    ∙ or_swap (is_text (upper_form name) q) (list_any (λ other. is_text (upper_form other) q) names)
    ∙ sym (list_any-append (λ other. is_text (upper_form other) q) names (name ∷ []))

-- a package's name is allowed where its form is new
pub allowed_new : (names : List (List ℕ)) (name form : List ℕ) (old : BTreeSet (List ℕ)) (added : Bool) → AreFormsOf names old → form ≡ upper_form name → is_package_name name ≡ true → added ≡ not (contains (slice_cmp nat_cmp) old form) → added ≡ is_allowed names name
allowed_new names name form old added are is named new =
    new ∙ ap not (are form) ∙ ap (λ f. not (list_any (λ other. is_text (upper_form other) f) names)) is
    ∙ ap (λ b. b && not (list_any (λ other. is_text (upper_form other) (upper_form name)) names)) (sym named)

pub allowed_never : (names : List (List ℕ)) (name : List ℕ) → is_package_name name ≡ false → false ≡ is_allowed names name
allowed_never names name unnamed = ap (λ b. b && not (list_any (λ other. is_text (upper_form other) (upper_form name)) names)) (sym unnamed)
