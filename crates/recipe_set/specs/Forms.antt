-- Sets of upper-case forms.
use Rattle.std.specs.Prelude.{◌≡◌, ℕ, List}
use Rattle.std.specs.List.{list_any}
use Rattle.std.specs.Ordering.{nat_cmp}
use Rattle.std.specs.Cmp.Lexicographic.{slice_cmp}
use Rattle.std.specs.BTreeSet.{BTreeSet, contains}
use Rattle.br_path.specs.Text.{is_text}
use Rattle.recipe_set.specs.Names.{upper_form}

-- the forms are those of these names
abbrev pub AreFormsOf : List (List ℕ) → BTreeSet (List ℕ) → Type 0
AreFormsOf names forms = (form : List ℕ) → contains (slice_cmp nat_cmp) forms form ≡ list_any (λ other. is_text (upper_form other) form) names
