-- Packages by name, as a map from names to places.
use Rattle.std.proofs.Common.{◌≡◌, ℕ, List, [], ◌∷◌, map, sym, refl, ap, subst, ◌∙◌, Less, Equal, Greater}
use Rattle.std.specs.BTreeMap.{BTreeMap, IsOrdered, insert_entry}
use Rattle.std.specs.Map.{keys_of}
use Rattle.std.specs.List.Sorted.{IsStrictlySortedBy}
use Rattle.std.specs.Ordering.{nat_cmp, match_ordering}
use Rattle.std.specs.Cmp.Lexicographic.{slice_cmp}
use Rattle.br_path.proofs.PathOrder.{name_same}
use Rattle.recipe_set.specs.declared.packages.Made.{Made}
use Rattle.recipe_set.specs.declared.packages.Place.{Place}
use Rattle.recipe_set.specs.Effect.{with_package}

abbrev pub made : List ℕ × Place → Made
made e = record { name = e.0; folder = e.1.folder; host = e.1.host }

-- the packages of a map with one more entry
pub made-insert_entry : (es : List (List ℕ × Place)) (name : List ℕ) (place : Place) → map made (insert_entry (slice_cmp nat_cmp) es name place) ≡ with_package (made (name, place)) (map made es)
made-insert_entry [] name place = refl
made-insert_entry (e ∷ es) name place =
    elim (slice_cmp nat_cmp name e.0) as (λ r. slice_cmp nat_cmp name e.0 ≡ r →
    map made (match_ordering r ((name, place) ∷ e ∷ es) ((e.0, place) ∷ es) (e ∷ insert_entry (slice_cmp nat_cmp) es name place))
    ≡ match_ordering r (made (name, place) ∷ made e ∷ map made es) (made (name, place) ∷ map made es) (made e ∷ with_package (made (name, place)) (map made es))) [
      | Less ↦ λ below. refl
      | Equal ↦ λ tied. ap (λ (n : List ℕ). made (n, place) ∷ map made es) (sym (name_same name e.0 tied))
      | Greater ↦ λ above. ap (λ rest. made e ∷ rest) (made-insert_entry es name place)
    ] refl

names-made : (es : List (List ℕ × Place)) → keys_of es ≡ map (λ m. m.name) (map made es)
names-made [] = refl
names-made (e ∷ es) = ap (λ names. e.0 ∷ names) (names-made es)

-- the packages of a map rise by name
pub packages_rise : (m : BTreeMap (List ℕ) Place) (packages : List Made) → IsOrdered (slice_cmp nat_cmp) m → map made m.entries ≡ packages → IsStrictlySortedBy (slice_cmp nat_cmp) (map (λ p. p.name) packages)
packages_rise m packages ordered is = subst (IsStrictlySortedBy (slice_cmp nat_cmp)) (names-made m.entries ∙ ap (map (λ p. p.name)) is) ordered
