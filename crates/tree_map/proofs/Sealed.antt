-- Which labels of a tree are sealed.
use Rattle.std.proofs.Common.{ℕ, ◌≡◌, ◌==◌, Bool, true, false, not, Option, Some, None, refl, sym, ap, ◌∙◌}
use Rattle.std.specs.Prelude.{IsTrue, ◌↔◌}
use Rattle.std.specs.List.{list_any}
use Rattle.std.specs.FinMap as fin
use Rattle.std.specs.Option.{is_some}
use Rattle.std.proofs.lemmas.Bool.{true≢false}
use Rattle.tree_ops.specs.Held.{IsSealed}
use Rattle.tree_ops.proofs.Finds.{any-get, get-none}
use Rattle.tree_ops.proofs.Orders.{label_total, label_same}
use Rattle.tree_ops.proofs.Sound.{is_there}
use Rattle.tree_map.specs.declared.trees.MapTree.{MapTree}
use Rattle.tree_map.specs.Parts.{labels_of, shown, sealed_by, is_of}

pub sealed-none : (t : MapTree) → t.owner ≡ None → IsTrue true ↔ IsSealed (shown t) (sealed_by t)
sealed-none t none = (λ yes label there. ap (λ (o : Option ℕ). not (is_of o label)) none, λ all. refl)

pub sealed-owner : (t : MapTree) (task : ℕ) (any : Bool) → t.owner ≡ Some task → any ≡ list_any (λ e. e.0.task == task) (fin.entries (labels_of t.labels)) → IsTrue (not any) ↔ IsSealed (shown t) (sealed_by t)
sealed-owner t task false owner is = (
  λ yes label there. let some = is_there (fin.get (labels_of t.labels) label) there in
      ap (λ (o : Option ℕ). not (is_of o label)) owner ∙ ap not (get-none label_total label_same (λ e. e.0.task == task) (labels_of t.labels) label some.0 (sym is) some.1),
  λ all. refl,
)
sealed-owner t task true owner is = (
  λ yes. absurd (true≢false (sym yes)),
  λ all. let found = any-get label_total label_same (λ e. e.0.task == task) (labels_of t.labels) (sym is) in
      absurd (true≢false (sym (all found.0 (ap is_some found.2)) ∙ ap (λ (o : Option ℕ). not (is_of o found.0)) owner ∙ ap not found.3)),
)
