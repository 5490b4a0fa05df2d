-- Each owner is a package, in whose target tree something stands.
use Rattle.std.proofs.Common.{ℕ, ◌≡◌, ◌<◌, inl, inr, Bool, true, false, cond, [], ◌∷◌, Option, Some, None, refl, sym, ap, subst, ◌∙◌, arith}
use Rattle.std.specs.Prelude.{is_some}
use Rattle.std.specs.List.{range_with_len}
use Rattle.std.specs.FinMap as fin
use Rattle.std.proofs.lemmas.Bool.{and_parts}
use Rattle.std.proofs.lemmas.Option.{same_Some}
use Rattle.br_path.specs.Path.{Names}
use Rattle.br_path.specs.declared.area.Area.{Area}
use Rattle.br_path.specs.declared.area.Area.TheVariants.{Target}
use Rattle.br_path.proofs.PathOrder.{path_total, path_same}
use Rattle.tree_ops.specs.Tree.{node_at}
use Rattle.tree_ops.proofs.Finds.{In, in-find}
use Rattle.task_shelves.specs.Packages.{Left, is_area}
use Rattle.root_merge.specs.Owners.{Owners, is_left, has_node, IsOwned, all_owners}
use Rattle.root_merge.proofs.Members.{in-append, in-flat_map, in-filter_map, in-range}
use Rattle.root_merge.proofs.Gathering.{owned_at, owned_by, owned_among, owned, all-gathered}

module _ (lefts : ℕ → Option Left) (count : ℕ) (path : Names) (owner : Option ℕ) where
  from-left : (task : ℕ) → task < count → (o : Option Left) → lefts task ≡ o → In (path, owner) (owned_by task o) → IsOwned lefts count path owner
  from-left task less None is there = absurd there
  from-left task less (Some left) is there =
      let found = in-filter_map (owned_at left.trees.target task) (path, owner) left.written there in
      by found.0 (is_left left.trees.target found.0.0 found.0.1) refl found.2
    where
      by : (pair : Area × Names) (b : Bool) → is_left left.trees.target pair.0 pair.1 ≡ b → cond {A = Option (Names × Option ℕ)} b (Some (pair.1, Some task)) None ≡ Some (path, owner) → IsOwned lefts count path owner
      by pair true passes same =
          let there = ap (has_node pair.1) is ∙ (and_parts (is_area pair.0 Target) (is_some (node_at left.trees.target pair.1)) passes).1 in
          subst (λ (e : Names × Option ℕ). IsOwned lefts count e.0 e.1) (same_Some (pair.1, Some task) (path, owner) same) (less, there)
      by pair false fails same = cc

  from-root : In {E = Names × Option ℕ} (path, owner) (([], None) ∷ []) → IsOwned lefts count path owner
  from-root (inl same) = subst (λ (e : Names × Option ℕ). IsOwned lefts count e.0 e.1) same tt
  from-root (inr there) = absurd there

  pub owned-left : fin.get (all_owners lefts count) path ≡ Some owner → IsOwned lefts count path owner
  owned-left is =
      let tasks = range_with_len 0 count in
      let found = sym (fin.get-from_entries path_total (owned lefts count) path) ∙ ap (λ (m : Owners). fin.get m path) (sym (all-gathered lefts count)) ∙ is in
      elim (in-append (path, owner) (owned_among lefts tasks) (([], None) ∷ []) (in-find path_total path_same path owner (owned lefts count) found)) [
        | inl front ↦
            let left = in-flat_map (λ task. owned_by task (lefts task)) (path, owner) tasks front in
            let less = in-range left.0 0 count left.1 in
            from-left left.0 (omega arith) (lefts left.0) refl left.2
        | inr back ↦ from-root back
      ]
