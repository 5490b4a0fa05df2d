-- The readable trees of a world.
use Rattle.std.proofs.Common.{ℕ, ◌≡◌, ◌==◌, Bool, true, false, cond, All, List, [], ◌∷◌, map, Option, Some, None, refl, sym, subst}
use Rattle.std.specs.Prelude.{IfSome}
use Rattle.std.specs.Borrow.{Bor}
use Rattle.std.specs.Option.{option_map, option_copied}
use Rattle.std.proofs.lemmas.List.Elements.{All-head, All-tail}
use Rattle.tree_ops.specs.declared.entry.Label.{Label}
use Rattle.tree_ops.specs.Held.{IsSealed}
use Rattle.tree_ops.specs.Tree.{Tree, IsTree}
use Rattle.tree_worlds.specs.declared.world.ShownTree.{ShownTree}
use Rattle.tree_worlds.specs.World.{readable_data, shown_tree}
use Rattle.tree_worlds.specs.HeldWorld.{IsReadable}
use Rattle.tree_worlds.specs.Naming.{tree_of}

module _ {T : Type 0} (tree : T → Tree) (sealed : T → Label → Bool) where
  -- what a task's readable tree stands for
  pub tree_shown : (shown : List (ShownTree T)) (task : ℕ) → option_map tree (tree_of shown task) ≡ shown_tree (map (readable_data tree) shown) task
  tree_shown [] task = refl
  tree_shown (first ∷ more) task = by (first.task == task) (tree_shown more task)
    where
      by : (b : Bool) → option_map tree (tree_of more task) ≡ shown_tree (map (readable_data tree) more) task → option_map tree (cond b (Some first.tree) (tree_of more task)) ≡ cond b (Some (tree first.tree)) (shown_tree (map (readable_data tree) more) task)
      by true rest = refl
      by false rest = rest

  abbrev Readable : T → Type 0
  Readable t = IsTree (tree t) × IsSealed (tree t) (sealed t)

  readable-of : (shown : List (ShownTree T)) (task : ℕ) → All (IsReadable tree sealed) shown → IfSome (tree_of shown task) Readable
  readable-of [] task all = tt
  readable-of (first ∷ more) task all = by (first.task == task) (readable-of more task (All-tail (IsReadable tree sealed) first more all))
    where
      own : IsReadable tree sealed first
      own = All-head (IsReadable tree sealed) first more all

      by : (b : Bool) → IfSome (tree_of more task) Readable → IfSome (cond b (Some first.tree) (tree_of more task)) Readable
      by true rest = (own.sound, own.whole)
      by false rest = rest

  borrowed : (result : Option (Bor T)) → IfSome (option_copied result) Readable → IfSome result (λ t. Readable t.now)
  borrowed None is = tt
  borrowed (Some t) is = is

  -- and what is known of it
  pub readable-shown : (shown : List (ShownTree T)) (task : ℕ) (result : Option (Bor T)) → option_copied result ≡ tree_of shown task → All (IsReadable tree sealed) shown → IfSome result (λ t. Readable t.now)
  readable-shown shown task result is all = borrowed result (subst (λ (o : Option T). IfSome o Readable) (sym is) (readable-of shown task all))
