-- What is made of the owners of a plan is its root.
use Rattle.std.proofs.Common.{ℕ, ◌≡◌, ◌<◌, ◌^◌, List, [], ◌++◌, length, ap, ◌∙◌}
use Rattle.std.specs.Prelude.{All}
use Rattle.std.specs.FinMap as fin
use Rattle.br_path.specs.Path.{Names}
use Rattle.br_path.specs.declared.area.Area.TheVariants.{Host, Staging, Target}
use Rattle.plan_rows.specs.Plan.{Planned}
use Rattle.task_shelves.specs.Shelf.{ShelfData}
use Rattle.task_shelves.specs.Packages.{left_by, packages_left}
use Rattle.task_shelves.specs.Grounded.{AreGrounded}
use Rattle.root_image.specs.Lines.{Entries}
use Rattle.root_image.specs.Roots.{IsRoot}
use Rattle.root_merge.specs.Overwrites.{overwrites_in, overwrites_of}
use Rattle.root_merge.specs.Roots.{Standing, root_of, root_entries}
use Rattle.root_merge.specs.Owners.{Owners, standings, all_owners, AreTrees}
use Rattle.root_merge.specs.Firsts.{entries_on, IsSized}
use Rattle.root_merge.proofs.Members.{append-nils}
use Rattle.root_merge.proofs.Standings.{standings-root}
use Rattle.root_merge.proofs.Lefts.{in-left, left-in, in-range-left}
use Rattle.root_merge.proofs.Unions.{AreFit, is-union}
use Rattle.root_merge.proofs.Naming.{entries-named}
use Rattle.root_merge.proofs.Fitting.{root-of_union}

module _ (plan : Planned) (shelves : ℕ → ShelfData) where
  plan-fit : AreGrounded plan shelves → overwrites_of plan shelves ≡ [] → AreTrees (left_by plan shelves) (length plan.rows) → AreFit (packages_left plan shelves)
  plan-fit grounded apart trees = record {
    trees = λ left there. trees left.task left (in-range-left plan shelves left there) (left-in plan shelves left there);
    grounded = λ left there path node away stands.
        let found = grounded.entries left (left-in plan shelves left there) path node away stands in
        (found.0, in-left plan shelves found.0 found.1.left, found.1.wrote, found.1.there);
    apart = (append-nils (overwrites_in Host (packages_left plan shelves) ++ overwrites_in Staging (packages_left plan shelves)) (overwrites_in Target (packages_left plan shelves)) apart).1;
  }

  -- the entries that are made one after the other are those of the union
  union-entries : (owners : Owners) (entries : Entries) → owners ≡ all_owners (left_by plan shelves) (length plan.rows) → entries ≡ entries_on fin.empty (standings (left_by plan shelves) (fin.entries owners))
      → entries ≡ entries_on fin.empty (fin.entries (root_of plan shelves))
  union-entries owners entries all made =
      made ∙ ap (λ (es : List (Names × Standing)). entries_on fin.empty es) (ap (λ (m : Owners). standings (left_by plan shelves) (fin.entries m)) all ∙ standings-root (left_by plan shelves) (length plan.rows))

  pub merged-fits : (owners : Owners) (entries : Entries) → AreGrounded plan shelves → overwrites_of plan shelves ≡ [] → AreTrees (left_by plan shelves) (length plan.rows) → owners ≡ all_owners (left_by plan shelves) (length plan.rows)
      → entries ≡ entries_on fin.empty (standings (left_by plan shelves) (fin.entries owners)) → All (λ entry. IsSized entry.1) entries → length entries < 2 ^ 63 → IsRoot entries
  merged-fits owners entries grounded apart trees all made sized few =
      root-of_union (root_of plan shelves) (is-union (packages_left plan shelves) (plan-fit grounded apart trees)) entries (union-entries owners entries all made) sized few

  pub merged-is : (owners : Owners) (entries : Entries) → owners ≡ all_owners (left_by plan shelves) (length plan.rows) → entries ≡ entries_on fin.empty (standings (left_by plan shelves) (fin.entries owners)) → entries ≡ root_entries plan shelves
  merged-is owners entries all made = union-entries owners entries all made ∙ entries-named (fin.entries (root_of plan shelves)) (fin.entries_sorted (root_of plan shelves))
