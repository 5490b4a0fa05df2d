-- The trees with which a make began, as the code keeps them: form of the code, which no public contract cites.
use Rattle.std.specs.Prelude.{◌≡◌, List, ◌++◌, map}
use Rattle.br_path.specs.Path.{Names}
use Rattle.br_path.specs.declared.area.Area.{Area}
use Rattle.br_path.specs.declared.area.Area.TheVariants.{Host, Staging, Target}
use Rattle.tree_names.specs.Changes.{changed_names}
use Rattle.tree_ops.specs.Tree.{Tree, IsTree}
use Rattle.tree_worlds.specs.World.{AreaTrees}
use Rattle.pkg_steps.specs.declared.shelving.Began.{Began}

pub record AreTrees (trees : AreaTrees) : Type 0 where
  pub build : IsTree trees.build
  pub host : IsTree trees.host
  pub staging : IsTree trees.staging
  pub target : IsTree trees.target

-- the same trees
pub record IsBegan {T : Type 0} (tree : T → Tree) (trees : AreaTrees) (began : Began T) : Type 0 where
  pub host : tree began.host ≡ trees.host
  pub staging : tree began.staging ≡ trees.staging
  pub target : tree began.target ≡ trees.target

abbrev pub changed_in : Area → Tree → Tree → List (Area × Names)
changed_in area before after = map (λ path. (area, path)) (changed_names before after)

abbrev pub written_since : {T : Type 0} → (T → Tree) → Began T → AreaTrees → List (Area × Names)
written_since tree began trees =
    changed_in Host (tree began.host) trees.host ++ changed_in Staging (tree began.staging) trees.staging ++ changed_in Target (tree began.target) trees.target
