-- What the lines of recipes keep.
use Rattle.br_path.specs.Files.{FileMap}
use Rattle.tree_worlds.specs.Kept.{Keeps}
use Rattle.tree_worlds.proofs.Keeping.{Keeps-run}
use Rattle.sh_lines.specs.Lines.{line}
use Rattle.sh_lines.specs.Source.{copy}
use Rattle.pkg_steps.specs.Origins.{KeepsEach}
use Rattle.serial_build.specs.Limits.{KeepsCounts}
use Rattle.serial_build.specs.Roots.{KeepsRoot}
use Rattle.serial_build.proofs.Counted.{KeepsCounts-run}
use Rattle.serial_build.proofs.Roots.{KeepsRoot-run}
use Rattle.build_workers.specs.Recipes.{recipe_shell}

pub recipes_keep : (files : FileMap) → KeepsEach Keeps (recipe_shell files)
recipes_keep files = record {
  line = λ text world. Keeps-run (line files text) world;
  copy = λ world. Keeps-run (copy files world) world;
}

pub recipes_keep_root : (files : FileMap) → KeepsEach KeepsRoot (recipe_shell files)
recipes_keep_root files = record {
  line = λ text world. KeepsRoot-run (line files text) world;
  copy = λ world. KeepsRoot-run (copy files world) world;
}

pub recipes_keep_counts : (files : FileMap) → KeepsEach KeepsCounts (recipe_shell files)
recipes_keep_counts files = record {
  line = λ text world. KeepsCounts-run (line files text) world;
  copy = λ world. KeepsCounts-run (copy files world) world;
}
