-- What the lines of recipes do.
use Rattle.br_path.specs.Files.{FileMap}
use Rattle.tree_worlds.specs.Program.{run}
use Rattle.sh_lines.specs.Lines.{line}
use Rattle.sh_lines.specs.Source.{copy}
use Rattle.pkg_steps.specs.Lines.{Shell}

abbrev pub recipe_shell : FileMap → Shell
recipe_shell files = record { line = λ text world. run (line files text) world; copy = λ world. run (copy files world) world }
