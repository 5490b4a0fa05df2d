-- The copy of a package's source into its build tree.
use Rattle.std.specs.Prelude.{ℕ, Bool, true, false, List, [], ◌∷◌, ◌++◌, codes, Option, Some, None, Result, Ok, Err}
use Rattle.br_path.specs.Path.{Names, closed}
use Rattle.br_path.specs.Files.{FileMap}
use Rattle.tree_worlds.specs.World.{WorldData}
use Rattle.tree_worlds.specs.Program.{Program, Done}
use Rattle.tree_worlds.specs.declared.reason.Reason.{Reason}
use Rattle.sh_places.specs.declared.kind.Kind.{Kind}
use Rattle.sh_places.specs.declared.kind.Kind.TheVariants.{Dir}
use Rattle.sh_places.specs.declared.spot.Spot.{Spot}
use Rattle.sh_places.specs.Finding.{found}
use Rattle.sh_places.specs.Looks.{kind_at}
use Rattle.sh_places.specs.Parts.{choose}
use Rattle.sh_files.specs.Commands.{command}

-- `package/foo/src`
abbrev pub source_word : Names → List ℕ
source_word folder = closed folder ++ codes "src"

abbrev pub is_dir : Option Kind → Bool
is_dir (Some (Dir mode)) = true
is_dir other = false

abbrev pub kind_found : WorldData → FileMap → Result Spot Reason → Option Kind
kind_found world files (Ok spot) = kind_at world files spot
kind_found world files (Err reason) = None

-- a word names a folder: files lie below it
abbrev pub is_folder : WorldData → FileMap → List ℕ → Bool
is_folder world files word = is_dir (kind_found world files (found world files word true))

-- `-r`, `package/foo/src/.` and `/output/build/foo`
abbrev pub copy_words : List ℕ → List ℕ → Names
copy_words folder name = codes "-r" ∷ (folder ++ codes "/.") ∷ (codes "/output/build/" ++ name) ∷ []

-- `cp -r` of what a folder holds, into the package's build tree
abbrev pub copy_folder : FileMap → WorldData → List ℕ → Program (Unit {0})
copy_folder files world folder = command files (codes "cp") (copy_words folder world.owner)

-- what `cp -r package/foo/src/. /output/build/foo` does, where the source is a folder; else nothing
abbrev pub copy : FileMap → WorldData → Program (Unit {0})
copy files world = choose (is_folder world files (source_word world.folder)) (copy_folder files world (source_word world.folder)) (Done tt)
