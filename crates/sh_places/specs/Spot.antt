-- Sites and places as they are compared.
use Rattle.std.specs.Prelude.{Bool, true, false, ◌==◌, ◌&&◌, Option, Some}
use Rattle.br_path.specs.declared.area.Area.{Area}
use Rattle.br_path.specs.declared.area.Area.TheVariants.{Build, Host, Staging, Target}
use Rattle.tree_ops.specs.declared.entry.Label.{Label}
use Rattle.tree_ops.specs.Change.{is_path}
use Rattle.sh_places.specs.declared.spot.Site.{Site}
use Rattle.sh_places.specs.declared.spot.Site.TheVariants.{Tree, Readable, Input}
use Rattle.sh_places.specs.declared.spot.Spot.{Spot}

abbrev pub is_area : Area → Area → Bool
is_area Build Build = true
is_area Host Host = true
is_area Staging Staging = true
is_area Target Target = true
is_area area other = false

abbrev pub is_site : Site → Site → Bool
is_site (Tree area) (Tree other) = is_area area other
is_site (Readable task) (Readable other) = task == other
is_site Input Input = true
is_site site other = false

abbrev pub is_spot : Spot → Spot → Bool
is_spot spot other = is_site spot.site other.site && is_path spot.path other.path

-- both are files with one label; a file of the input has none
abbrev pub is_label : Option Label → Option Label → Bool
is_label (Some label) (Some other) = label.task == other.task && label.number == other.number
is_label label other = false

-- one file: the same label in the same tree
abbrev pub is_same_file : Site → Option Label → Site → Option Label → Bool
is_same_file site label other_site other = is_site site other_site && is_label label other
