-- What sed makes of a file in place.
use Rattle.std.proofs.Common.{ℕ, ◌≡◌, true, false, List, Option, Some, None, Ok}
use Rattle.br_path.specs.Files.{FileMap}
use Rattle.tree_ops.specs.declared.change.ChangeFault.TheVariants.{Absent, IsDir}
use Rattle.tree_worlds.specs.declared.operand.Operand.{Operand}
use Rattle.tree_worlds.specs.declared.reason.Reason.TheVariants.{Change as for_change}
use Rattle.tree_worlds.specs.World.{WorldData}
use Rattle.tree_worlds.specs.Operand.{operand_of}
use Rattle.tree_worlds.specs.Program.{Program, Look, ◌>>=◌}
use Rattle.sh_places.specs.declared.spot.Spot.{Spot}
use Rattle.sh_places.specs.declared.kind.Kind.{Kind}
use Rattle.sh_places.specs.declared.kind.Kind.TheVariants.{Dir, Link, File}
use Rattle.sh_places.specs.Looks.{kind_at, bytes_at, mode_at}
use Rattle.sh_places.specs.Finding.{found, spot_of}
use Rattle.sh_places.specs.Parts.{resolve}
use Rattle.sh_text.specs.declared.script.Script.{Script}
use Rattle.sh_text.specs.Editing.{edited_text}
use Rattle.sh_text.specs.Sed.{edited_at, replace, edit_operand, edit_file}
use Rattle.file_laws.specs.Words.{GoesThrough, MakesFileAt}
use Rattle.file_laws.proofs.Through.{never, attempt-through, known-through}
use Rattle.file_laws.proofs.Found.{found-spot}
use Rattle.file_laws.proofs.Made.{over-removed}

-- what is edited is the text of a file
edited-through : {A : Type 0} (script : Script) (bytes : List ℕ) (kind : Option Kind) (next : List ℕ → Program A) (old new : WorldData)
    → GoesThrough (edited_at script bytes kind >>= next) old new → GoesThrough (next (edited_text script bytes)) old new
edited-through script bytes None next old new goes = absurd (never (for_change Absent, old) (goes.0, new) goes.1)
edited-through script bytes (Some Link) next old new goes = absurd (never (for_change Absent, old) (goes.0, new) goes.1)
edited-through script bytes (Some (Dir mode)) next old new goes = absurd (never (for_change IsDir, old) (goes.0, new) goes.1)
edited-through script bytes (Some (File label)) next old new goes = goes

pub edited-file : (files : FileMap) (script : Script) (word : List ℕ) (source place : Spot) (old new : WorldData)
    → found old files word true ≡ Ok source → found old files word false ≡ Ok place → GoesThrough (edit_file files script word) old new
    → MakesFileAt place (mode_at old source) (edited_text script (bytes_at old files source)) old new
edited-file files script word source place old new leads stands goes =
    let put : Spot → List ℕ → Spot → Program (Unit {0}) = λ from text at. replace at (mode_at old from) text in
    let edit : Operand → Spot → WorldData → Program (Unit {0}) = λ operand from world.
    edited_at script (bytes_at world files from) (kind_at world files from) >>= λ text. resolve operand false >>= λ at. replace at (mode_at world from) text in
    let one = attempt-through (operand_of old files word) (edit_operand files script) old new goes in
    let operand = one.0 in
    let two = known-through (spot_of old true operand) (λ from. Look >>= edit operand from) old new source (found-spot files word true operand source old one.1 leads) one.2 in
    let three = edited-through script (bytes_at old files source) (kind_at old files source) (λ text. resolve operand false >>= put source text) old new two in
    let text = edited_text script (bytes_at old files source) in
    let four = known-through (spot_of old false operand) (put source text) old new place (found-spot files word false operand place old one.1 stands) three in
    over-removed place (mode_at old source) text old new four
