-- Where a word leads, by what looking for its place answers.
use Rattle.std.proofs.Common.{ℕ, ◌≡◌, true, false, List, Result, Ok, Err, Option, None, refl, sym, subst}
use Rattle.br_path.specs.Files.{FileMap}
use Rattle.tree_worlds.specs.World.{WorldData}
use Rattle.tree_worlds.specs.Program.{Run, run, Ran}
use Rattle.tree_worlds.specs.declared.reason.CommandError.{CommandError}
use Rattle.tree_worlds.specs.declared.reason.CommandError.TheVariants.{Failed}
use Rattle.tree_worlds.specs.declared.reason.Reason.{Reason}
use Rattle.sh_places.specs.declared.kind.Kind.{Kind}
use Rattle.sh_places.specs.declared.spot.Spot.{Spot}
use Rattle.sh_places.specs.Finding.{found}
use Rattle.sh_places.specs.Looks.{kind_at}
use Rattle.sh_places.specs.Parts.{find, attempt}
use Rattle.sh_lines.specs.Source.{is_dir, kind_found, is_folder}

-- what stands at the place where a run ends
abbrev kind_of_run : WorldData → FileMap → Run Spot → Option Kind
kind_of_run world files (Ok (spot, new)) = kind_at world files spot
kind_of_run world files (Err fault) = None

pub folder-found : (world : WorldData) (files : FileMap) (word : List ℕ) (spot : Spot) → run (find files word true) world ≡ Ok (spot, world) → is_dir (kind_at world files spot) ≡ is_folder world files word
folder-found world files word spot = by (found world files word true)
  where
    by : (r : Result Spot Reason) → run (attempt r) world ≡ Ok (spot, world) → is_dir (kind_at world files spot) ≡ is_dir (kind_found world files r)
    by (Ok other) is = subst (λ (r : Run Spot). is_dir (kind_at world files spot) ≡ is_dir (kind_of_run world files r)) (sym is) refl
    by (Err reason) is = cc

pub folder-missed : (world : WorldData) (files : FileMap) (word : List ℕ) (reason : Reason) → run (find files word true) world ≡ Err (reason, world) → false ≡ is_folder world files word
folder-missed world files word reason = by (found world files word true)
  where
    by : (r : Result Spot Reason) → run (attempt r) world ≡ Err (reason, world) → false ≡ is_dir (kind_found world files r)
    by (Ok other) is = cc
    by (Err other) is = refl

-- the same of what the call answers
pub folder-answered : (world : WorldData) (files : FileMap) (word : List ℕ) (result : Result Spot CommandError) (spot : Spot) → result ≡ Ok spot → Ran (run (find files word true) world) result world
    → is_dir (kind_at world files spot) ≡ is_folder world files word
folder-answered world files word result spot is ran = folder-found world files word spot (subst (λ r. Ran (run (find files word true) world) r world) is ran)

pub folder-refused : (world : WorldData) (files : FileMap) (word : List ℕ) (result : Result Spot CommandError) (reason : Reason) → result ≡ Err (Failed reason) → Ran (run (find files word true) world) result world
    → false ≡ is_folder world files word
folder-refused world files word result reason is ran = folder-missed world files word reason (subst (λ r. Ran (run (find files word true) world) r world) is ran)
