-- One level of a tree that is gone through.
use Rattle.std.proofs.Common.{ℕ, zero, suc, ◌-◌, ◌≡◌, ◌∷◌, ◌++◌, [], reverse, refl, ap, arith, Ok}
use Rattle.std.specs.Prelude.{◌≢◌}
use Rattle.br_path.specs.Files.{FileMap}
use Rattle.tree_worlds.specs.World.{WorldData}
use Rattle.tree_worlds.specs.Program.{run}
use Rattle.sh_places.specs.declared.spot.Spot.{Spot}
use Rattle.sh_places.specs.Finding.{spot}
use Rattle.sh_places.specs.Looks.{names_at}
use Rattle.sh_places.specs.Parts.{each}
use Rattle.sh_files.specs.declared.mode.ModeChange.{ModeChange}
use Rattle.sh_files.specs.ChangingModes.{change_at, change_below}
use Rattle.sh_files.specs.Removing.{remove_entry, remove_below}

pub change_none : (depth : ℕ) (files : FileMap) (change : ModeChange) (place : Spot) (world : WorldData) → depth ≡ 0 → run (change_below depth files change place) world ≡ Ok (tt, world)
unfolding change_below
change_none depth files change place world is = ap (λ d. run (change_below d files change place) world) is

pub change_more : (depth : ℕ) (files : FileMap) (change : ModeChange) (place : Spot) (world : WorldData) → depth ≢ 0
    → run (each (λ name. change_at (change_below (depth - 1) files change) files change (spot place.site (place.path ++ name ∷ []))) (names_at world files place)) world ≡ run (change_below depth files change place) world
unfolding change_below
change_more zero files change place world some = absurd (some refl)
change_more (suc less) files change place world some =
    let e : suc less - 1 ≡ less = omega arith in
    ap (λ d. run (each (λ name. change_at (change_below d files change) files change (spot place.site (place.path ++ name ∷ []))) (names_at world files place)) world) e

pub remove_none : (depth : ℕ) (files : FileMap) (place : Spot) (world : WorldData) → depth ≡ 0 → run (remove_below depth files place) world ≡ Ok (tt, world)
unfolding remove_below
remove_none depth files place world is = ap (λ d. run (remove_below d files place) world) is

pub remove_more : (depth : ℕ) (files : FileMap) (place : Spot) (world : WorldData) → depth ≢ 0
    → run (each (λ name. remove_entry (remove_below (depth - 1) files) (spot place.site (place.path ++ name ∷ []))) (reverse (names_at world files place))) world ≡ run (remove_below depth files place) world
unfolding remove_below
remove_more zero files place world some = absurd (some refl)
remove_more (suc less) files place world some =
    let e : suc less - 1 ≡ less = omega arith in
    ap (λ d. run (each (λ name. remove_entry (remove_below d files) (spot place.site (place.path ++ name ∷ []))) (reverse (names_at world files place))) world) e
