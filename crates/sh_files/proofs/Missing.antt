-- What is missing, and what is forgiven.
use Rattle.std.proofs.Common.{◌≡◌, ℕ, List, Bool, true, false, Result, Ok, Err, refl, ap, ◌∙◌, subst, sym}
use Rattle.tree_worlds.specs.World.{WorldData}
use Rattle.tree_worlds.specs.Program.{Run, run, Ran, go_on}
use Rattle.tree_worlds.specs.declared.reason.Reason.{Reason}
use Rattle.tree_worlds.specs.declared.reason.CommandError.{CommandError}
use Rattle.tree_worlds.specs.declared.reason.CommandError.TheVariants.{Failed, Memory}
use Rattle.br_path.specs.Files.{FileMap}
use Rattle.tree_worlds.specs.declared.operand.Operand.{Operand}
use Rattle.sh_places.specs.declared.spot.Spot.{Spot}
use Rattle.sh_places.specs.Finding.{spot_of}
use Rattle.sh_places.specs.Looks.{kind_at}
use Rattle.sh_files.specs.Touching.{touch_word, touch_at, touch_kind}
use Rattle.sh_places.specs.Parts.{told, attempt, read, resolve}
use Rattle.sh_places.proofs.Ran.{attempt_reason, attempt_value}
use Rattle.sh_files.specs.Removing.{missing, forgiven, answered, remove_word, remove_at, remove_kind}

-- an attempt runs to what it is told
pub ran_told : {A : Type 0} (outcome : Result A Reason) (world : WorldData) → Ran (run (attempt outcome) world) (told outcome) world
ran_told (Ok value) world = refl
ran_told (Err reason) world = refl

pub ran_missed : (force : Bool) (reason : Reason) (world : WorldData) → Ran (run (missing force reason) world) (answered force (Failed reason)) world
ran_missed force reason world = ran_told (forgiven force reason) world

-- an outcome that is an error goes on to what forgives it
pub ran_missing : {B : Type 0} (force : Bool) (outcome : Result B Reason) (next : Result B Reason → Run (Unit {0})) (error : CommandError) (world : WorldData)
    → ((reason : Reason) → next (Err reason) ≡ run (attempt (forgiven force reason)) world)
    → Ran (run (attempt outcome) world) (Err error) world → Ran (next outcome) (answered force error) world
ran_missing force outcome next Memory world forgives is = tt
ran_missing {B = B} force outcome next (Failed reason) world forgives is =
    subst (λ (o : Result B Reason). Ran (next o) (told (forgiven force reason)) world) (sym (attempt_reason outcome reason world world is))
    (subst (λ (r : Run (Unit {0})). Ran r (told (forgiven force reason)) world) (sym (forgives reason)) (ran_told (forgiven force reason) world))

-- an operand that leads to a place is touched or removed there
pub touched_at : (files : FileMap) (only_there : Bool) (word : List ℕ) (operand : Operand) (place : Spot) (world : WorldData) → run (read files word) world ≡ Ok (operand, world) → Ran (run (resolve operand true) world) (Ok place) world
    → run (touch_word files only_there word) world ≡ run (touch_kind only_there place (kind_at world files place)) world
touched_at files only_there word operand place world reads leads =
    ap (λ o. go_on o (λ (operand : Operand) (w : WorldData). run (touch_at w files only_there (spot_of w true operand)) w)) reads
    ∙ ap (λ (o : Result Spot Reason). run (touch_at world files only_there o) world) (attempt_value (spot_of world true operand) place world world leads)

pub removed_at : (files : FileMap) (force recursive : Bool) (word : List ℕ) (operand : Operand) (place : Spot) (world : WorldData) → run (read files word) world ≡ Ok (operand, world) → Ran (run (resolve operand false) world) (Ok place) world
    → run (remove_word files force recursive word) world ≡ run (remove_kind files force recursive place (kind_at world files place)) world
removed_at files force recursive word operand place world reads leads =
    ap (λ o. go_on o (λ (operand : Operand) (w : WorldData). run (remove_at w files force recursive (spot_of w false operand)) w)) reads
    ∙ ap (λ (o : Result Spot Reason). run (remove_at world files force recursive o) world) (attempt_value (spot_of world false operand) place world world leads)

-- an operand that leads to none is forgiven or refused
pub touched_err : (files : FileMap) (only_there : Bool) (word : List ℕ) (operand : Operand) (error : CommandError) (world : WorldData) → run (read files word) world ≡ Ok (operand, world) → Ran (run (resolve operand true) world) (Err error) world
    → Ran (run (touch_word files only_there word) world) (answered only_there error) world
touched_err files only_there word operand error world reads fails =
    subst (λ (r : Run (Unit {0})). Ran r (answered only_there error) world)
    (sym (ap (λ o. go_on o (λ (operand : Operand) (w : WorldData). run (touch_at w files only_there (spot_of w true operand)) w)) reads))
    (ran_missing only_there (spot_of world true operand) (λ (o : Result Spot Reason). run (touch_at world files only_there o) world) error world (λ reason. refl) fails)

pub removed_err : (files : FileMap) (force recursive : Bool) (word : List ℕ) (operand : Operand) (error : CommandError) (world : WorldData) → run (read files word) world ≡ Ok (operand, world) → Ran (run (resolve operand false) world) (Err error) world
    → Ran (run (remove_word files force recursive word) world) (answered force error) world
removed_err files force recursive word operand error world reads fails =
    subst (λ (r : Run (Unit {0})). Ran r (answered force error) world)
    (sym (ap (λ o. go_on o (λ (operand : Operand) (w : WorldData). run (remove_at w files force recursive (spot_of w false operand)) w)) reads))
    (ran_missing force (spot_of world false operand) (λ (o : Result Spot Reason). run (remove_at world files force recursive o) world) error world (λ reason. refl) fails)
