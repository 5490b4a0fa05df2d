-- Copies made one after another.
use Rattle.std.proofs.Common.{ℕ, zero, suc, ◌+◌, ◌-◌, ◌<◌, length, get_or, drop, drop-cons, add-one, ◌≡◌, List, [], ◌∷◌, ◌++◌, All, Result, Ok, Err, Option, false, refl, sym, ap, subst, ◌∙◌, arith}
use Rattle.std.specs.Prelude.{◌≢◌}
use Rattle.br_path.specs.Files.{FileMap}
use Rattle.br_path.specs.Gives.{Gives}
use Rattle.std.proofs.lemmas.List.Elements.{All-head, All-tail}
use Rattle.br_path.specs.Path.{Names, IsName, IsPath}
use Rattle.tree_worlds.specs.World.{WorldData}
use Rattle.tree_worlds.specs.Program.{Program, Look, Run, run, Ran, go_on, ◌>>=◌}
use Rattle.tree_worlds.specs.declared.reason.Reason.{Reason}
use Rattle.tree_worlds.specs.declared.reason.CommandError.{CommandError}
use Rattle.tree_worlds.specs.declared.reason.CommandError.TheVariants.{Failed, Memory}
use Rattle.sh_places.specs.declared.spot.Spot.{Spot}
use Rattle.sh_places.specs.Finding.{IsStep}
use Rattle.sh_places.specs.declared.kind.Kind.{Kind}
use Rattle.sh_places.specs.Looks.{kind_at, names_at}
use Rattle.sh_places.specs.Parts.{told, attempt, find}
use Rattle.sh_places.proofs.Ran.{ran_on, ran_gives}
use Rattle.sh_files.specs.Goals.{base_for, place_for, goal_place, goal_for, sources_of}
use Rattle.sh_files.specs.declared.goal.Goal.{Goal}
use Rattle.sh_files.specs.declared.copying.Manner.{Manner}
use Rattle.sh_files.specs.Copying.{CopiedTo, folder_mode, copyable, copy_kind, copy_folder, copy_entry, copy_below, copy_entries, copy_object, copy_sources, each_copy, cp}
use Rattle.sh_files.specs.Leaving.{RanTo}

-- 1. Parts.

-- a fault in the first of two parts is the fault of both
pub left_err : {A B : Type 0} (first : Run B) (next : B → WorldData → Run A) (error : CommandError) (value : B) (other : A) (new : WorldData) → RanTo first (Err error) value new → RanTo (go_on first next) (Err error) other new
left_err first next Memory value other new is = tt
left_err first next (Failed reason) value other new is = ap (λ o. go_on o next) is

pub left_same : {A : Type 0} (one other : Run A) (error : CommandError) (value given : A) (new : WorldData) → one ≡ other → RanTo one (Err error) value new → RanTo other (Err error) given new
left_same one other Memory value given new same is = tt
left_same one other (Failed reason) value given new same is = sym same ∙ is

-- a call that gives what is meant runs as the attempt
pub ran_given : {A : Type 0} (outcome : Result A Reason) (result : Result A CommandError) (world : WorldData) → Gives Memory (told outcome) result → Ran (run (attempt outcome) world) result world
ran_given outcome result world is = ran_gives outcome result world is

-- 2. One copy after another.

next_word : (all : Names) (i : ℕ) (item given : List ℕ) → i < length all → item ≡ get_or all i item → given ≡ item → drop i all ≡ given ∷ drop (suc i) all
next_word all i item given within is same = drop-cons all i item within ∙ ap (λ (a : List ℕ). a ∷ drop (suc i) all) (sym is ∙ sym same)

-- in a loop over the names: what is left to do from a name on is the whole
pub copy_next : (copy : CopiedTo → List ℕ → Program CopiedTo) (all : Names) (i : ℕ) (item given : List ℕ) (copied more : CopiedTo) (world new : WorldData) (whole : Run CopiedTo) → i < length all → item ≡ get_or all i item → given ≡ item
    → run (each_copy copy copied (drop i all)) world ≡ whole → run (copy copied given) world ≡ Ok (more, new) → run (each_copy copy more (drop (i + 1) all)) new ≡ whole
copy_next copy all i item given copied more world new whole within is same left done =
    ap (λ n. run (each_copy copy more (drop n all)) new) (add-one i)
    ∙ sym (ap (λ (l : Names). run (each_copy copy copied l) world) (next_word all i item given within is same) ∙ ap (λ o. go_on o (λ m. run (each_copy copy m (drop (suc i) all)))) done)
    ∙ left

pub copy_stop : (copy : CopiedTo → List ℕ → Program CopiedTo) (all : Names) (i : ℕ) (item given : List ℕ) (copied value other : CopiedTo) (error : CommandError) (world new : WorldData) (whole : Run CopiedTo) → i < length all → item ≡ get_or all i item → given ≡ item
    → run (each_copy copy copied (drop i all)) world ≡ whole → RanTo (run (copy copied given) world) (Err error) value new → RanTo whole (Err error) other new
copy_stop copy all i item given copied value other error world new whole within is same left fails =
    left_same (run (each_copy copy copied (given ∷ drop (suc i) all)) world) whole error other other new
    (ap (λ (l : Names). run (each_copy copy copied l) world) (sym (next_word all i item given within is same)) ∙ left)
    (left_err (run (copy copied given) world) (λ m. run (each_copy copy m (drop (suc i) all))) error value other new fails)

-- 3. One level of a tree.

pub copy_none : (depth : ℕ) (files : FileMap) (manner : Manner) (copied : CopiedTo) (source at : Spot) (world : WorldData) → depth ≡ 0 → run (copy_below depth files manner copied source at) world ≡ Ok (copied, world)
unfolding copy_below
copy_none depth files manner copied source at world is = ap (λ d. run (copy_below d files manner copied source at) world) is

pub copy_more : (depth : ℕ) (files : FileMap) (manner : Manner) (copied : CopiedTo) (source at : Spot) (world : WorldData) → depth ≢ 0
    → run (each_copy (copy_entry (copy_below (depth - 1) files manner) files manner source at) copied (names_at world files source)) world ≡ run (copy_below depth files manner copied source at) world
unfolding copy_below
copy_more zero files manner copied source at world some = absurd (some refl)
copy_more (suc less) files manner copied source at world some =
    let e : suc less - 1 ≡ less = omega arith in
    ap (λ d. run (each_copy (copy_entry (copy_below d files manner) files manner source at) copied (names_at world files source)) world) e

-- 4. Names of entries.

last-name : (front : Names) (name : List ℕ) → All IsName (front ++ name ∷ []) → IsName name
last-name [] name all = All-head IsName name [] all
last-name (first ∷ front) name all = last-name front name (All-tail IsName first (front ++ name ∷ []) all)

-- the last name of a path is a step
pub step_of : (front : Names) (name : List ℕ) → IsPath (front ++ name ∷ []) → IsStep name
step_of front name path =
    let is = last-name front name path.legal in
    record { filled = is.filled; printable = is.printable; not_self = is.not_self; not_parent = is.not_parent }

-- 5. Where the first steps go through.

left_on : {A B : Type 0} (first : Run B) (next : B → WorldData → Run A) (given : B) (world new : WorldData) (result : Result (Unit {0}) CommandError) (value : A) → first ≡ Ok (given, world) → RanTo (next given world) result value new → RanTo (go_on first next) result value new
left_on {B = B} first next given world new result value is then = subst (λ (o : Run B). RanTo (go_on o next) result value new) (sym is) then

-- the entries of a folder into the goal
pub entries_on : (files : FileMap) (manner : Manner) (goal : Goal) (copied value : CopiedTo) (word : List ℕ) (source place : Spot) (mode : ℕ) (result : Result (Unit {0}) CommandError) (world new : WorldData)
    → place ≡ goal_place goal → run (find files word manner.follow) world ≡ Ok (source, world) → run (attempt (folder_mode manner (kind_at world files source))) world ≡ Ok (mode, world)
    → RanTo (run (copy_folder (copy_below 1024 files manner) files manner copied source mode place) world) result value new → RanTo (run (copy_entries files manner goal copied word) world) result value new
entries_on files manner goal copied value word source place mode result world new to found folder then =
    let below = copy_below 1024 files manner in
    left_on (run (find files word manner.follow) world)
    (λ source. run (Look >>= λ world. attempt (folder_mode manner (kind_at world files source)) >>= λ mode. copy_folder below files manner copied source mode (goal_place goal)))
    source world new result value found
    (left_on (run (attempt (folder_mode manner (kind_at world files source))) world) (λ mode. run (copy_folder below files manner copied source mode (goal_place goal))) mode world new result value folder
    (subst (λ (p : Spot). RanTo (run (copy_folder below files manner copied source mode p) world) result value new) to then))

-- an object to its place
pub object_on : (files : FileMap) (manner : Manner) (goal : Goal) (copied value : CopiedTo) (word base given : List ℕ) (source place : Spot) (kind : Kind) (result : Result (Unit {0}) CommandError) (world new : WorldData)
    → given ≡ base → run (attempt (base_for goal word)) world ≡ Ok (base, world) → run (find files word manner.follow) world ≡ Ok (source, world)
    → run (attempt (copyable manner (kind_at world files source))) world ≡ Ok (kind, world) → run (attempt (place_for goal given)) world ≡ Ok (place, world)
    → RanTo (run (copy_kind (copy_below 1024 files manner) files manner copied source place kind) world) result value new → RanTo (run (copy_object files manner goal copied word) world) result value new
object_on files manner goal copied value word base given source place kind result world new same based found there placed then =
    let below = copy_below 1024 files manner in
    left_on (run (attempt (base_for goal word)) world)
    (λ base. run (find files word manner.follow >>= λ source. Look >>= λ world. attempt (copyable manner (kind_at world files source)) >>= λ kind. attempt (place_for goal base) >>= λ place. copy_kind below files manner copied source place kind))
    base world new result value based
    (left_on (run (find files word manner.follow) world)
    (λ source. run (Look >>= λ world. attempt (copyable manner (kind_at world files source)) >>= λ kind. attempt (place_for goal base) >>= λ place. copy_kind below files manner copied source place kind))
    source world new result value found
    (left_on (run (attempt (copyable manner (kind_at world files source))) world) (λ kind. run (attempt (place_for goal base) >>= λ place. copy_kind below files manner copied source place kind)) kind world new result value there
    (left_on (run (attempt (place_for goal base)) world) (λ place. run (copy_kind below files manner copied source place kind)) place world new result value
    (ap (λ (b : List ℕ). run (attempt (place_for goal b)) world) (sym same) ∙ placed) then)))

-- the sources to the goal
pub cp_on : (files : FileMap) (manner : Manner) (into : Option (List ℕ)) (operands sources : Names) (goal : Goal) (result : Result (Unit {0}) CommandError) (world middle new : WorldData)
    → sources ≡ sources_of into operands → run (goal_for files false into operands) world ≡ Ok (goal, middle)
    → Ran (run (copy_sources files manner sources goal) middle) result new → Ran (run (cp files manner into operands) world) result new
cp_on files manner into operands sources goal result world middle new same is then =
    ran_on (run (goal_for files false into operands) world) (λ goal. run (copy_sources files manner (sources_of into operands) goal)) goal middle new result is
    (subst (λ (s : Names). Ran (run (copy_sources files manner s goal) middle) result new) same then)
