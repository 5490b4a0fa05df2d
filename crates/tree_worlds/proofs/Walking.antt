-- The walk of an operand has only bytes that a walk may have.
use Rattle.std.proofs.Common.{ℕ, ◌≡◌, Bool, true, false, List, Option, Some, None, Result, Ok, Err, refl, ap, subst, ◌==◌, get_or}
use Rattle.std.specs.Prelude.{IsTrue, IfOk, ◌&&◌, ◌||◌, not, nat_le, if◌then◌else◌, codes}
use Rattle.std.specs.List.{list_all, list_any}
use Rattle.std.proofs.lemmas.Bool.{and_parts}
use Rattle.std.proofs.lemmas.List.Elements.{All-drop}
use Rattle.std.proofs.lemmas.List.Sums.{AllPass-from_list_all}
use Rattle.br_path.specs.Path.{Names, is_name_byte}
use Rattle.br_path.specs.Files.{FileMap}
use Rattle.br_path.specs.Gives.{Gives}
use Rattle.br_path.specs.Text.{is_text}
use Rattle.br_path.specs.declared.area.Area.{Area}
use Rattle.br_path.specs.declared.area.Area.TheVariants.{Build}
use Rattle.tree_ops.specs.Walk.{IsWalk, is_filled, begins_at_root}
use Rattle.tree_ops.specs.declared.change.ChangeFault.TheVariants.{Outside, Absent}
use Rattle.tree_worlds.specs.declared.operand.Operand.{Operand}
use Rattle.tree_worlds.specs.declared.operand.Operand.TheVariants.{Input, Place}
use Rattle.tree_worlds.specs.declared.reason.Reason.TheVariants.{Operand as no_operand, Change as for_change}
use Rattle.tree_worlds.specs.declared.reason.CommandError.{CommandError}
use Rattle.tree_worlds.specs.declared.reason.CommandError.TheVariants.{Memory}
use Rattle.tree_worlds.specs.World.{WorldData}
use Rattle.tree_worlds.specs.Operand.{Named, HasWalk, up_to, unrooted, first_of, behind, area_of, in_area, readable_of, in_readable, in_build, in_output, place_of, is_operand, operand_of, input_of, found, names_of, is_parent, is_within, is_there, told}

abbrev Walks : Named → Type 0
Walks named = IfOk named HasWalk

either : (b : Bool) (first second : Named) → Walks first → Walks second → Walks (if b then first else second)
either true first second one two = one
either false first second one two = two

-- a byte that an operand may have
printable : (inside slash : Bool) → inside ≡ true → (slash || (inside && not slash)) ≡ true
printable inside true is = refl
printable inside false is = ap (λ b. b && true) is

word-walk : (word : List ℕ) → is_operand word ≡ true → IsWalk word
word-walk word is =
    let all = AllPass-from_list_all (λ byte. nat_le 32 byte && nat_le byte 126) word (and_parts (is_filled word) (list_all (λ byte. nat_le 32 byte && nat_le byte 126) word) is).1 in
    λ k d less. printable (nat_le 32 (get_or word k d) && nat_le (get_or word k d) 126) (get_or word k d == 47) (all k d less)

behind-walk : (text : List ℕ) → IsWalk text → IsWalk (behind text)
behind-walk text walk =
    All-drop (λ byte. IsTrue (byte == 47 || is_name_byte byte)) (up_to (λ byte. byte == 47) (unrooted text)) (unrooted text)
    (All-drop (λ byte. IsTrue (byte == 47 || is_name_byte byte)) (up_to (λ byte. not (byte == 47)) text) text walk)

abbrev outside : Named
outside = Err (for_change Outside)

area-walk : (area : Option Area) (walk : List ℕ) → IsWalk walk → Walks (in_area area walk)
area-walk None walk is = tt
area-walk (Some area) walk is = is

readable-walk : (task : Option ℕ) (walk : List ℕ) → IsWalk walk → Walks (in_readable task walk)
readable-walk None walk is = tt
readable-walk (Some task) walk is = is

build-walk : (world : WorldData) (text : List ℕ) → IsWalk text → Walks (in_build world text)
build-walk world text is =
    let readable = in_readable (readable_of world.shown (first_of text)) (behind text) in
    let other : Named = if world.prep then readable else outside in
    either (not (is_filled (first_of text))) outside (if is_text (first_of text) world.owner then Ok (Place Build (behind text)) else other) tt
    (either (is_text (first_of text) world.owner) (Ok (Place Build (behind text))) other (behind-walk text is)
    (either world.prep readable outside (readable-walk (readable_of world.shown (first_of text)) (behind text) (behind-walk text is)) tt))

output-walk : (world : WorldData) (text : List ℕ) → IsWalk text → Walks (in_output world text)
output-walk world text is =
    either (is_text (first_of text) (codes "build")) (in_build world (behind text)) (in_area (area_of (first_of text)) (behind text))
    (build-walk world (behind text) (behind-walk text is)) (area-walk (area_of (first_of text)) (behind text) (behind-walk text is))

place-walk : (world : WorldData) (text : List ℕ) → IsWalk text → Walks (place_of world text)
place-walk world text is = either (is_text (first_of text) (codes "output")) (in_output world (behind text)) outside (output-walk world (behind text) (behind-walk text is)) tt

found-walk : (folder : Names) (files : FileMap) (names : Names) → Walks (found folder files names)
found-walk folder files names = either (is_there folder files names) (Ok (Input names)) (Err (for_change Absent)) tt tt

input-walk : (folder : Names) (files : FileMap) (names : Names) → Walks (input_of folder files names)
input-walk folder files names =
    either (list_any is_parent names) outside (if is_within folder names then found folder files names else outside) tt
    (either (is_within folder names) (found folder files names) outside (found-walk folder files names) tt)

operand-walk : (world : WorldData) (files : FileMap) (word : List ℕ) → Walks (operand_of world files word)
operand-walk world files word = by (is_operand word) refl
  where
    by : (b : Bool) → is_operand word ≡ b → Walks (if not b then Err no_operand else if begins_at_root word then place_of world word else input_of world.folder files (names_of word))
    by true is = either (begins_at_root word) (place_of world word) (input_of world.folder files (names_of word)) (place-walk world word (word-walk word is)) (input-walk world.folder files (names_of word))
    by false is = tt

walk-told : (named : Named) (operand : Operand) → Walks named → told named ≡ Ok operand → HasWalk operand
walk-told (Ok other) operand walks is = let same : other ≡ operand = cc in subst HasWalk same walks
walk-told (Err reason) operand walks is = cc

-- what a call answers for a word
pub walk-given : (world : WorldData) (files : FileMap) (word : List ℕ) (result : Result Operand CommandError) → Gives Memory (told (operand_of world files word)) result → IfOk result HasWalk
walk-given world files word (Ok operand) is = walk-told (operand_of world files word) operand (operand-walk world files word) is
walk-given world files word (Err error) is = tt
