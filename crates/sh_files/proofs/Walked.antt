-- Folders made one after another.
use Rattle.std.proofs.Common.{ℕ, ◌≡◌, Bool, false, List, [], ◌∷◌, ◌++◌, length, All, Ok, refl, sym, ap, subst, ◌∙◌}
use Rattle.std.specs.Prelude.{IsTrue, ◌==◌, ◌||◌, if◌then◌else◌}
use Rattle.std.specs.List.{list_all}
use Rattle.std.proofs.lemmas.Bool.{true≢false}
use Rattle.std.proofs.lemmas.List.Elements.{All-append, All-cons, All-head}
use Rattle.br_path.specs.Path.{Names, is_name_byte}
use Rattle.br_path.specs.Files.{FileMap}
use Rattle.tree_ops.specs.Walk.{IsWalk}
use Rattle.tree_worlds.specs.World.{WorldData}
use Rattle.tree_worlds.specs.Program.{run, go_on}
use Rattle.sh_places.specs.declared.spot.Site.{Site}
use Rattle.sh_files.specs.Folders.{ensure_folder, ensure_folders, is_dots, is_empty}

-- one more step of a walk
pub walk-longer : (front name walk : List ℕ) → walk ≡ front ++ 47 ∷ name → IsWalk front → IsWalk name → IsWalk walk
walk-longer front name walk is one two = subst IsWalk (sym is) (All-append IsByte front (47 ∷ name) one (All-cons IsByte 47 name refl two))
  where
    IsByte : ℕ → Type 0
    IsByte byte = IsTrue (byte == 47 || is_name_byte byte)

-- the first folder is there, and then the others
pub folders-on : (files : FileMap) (site : Site) (mode own : ℕ) (front walk name : List ℕ) (more all : Names) (world new : WorldData) → all ≡ name ∷ more → walk ≡ front ++ 47 ∷ name → own ≡ (if list_all is_dots more then mode else 493)
    → run (ensure_folder files site own walk) world ≡ Ok (tt, new) → run (ensure_folders files site mode walk more) new ≡ run (ensure_folders files site mode front all) world
folders-on files site mode own front walk name more all world new is longer by done =
    ap (λ (w : List ℕ). run (ensure_folders files site mode w more) new) longer
    ∙ sym (
    ap (λ (names : Names). run (ensure_folders files site mode front names) world) is
    ∙ ap (λ o. go_on o (λ _. run (ensure_folders files site mode (front ++ 47 ∷ name) more)))
    (ap (λ (w : List ℕ). run (ensure_folder files site (if list_all is_dots more then mode else 493) w) world) (sym longer) ∙ ap (λ m. run (ensure_folder files site m walk) world) (sym by) ∙ done)
    )

-- the next name of a list of walks is a walk
pub next-walk : (all more : Names) (name given : List ℕ) → all ≡ name ∷ more → given ≡ name → All IsWalk all → IsWalk given
next-walk all more name given is same walks = subst IsWalk (sym same) (All-head IsWalk name more (subst (All IsWalk) is walks))

-- where there are operands
pub not-empty : (words : Names) (b : Bool) → b ≡ (length words == 0) → b ≡ false → is_empty words ≡ false
not-empty [] b is other = absurd (true≢false (sym is ∙ other))
not-empty (word ∷ words) b is other = refl
