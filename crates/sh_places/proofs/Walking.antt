-- Where walks and names lead, and the parts of texts.
use Rattle.std.proofs.Common.{ℕ, ◌≡◌, ◌≤◌, Bool, true, false, List, [], ◌∷◌, ◌++◌, length, filter, reverse, All, Option, Some, None, Ok, Err, inl, inr, refl, sym, ap, subst, ◌∙◌, arith, append-nil}
use Rattle.std.specs.Prelude.{◌≢◌, IsTrue, ◌==◌, ◌||◌, codes, if◌then◌else◌}
use Rattle.std.specs.Cmp.Lexicographic.{same_text}
use Rattle.std.proofs.lemmas.List.{reverse-reverse}
use Rattle.std.proofs.lemmas.List.Elements.{All-nil, All-cons, All-head, All-tail, All-append}
use Rattle.br_path.specs.Path.{Names, IsName, is_name_byte, parts, rooted_text}
use Rattle.br_path.specs.PathFault.{child_fault, IsAnswered}
use Rattle.br_path.specs.Text.{is_text}
use Rattle.br_path.specs.declared.parse.PathFault.{PathFault}
use Rattle.tree_ops.specs.declared.change.ChangeFault.{ChangeFault}
use Rattle.tree_ops.specs.declared.change.ChangeFault.TheVariants.{Outside, TooLong, Memory}
use Rattle.tree_ops.specs.Tree.{Tree}
use Rattle.tree_ops.specs.Walk.{resolved, is_filled, components, IsWalk}
use Rattle.tree_ops.specs.Walking as walking
use Rattle.tree_ops.specs.Walking.{IsNamed, refused}
use Rattle.tree_ops.proofs.Walks.{named-refused, put-steps}
use Rattle.tree_worlds.specs.World.{WorldData}
use Rattle.tree_worlds.specs.HeldWorld.{error_of}
use Rattle.tree_worlds.specs.Program.{run, Ran}
use Rattle.tree_worlds.specs.declared.reason.CommandError.{CommandError}
use Rattle.tree_worlds.specs.declared.reason.CommandError.TheVariants.{Memory as no_memory}
use Rattle.tree_worlds.specs.declared.reason.Reason.TheVariants.{Change as for_change}
use Rattle.sh_places.specs.declared.spot.Site.{Site}
use Rattle.sh_places.specs.declared.spot.Spot.{Spot}
use Rattle.sh_places.specs.Finding.{spot, walked_in, place_below, IsStep}
use Rattle.sh_places.specs.Parts.{told, attempt}

-- 1. Walks.

-- there is no tree
pub walk-none : (site : Site) (walk : List ℕ) (follow : Bool) (outer : Option Tree) (error : CommandError) (world : WorldData) → None ≡ outer → error ≡ error_of Outside
    → Ran (run (attempt (walked_in site walk follow outer)) world) (Err error) world
walk-none site walk follow outer error world none is =
    subst (λ (o : Option Tree). Ran (run (attempt (walked_in site walk follow o)) world) (Err error) world) none
    (subst (λ (e : CommandError). Ran (run (attempt (walked_in site walk follow None)) world) (Err e) world) (sym is) refl)

-- the walk leads to a path
pub walk-ok : (site : Site) (walk : List ℕ) (follow : Bool) (outer : Option Tree) (tree : Tree) (path : Names) (world : WorldData) → Some tree ≡ outer → resolved tree walk follow ≡ Ok path
    → Ran (run (attempt (walked_in site walk follow outer)) world) (Ok (spot site path)) world
walk-ok site walk follow outer tree path world some leads =
    subst (λ (o : Option Tree). Ran (run (attempt (walked_in site walk follow o)) world) (Ok (spot site path)) world) some (rw leads refl)

at_fault : (site : Site) (walk : List ℕ) (follow : Bool) (tree : Tree) (fault : ChangeFault) (world : WorldData) → (fault ≢ Memory → resolved tree walk follow ≡ Err fault)
    → Ran (run (attempt (walked_in site walk follow (Some tree))) world) (Err (error_of fault)) world
at_fault site walk follow tree Memory world leads = tt
at_fault site walk follow tree fault world leads = rw (leads (λ same. cc)) refl

-- the walk has a fault
pub walk-err : (site : Site) (walk : List ℕ) (follow : Bool) (outer : Option Tree) (tree : Tree) (fault : ChangeFault) (error : CommandError) (world : WorldData) → Some tree ≡ outer
    → (fault ≢ Memory → resolved tree walk follow ≡ Err fault) → error ≡ error_of fault → Ran (run (attempt (walked_in site walk follow outer)) world) (Err error) world
walk-err site walk follow outer tree fault error world some leads is =
    subst (λ (o : Option Tree). Ran (run (attempt (walked_in site walk follow o)) world) (Err error) world) some
    (subst (λ (e : CommandError). Ran (run (attempt (walked_in site walk follow (Some tree))) world) (Err e) world) (sym is) (at_fault site walk follow tree fault world leads))

-- 2. A name in a folder.

-- two texts that differ
other : (name text : List ℕ) → name ≢ text → is_text name text ≡ false
other name text differ = by (is_text name text) refl
  where
    by : (b : Bool) → is_text name text ≡ b → is_text name text ≡ false
    by true is = absurd (differ (same_text name text (sym is)))
    by false is = is

-- a name that is refused is too long
pub below-refused : (folder : Spot) (name : List ℕ) (fault : PathFault) (error : CommandError) → IsStep name → IsAnswered (child_fault folder.path name) fault → error ≡ error_of (refused fault)
    → error ≢ no_memory → told (place_below folder name) ≡ Err error
below-refused folder name fault error step answered is differs =
    by (refused fault) is (named-refused folder.path name fault (record { filled = step.filled; printable = step.printable }) (other name (codes ".") step.not_self) (other name (codes "..") step.not_parent) answered)
  where
    by : (why : ChangeFault) → error ≡ error_of why → IsNamed folder.path name (Err why) → told (place_below folder name) ≡ Err error
    by why is (inl memory) = absurd (differs (is ∙ ap error_of memory))
    by why is (inr long) =
        ap (λ b. told (if b then Err (for_change TooLong) else Ok (spot folder.site (folder.path ++ name ∷ [])))) long.1 ∙ ap Err (sym (is ∙ ap error_of long.0))

-- 3. Components.

-- none is empty
pub components-filled : (text : List ℕ) → All (λ name. 1 ≤ length name) (components text)
components-filled text = kept (parts text)
  where
    IsFilled : List ℕ → Type 0
    IsFilled name = 1 ≤ length name

    kept : (names : Names) → All (λ name. 1 ≤ length name) (filter is_filled names)
    kept [] = All-nil (λ name. 1 ≤ length name)
    kept ([] ∷ names) = kept names
    kept ((byte ∷ bytes) ∷ names) = All-cons (λ name. 1 ≤ length name) (byte ∷ bytes) (filter is_filled names) (omega arith) (kept names)

abbrev IsByte : ℕ → Type 0
IsByte byte = IsTrue (byte == 47 || is_name_byte byte)

or_right : (a b : Bool) → IsTrue b → IsTrue (a || b)
or_right true b is = refl
or_right false b is = is

name-walk : (name : List ℕ) → All (λ byte. IsTrue (is_name_byte byte)) name → IsWalk name
name-walk [] all = All-nil IsByte
name-walk (byte ∷ bytes) all =
    All-cons IsByte byte bytes (or_right (byte == 47) (is_name_byte byte) (All-head (λ byte. IsTrue (is_name_byte byte)) byte bytes all)) (name-walk bytes (All-tail (λ byte. IsTrue (is_name_byte byte)) byte bytes all))

steps-walks : (names : Names) → All walking.IsStep names → All IsWalk names
steps-walks [] all = All-nil IsWalk
steps-walks (name ∷ names) all = All-cons IsWalk name names (name-walk name (All-head walking.IsStep name names all).printable) (steps-walks names (All-tail walking.IsStep name names all))

-- those of a walk are walks
pub components-walks : (text : List ℕ) → IsWalk text → All IsWalk (components text)
components-walks text walk =
    subst (All IsWalk) (reverse-reverse (components text))
    (steps-walks (reverse (reverse (components text))) (put-steps text (reverse (components text)) [] walk (reverse-reverse (components text) ∙ sym (append-nil (components text))) (All-nil walking.IsStep)))

-- 4. The walk from the root to a path.

pub rooted-walk : (names : Names) → All IsName names → IsWalk (rooted_text names)
rooted-walk [] all = All-nil IsByte
rooted-walk (name ∷ names) all =
    All-cons IsByte 47 (name ++ rooted_text names) refl
    (All-append IsByte name (rooted_text names) (name-walk name (All-head IsName name names all).printable) (rooted-walk names (All-tail IsName name names all)))
