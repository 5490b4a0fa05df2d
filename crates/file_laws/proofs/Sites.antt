-- Sites that are compared, and the place of a source at its goal.
use Rattle.std.proofs.Common.{ℕ, ◌≡◌, ◌≢◌, Bool, true, false, not, cond, ◌&&◌, List, Option, Some, None, Result, Ok, Err, refl, sym, ap, ◌∙◌}
use Rattle.std.specs.Option.{option_map}
use Rattle.std.proofs.lemmas.Bool.{true≢false}
use Rattle.br_path.specs.Files.{FileMap}
use Rattle.br_path.specs.declared.area.Area.{Area}
use Rattle.br_path.specs.declared.area.Area.TheVariants.{Build, Host, Staging, Target}
use Rattle.br_path.proofs.Paths.{names_decide}
use Rattle.tree_ops.specs.declared.entry.Label.{Label}
use Rattle.tree_ops.specs.declared.entry.Node.{Node}
use Rattle.tree_ops.specs.declared.entry.Node.TheVariants as nodes
use Rattle.tree_ops.specs.Tree as trees
use Rattle.tree_ops.specs.Tree.{node_at}
use Rattle.tree_ops.specs.Change.{is_path}
use Rattle.tree_ops.specs.declared.change.ChangeFault.TheVariants.{Crosses}
use Rattle.tree_worlds.specs.World.{WorldData, tree_in}
use Rattle.tree_worlds.specs.declared.reason.Reason.{Reason}
use Rattle.tree_worlds.specs.declared.reason.Reason.TheVariants.{Change as for_change}
use Rattle.tree_worlds.specs.Program.{Program, ◌>>=◌, run}
use Rattle.sh_places.specs.declared.spot.Site.{Site}
use Rattle.sh_places.specs.declared.spot.Site.TheVariants.{Tree, Readable, Input}
use Rattle.sh_places.specs.declared.spot.Spot.{Spot}
use Rattle.sh_places.specs.declared.kind.Kind.TheVariants.{File}
use Rattle.sh_places.specs.Spot.{is_area, is_site, is_spot}
use Rattle.sh_places.specs.Looks.{kind_of, kind_at, kind_on}
use Rattle.sh_places.specs.Parts.{attempt}
use Rattle.sh_files.specs.Goals.{place_for, goal_place}
use Rattle.sh_files.specs.Linking.{crosses, within, place_within}
use Rattle.file_laws.specs.Words.{GoesThrough, stands}
use Rattle.file_laws.proofs.Through.{never}

pub same-area : (area other : Area) → is_area area other ≡ true → area ≡ other
same-area Build Build is = refl
same-area Build Host is = absurd (true≢false (sym is))
same-area Build Staging is = absurd (true≢false (sym is))
same-area Build Target is = absurd (true≢false (sym is))
same-area Host Build is = absurd (true≢false (sym is))
same-area Host Host is = refl
same-area Host Staging is = absurd (true≢false (sym is))
same-area Host Target is = absurd (true≢false (sym is))
same-area Staging Build is = absurd (true≢false (sym is))
same-area Staging Host is = absurd (true≢false (sym is))
same-area Staging Staging is = refl
same-area Staging Target is = absurd (true≢false (sym is))
same-area Target Build is = absurd (true≢false (sym is))
same-area Target Host is = absurd (true≢false (sym is))
same-area Target Staging is = absurd (true≢false (sym is))
same-area Target Target is = refl

pub area-itself : (area : Area) → is_area area area ≡ true
area-itself Build = refl
area-itself Host = refl
area-itself Staging = refl
area-itself Target = refl

not_false : (b : Bool) → not b ≡ false → b ≡ true
not_false true is = refl
not_false false is = absurd (true≢false is)

-- a source that doesn't cross into an area is in it
crosses-none : (site : Site) (area : Area) → crosses site (Tree area) ≡ false → site ≡ Tree area
crosses-none (Tree own) area is = ap Tree (same-area own area (not_false (is_area own area) is))
crosses-none (Readable task) area is = absurd (true≢false is)
crosses-none Input area is = absurd (true≢false is)

within-none : (test : Bool) → cond {A = Result (Unit {0}) Reason} test (Err (for_change Crosses)) (Ok tt) ≡ Ok tt → test ≡ false
within-none true is = cc
within-none false is = refl

-- a source that has its place within its own tree
pub within-through : {A : Type 0} (site : Site) (goal : _) (base : List ℕ) (place : Spot) (next : Spot → Program A) (old new : WorldData) → place_for goal base ≡ Ok place
    → GoesThrough (place_within site goal base >>= next) old new → (within site goal ≡ Ok tt) × GoesThrough (next place) old new
within-through {A} site goal base place next old new is goes = by (within site goal) refl goes
  where
    by : (outcome : Result (Unit {0}) Reason) → within site goal ≡ outcome → GoesThrough ((attempt outcome >>= λ _. attempt (place_for goal base)) >>= next) old new → (within site goal ≡ Ok tt) × GoesThrough (next place) old new
    by (Ok done) w goes = (w, (goes.0, sym (ap (λ o. run (attempt o >>= next) old) is) ∙ goes.1))
    by (Err reason) w goes = absurd (never (reason, old) (goes.0, new) goes.1)

pub within-site : (site : Site) (goal : _) (place : Spot) (area : Area) → (goal_place goal).site ≡ place.site → within site goal ≡ Ok tt → place.site ≡ Tree area → site ≡ Tree area
within-site site goal place area same stays at =
    let goal_site : (goal_place goal).site ≡ Tree area = same ∙ at in
    crosses-none site area (sym (ap (crosses site) goal_site) ∙ within-none (crosses site (goal_place goal).site) stays)

-- places of one tree that are no one place have two paths
pub apart-paths : (source place : Spot) (area : Area) → source.site ≡ Tree area → place.site ≡ Tree area → is_spot source place ≡ false → source.path ≢ place.path
apart-paths source place area first second apart same =
    true≢false (sym (both (is_site source.site place.site) (is_path source.path place.path) ((λ i. is_site (first i) (second i)) ∙ area-itself area) ((names_decide source.path place.path).1 same)) ∙ apart)
  where
    both : (a b : Bool) → a ≡ true → b ≡ true → (a && b) ≡ true
    both a b first second = ap (λ a. a && b) first ∙ second

-- a file as it stands in the tree
pub file-node : (node : Option Node) (label : Label) → option_map kind_of (option_map trees.kind_of node) ≡ Some (File (Some label)) → node ≡ Some (nodes.File label)
file-node None label is = cc
file-node (Some (nodes.Dir mode)) label is = cc
file-node (Some (nodes.Link text)) label is = cc
file-node (Some (nodes.File own)) label is = let same : own ≡ label = cc in ap (λ (l : Label). Some (nodes.File l)) same

pub file-stands : (world : WorldData) (files : FileMap) (source : Spot) (area : Area) (label : Label) → source.site ≡ Tree area → kind_at world files source ≡ Some (File (Some label)) → stands world area source.path ≡ Some (nodes.File label)
file-stands world files source area label at is = file-node (node_at (tree_in world.trees area) source.path) label (sym (ap (kind_on world files source.path) at) ∙ is)
