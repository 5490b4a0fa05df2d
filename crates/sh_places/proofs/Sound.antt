-- What stands in the trees of a world that is held.
use Rattle.std.proofs.Common.{ℕ, ◌≡◌, ◌≤◌, Bool, true, false, List, [], ◌∷◌, map, All, Option, Some, None, Bor, refl, sym, ap, subst, ◌∙◌, arith}
use Rattle.std.specs.Prelude.{◌==◌, if◌then◌else◌}
use Rattle.std.specs.FinMap as fin
use Rattle.std.specs.Option.{is_some, option_copied, option_map, option_and_then, unwrap_or}
use Rattle.std.proofs.lemmas.Bool.{true≢false}
use Rattle.std.proofs.lemmas.List.Elements.{All-head, All-tail}
use Rattle.std.proofs.lemmas.Option.{same_Some}
use Rattle.br_path.specs.Path.{Names}
use Rattle.br_path.specs.Files.{FileMap}
use Rattle.br_path.specs.declared.area.Area.TheVariants.{Build, Host, Staging, Target}
use Rattle.tree_ops.specs.declared.entry.Entry.{Entry}
use Rattle.tree_ops.specs.declared.entry.Label.{Label}
use Rattle.tree_ops.specs.declared.entry.Node.{Node}
use Rattle.tree_ops.specs.declared.entry.Node.TheVariants.{Dir as dir_node, Link as link_node, File as file_node}
use Rattle.tree_ops.specs.Tree as trees
use Rattle.tree_ops.specs.Tree.{Tree, IsTree, IsLinkText, node_at}
use Rattle.tree_worlds.specs.declared.world.World.{World}
use Rattle.tree_worlds.specs.declared.world.ShownTree.{ShownTree}
use Rattle.tree_worlds.specs.World.{WorldData, world_data, readable_data, shown_tree}
use Rattle.tree_worlds.specs.HeldWorld.{IsHeldWorld, IsReadable}
use Rattle.tree_worlds.specs.Operand.{is_file, is_folder}
use Rattle.sh_places.specs.declared.kind.Kind.{Kind}
use Rattle.sh_places.specs.declared.kind.Kind.TheVariants.{Dir, Link, File}
use Rattle.sh_places.specs.declared.spot.Site.{Site}
use Rattle.sh_places.specs.declared.spot.Site.TheVariants.{Tree as in_tree, Readable as in_readable, Input as in_input}
use Rattle.sh_places.specs.declared.spot.Spot.{Spot}
use Rattle.sh_places.specs.Looks.{kind_at, mode_on, tree_of, kind_of, kind_in, kind_on, input_kind, mode_in, text_in, IsModest}

-- 1. The trees are trees.

readable-sound : {T : Type 0} (tree : T → Tree) (sealed : T → Label → Bool) (shown : List (ShownTree T)) (task : ℕ) (found : Tree)
    → All (IsReadable tree sealed) shown → shown_tree (map (readable_data tree) shown) task ≡ Some found → IsTree found
readable-sound tree sealed [] task found all is = absurd cc
readable-sound {T = T} tree sealed (first ∷ more) task found all is =
    by (first.task == task) (λ later. readable-sound tree sealed more task found (All-tail (IsReadable tree sealed) first more all) later) is
  where
    by : (b : Bool) → (shown_tree (map (readable_data tree) more) task ≡ Some found → IsTree found)
        → (if b then Some (tree first.tree) else shown_tree (map (readable_data tree) more) task) ≡ Some found → IsTree found
    by true rest is = subst IsTree (same_Some _ _ is) (All-head (IsReadable tree sealed) first more all).sound
    by false rest is = rest is

-- the tree of a site is one
pub site-sound : {T : Type 0} (tree : T → Tree) (sealed : T → Label → Bool) (world : World T) (site : Site) (found : Tree) → IsHeldWorld tree sealed world → Some found ≡ tree_of (world_data tree world) site → IsTree found
site-sound tree sealed world (in_tree Build) found held is = subst IsTree (sym (same_Some _ _ is)) held.build.sound
site-sound tree sealed world (in_tree Host) found held is = subst IsTree (sym (same_Some _ _ is)) held.host.sound
site-sound tree sealed world (in_tree Staging) found held is = subst IsTree (sym (same_Some _ _ is)) held.staging.sound
site-sound tree sealed world (in_tree Target) found held is = subst IsTree (sym (same_Some _ _ is)) held.target.sound
site-sound tree sealed world (in_readable task) found held is = readable-sound tree sealed world.shown task found held.shown (sym is)
site-sound tree sealed world in_input found held is = absurd cc

-- the tree after a reference
pub behind_ref : {T : Type 0} (tree : T → Tree) (found : Option (Bor T)) → option_map (λ t. tree t.now) found ≡ option_map tree (option_copied found)
behind_ref tree None = refl
behind_ref tree (Some t) = refl

-- 2. Modes.

-- a mode within its limit, or none
mode-within : (mode : Option ℕ) → ((m : ℕ) → mode ≡ Some m → m ≤ 4095) → unwrap_or mode 0 ≤ 4095
mode-within None within = omega arith
mode-within (Some m) within = within m refl

-- a mode of a held world is at most 07777
pub mode-modest : {T : Type 0} (tree : T → Tree) (sealed : T → Label → Bool) (world : World T) (site : Site) (path : Names) → IsHeldWorld tree sealed world → mode_in path (tree_of (world_data tree world) site) ≤ 4095
mode-modest tree sealed world site path held = by (tree_of (world_data tree world) site) (λ found is. site-sound tree sealed world site found held is)
  where
    by : (outer : Option Tree) → ((found : Tree) → Some found ≡ outer → IsTree found) → mode_in path outer ≤ 4095
    by None sound = omega arith
    by (Some found) sound = mode-within (trees.mode_at found path) (λ m is. (sound found refl).modes path m is)

-- what stands at a path of a tree is modest
pub kind-modest : (tree : Tree) (path : Names) (entry : Entry) (kind : Kind) → IsTree tree → Some entry ≡ trees.entry_at tree path → kind ≡ kind_of entry → IsModest kind
kind-modest tree path entry kind sound there is = subst IsModest (sym is) (by (node_at tree path) refl there)
  where
    by : (node : Option Node) → node_at tree path ≡ node → Some entry ≡ option_map trees.kind_of node → IsModest (kind_of entry)
    by None at there = absurd cc
    by (Some (dir_node mode)) at there = subst (λ (e : Entry). IsModest (kind_of e)) (sym (same_Some entry _ there)) (sound.modes path mode (ap (option_and_then (trees.mode_of tree)) at))
    by (Some (link_node text)) at there = subst (λ (e : Entry). IsModest (kind_of e)) (sym (same_Some entry _ there)) tt
    by (Some (file_node label)) at there = subst (λ (e : Entry). IsModest (kind_of e)) (sym (same_Some entry _ there)) tt

-- 3. Texts of links.

no_input_link : (file folder : Bool) → (if file then Some (File None) else if folder then Some (Dir 493) else None) ≡ Some Link → ⊥
no_input_link true folder is = cc
no_input_link false true is = cc
no_input_link false false is = cc

tree-link : (outer : Option Tree) (path : Names) → ((found : Tree) → Some found ≡ outer → IsTree found) → kind_in path outer ≡ Some Link → IsLinkText (text_in path outer)
tree-link None path sound is = absurd cc
tree-link (Some tree) path sound is = by (node_at tree path) refl is
  where
    by : (node : Option Node) → node_at tree path ≡ node → option_map kind_of (option_map trees.kind_of node) ≡ Some Link → IsLinkText (unwrap_or (option_and_then trees.link_text (node_at tree path)) [])
    by None at is = absurd cc
    by (Some (dir_node mode)) at is = absurd cc
    by (Some (link_node text)) at is = subst (λ (n : Option Node). IsLinkText (unwrap_or (option_and_then trees.link_text n) [])) (sym at) ((sound tree refl).links path text at)
    by (Some (file_node label)) at is = absurd cc

-- where a link stands, its text is one
pub link-text : {T : Type 0} (tree : T → Tree) (sealed : T → Label → Bool) (world : World T) (files : FileMap) (path : Names) (site : Site) → IsHeldWorld tree sealed world
    → kind_on (world_data tree world) files path site ≡ Some Link → IsLinkText (text_in path (tree_of (world_data tree world) site))
link-text tree sealed world files path (in_tree area) held is = tree-link (tree_of (world_data tree world) (in_tree area)) path (λ found there. site-sound tree sealed world (in_tree area) found held there) is
link-text tree sealed world files path (in_readable task) held is = tree-link (tree_of (world_data tree world) (in_readable task)) path (λ found there. site-sound tree sealed world (in_readable task) found held there) is
link-text tree sealed world files path in_input held is = absurd (no_input_link (is_file files path) (is_folder files path) is)

-- 4. What of the input stands at a path.

no_file : {X : Type 0} (file : Option (Bor X)) (found : Option X) (some : Bool) → option_copied file ≡ found → some ≡ is_some file → some ≡ false → is_some found ≡ false
no_file None found some is same none = sym (ap is_some is)
no_file (Some bytes) found some is same none = absurd (true≢false (sym same ∙ none))

pub input-dir : (files : FileMap) (path : Names) (file : Option (Bor (List ℕ))) (some : Bool) → option_copied file ≡ fin.get files path → some ≡ is_some file → some ≡ false → is_folder files path ≡ true → Some (Dir 493) ≡ input_kind files path
input-dir files path file some is same none folder = rw (no_file file (fin.get files path) some is same none, folder) refl

pub input-none : (files : FileMap) (path : Names) (file : Option (Bor (List ℕ))) (some : Bool) → option_copied file ≡ fin.get files path → some ≡ is_some file → some ≡ false → is_folder files path ≡ false → None ≡ input_kind files path
input-none files path file some is same none folder = rw (no_file file (fin.get files path) some is same none, folder) refl

-- 5. What is found outside of the input.

pub kind-elsewhere : (world : WorldData) (files : FileMap) (spot : Spot) (tree : Tree) (entry : Entry) (kind : Kind) → (spot.site ≡ in_input → ⊥) → Some tree ≡ tree_of world spot.site → Some entry ≡ trees.entry_at tree spot.path
    → kind ≡ kind_of entry → Some kind ≡ kind_at world files spot
kind-elsewhere world files spot tree entry kind elsewhere found there is = by spot.site elsewhere found
  where
    at : Some kind ≡ kind_in spot.path (Some tree)
    at = ap Some is ∙ ap (option_map kind_of) there

    by : (site : Site) → (site ≡ in_input → ⊥) → Some tree ≡ tree_of world site → Some kind ≡ kind_on world files spot.path site
    by (in_tree area) elsewhere found = at ∙ ap (kind_in spot.path) found
    by (in_readable task) elsewhere found = at ∙ ap (kind_in spot.path) found
    by in_input elsewhere found = absurd (elsewhere refl)

pub mode-elsewhere : (world : WorldData) (path : Names) (site : Site) → (site ≡ in_input → ⊥) → mode_on world path site ≡ mode_in path (tree_of world site)
mode-elsewhere world path (in_tree area) elsewhere = refl
mode-elsewhere world path (in_readable task) elsewhere = refl
mode-elsewhere world path in_input elsewhere = absurd (elsewhere refl)

-- the text after a reference, else the empty one
pub text-found : (path : Names) (outer : Option Tree) (tree : Tree) (text : Option (Bor (List ℕ))) (empty result : Bor (List ℕ)) → Some tree ≡ outer → option_copied text ≡ trees.text_at tree path → empty.now ≡ [] → result ≡ unwrap_or text empty → text_in path outer ≡ result.now
text-found path outer tree text empty result some is none gives =
    sym (ap (text_in path) some) ∙ ap (λ o. unwrap_or o []) (sym is) ∙ by text ∙ ap (λ (r : Bor (List ℕ)). r.now) (sym gives)
  where
    by : (text : Option (Bor (List ℕ))) → unwrap_or (option_copied text) [] ≡ (unwrap_or text empty).now
    by None = sym none
    by (Some t) = refl
