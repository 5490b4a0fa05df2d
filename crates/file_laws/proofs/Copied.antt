-- A whole copy: where it goes, and what it leaves.
use Rattle.std.proofs.Common.{ℕ, ◌≡◌, ◌⊎◌, ◌+◌, ◌≤◌, inl, inr, Bool, true, false, ◌&&◌, List, [], ◌∷◌, ◌++◌, length, Option, Some, None, Result, Ok, Err, refl, sym, ap, ◌∙◌, arith}
use Rattle.std.specs.FinMap as fin
use Rattle.std.specs.Option.{option_map}
use Rattle.std.specs.Prelude.{if◌then◌else◌}
use Rattle.std.proofs.lemmas.Bool.{true≢false}
use Rattle.std.proofs.lemmas.List.{append-nil}
use Rattle.br_path.specs.Path.{Names}
use Rattle.br_path.specs.Files.{FileMap, IsInput}
use Rattle.br_path.specs.declared.area.Area.{Area}
use Rattle.tree_ops.specs.declared.change.ChangeFault.TheVariants.{Loop}
use Rattle.tree_ops.specs.declared.entry.Label.{Label}
use Rattle.tree_ops.specs.declared.entry.Node.{Node}
use Rattle.tree_ops.specs.Tree as trees
use Rattle.tree_ops.specs.Tree.{node_at, label_cmp}
use Rattle.tree_ops.specs.Change.{MakeDir, is_at_or_below}
use Rattle.tree_ops.proofs.Heads.{rest-of_head, head-of_rest}
use Rattle.tree_ops.proofs.Sound.{sound-of, dir-above}
use Rattle.tree_worlds.specs.World.{WorldData, tree_in}
use Rattle.tree_worlds.specs.Program.{Program, ◌>>=◌, run}
use Rattle.tree_worlds.specs.declared.reason.Reason.{Reason}
use Rattle.tree_worlds.specs.declared.reason.Reason.TheVariants.{Change as for_change}
use Rattle.sh_places.specs.declared.kind.Kind.{Kind}
use Rattle.sh_places.specs.declared.kind.Kind.TheVariants.{Dir}
use Rattle.sh_places.specs.declared.spot.Site.{Site}
use Rattle.sh_places.specs.declared.spot.Site.TheVariants.{Tree as in_tree}
use Rattle.sh_places.specs.declared.spot.Spot.{Spot}
use Rattle.sh_places.specs.Spot.{is_site}
use Rattle.sh_places.specs.Looks.{kind_of, kind_at, kind_on}
use Rattle.sh_places.specs.Finding.{spot}
use Rattle.sh_places.specs.Parts.{attempt}
use Rattle.sh_files.specs.Copying.{CopiedTo, apart, followed, followed_from, made_mode, make_copy, copy_folder, copy_below}
use Rattle.file_laws.specs.Words.{stands, IsReachedWorld, Copies}
use Rattle.file_laws.specs.Laws.{CpMakesTree}
use Rattle.file_laws.proofs.Grows.{grows-same}
use Rattle.file_laws.proofs.Seen.{Sees, Outside, sees}
use Rattle.file_laws.proofs.Sites.{area-itself}
use Rattle.file_laws.proofs.Steps.{then-run, attempt-then, known-run}
use Rattle.file_laws.proofs.Through.{act_in-through}
use Rattle.file_laws.proofs.Course.{Course, Manner, Made, itself}
use Rattle.file_laws.proofs.Folders.{folder-made, below-made}

-- 1. Nothing stands at the place, nor below it.

none-kind : (node : Option Node) → option_map kind_of (option_map trees.kind_of node) ≡ None → node ≡ None
none-kind None is = refl
none-kind (Some node) is = cc

none-folder : (what : Option Node) (mode : ℕ) → option_map kind_of (option_map trees.kind_of what) ≡ Some (Dir mode) → what ≡ None → ⊥
none-folder what mode is none =
    let no : None ≡ Some (Dir mode) = sym (ap (λ (n : Option Node). option_map kind_of (option_map trees.kind_of n)) none) ∙ is in cc

none-below : (old : WorldData) (area : Area) (to : Names) → IsReachedWorld old → stands old area to ≡ None → (path : Names) → is_at_or_below to path ≡ true → stands old area path ≡ None
none-below old area to reached none path below = by found.0 found.1
  where
    found : (rest : Names) × (path ≡ to ++ rest)
    found = rest-of_head to path below

    deep : (name : List ℕ) (rest : Names) (node : Option Node) → stands old area (to ++ name ∷ rest) ≡ node → node ≡ None
    deep name rest None is = refl
    deep name rest (Some node) is = absurd (true≢false
        (sym (dir-above (tree_in old.trees area) (sound-of (tree_in old.trees area) (reached.trees (in_tree area) (tree_in old.trees area) refl)) to name rest node is) ∙ ap trees.is_dir none))

    by : (rest : Names) → path ≡ to ++ rest → stands old area path ≡ None
    by [] same = ap (stands old area) (same ∙ append-nil to) ∙ none
    by (name ∷ rest) same = ap (stands old area) same ∙ deep name rest (stands old area (to ++ name ∷ rest)) refl

-- so it isn't the root
not-root : (old : WorldData) (area : Area) (to : Names) → IsReachedWorld old → stands old area to ≡ None → 1 ≤ length to
not-root old area [] reached none =
    absurd (true≢false (sym (sound-of (tree_in old.trees area) (reached.trees (in_tree area) (tree_in old.trees area) refl)).root ∙ ap trees.is_dir none))
not-root old area (name ∷ to) reached none = omega arith

-- 2. The place is apart from the source.

-- of two paths above a third one is above the other
one-above : (root to more rest : Names) → root ++ more ≡ to ++ rest → ((x : Names) × (to ≡ root ++ x)) ⊎ ((x : Names) × (root ≡ to ++ x))
one-above [] to more rest same = inl (to, refl)
one-above (name ∷ root) [] more rest same = inr (name ∷ root, refl)
one-above (name ∷ root) (other ∷ to) more rest same = elim (one-above root to more rest (later name other (root ++ more) (to ++ rest) same)) [
  | inl found ↦ inl (found.0, λ i. sym (first name other (root ++ more) (to ++ rest) same) i ∷ found.1 i)
  | inr found ↦ inr (found.0, λ i. first name other (root ++ more) (to ++ rest) same i ∷ found.1 i)
]
  where
    first : (a b : List ℕ) (xs ys : Names) → a ∷ xs ≡ b ∷ ys → a ≡ b
    first a b xs ys same = cc

    later : (a b : List ℕ) (xs ys : Names) → a ∷ xs ≡ b ∷ ys → xs ≡ ys
    later a b xs ys same = cc

apart-not : (test : Bool) (value : Unit {0}) → ◌≡◌ {A = Result (Unit {0}) Reason} (if test then Err (for_change Loop) else Ok tt) (Ok value) → test ≡ false
apart-not true value is = cc
apart-not false value is = refl

module _ (files : FileMap) (site : Site) (root : Names) (area : Area) (to : Names) (mode : ℕ) (old : WorldData) (reached : IsReachedWorld old) where
  source-apart : is_site site (in_tree area) && is_at_or_below root to ≡ false → kind_at old files (spot site root) ≡ Some (Dir mode) → stands old area to ≡ None
      → (path : Names) → site ≡ in_tree area → is_at_or_below root path ≡ true → Outside to path
  source-apart test is none path here below = by (is_at_or_below to path) refl
    where
      not-above : is_at_or_below root to ≡ false
      not-above = sym (ap (λ b. b && is_at_or_below root to) (ap (λ (s : Site). is_site s (in_tree area)) here ∙ area-itself area)) ∙ test

      never : ((x : Names) × (to ≡ root ++ x)) ⊎ ((x : Names) × (root ≡ to ++ x)) → ⊥
      never (inl found) = true≢false (sym (ap (is_at_or_below root) found.1 ∙ head-of_rest root found.0) ∙ not-above)
      never (inr found) = none-folder (node_at (tree_in old.trees area) root) mode (sym (ap (kind_on old files root) here) ∙ is)
          (none-below old area to reached none root (ap (is_at_or_below to) found.1 ∙ head-of_rest to found.0))

      by : (b : Bool) → is_at_or_below to path ≡ b → b ≡ false
      by false is = refl
      by true under = let one = rest-of_head root path below in let two = rest-of_head to path under in absurd (never (one-above root to one.0 two.0 (sym one.1 ∙ two.1)))

-- 3. The copy.

module _ (files : FileMap) (manner : Manner) (input : IsInput files) where
  abbrev copying : Spot → ℕ → Spot → Program CopiedTo
  copying source mode place = copy_folder (copy_below 1024 files manner) files manner fin.empty source mode place

  tree-copied : (site : Site) (root : Names) (area : Area) (to : Names) (mode : ℕ) (old new : WorldData) (more : CopiedTo) → IsReachedWorld old → is_site site (in_tree area) && is_at_or_below root to ≡ false
      → kind_at old files (spot site root) ≡ Some (Dir mode) → stands old area to ≡ None → run (copying (spot site root) mode (spot (in_tree area) to)) old ≡ Ok (more, new)
      → Copies files (made_mode manner) (spot site root) area to old new
  tree-copied site root area to mode old new more reached test is none ran =
      let c : Course = record { files = files; manner = manner; site = site; root = root; area = area; to = to; old = old } in
      let seen : Sees files site root area to old = sees files root area to old input reached site (source-apart files site root area to mode old reached test is none) in
      let filled = not-root old area to reached none in
      let made : Made c root to more old new = folder-made c seen filled (copy_below 1024 files manner) 1024 (below-made c seen filled 1024) root to mode fin.empty more old new
      (record { within = itself root; inside = itself to; deep = refl; course = grows-same area (Outside to) old })
      (none-below old area to reached none) is
      (λ label first there from also. absurd (nothing label first there)) ran in
      record {
        copied = made.copies;
        others = made.grows.others;
        contents = λ label had there. made.grows.contents label (λ own. reached.drawn area label had there own) ∙ there;
        areas = made.grows.areas;
      }
    where
      nothing : (label : Label) (first : Spot) → fin.get (fin.empty {X = Spot} {R = label_cmp}) label ≡ Some first → ⊥
      nothing label first there = let no : None ≡ Some first = sym (fin.get-empty label_cmp label) ∙ there in cc

  -- where a copy goes: to one of the task's trees, and apart from its source
  record IsGoing (source place : Spot) : Type 0 where
    area : Area
    site : place.site ≡ in_tree area
    test : is_site source.site place.site && is_at_or_below source.path place.path ≡ false

  going : (source place : Spot) (mode : ℕ) (old new : WorldData) (more : CopiedTo) → kind_at old files place ≡ None → run (copying source mode place) old ≡ Ok (more, new) → IsGoing source place
  going source place mode old new more none ran =
      let below = copy_below 1024 files manner in
      let one = attempt-then (apart source place)
      (λ _. attempt (followed old files place) >>= λ at. attempt (apart source at) >>= λ _. make_copy manner mode at (kind_at old files at) >>= λ _. below fin.empty source at) old new more ran in
      let two = known-run (followed old files place)
      (λ at. attempt (apart source at) >>= λ _. make_copy manner mode at (kind_at old files at) >>= λ _. below fin.empty source at) old new more place (ap (followed_from old place) none) one.2 in
      let three = attempt-then (apart source place) (λ _. make_copy manner mode place (kind_at old files place) >>= λ _. below fin.empty source place) old new more two in
      let four : run (make_copy manner mode place None >>= λ _. below fin.empty source place) old ≡ Ok (more, new) =
      sym (ap (λ (k : Option Kind). run (make_copy manner mode place k >>= λ _. below fin.empty source place) old) none) ∙ three.2 in
      let five = then-run (make_copy manner mode place None) (λ _. below fin.empty source place) old new more four in
      let done = act_in-through place.site (MakeDir place.path (made_mode manner mode)) old five.1 (five.0, five.2) in
      record { area = done.0; site = done.1; test = apart-not (is_site source.site place.site && is_at_or_below source.path place.path) one.0 one.1 }

pub cp_tree : CpMakesTree
cp_tree files manner source place mode old new input reached is none goes =
    let to = going files manner input source place mode old new goes.0 none goes.1 in (
      to.area,
      to.site,
      tree-copied files manner input source.site source.path to.area place.path mode old new goes.0 reached
          (sym (ap (λ (s : Site). is_site source.site s && is_at_or_below source.path place.path) to.site) ∙ to.test) is
          (none-kind (node_at (tree_in old.trees to.area) place.path) (sym (ap (kind_on old files place.path) to.site) ∙ none))
          (sym (ap (λ (s : Site). run (copying files manner input source mode (spot s place.path)) old) to.site) ∙ goes.1),
    )
