-- The course of a copy: where it comes from and goes, and what it has made so far.
use Rattle.std.proofs.Common.{ℕ, ◌≡◌, ◌≢◌, ◌+◌, Bool, true, false, List, [], ◌∷◌, ◌++◌, length, Option, Some, None, refl, sym, ap, subst, ◌∙◌, arith, length-append}
use Rattle.std.specs.FinMap as fin
use Rattle.std.specs.Option.{option_map}
use Rattle.std.proofs.lemmas.Bool.{true≢false}
use Rattle.std.proofs.lemmas.List.{append-nil}
use Rattle.br_path.specs.Path.{Names}
use Rattle.br_path.specs.Files.{FileMap}
use Rattle.br_path.specs.declared.area.Area.{Area}
use Rattle.tree_ops.specs.declared.entry.Label.{Label}
use Rattle.tree_ops.specs.declared.entry.Node.{Node}
use Rattle.tree_ops.specs.declared.entry.Node.TheVariants as nodes
use Rattle.tree_ops.specs.Tree as trees
use Rattle.tree_ops.specs.Change.{is_at_or_below}
use Rattle.tree_ops.proofs.Heads.{rows, rest-of_head, head-of_rest}
use Rattle.tree_worlds.specs.World.{WorldData}
use Rattle.sh_places.specs.declared.kind.Kind.{Kind}
use Rattle.sh_places.specs.declared.kind.Kind.TheVariants.{Dir, Link, File}
use Rattle.sh_places.specs.declared.spot.Site.{Site}
use Rattle.sh_places.specs.declared.spot.Site.TheVariants.{Tree as in_tree}
use Rattle.sh_places.specs.declared.spot.Spot.{Spot}
use Rattle.sh_places.specs.Looks.{kind_of, kind_at, bytes_at, mode_at}
use Rattle.sh_places.specs.Finding.{spot}
use Rattle.sh_files.specs.Copying.{CopiedTo, made_mode}
use Rattle.sh_files.specs.Goals.{is_dir}
use Rattle.file_laws.specs.Words.{stands, IsCopyOf, IsOwnFile}
use Rattle.file_laws.proofs.Grows.{Grows, Adds, grows-fewer, drawn-old, drawn-later}
use Rattle.file_laws.proofs.Seen.{Sees, Outside}

-- the type of how cp copies, which sh_files doesn't name to others: it is what `made_mode` takes
abbrev domain : {A B : Type 0} → (A → B) → Type 0
domain {A = A} f = A

abbrev pub Manner : Type 0
Manner = domain made_mode

-- what a copy begins with: the source's site and path, the area and path that it goes to, and the world
pub record Course : Type 0 where
  pub files : FileMap
  pub manner : Manner
  pub site : Site
  pub root : Names
  pub area : Area
  pub to : Names
  pub old : WorldData

-- 1. Paths below each other.

-- what stands below a path stands below those above it
pub deeper : (head at path : Names) → is_at_or_below head at ≡ true → is_at_or_below at path ≡ true → is_at_or_below head path ≡ true
deeper head at path one two =
    let first = rest-of_head head at one in
    let second = rest-of_head at path two in
    ap (is_at_or_below head) (second.1 ∙ ap (λ (p : Names). p ++ second.0) first.1 ∙ rows head first.0 second.0) ∙ head-of_rest head (first.0 ++ second.0)

pub outside-deeper : (head at path : Names) → is_at_or_below head at ≡ true → Outside head path → Outside at path
outside-deeper head at path below out = by (is_at_or_below at path) refl
  where
    by : (b : Bool) → is_at_or_below at path ≡ b → b ≡ false
    by true is = absurd (true≢false (sym (deeper head at path below is) ∙ out))
    by false is = refl

pub itself : (at : Names) → is_at_or_below at at ≡ true
itself at = ap (is_at_or_below at) (sym (append-nil at)) ∙ head-of_rest at []

pub entry-below : (head at : Names) (name : List ℕ) → is_at_or_below head at ≡ true → is_at_or_below head (at ++ name ∷ []) ≡ true
entry-below head at name below = deeper head at (at ++ name ∷ []) below (head-of_rest at (name ∷ []))

pub longer : (at : Names) (name : List ℕ) (rest : Names) → at ++ name ∷ rest ≢ at
longer at name rest same = omega (arith, length-append at (name ∷ rest), ap length same)

-- 2. What was made.

module _ (c : Course) where
  abbrev pub Now : WorldData → Type 0
  Now now = Grows c.area (Outside c.to) c.old now

  abbrev pub SourceAt : Names → Option Kind
  SourceAt from = kind_at c.old c.files (spot c.site from)

  -- nothing stands at or below a path
  abbrev pub Bare : Names → WorldData → Type 0
  Bare at now = (path : Names) → is_at_or_below at path ≡ true → stands now c.area path ≡ None

  -- what stands at one path is a copy of what stood at another, of some kind
  abbrev pub KindCopied : Names → Names → WorldData → Option Kind → Type 0
  KindCopied from at now kind = IsCopyOf c.files (made_mode c.manner) (spot c.site from) c.area at c.old now kind

  abbrev pub CopiedAt : Names → Names → WorldData → Type 0
  CopiedAt from at now = KindCopied from at now (SourceAt from)

  abbrev pub FileAt : Names → Names → WorldData → Type 0
  FileAt from at now = IsOwnFile c.area at (made_mode c.manner (mode_at c.old (spot c.site from))) (bytes_at c.old c.files (spot c.site from)) c.old now

  -- the first copy of each label, in the list of what was copied, is one of every name that the label has at the source
  abbrev pub Knows : CopiedTo → WorldData → Type 0
  Knows copied now = (label : Label) (first : Spot) → fin.get copied label ≡ Some first → (from : Names) → SourceAt from ≡ Some (File (Some label)) → FileAt from first.path now

  -- what stood at or below one path was copied to another, and nothing else was made
  pub record Made (from at : Names) (copied : CopiedTo) (now new : WorldData) : Type 0 where
    pub grows : Grows c.area (Outside at) now new
    pub copies : (rest : Names) → CopiedAt (from ++ rest) (at ++ rest) new
    pub knows : Knows copied new

  -- 3. What stays.

  pub file-kept : (left : Names → Type 0) (from at : Names) (now new : WorldData) → Grows c.area left now new → left at → FileAt from at now → FileAt from at new
  file-kept left from at now new grows is file = record {
    label = file.label;
    drawn = drawn-later c.old now new file.label grows.next file.drawn;
    stands_there = grows.others at is ∙ file.stands_there;
    contents = grows.contents file.label (drawn-old c.old now file.label file.drawn) ∙ file.contents;
  }

  kind-kept : (left : Names → Type 0) (from at : Names) (now new : WorldData) (kind : Option Kind) → Grows c.area left now new → left at → KindCopied from at now kind → KindCopied from at new kind
  kind-kept left from at now new None grows is copied = grows.others at is ∙ copied
  kind-kept left from at now new (Some (Dir mode)) grows is copied = grows.others at is ∙ copied
  kind-kept left from at now new (Some Link) grows is copied = grows.others at is ∙ copied
  kind-kept left from at now new (Some (File label)) grows is copied = file-kept left from at now new grows is copied

  pub copy-kept : (left : Names → Type 0) (from at : Names) (now new : WorldData) → Grows c.area left now new → left at → CopiedAt from at now → CopiedAt from at new
  copy-kept left from at now new grows is copied = kind-kept left from at now new (SourceAt from) grows is copied

  pub knows-kept : (left : Names → Type 0) (copied : CopiedTo) (now new : WorldData) → Grows c.area left now new → ((path : Names) (node : Node) → stands now c.area path ≡ Some node → left path)
      → Knows copied now → Knows copied new
  knows-kept left copied now new grows spares knows label first there from is =
      let file = knows label first there from is in
      file-kept left from first.path now new grows (spares first.path (nodes.File file.label) file.stands_there) file

  -- what stands is elsewhere than where nothing stands
  pub not-bare : (at path : Names) (node : Node) (now : WorldData) → Bare at now → stands now c.area path ≡ Some node → path ≢ at
  not-bare at path node now bare there same =
      let no : None ≡ Some node = sym (bare path (ap (is_at_or_below at) same ∙ itself at)) ∙ there in cc

  -- 4. What nothing stands at is a copy of nothing.

  pub none-copied : (from at : Names) (now : WorldData) → SourceAt from ≡ None → stands now c.area at ≡ None → CopiedAt from at now
  none-copied from at now none bare = subst (KindCopied from at now) (sym none) bare

  pub kind-copied : (from at : Names) (now : WorldData) (kind : Kind) → SourceAt from ≡ Some kind → KindCopied from at now (Some kind) → CopiedAt from at now
  kind-copied from at now kind is copied = subst (KindCopied from at now) (sym is) copied

  pub place-none : (at : Names) (now : WorldData) → Bare at now → kind_at now c.files (spot (in_tree c.area) at) ≡ None
  place-none at now bare = ap (λ (n : Option Node). option_map kind_of (option_map trees.kind_of n)) (bare at (itself at))

  -- 5. A link or file: one new name, and below it nothing.

  pub leaf-made : (from at : Names) (node : Node) (copied : CopiedTo) (now new : WorldData) → Sees c.files c.site c.root c.area c.to c.old → is_dir (SourceAt from) ≡ false → Bare at now
      → Adds c.area at node now new → CopiedAt from at new → Knows copied new → Made from at copied now new
  leaf-made from at node copied now new sees leaf bare adds copy knows = record {
    grows = grows-fewer c.area (λ path. path ≢ at) (Outside at) now new (λ path out same. true≢false (sym (ap (is_at_or_below at) same ∙ itself at) ∙ out)) adds.grows;
    copies = by;
    knows = knows;
  }
    where
      by : (rest : Names) → CopiedAt (from ++ rest) (at ++ rest) new
      by [] = subst (λ (f : Names). CopiedAt f (at ++ []) new) (sym (append-nil from)) (subst (λ (a : Names). CopiedAt from a new) (sym (append-nil at)) copy)
      by (name ∷ rest) = none-copied (from ++ name ∷ rest) (at ++ name ∷ rest) new (sees.leaf from name rest leaf)
          (adds.grows.others (at ++ name ∷ rest) (longer at name rest) ∙ bare (at ++ name ∷ rest) (head-of_rest at (name ∷ rest)))
