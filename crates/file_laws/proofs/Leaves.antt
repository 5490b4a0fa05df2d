-- What a copy makes of a link and of a file, where nothing stands.
use Rattle.std.proofs.Common.{ℕ, ◌≡◌, inl, inr, Bool, true, false, List, Option, Some, None, Ok, refl, sym, ap, subst, ◌∙◌}
use Rattle.std.specs.FinMap as fin
use Rattle.std.specs.Prelude.{if◌then◌else◌}
use Rattle.br_path.specs.Path.{Names}
use Rattle.tree_ops.specs.declared.entry.Label.{Label}
use Rattle.tree_ops.specs.declared.entry.Node.{Node}
use Rattle.tree_ops.specs.declared.entry.Node.TheVariants as nodes
use Rattle.tree_ops.specs.Change.{MakeFile, MakeLink, AddName, next_label}
use Rattle.tree_ops.proofs.Inserts.{get-insert_cases}
use Rattle.tree_ops.proofs.Orders.{label_total, label_same}
use Rattle.tree_worlds.specs.World.{WorldData, acted}
use Rattle.tree_worlds.specs.Program.{Done, ◌>>=◌, run}
use Rattle.sh_places.specs.declared.kind.Kind.{Kind}
use Rattle.sh_places.specs.declared.kind.Kind.TheVariants.{Link, File}
use Rattle.sh_places.specs.declared.spot.Site.TheVariants.{Tree as in_tree}
use Rattle.sh_places.specs.declared.spot.Spot.{Spot}
use Rattle.sh_places.specs.Looks.{kind_at, bytes_at, mode_at, text_at}
use Rattle.sh_places.specs.Finding.{spot}
use Rattle.sh_files.specs.Room.{is_link, make_file}
use Rattle.sh_files.specs.Copying.{Below, CopiedTo, first_copy, copied_too, followed, followed_from, made_mode, copy_link, copy_name, copy_bytes, copy_contents, copy_file_or_name, copy_kind}
use Rattle.sh_files.specs.Goals.{is_dir}
use Rattle.file_laws.specs.Words.{stands, IsOwnFile}
use Rattle.file_laws.proofs.Grows.{AddsFile, adds-link, adds-file, adds-name, drawn-later, drawn-old}
use Rattle.file_laws.proofs.Seen.{Sees, SeesAlike}
use Rattle.file_laws.proofs.Through.{same_Ok, act-through}
use Rattle.file_laws.proofs.Steps.{then-run, known-run}
use Rattle.file_laws.proofs.Course.{Course, Now, SourceAt, Bare, CopiedAt, FileAt, Knows, Made, knows-kept, not-bare, kind-copied, place-none, leaf-made}

module _ (c : Course) (sees : Sees c.files c.site c.root c.area c.to c.old) (from at : Names) where
  abbrev source : Spot
  source = spot c.site from

  abbrev place : Spot
  place = spot (in_tree c.area) at

  module _ (now : WorldData) (bare : Bare c at now) (alike : SeesAlike c.files c.site from now c.old) where
    none : kind_at now c.files place ≡ None
    none = place-none c at now bare

    -- what a program that ends here has come to
    ended : (copied more : CopiedTo) (mid new : WorldData) → run (Done copied) mid ≡ Ok (more, new) → Made c from at copied now mid → Made c from at more now new
    ended copied more mid new goes made =
        let same = same_Ok (copied, mid) (more, new) goes in
        subst (λ (p : CopiedTo × WorldData). Made c from at p.0 now p.1) same made

    spares : (node : Node) (path : Names) (other : Node) → stands now c.area path ≡ Some other → path ≡ at → ⊥
    spares node path other there = not-bare c at path other now bare there

    -- 1. A link.

    pub link-made : (below : Below) (copied more : CopiedTo) (new : WorldData) → SourceAt c from ≡ Some Link → Knows c copied now
        → run (copy_kind below c.files c.manner copied source place Link) now ≡ Ok (more, new) → Made c from at more now new
    link-made below copied more new is knows goes =
        let text : List ℕ = text_at now source in
        let one : run (copy_link place text None >>= λ _. Done copied) now ≡ Ok (more, new) =
        sym (ap (λ (k : Option Kind). run (copy_link place text k >>= λ _. Done copied) now) none) ∙ goes in
        let two = then-run (copy_link place text None) (λ _. Done copied) now new more one in
        let done : acted c.area (MakeLink at text) now ≡ Ok two.1 = act-through c.area (MakeLink at text) now (acted c.area (MakeLink at text) now) two.0 two.1 two.2 in
        let adds = adds-link c.area at text now two.1 done in
        let copy : CopiedAt c from at two.1 = kind-copied c from at two.1 Link is (adds.made ∙ ap (λ (t : List ℕ). Some (nodes.Link t)) alike.text) in
        ended copied more two.1 new two.3
        (leaf-made c from at (nodes.Link text) copied now two.1 sees (ap is_dir is) bare adds copy (knows-kept c (λ path. path ≡ at → ⊥) copied now two.1 adds.grows (spares (nodes.Link text)) knows))

    -- 2. A file, once more: its bytes into a new one.

    -- with its label it is among what was copied, where names of one file stay together
    knows-more : (label : Option Label) (copied : CopiedTo) (new : WorldData) → SourceAt c from ≡ Some (File label) → FileAt c from at new → Knows c copied new → Knows c (copied_too c.manner copied label place) new
    knows-more None copied new is file knows = knows
    knows-more (Some own) copied new is file knows = by c.manner.links
      where
        added : Knows c (fin.insert copied own place) new
        added label first there other also = elim (get-insert_cases label_total label_same copied own place label) [
          | inl found ↦
              let here : place ≡ first = cc in
              let alike = sees.same from other own is (also ∙ ap (λ (l : Label). Some (File (Some l))) found.0) in
              subst (λ (path : Names). FileAt c other path new) (ap (λ (s : Spot). s.path) here)
              (subst (λ (m : ℕ). IsOwnFile c.area at (made_mode c.manner m) (bytes_at c.old c.files (spot c.site other)) c.old new) alike.0
              (subst (λ (b : List ℕ). IsOwnFile c.area at (made_mode c.manner (mode_at c.old source)) b c.old new) alike.1 file))
          | inr same ↦ knows label first (sym same ∙ there) other also
        ]

        by : (links : Bool) → Knows c (if links then fin.insert copied own place else copied) new
        by true = added
        by false = knows

    contents-made : (label : Option Label) (copied more : CopiedTo) (new : WorldData) → Now c now → SourceAt c from ≡ Some (File label) → Knows c copied now
        → run (copy_file_or_name c.files c.manner copied source label place None) now ≡ Ok (more, new) → Made c from at more now new
    contents-made label copied more new course is knows goes =
        let mode : ℕ = mode_at now source in
        let bytes : List ℕ = bytes_at now c.files source in
        let made : ℕ = made_mode c.manner mode in
        let one = then-run (copy_contents c.files c.manner source label place) (λ to. Done (copied_too c.manner copied label to)) now new more goes in
        let two = known-run (followed now c.files place)
        (λ to. copy_bytes c.manner source label mode bytes to (is_link (kind_at now c.files place)) (kind_at now c.files to) >>= λ _. Done to)
        now one.1 one.0 place (ap (followed_from now place) none) one.2 in
        let three : run (make_file place made bytes >>= λ _. Done place) now ≡ Ok (one.0, one.1) =
        sym (ap (λ (k : Option Kind). run (copy_bytes c.manner source label mode bytes place (is_link k) k >>= λ _. Done place) now) none) ∙ two in
        let four = then-run (make_file place made bytes) (λ _. Done place) now one.1 one.0 three in
        let done : acted c.area (MakeFile at made bytes) now ≡ Ok four.1 = act-through c.area (MakeFile at made bytes) now (acted c.area (MakeFile at made bytes) now) four.0 four.1 four.2 in
        let new_file = adds-file c.area at made bytes now four.1 done in
        let mid = four.1 in
        let first : FileAt c from at mid = subst (λ (m : ℕ). IsOwnFile c.area at (made_mode c.manner m) (bytes_at c.old c.files source) c.old mid) alike.mode
        (subst (λ (b : List ℕ). IsOwnFile c.area at made b c.old mid) alike.bytes (own-file mode bytes mid course new_file)) in
        let knows_mid = knows-kept c (λ path. path ≡ at → ⊥) copied now mid new_file.adds.grows (spares (nodes.File (next_label now.pen))) knows in
        let whole = leaf-made c from at (nodes.File (next_label now.pen)) (copied_too c.manner copied label place) now mid sees (ap is_dir is) bare new_file.adds
        (kind-copied c from at mid (File label) is first) (knows-more label copied mid is first knows_mid) in
        let back = same_Ok (place, mid) (one.0, one.1) four.3 in
        let last : run (Done (copied_too c.manner copied label place)) mid ≡ Ok (more, new) =
        ap (λ (p : Spot × WorldData). run (Done (copied_too c.manner copied label p.0)) p.1) back ∙ one.3 in
        ended (copied_too c.manner copied label place) more mid new last whole
      where
        own-file : (mode : ℕ) (bytes : List ℕ) (mid : WorldData) → Now c now → AddsFile c.area at (made_mode c.manner mode) bytes now mid → IsOwnFile c.area at (made_mode c.manner mode) bytes c.old mid
        own-file mode bytes mid course added = record {
          label = next_label now.pen;
          drawn = record { task = course.task; after = course.next; before = added.drawn.before };
          stands_there = added.adds.made;
          contents = added.contents;
        }

    -- 3. A name of a file that was copied before.

    name-made : (label : Label) (first : Spot) (copied more : CopiedTo) (new : WorldData) → SourceAt c from ≡ Some (File (Some label)) → fin.get copied label ≡ Some first → Knows c copied now
        → run (copy_file_or_name c.files c.manner copied source (Some label) place (Some first)) now ≡ Ok (more, new) → Made c from at more now new
    name-made label first copied more new is there knows goes =
        let one : run (copy_name first place None >>= λ _. Done copied) now ≡ Ok (more, new) =
        sym (ap (λ (k : Option Kind). run (copy_name first place k >>= λ _. Done copied) now) none) ∙ goes in
        let two = then-run (copy_name first place None) (λ _. Done copied) now new more one in
        let mid = two.1 in
        let done : acted c.area (AddName first.path at) now ≡ Ok mid = act-through c.area (AddName first.path at) now (acted c.area (AddName first.path at) now) two.0 mid two.2 in
        let file = knows label first there from is in
        let adds = adds-name c.area first.path at file.label now mid file.stands_there done in
        let copy : FileAt c from at mid = record {
          label = file.label;
          drawn = drawn-later c.old now mid file.label adds.grows.next file.drawn;
          stands_there = adds.made;
          contents = adds.grows.contents file.label (drawn-old c.old now file.label file.drawn) ∙ file.contents;
        } in
        ended copied more mid new two.3
        (leaf-made c from at (nodes.File file.label) copied now mid sees (ap is_dir is) bare adds (kind-copied c from at mid (File (Some label)) is copy)
        (knows-kept c (λ path. path ≡ at → ⊥) copied now mid adds.grows (spares (nodes.File file.label)) knows))

    -- 4. A file.

    pub file-made : (below : Below) (label : Option Label) (copied more : CopiedTo) (new : WorldData) → Now c now → SourceAt c from ≡ Some (File label) → Knows c copied now
        → run (copy_kind below c.files c.manner copied source place (File label)) now ≡ Ok (more, new) → Made c from at more now new
    file-made below label copied more new course is knows goes = by c.manner.links label is goes
      where
        found : (label : Label) (first : Option Spot) → SourceAt c from ≡ Some (File (Some label)) → fin.get copied label ≡ first
            → run (copy_file_or_name c.files c.manner copied source (Some label) place first) now ≡ Ok (more, new) → Made c from at more now new
        found label None is there goes = contents-made (Some label) copied more new course is knows goes
        found label (Some first) is there goes = name-made label first copied more new is there knows goes

        by : (links : Bool) (label : Option Label) → SourceAt c from ≡ Some (File label) → run (copy_file_or_name c.files c.manner copied source label place (if links then first_copy copied label else None)) now ≡ Ok (more, new)
            → Made c from at more now new
        by true None is goes = contents-made None copied more new course is knows goes
        by true (Some own) is goes = found own (fin.get copied own) is refl goes
        by false label is goes = contents-made label copied more new course is knows goes
