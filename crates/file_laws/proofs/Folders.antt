-- What a copy makes of a folder: the folder, and all that stands in it, entry by entry.
use Rattle.std.proofs.Common.{ℕ, zero, suc, ◌≡◌, ◌≢◌, ◌+◌, ◌≤◌, inl, inr, Bool, true, false, List, [], ◌∷◌, ◌++◌, length, Option, Some, None, Result, Ok, Err, refl, sym, ap, subst, ◌∙◌, arith, length-append}
use Rattle.std.specs.Option.{is_some}
use Rattle.std.specs.Prelude.{◌↔◌, IsSome, if◌then◌else◌}
use Rattle.std.proofs.lemmas.Bool.{true≢false, or_parts, ltb-false}
use Rattle.std.proofs.lemmas.List.{append-nil, append_cancel_left}
use Rattle.br_path.specs.Path.{Names, rooted_text}
use Rattle.tree_ops.specs.declared.entry.Node.TheVariants as nodes
use Rattle.tree_ops.specs.declared.change.ChangeFault.TheVariants.{IsDir, TooLong}
use Rattle.tree_ops.specs.Change.{MakeDir, is_path, is_below, is_at_or_below, is_too_long}
use Rattle.tree_ops.specs.Walk.{is_name_too_long}
use Rattle.tree_ops.proofs.Finds.{In}
use Rattle.tree_ops.proofs.Heads.{rows, rest-of_head, head-of_rest, rest-of_below, below-of_rest}
use Rattle.tree_worlds.specs.World.{WorldData, acted}
use Rattle.tree_worlds.specs.Program.{◌>>=◌, run}
use Rattle.tree_worlds.specs.declared.reason.Reason.{Reason}
use Rattle.tree_worlds.specs.declared.reason.Reason.TheVariants.{Change as for_change}
use Rattle.sh_places.specs.declared.kind.Kind.{Kind}
use Rattle.sh_places.specs.declared.kind.Kind.TheVariants.{Dir, Link, File}
use Rattle.sh_places.specs.declared.spot.Site.TheVariants.{Tree as in_tree}
use Rattle.sh_places.specs.declared.spot.Spot.{Spot}
use Rattle.sh_places.specs.Looks.{kind_at, names_at}
use Rattle.sh_places.specs.Finding.{spot, place_below}
use Rattle.sh_places.specs.Parts.{attempt}
use Rattle.sh_files.specs.Copying.{Below, CopiedTo, apart, copyable, followed, followed_from, made_mode, make_copy, copy_folder, copy_kind, copy_entry, each_copy, copy_below}
use Rattle.sh_files.specs.Goals.{is_dir}
use Rattle.file_laws.specs.Words.{stands}
use Rattle.file_laws.proofs.Grows.{Grows, adds-folder, folder-short, grows-same, grows-chain, grows-fewer}
use Rattle.file_laws.proofs.Entries.{IsOnce, entries-once}
use Rattle.file_laws.proofs.Seen.{Sees, SeesAlike, Outside, seen-names}
use Rattle.file_laws.proofs.Through.{same_Ok, act-through}
use Rattle.file_laws.proofs.Steps.{then-run, attempt-then, known-run}
use Rattle.file_laws.proofs.Course.{Course, Manner, Now, SourceAt, Bare, CopiedAt, Knows, Made, knows-kept, copy-kept, not-bare, none-copied, kind-copied, place-none, outside-deeper, itself, entry-below, longer}
use Rattle.file_laws.proofs.Leaves.{link-made, file-made}

-- 1. Paths beside each other.

-- what stands below one name of a folder doesn't stand below another
beside : (at : Names) (name other : List ℕ) (rest : Names) → name ≢ other → Outside (at ++ other ∷ []) (at ++ name ∷ rest)
beside at name other rest apart = by (is_at_or_below (at ++ other ∷ []) (at ++ name ∷ rest)) refl
  where
    first : (a b : List ℕ) (xs ys : Names) → a ∷ xs ≡ b ∷ ys → a ≡ b
    first a b xs ys same = cc

    by : (b : Bool) → is_at_or_below (at ++ other ∷ []) (at ++ name ∷ rest) ≡ b → b ≡ false
    by false is = refl
    by true is =
        let found = rest-of_head (at ++ other ∷ []) (at ++ name ∷ rest) is in
        absurd (apart (first name other rest found.0 (append_cancel_left at (name ∷ rest) (other ∷ found.0) (found.1 ∙ rows at (other ∷ []) found.0))))

not-itself : (at : Names) → is_below at at ≡ false
not-itself at = by (is_below at at) refl
  where
    by : (b : Bool) → is_below at at ≡ b → b ≡ false
    by false is = refl
    by true is = let found = rest-of_below at at is in absurd (longer at found.0 found.1 (sym found.2))

-- what isn't at a folder or below it isn't below it, and what isn't below it is at or below none of its names
outside-below : (at path : Names) → Outside at path → is_below at path ≡ false
outside-below at path out = (or_parts (is_path at path) (is_below at path) out).1

not-below : (at path : Names) (name : List ℕ) → is_below at path ≡ false → Outside (at ++ name ∷ []) path
not-below at path name out = by (is_at_or_below (at ++ name ∷ []) path) refl
  where
    by : (b : Bool) → is_at_or_below (at ++ name ∷ []) path ≡ b → b ≡ false
    by false is = refl
    by true is =
        let found = rest-of_head (at ++ name ∷ []) path is in
        let same : path ≡ at ++ name ∷ found.0 = found.1 ∙ rows at (name ∷ []) found.0 in
        absurd (true≢false (sym (ap (is_below at) same ∙ below-of_rest at name found.0) ∙ out))

-- a path has no more names than bytes in its text
names-short : (names : Names) → length names ≤ length (rooted_text names)
names-short [] = omega arith
names-short (name ∷ names) =
    let rest = names-short names in
    let both = length-append (47 ∷ name) (rooted_text names) in
    omega arith

not-long : (at : Names) → is_too_long at ≡ false → length at ≤ 1024
not-long at short =
    let few = names-short at in
    let bytes = ltb-false 1024 (length (rooted_text at)) short in
    omega arith

-- 2. What programs of entries ask.

copyable-kind : (manner : Manner) (kind : Option Kind) (one : Kind) → copyable manner kind ≡ Ok one → kind ≡ Some one
copyable-kind manner None one is = cc
copyable-kind manner (Some (Dir mode)) one is = by manner.folders is
  where
    by : (folders : Bool) → ◌≡◌ {A = Result Kind Reason} (if folders then Ok (Dir mode) else Err (for_change IsDir)) (Ok one) → Some (Dir mode) ≡ Some one
    by true is = ap Some (same_Ok (Dir mode) one is)
    by false is = cc
copyable-kind manner (Some Link) one is = ap Some (same_Ok Link one is)
copyable-kind manner (Some (File label)) one is = ap Some (same_Ok (File label) one is)

below-place : (folder : Spot) (name : List ℕ) (place : Spot) → place_below folder name ≡ Ok place → spot folder.site (folder.path ++ name ∷ []) ≡ place
below-place folder name place is = by (is_name_too_long folder.path name) is
  where
    by : (long : Bool) → ◌≡◌ {A = Result Spot Reason} (if long then Err (for_change TooLong) else Ok (spot folder.site (folder.path ++ name ∷ []))) (Ok place) → spot folder.site (folder.path ++ name ∷ []) ≡ place
    by true is = cc
    by false is = same_Ok (spot folder.site (folder.path ++ name ∷ [])) place is

module _ (c : Course) (sees : Sees c.files c.site c.root c.area c.to c.old) (filled : 1 ≤ length c.to) where
  abbrev pub source_at : Names → Spot
  source_at from = spot c.site from

  abbrev pub place_at : Names → Spot
  place_at at = spot (in_tree c.area) at

  -- nothing stands in a folder
  abbrev pub Hollow : Names → WorldData → Type 0
  Hollow at now = (name : List ℕ) (rest : Names) → stands now c.area (at ++ name ∷ rest) ≡ None

  -- where a copy has come to: a path of the source, and the path that it goes to
  pub record Goes (from at : Names) (depth : ℕ) (now : WorldData) : Type 0 where
    pub within : is_at_or_below c.root from ≡ true
    pub inside : is_at_or_below c.to at ≡ true
    pub deep : length at + depth ≡ length c.to + 1024
    pub course : Now c now

  -- what stood in a folder was copied into another, and nothing else was made
  pub record MadeIn (from at : Names) (copied : CopiedTo) (now new : WorldData) : Type 0 where
    pub grows : Grows c.area (λ path. is_below at path ≡ false) now new
    copies : (name : List ℕ) (rest : Names) → CopiedAt c (from ++ name ∷ rest) (at ++ name ∷ rest) new
    knows : Knows c copied new

  -- a program that does so, for folders down to a depth
  abbrev pub Works : Below → ℕ → Type 0
  Works below depth = (from at : Names) (copied more : CopiedTo) (now new : WorldData) → Goes from at depth now → is_too_long at ≡ false → Hollow at now → Knows c copied now
      → run (below copied (source_at from) (place_at at)) now ≡ Ok (more, new) → MadeIn from at more now new

  -- 3. A folder, by a program for what is in it.

  still : (at : Names) (now mid : WorldData) → is_at_or_below c.to at ≡ true → Now c now → Grows c.area (λ path. path ≢ at) now mid → Now c mid
  still at now mid inside course grows =
      grows-chain c.area (Outside c.to) c.old now mid course
      (grows-fewer c.area (λ path. path ≢ at) (Outside c.to) now mid (λ path out same. true≢false (sym (ap (is_at_or_below c.to) same ∙ inside) ∙ out)) grows)

  pub folder-made : (below : Below) (depth : ℕ) → Works below depth → (from at : Names) (mode : ℕ) (copied more : CopiedTo) (now new : WorldData) → Goes from at depth now → Bare c at now
      → SourceAt c from ≡ Some (Dir mode) → Knows c copied now → run (copy_folder below c.files c.manner copied (source_at from) mode (place_at at)) now ≡ Ok (more, new) → Made c from at more now new
  folder-made below depth works from at mode copied more now new goes bare is knows ran =
      let source = source_at from in
      let place = place_at at in
      let made : ℕ = made_mode c.manner mode in
      let none : kind_at now c.files place ≡ None = place-none c at now bare in
      let one = attempt-then (apart source place)
      (λ _. attempt (followed now c.files place) >>= λ to. attempt (apart source to) >>= λ _. make_copy c.manner mode to (kind_at now c.files to) >>= λ _. below copied source to) now new more ran in
      let two = known-run (followed now c.files place)
      (λ to. attempt (apart source to) >>= λ _. make_copy c.manner mode to (kind_at now c.files to) >>= λ _. below copied source to) now new more place (ap (followed_from now place) none) one.2 in
      let three = attempt-then (apart source place) (λ _. make_copy c.manner mode place (kind_at now c.files place) >>= λ _. below copied source place) now new more two in
      let four : run (make_copy c.manner mode place None >>= λ _. below copied source place) now ≡ Ok (more, new) =
      sym (ap (λ (k : Option Kind). run (make_copy c.manner mode place k >>= λ _. below copied source place) now) none) ∙ three.2 in
      let five = then-run (make_copy c.manner mode place None) (λ _. below copied source place) now new more four in
      let mid = five.1 in
      let done : acted c.area (MakeDir at made) now ≡ Ok mid = act-through c.area (MakeDir at made) now (acted c.area (MakeDir at made) now) five.0 mid five.2 in
      let adds = adds-folder c.area at made now mid done in
      let inner = works from at copied more mid new
      (record { within = goes.within; inside = goes.inside; deep = goes.deep; course = still at now mid goes.inside goes.course adds.grows })
      (folder-short c.area at made now mid done)
      (λ name rest. adds.grows.others (at ++ name ∷ rest) (longer at name rest) ∙ bare (at ++ name ∷ rest) (head-of_rest at (name ∷ rest)))
      (knows-kept c (λ path. path ≢ at) copied now mid adds.grows (λ path node there. not-bare c at path node now bare there) knows)
      five.3 in
      let folder : CopiedAt c from at new = kind-copied c from at new (Dir mode) is (inner.grows.others at (not-itself at) ∙ adds.made) in
      record {
        grows = grows-chain c.area (Outside at) now mid new
            (grows-fewer c.area (λ path. path ≢ at) (Outside at) now mid (λ path out same. true≢false (sym (ap (is_at_or_below at) same ∙ itself at) ∙ out)) adds.grows)
            (grows-fewer c.area (λ path. is_below at path ≡ false) (Outside at) mid new (λ path out. outside-below at path out) inner.grows);
        copies = whole folder inner.copies;
        knows = inner.knows;
      }
    where
      whole : CopiedAt c from at new → ((name : List ℕ) (rest : Names) → CopiedAt c (from ++ name ∷ rest) (at ++ name ∷ rest) new) → (rest : Names) → CopiedAt c (from ++ rest) (at ++ rest) new
      whole folder inner [] = subst (λ (f : Names). CopiedAt c f (at ++ []) new) (sym (append-nil from)) (subst (λ (a : Names). CopiedAt c from a new) (sym (append-nil at)) folder)
      whole folder inner (name ∷ rest) = inner name rest

  -- 4. An entry.

  entry-made : (below : Below) (depth : ℕ) → Works below depth → (from at : Names) (name : List ℕ) (copied more : CopiedTo) (now new : WorldData) → Goes from at (suc depth) now → Bare c (at ++ name ∷ []) now
      → Knows c copied now → run (copy_entry below c.files c.manner (source_at from) (place_at at) copied name) now ≡ Ok (more, new) → Made c (from ++ name ∷ []) (at ++ name ∷ []) more now new
  entry-made below depth works from at name copied more now new goes bare knows ran =
      let f : Names = from ++ name ∷ [] in
      let a : Names = at ++ name ∷ [] in
      let within = entry-below c.root from name goes.within in
      let inside = entry-below c.to at name goes.inside in
      let alike = sees.alike now f goes.course within in
      let one = attempt-then (copyable c.manner (kind_at now c.files (source_at f)))
      (λ kind. attempt (place_below (place_at at) name) >>= λ place. copy_kind below c.files c.manner copied (source_at f) place kind) now new more ran in
      let two = attempt-then (place_below (place_at at) name) (λ place. copy_kind below c.files c.manner copied (source_at f) place one.0) now new more one.2 in
      let here = below-place (place_at at) name two.0 two.1 in
      let three : run (copy_kind below c.files c.manner copied (source_at f) (place_at a) one.0) now ≡ Ok (more, new) =
      ap (λ (p : Spot). run (copy_kind below c.files c.manner copied (source_at f) p one.0) now) here ∙ two.2 in
      by one.0 (sym alike.kind ∙ copyable-kind c.manner (kind_at now c.files (source_at f)) one.0 one.1) inside within alike three
    where
      by : (kind : Kind) → SourceAt c (from ++ name ∷ []) ≡ Some kind → is_at_or_below c.to (at ++ name ∷ []) ≡ true → is_at_or_below c.root (from ++ name ∷ []) ≡ true → SeesAlike c.files c.site (from ++ name ∷ []) now c.old
          → run (copy_kind below c.files c.manner copied (source_at (from ++ name ∷ [])) (place_at (at ++ name ∷ [])) kind) now ≡ Ok (more, new) → Made c (from ++ name ∷ []) (at ++ name ∷ []) more now new
      by Link is inside within alike ran = link-made c sees (from ++ name ∷ []) (at ++ name ∷ []) now bare alike below copied more new is knows ran
      by (File label) is inside within alike ran = file-made c sees (from ++ name ∷ []) (at ++ name ∷ []) now bare alike below label copied more new goes.course is knows ran
      by (Dir mode) is inside within alike ran =
          let long = length-append at (name ∷ []) in
          let was = goes.deep in
          folder-made below depth works (from ++ name ∷ []) (at ++ name ∷ []) mode copied more now new
          (record { within = within; inside = inside; deep = omega arith; course = goes.course }) bare is knows ran

  -- 5. Entries, one after another.

  -- paths at or below none of some names of a folder
  abbrev Beside : Names → Names → Names → Type 0
  Beside at names path = (name : List ℕ) → In name names → Outside (at ++ name ∷ []) path

  record MadeOf (from at names : Names) (copied : CopiedTo) (now new : WorldData) : Type 0 where
    grows : Grows c.area (Beside at names) now new
    copies : (name : List ℕ) (rest : Names) → In name names → CopiedAt c (from ++ name ∷ rest) (at ++ name ∷ rest) new
    knows : Knows c copied new

  entries-made : (below : Below) (depth : ℕ) → Works below depth → (from at names : Names) → IsOnce names → (copied more : CopiedTo) (now new : WorldData) → Goes from at (suc depth) now
      → ((name : List ℕ) → In name names → Bare c (at ++ name ∷ []) now) → Knows c copied now
      → run (each_copy (copy_entry below c.files c.manner (source_at from) (place_at at)) copied names) now ≡ Ok (more, new) → MadeOf from at names more now new
  entries-made below depth works from at [] once copied more now new goes bare knows ran =
      subst (λ (p : CopiedTo × WorldData). MadeOf from at [] p.0 now p.1) (same_Ok (copied, now) (more, new) ran)
      (record { grows = grows-same c.area (Beside at []) now; copies = λ name rest there. absurd there; knows = knows })
  entries-made below depth works from at (name ∷ names) once copied more now new goes bare knows ran =
      let copy = copy_entry below c.files c.manner (source_at from) (place_at at) in
      let one = then-run (copy copied name) (λ first. each_copy copy first names) now new more ran in
      let mid = one.1 in
      let made = entry-made below depth works from at name copied one.0 now mid goes (bare name (inl refl)) knows one.2 in
      let rest = entries-made below depth works from at names once.1 one.0 more mid new
      (record { within = goes.within; inside = goes.inside; deep = goes.deep; course = after mid made.grows })
      (λ other there. others mid made.grows other there) made.knows one.3 in
      record {
        grows = grows-chain c.area (Beside at (name ∷ names)) now mid new
            (grows-fewer c.area (Outside (at ++ name ∷ [])) (Beside at (name ∷ names)) now mid (λ path out. out name (inl refl)) made.grows)
            (grows-fewer c.area (Beside at names) (Beside at (name ∷ names)) mid new (λ path out other there. out other (inr there)) rest.grows);
        copies = all mid made.copies rest.grows rest.copies;
        knows = rest.knows;
      }
    where
      after : (mid : WorldData) → Grows c.area (Outside (at ++ name ∷ [])) now mid → Now c mid
      after mid grows = grows-chain c.area (Outside c.to) c.old now mid goes.course
          (grows-fewer c.area (Outside (at ++ name ∷ [])) (Outside c.to) now mid (λ path out. outside-deeper c.to (at ++ name ∷ []) path (entry-below c.to at name goes.inside) out) grows)

      differs : (other : List ℕ) → In other names → other ≢ name
      differs other there same = once.0 (subst (λ (n : List ℕ). In n names) same there)

      others : (mid : WorldData) → Grows c.area (Outside (at ++ name ∷ [])) now mid → (other : List ℕ) → In other names → Bare c (at ++ other ∷ []) mid
      others mid grows other there path below =
          let found = rest-of_head (at ++ other ∷ []) path below in
          let same : path ≡ at ++ other ∷ found.0 = found.1 ∙ rows at (other ∷ []) found.0 in
          grows.others path (subst (Outside (at ++ name ∷ [])) (sym same) (beside at other name found.0 (differs other there))) ∙ bare other (inr there) path below

      here : (mid : WorldData) → ((rest : Names) → CopiedAt c ((from ++ name ∷ []) ++ rest) ((at ++ name ∷ []) ++ rest) mid) → Grows c.area (Beside at names) mid new → (rest : Names)
          → CopiedAt c (from ++ name ∷ rest) (at ++ name ∷ rest) new
      here mid copies grows rest =
          copy-kept c (Beside at names) (from ++ name ∷ rest) (at ++ name ∷ rest) mid new grows (λ other there. beside at name other rest (λ same. differs other there (sym same)))
          (subst (λ (f : Names). CopiedAt c f (at ++ name ∷ rest) mid) (rows from (name ∷ []) rest) (subst (λ (a : Names). CopiedAt c ((from ++ name ∷ []) ++ rest) a mid) (rows at (name ∷ []) rest) (copies rest)))

      all : (mid : WorldData) → ((rest : Names) → CopiedAt c ((from ++ name ∷ []) ++ rest) ((at ++ name ∷ []) ++ rest) mid) → Grows c.area (Beside at names) mid new
          → ((other : List ℕ) (rest : Names) → In other names → CopiedAt c (from ++ other ∷ rest) (at ++ other ∷ rest) new)
          → (other : List ℕ) (rest : Names) → In other (name ∷ names) → CopiedAt c (from ++ other ∷ rest) (at ++ other ∷ rest) new
      all mid copies grows later other rest (inl same) = subst (λ (n : List ℕ). CopiedAt c (from ++ n ∷ rest) (at ++ n ∷ rest) new) same (here mid copies grows rest)
      all mid copies grows later other rest (inr there) = later other rest there

  -- 6. All that is in a folder.

  names-made : (from at : Names) (more : CopiedTo) (depth : ℕ) (now new : WorldData) → Goes from at depth now → Hollow at now
      → MadeOf from at (names_at now c.files (source_at from)) more now new → MadeIn from at more now new
  names-made from at more depth now new goes hollow made = record {
    grows = grows-fewer c.area (Beside at names) (λ path. is_below at path ≡ false) now new (λ path out name there. not-below at path name out) made.grows;
    copies = λ name rest. by name rest (is_some (SourceAt c (from ++ name ∷ []))) refl;
    knows = made.knows;
  }
    where
      names : Names
      names = names_at now c.files (source_at from)

      seen : (name : List ℕ) → In name names ↔ IsSome (SourceAt c (from ++ name ∷ []))
      seen name = seen-names c.files c.site from name now c.old (sees.alike now (from ++ name ∷ []) goes.course (entry-below c.root from name goes.within))

      none-of : (kind : Option Kind) → is_some kind ≡ false → kind ≡ None
      none-of None is = refl
      none-of (Some kind) is = absurd (true≢false is)

      nothing : (name : List ℕ) (rest : Names) → SourceAt c (from ++ name ∷ []) ≡ None → SourceAt c (from ++ name ∷ rest) ≡ None
      nothing name [] none = none
      nothing name (next ∷ rest) none =
          ap (λ (f : Names). SourceAt c f) (sym (rows from (name ∷ []) (next ∷ rest))) ∙ sees.leaf (from ++ name ∷ []) next rest (ap is_dir none)

      by : (name : List ℕ) (rest : Names) (some : Bool) → is_some (SourceAt c (from ++ name ∷ [])) ≡ some → CopiedAt c (from ++ name ∷ rest) (at ++ name ∷ rest) new
      by name rest true is = made.copies name rest ((seen name).1 is)
      by name rest false is = none-copied c (from ++ name ∷ rest) (at ++ name ∷ rest) new (nothing name rest (none-of (SourceAt c (from ++ name ∷ [])) is))
          (made.grows.others (at ++ name ∷ rest) (λ other there. beside at name other rest (λ same. true≢false (sym ((seen other).0 there) ∙ sym (ap (λ (n : List ℕ). is_some (SourceAt c (from ++ n ∷ []))) same) ∙ is))) ∙ hollow name rest)

  pub below-made : (depth : ℕ) → Works (copy_below depth c.files c.manner) depth
  unfolding copy_below
  below-made zero from at copied more now new goes short hollow knows ran =
      let few = not-long at short in let deep = goes.deep in absurd (omega arith)
  below-made (suc depth) from at copied more now new goes short hollow knows ran =
      names-made from at more (suc depth) now new goes hollow
      (entries-made (copy_below depth c.files c.manner) depth (below-made depth) from at (names_at now c.files (source_at from)) (entries-once now c.files c.site from) copied more now new goes
      (λ name there path below. let found = rest-of_head (at ++ name ∷ []) path below in ap (λ (p : Names). stands now c.area p) (found.1 ∙ rows at (name ∷ []) found.0) ∙ hollow name found.0)
      knows ran)
