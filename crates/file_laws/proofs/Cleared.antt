-- rm -r leaves nothing at or below its place, and all else as it was.
use Rattle.std.proofs.Common.{ℕ, zero, suc, ◌≡◌, true, false, List, [], ◌∷◌, ◌++◌, reverse, Option, Some, None, Ok, refl, sym, ap, subst, ◌∙◌}
use Rattle.std.proofs.lemmas.Bool.{true≢false}
use Rattle.std.proofs.lemmas.List.{append-nil}
use Rattle.br_path.specs.Path.{Names}
use Rattle.br_path.specs.Files.{FileMap}
use Rattle.br_path.specs.declared.area.Area.{Area}
use Rattle.br_path.proofs.PathOrder.{path_total, path_same}
use Rattle.tree_ops.specs.declared.change.ChangeFault.TheVariants.{Outside}
use Rattle.tree_ops.specs.declared.entry.Node.{Node}
use Rattle.tree_ops.specs.Tree.{Tree, IsTree, node_at}
use Rattle.tree_ops.specs.Change.{Change, MakeFile, Write, Append, SetMode, AddName, MakeLink, MakeDir, Remove, Rename, Populate, fault_if, remove_fault, is_path, is_at_or_below}
use Rattle.tree_ops.proofs.Heads.{rows, rest-of_head, head-of_rest}
use Rattle.tree_ops.proofs.Finds.{get-removed, get-left}
use Rattle.tree_ops.proofs.Faults.{both_none, bare-remove}
use Rattle.tree_ops.proofs.Kept.{IsTree-changed}
use Rattle.tree_ops.proofs.Outcomes.{after-changed}
use Rattle.tree_ops.proofs.Sound.{sound-of}
use Rattle.tree_worlds.specs.World.{WorldData, acted, tree_in, state_in}
use Rattle.tree_worlds.specs.Kept.{left_by}
use Rattle.sh_places.specs.declared.spot.Site.{Site}
use Rattle.sh_places.specs.declared.spot.Site.TheVariants.{Tree as in_tree}
use Rattle.sh_places.specs.declared.spot.Spot.{Spot}
use Rattle.sh_places.specs.Looks.{names_at}
use Rattle.sh_places.specs.Finding.{spot}
use Rattle.sh_places.specs.Parts.{act_in}
use Rattle.sh_files.specs.Removing.{remove_entry, remove_below, remove_tree}
use Rattle.file_laws.specs.Words.{GoesThrough, stands, KeepsOthers, RemovesAt}
use Rattle.file_laws.proofs.Made.{is-made}
use Rattle.file_laws.proofs.Makes.{Makes, IsKeptBy, kept-Makes, Makes-each, Makes-act_in}
use Rattle.file_laws.proofs.Through.{then-through, act_in-through}

module _ (site : Site) (at : Names) where
  -- a remove at the path or below it
  abbrev pub IsRemoveBelow : Change → Type 0
  IsRemoveBelow (MakeFile path mode bytes) = ⊥
  IsRemoveBelow (Write path bytes) = ⊥
  IsRemoveBelow (Append path bytes) = ⊥
  IsRemoveBelow (SetMode path mode) = ⊥
  IsRemoveBelow (AddName old path) = ⊥
  IsRemoveBelow (MakeLink path text) = ⊥
  IsRemoveBelow (MakeDir path mode) = ⊥
  IsRemoveBelow (Remove path) = is_at_or_below at path ≡ true
  IsRemoveBelow (Rename old path) = ⊥
  IsRemoveBelow (Populate from) = ⊥

  abbrev pub Below : Area → Change → Type 0
  Below area change = (site ≡ in_tree area) × IsRemoveBelow change

  -- what is elsewhere stays, and a tree stays one
  record StaysElsewhere (area : Area) (old new : WorldData) : Type 0 where
    pub others : (path : Names) → is_at_or_below at path ≡ false → stands new area path ≡ stands old area path
    pub areas : KeepsOthers area old new
    pub sound : IsTree (tree_in old.trees area) → IsTree (tree_in new.trees area)

  removed-elsewhere : (area : Area) (path : Names) (old new : WorldData) → is_at_or_below at path ≡ true → acted area (Remove path) old ≡ Ok new → StaysElsewhere area old new
  removed-elsewhere area path old new below is =
      let made = is-made area (Remove path) old new is in
      record {
        others = λ other apart. ap (λ (t : Tree). node_at t other) made.tree
            ∙ get-left path_total path_same (tree_in old.trees area).names path other (λ same. true≢false (sym below ∙ ap (is_at_or_below at) (sym same) ∙ apart));
        areas = made.areas;
        sound = λ tree. subst IsTree (sym made.done.2) (IsTree-changed (Remove path) (state_in old area) made.done.0 tt tree made.done.1);
      }

  module _ (area : Area) (there : site ≡ in_tree area) where
    acted-elsewhere : (own : Area) (change : Change) (old new : WorldData) → Below own change → acted own change old ≡ Ok new → StaysElsewhere area old new
    acted-elsewhere own (MakeFile path mode bytes) old new of is = absurd of.1
    acted-elsewhere own (Write path bytes) old new of is = absurd of.1
    acted-elsewhere own (Append path bytes) old new of is = absurd of.1
    acted-elsewhere own (SetMode path mode) old new of is = absurd of.1
    acted-elsewhere own (AddName first path) old new of is = absurd of.1
    acted-elsewhere own (MakeLink path text) old new of is = absurd of.1
    acted-elsewhere own (MakeDir path mode) old new of is = absurd of.1
    acted-elsewhere own (Remove path) old new of is =
        removed-elsewhere area path old new of.1 (subst (λ (a : Area). acted a (Remove path) old ≡ Ok new) (inner own area (sym of.0 ∙ there)) is)
      where
        inner : (a b : Area) → in_tree a ≡ in_tree b → a ≡ b
        inner a b is = cc
    acted-elsewhere own (Rename first path) old new of is = absurd of.1
    acted-elsewhere own (Populate from) old new of is = absurd of.1

    kept-elsewhere : IsKeptBy Below (StaysElsewhere area)
    kept-elsewhere = record {
      same = λ world. record { others = λ path apart. refl; areas = λ other apart. refl; sound = λ tree. tree };
      chain = λ first next last one two. record {
        others = λ path apart. two.others path apart ∙ one.others path apart;
        areas = λ other apart. two.areas other apart ∙ one.areas other apart;
        sound = λ tree. two.sound (one.sound tree);
      };
      act = acted-elsewhere;
    }

  deeper : (path : Names) (name : List ℕ) → is_at_or_below at path ≡ true → is_at_or_below at (path ++ name ∷ []) ≡ true
  deeper path name below =
      let r = rest-of_head at path below in
      ap (is_at_or_below at) (ap (λ (p : Names). p ++ name ∷ []) r.1 ∙ rows at r.0 (name ∷ [])) ∙ head-of_rest at (r.0 ++ name ∷ [])

  made-below : (depth : ℕ) (files : FileMap) (path : Names) → is_at_or_below at path ≡ true → Makes Below (remove_below depth files (spot site path))
  unfolding remove_below
  made-below zero files path below = tt
  made-below (suc depth) files path below = (
    tt,
    λ world. Makes-each Below (λ name. remove_entry (remove_below depth files) (spot site (path ++ name ∷ [])))
        (λ name. (made-below depth files (path ++ name ∷ []) (deeper path name below), λ _. Makes-act_in Below site (Remove (path ++ name ∷ [])) (λ area is. (is, deeper path name below))))
        (reverse (names_at world files (spot site path))),
  )

-- nothing stands at or below what is taken away
bare-after : (area : Area) (at : Names) (mid new : WorldData) → IsTree (tree_in mid.trees area) → acted area (Remove at) mid ≡ Ok new → (path : Names) → is_at_or_below at path ≡ true → stands new area path ≡ None
bare-after area at mid new tree is path below = no_node (stands new area path) (λ node there.
    let left = get-removed path_total path_same (tree_in mid.trees area).names at path node (sym (ap (λ (t : Tree). node_at t path) (is-made area (Remove at) mid new is).tree) ∙ there) in
    let r = rest-of_head at path below in
    by node left.0 left.1 r.0 r.1)
  where
    no_node : (a : Option Node) → ((n : Node) → a ≡ Some n → ⊥) → a ≡ None
    no_node None never = refl
    no_node (Some n) never = absurd (never n refl)

    bare : (name : List ℕ) (rest : Names) (node : Node) → node_at (tree_in mid.trees area) (at ++ name ∷ rest) ≡ Some node → ⊥
    bare =
        let made = is-made area (Remove at) mid new is in
        let was = tree_in mid.trees area in
        let fault = both_none (fault_if (is_path at []) Outside) (remove_fault was at (node_at was at)) (after-changed (Remove at) (state_in mid area) made.done.0 made.done.1).0 in
        bare-remove was (sound-of was tree) at (node_at was at) refl fault.1

    by : (node : Node) → stands mid area path ≡ Some node → (path ≡ at → ⊥) → (rest : Names) → path ≡ at ++ rest → ⊥
    by node there apart [] same = apart (same ∙ append-nil at)
    by node there apart (name ∷ rest) same = bare name rest node (ap (node_at (tree_in mid.trees area)) (sym same) ∙ there)

pub cleared : (files : FileMap) (place : Spot) (old new : WorldData) → ((area : Area) → IsTree (tree_in old.trees area)) → GoesThrough (remove_tree files place) old new → RemovesAt place old new
cleared files place old new trees goes =
    let one = then-through (remove_below 1024 files place) (λ _. act_in place.site (Remove place.path)) old new goes in
    let done = act_in-through place.site (Remove place.path) one.1 new one.3 in
    let itself : is_at_or_below place.path place.path ≡ true = ap (is_at_or_below place.path) (sym (append-nil place.path)) ∙ head-of_rest place.path [] in
    let before : StaysElsewhere place.site place.path done.0 old one.1 =
    subst (λ o. StaysElsewhere place.site place.path done.0 old (left_by o)) one.2
    (kept-Makes (Below place.site place.path) (StaysElsewhere place.site place.path done.0) (kept-elsewhere place.site place.path done.0 done.1) (remove_below 1024 files place) (made-below place.site place.path 1024 files place.path itself) old) in
    let last = removed-elsewhere place.site place.path done.0 place.path one.1 new itself done.2 in (
      done.0,
      done.1,
      record {
        gone = bare-after done.0 place.path one.1 new (before.sound (trees done.0)) done.2;
        others = λ path apart. last.others path apart ∙ before.others path apart;
        areas = λ other apart. last.areas other apart ∙ before.areas other apart;
      },
    )
