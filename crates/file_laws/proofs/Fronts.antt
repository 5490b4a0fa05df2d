-- mkdir -p leaves a folder at the end of each front of its walk.
use Rattle.std.proofs.Common.{ℕ, ◌≡◌, Bool, true, false, cond, List, [], ◌∷◌, ◌++◌, Option, Some, None, Result, Ok, Err, refl, sym, ap, subst, ◌∙◌}
use Rattle.std.specs.List.{list_all}
use Rattle.std.specs.Option.{option_map}
use Rattle.std.proofs.lemmas.List.{append-nil}
use Rattle.br_path.specs.Path.{Names, rooted_text}
use Rattle.br_path.specs.Files.{FileMap}
use Rattle.br_path.specs.declared.area.Area.{Area}
use Rattle.br_path.proofs.PathOrder.{path_total}
use Rattle.tree_ops.specs.declared.change.ChangeFault.{ChangeFault}
use Rattle.tree_ops.specs.declared.change.ChangeFault.TheVariants.{Absent, NotDir}
use Rattle.tree_ops.specs.declared.entry.Node.{Node}
use Rattle.tree_ops.specs.declared.entry.Node.TheVariants as nodes
use Rattle.tree_ops.specs.Tree as trees
use Rattle.tree_ops.specs.Tree.{Tree, node_at, is_dir}
use Rattle.tree_ops.specs.Change.{MakeDir}
use Rattle.tree_ops.specs.Walk.{resolved, components}
use Rattle.tree_ops.proofs.Heads.{rows}
use Rattle.tree_ops.proofs.Inserts.{get-insert_same}
use Rattle.tree_worlds.specs.declared.reason.Reason.{Reason}
use Rattle.tree_worlds.specs.declared.reason.Reason.TheVariants.{Change as for_change}
use Rattle.tree_worlds.specs.World.{WorldData, tree_in, both_mapped, acted}
use Rattle.tree_worlds.specs.Program.{Refuse}
use Rattle.tree_worlds.specs.Kept.{left_by}
use Rattle.tree_worlds.specs.declared.operand.Operand.TheVariants.{Place}
use Rattle.sh_places.specs.declared.spot.Site.TheVariants.{Tree as in_tree}
use Rattle.sh_places.specs.declared.spot.Spot.{Spot}
use Rattle.sh_places.specs.declared.kind.Kind.{Kind}
use Rattle.sh_places.specs.declared.kind.Kind.TheVariants.{Dir, Link, File}
use Rattle.sh_places.specs.Looks.{kind_of, kind_at}
use Rattle.sh_places.specs.Finding.{spot, walked}
use Rattle.sh_files.specs.Folders.{is_there, is_dots, folder_at, ensure_folder, ensure_folders, make_path}
use Rattle.file_laws.specs.Words.{GoesThrough, KeepsAll, stands, LeadsToFolder}
use Rattle.file_laws.proofs.Stays.{all-kept, ensured-folder, ensured-folders, NewName}
use Rattle.file_laws.proofs.Makes.{kept-Makes}
use Rattle.file_laws.proofs.Made.{is-made}
use Rattle.file_laws.proofs.Through.{same_Ok, never, then-through, attempt-through, act_in-through}
use Rattle.file_laws.proofs.Walked.{still-resolved}

-- what led to a folder leads there after names were added
still-leads : (area : Area) (walk : List ℕ) (old new : WorldData) → KeepsAll old new → LeadsToFolder old area walk → LeadsToFolder new area walk
still-leads area walk old new kept leads = by (node_at (tree_in old.trees area) leads.0) refl leads.2
  where
    by : (node : Option Node) → stands old area leads.0 ≡ node → is_dir (stands old area leads.0) ≡ true → LeadsToFolder new area walk
    by None there folder = let no : false ≡ true = sym (ap is_dir there) ∙ folder in cc
    by (Some node) there folder =
        let is : is_dir (stands new area leads.0) ≡ true = ap is_dir (kept area leads.0 node there) ∙ sym (ap is_dir there) ∙ folder in
        (leads.0, still-resolved (tree_in old.trees area) (tree_in new.trees area) (kept area) leads.0 is walk leads.1, is)

-- the path to which a walk leads
walked-to : (area : Area) (outcome : Result Names ChangeFault) (place : Spot) → both_mapped (spot (in_tree area)) for_change outcome ≡ Ok place → (path : Names) × (outcome ≡ Ok path) × (spot (in_tree area) path ≡ place)
walked-to area (Ok path) place is = (path, refl, same_Ok (spot (in_tree area) path) place is)
walked-to area (Err fault) place is = cc

dir-kind : (node : Option Node) (mode : ℕ) → option_map kind_of (option_map trees.kind_of node) ≡ Some (Dir mode) → is_dir node ≡ true
dir-kind None mode is = cc
dir-kind (Some (nodes.Dir own)) mode is = refl
dir-kind (Some (nodes.Link text)) mode is = cc
dir-kind (Some (nodes.File label)) mode is = cc

module _ (files : FileMap) (area : Area) where
  refused-never : {A : Type 0} (reason : Reason) (old new : WorldData) → GoesThrough {A = A} (Refuse reason) old new → ⊥
  refused-never reason old new goes = never (reason, old) (goes.0, new) goes.1

  -- a folder that is there, or made
  folder-left : (mode : ℕ) (walk : List ℕ) (path : Names) (old new : WorldData) (kind : Option Kind) (dangling : Bool) → resolved (tree_in old.trees area) walk true ≡ Ok path → kind_at old files (spot (in_tree area) path) ≡ kind
      → KeepsAll old new → GoesThrough (folder_at mode (spot (in_tree area) path) kind dangling) old new → LeadsToFolder new area walk
  folder-left mode walk path old new (Some (Dir other)) dangling leads is kept goes = still-leads area walk old new kept (path, leads, dir-kind (stands old area path) other is)
  folder-left mode walk path old new (Some Link) dangling leads is kept goes = absurd (refused-never (for_change NotDir) old new goes)
  folder-left mode walk path old new (Some (File label)) dangling leads is kept goes = absurd (refused-never (for_change NotDir) old new goes)
  folder-left mode walk path old new None true leads is kept goes = absurd (refused-never (for_change Absent) old new goes)
  folder-left mode walk path old new None false leads is kept goes =
      let done = act_in-through (in_tree area) (MakeDir path mode) old new goes in
      let same : area ≡ done.0 = inner area done.0 done.1 in
      let made = is-made area (MakeDir path mode) old new (subst (λ (a : Area). acted a (MakeDir path mode) old ≡ Ok new) (sym same) done.2) in
      let folder : is_dir (stands new area path) ≡ true = ap (λ (t : Tree). is_dir (node_at t path)) made.tree ∙ ap is_dir (get-insert_same path_total (tree_in old.trees area).names path (nodes.Dir mode)) in
      (path, still-resolved (tree_in old.trees area) (tree_in new.trees area) (kept area) path folder walk leads, folder)
    where
      inner : (a b : Area) → in_tree a ≡ in_tree b → a ≡ b
      inner a b is = cc

  ensured : (mode : ℕ) (walk : List ℕ) (old new : WorldData) → KeepsAll old new → GoesThrough (ensure_folder files (in_tree area) mode walk) old new → LeadsToFolder new area walk
  ensured mode walk old new kept goes =
      let one = attempt-through (walked old (in_tree area) walk true) (λ place. folder_at mode place (kind_at old files place) (is_there old files (walked old (in_tree area) walk false))) old new goes in
      let to = walked-to area (resolved (tree_in old.trees area) walk true) one.0 one.1 in
      folder-left mode walk to.0 old new (kind_at old files (spot (in_tree area) to.0)) (is_there old files (walked old (in_tree area) walk false)) to.1 refl kept
      (subst (λ (place : Spot). GoesThrough (folder_at mode place (kind_at old files place) (is_there old files (walked old (in_tree area) walk false))) old new) (sym to.2) one.2)

  keeps : (mode : ℕ) (front : List ℕ) (names : Names) (old new : WorldData) → GoesThrough (ensure_folders files (in_tree area) mode front names) old new → KeepsAll old new
  keeps mode front names old new goes =
      subst (λ o. KeepsAll old (left_by o)) goes.1 (kept-Makes NewName KeepsAll all-kept (ensure_folders files (in_tree area) mode front names) (ensured-folders files (in_tree area) mode front names) old)

  all-ensured : (mode : ℕ) (front : List ℕ) (names before : Names) (name : List ℕ) (after : Names) (old new : WorldData) → names ≡ before ++ name ∷ after
      → GoesThrough (ensure_folders files (in_tree area) mode front names) old new → LeadsToFolder new area (front ++ rooted_text (before ++ name ∷ []))
  all-ensured mode front [] [] name after old new is goes = cc
  all-ensured mode front [] (b ∷ before) name after old new is goes = cc
  all-ensured mode front (n ∷ names) before name after old new is goes =
      let now : ℕ = cond (list_all is_dots names) mode 493 in
      let walk : List ℕ = front ++ 47 ∷ n in
      let one = then-through (ensure_folder files (in_tree area) now walk) (λ _. ensure_folders files (in_tree area) mode walk names) old new goes in
      let here = ensured now walk old one.1 (subst (λ o. KeepsAll old (left_by o)) one.2 (kept-Makes NewName KeepsAll all-kept (ensure_folder files (in_tree area) now walk) (ensured-folder files (in_tree area) now walk) old)) (one.0, one.2) in
      by before is (still-leads area walk one.1 new (keeps mode walk names one.1 new one.3) here) (λ before rest. all-ensured mode walk names before name after one.1 new rest one.3)
    where
      by : (before : Names) → n ∷ names ≡ before ++ name ∷ after → LeadsToFolder new area (front ++ 47 ∷ n)
          → ((before : Names) → names ≡ before ++ name ∷ after → LeadsToFolder new area ((front ++ 47 ∷ n) ++ rooted_text (before ++ name ∷ [])))
          → LeadsToFolder new area (front ++ rooted_text (before ++ name ∷ []))
      by [] is here more =
          let same : n ≡ name = cc in
          subst (λ (m : List ℕ). LeadsToFolder new area (front ++ 47 ∷ m)) (same ∙ sym (append-nil name)) here
      by (b ∷ before) is here more =
          let same : n ≡ b = cc in
          let rest : names ≡ before ++ name ∷ after = cc in
          let below : List ℕ = rooted_text (before ++ name ∷ []) in
          subst (LeadsToFolder new area) (rows front (47 ∷ b) below) (subst (λ (m : List ℕ). LeadsToFolder new area ((front ++ 47 ∷ m) ++ below)) same (more before rest))

  pub leaves-folders : (mode : ℕ) (walk : List ℕ) (before : Names) (name : List ℕ) (after : Names) (old new : WorldData) → components walk ≡ before ++ name ∷ after
      → GoesThrough (make_path files mode (Place area walk)) old new → LeadsToFolder new area (rooted_text (before ++ name ∷ []))
  leaves-folders mode walk before name after old new is goes = all-ensured mode [] (components walk) before name after old new is goes
