-- What look-ups in a tree tell of the file at a path.
use Rattle.std.proofs.Common.{◌≡◌, true, Option, Some, None, Result, Ok, Err, ap, subst, ◌∙◌}
use Rattle.std.specs.Prelude.{is_some, IfOk, OnOk}
use Rattle.std.specs.Option.{option_map, option_and_then}
use Rattle.std.specs.FinMap as fin
use Rattle.std.specs.BTreeMap as tree
use Rattle.std.specs.BTreeMap.{BTreeMap}
use Rattle.br_path.specs.Path.{Names}
use Rattle.tree_ops.specs.declared.entry.Entry.TheVariants.{Dir as dir_entry, Link as link_entry, File as file_entry}
use Rattle.tree_ops.specs.declared.entry.Label.{Label}
use Rattle.tree_ops.specs.declared.entry.Node.{Node}
use Rattle.tree_ops.specs.declared.entry.Node.TheVariants.{Dir, Link, File}
use Rattle.tree_ops.specs.Tree.{Tree, IsTree, label_cmp, node_at, entry_at, kind_of, contents_of}
use Rattle.tree_ops.proofs.Sound.{sound-of}
use Rattle.root_image.specs.declared.root.RootEntry.{RootEntry}
use Rattle.root_merge.specs.Roots.{whole_file}
use Rattle.root_merge.specs.Firsts.{firsts_in, named_file, contents_at}
use Rattle.root_merge.proofs.Adding.{first-found}

file-label : (label own : Label) → file_entry own ≡ file_entry label → own ≡ label
file-label label own is = cc

file-node : (tree : Tree) (path : Names) (label : Label) → entry_at tree path ≡ Some (file_entry label) → node_at tree path ≡ Some (File label)
file-node tree path label is = by (node_at tree path) is
  where
    by : (o : Option Node) → option_map kind_of o ≡ Some (file_entry label) → o ≡ Some (File label)
    by None is = cc
    by (Some (Dir mode)) is = let never : dir_entry mode ≡ file_entry label = cc in cc
    by (Some (Link text)) is = let never : link_entry ≡ file_entry label = cc in cc
    by (Some (File own)) is = let same : file_entry own ≡ file_entry label = cc in ap (λ (l : Label). Some (File l)) (file-label label own same)

contents-is : (tree : Tree) (path : Names) (label : Label) → entry_at tree path ≡ Some (file_entry label) → contents_at tree path ≡ fin.get tree.labels label
contents-is tree path label is = ap (option_and_then (contents_of tree)) (file-node tree path label is)

-- a file stands for something
pub contents-some : (tree : Tree) (path : Names) (label : Label) → IsTree tree → entry_at tree path ≡ Some (file_entry label) → is_some (contents_at tree path) ≡ true
contents-some tree path label sound is = ap is_some (contents-is tree path label is ∙ ((sound-of tree sound).stands path label (file-node tree path label is)).1)

pub on-ok : {A E : Type 0} (r : Result A E) (P : Type 0) → P → OnOk r P
on-ok (Ok a) P is = is
on-ok (Err e) P is = tt

-- a whole file, where no path before has its label
pub whole-named : {E : Type 0} (result : Result RootEntry E) (tree_of : Tree) (path : Names) (label : Label) (m : BTreeMap Label Names) → entry_at tree_of path ≡ Some (file_entry label) → None ≡ tree.get label_cmp m label
    → IfOk result (λ entry. entry ≡ whole_file (contents_at tree_of path)) → IfOk result (λ entry. entry ≡ named_file (fin.get (firsts_in m) label) (fin.get tree_of.labels label))
whole-named result tree_of path label m is none whole =
    let same : whole_file (contents_at tree_of path) ≡ named_file (fin.get (firsts_in m) label) (fin.get tree_of.labels label) =
    ap whole_file (contents-is tree_of path label is) ∙ ap (λ (o : Option Names). named_file o (fin.get tree_of.labels label)) (first-found m label None none) in
    subst (λ (r : RootEntry). IfOk result (λ entry. entry ≡ r)) same whole
