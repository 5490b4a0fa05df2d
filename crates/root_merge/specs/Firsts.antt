-- The entries of a root one after the other, and the first names of files so far: form of the code, which no public contract cites.
use Rattle.std.specs.Prelude.{◌<◌, ◌^◌, List, [], ◌∷◌, length, All, Option, Some, None}
use Rattle.std.specs.Option.{option_and_then}
use Rattle.std.specs.BTreeMap.{BTreeMap}
use Rattle.std.specs.FinMap as fin
use Rattle.std.specs.FinMap.{FinMap}
use Rattle.br_path.specs.Path.{Names}
use Rattle.tree_ops.specs.declared.entry.Contents.{Contents}
use Rattle.tree_ops.specs.declared.entry.Label.{Label}
use Rattle.tree_ops.specs.declared.entry.Node.{Node}
use Rattle.tree_ops.specs.declared.entry.Node.TheVariants.{Dir, Link, File}
use Rattle.tree_ops.specs.Tree.{Tree, node_at, contents_of, label_cmp}
use Rattle.root_image.specs.declared.root.RootEntry.{RootEntry}
use Rattle.root_image.specs.declared.root.RootEntry.TheVariants as root
use Rattle.root_image.specs.Lines.{Entries}
use Rattle.root_merge.specs.Roots.{Standing, whole_file}

-- the least path so far of each file
abbrev pub Firsts : Type 0
Firsts = FinMap label_cmp Names

abbrev pub firsts_in : BTreeMap Label Names → Firsts
firsts_in firsts = fin.from_entries firsts.entries

abbrev pub named_file : Option Names → Option Contents → RootEntry
named_file None contents = whole_file contents
named_file (Some first) contents = root.Same first

abbrev pub node_entry : Firsts → Option Contents → Node → RootEntry
node_entry firsts contents (Dir mode) = root.Dir mode
node_entry firsts contents (Link text) = root.Link text
node_entry firsts contents (File label) = named_file (fin.get firsts label) contents

abbrev pub with_first : Option Names → Label → Names → Firsts → Firsts
with_first None label path firsts = fin.insert firsts label path
with_first (Some first) label path firsts = firsts

abbrev pub firsts_on : Firsts → Names → Node → Firsts
firsts_on firsts path (Dir mode) = firsts
firsts_on firsts path (Link text) = firsts
firsts_on firsts path (File label) = with_first (fin.get firsts label) label path firsts

abbrev pub entries_on : Firsts → List (Names × Standing) → Entries
entries_on firsts [] = []
entries_on firsts (entry ∷ entries) = (entry.0, node_entry firsts entry.1.contents entry.1.node) ∷ entries_on (firsts_on firsts entry.0 entry.1.node) entries

-- what the label of a file at a path stands for
abbrev pub contents_at : Tree → Names → Option Contents
contents_at tree path = option_and_then (contents_of tree) (node_at tree path)

-- the bytes of a file are bytes, and fit into memory
abbrev pub IsSized : RootEntry → Type 0
IsSized (root.Dir mode) = Unit {0}
IsSized (root.Link text) = Unit {0}
IsSized (root.First mode bytes) = (length bytes < 2 ^ 63) × All (λ byte. byte < 256) bytes
IsSized (root.Same first) = Unit {0}
