-- Nodes as look-ups tell them: form of the code, which no public contract cites.
use Rattle.std.specs.Prelude.{ℕ, Bool, true, false, ◌&&◌, nat_eq, List, Option, Some, None}
use Rattle.std.specs.Cmp.Lexicographic.{pointwise}
use Rattle.tree_ops.specs.declared.entry.Entry.{Entry}
use Rattle.tree_ops.specs.declared.entry.Entry.TheVariants.{Dir, Link, File}

abbrev pub are_texts : Option (List ℕ) → Option (List ℕ) → Bool
are_texts None None = true
are_texts (Some text) (Some other) = pointwise nat_eq text other
are_texts one other = false

-- two entries, and the texts of the links
abbrev pub are_parts : Option Entry → Option Entry → Option (List ℕ) → Option (List ℕ) → Bool
are_parts None None text other_text = true
are_parts (Some (Dir mode)) (Some (Dir other)) text other_text = nat_eq mode other
are_parts (Some Link) (Some Link) text other_text = are_texts text other_text
are_parts (Some (File label)) (Some (File other)) text other_text = nat_eq label.task other.task && nat_eq label.number other.number
are_parts one other text other_text = false
