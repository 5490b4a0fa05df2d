use Rattle.std.proofs.Common.{◌≡◌, ◌++◌, take}
use Rattle.br_path.specs.Path.{rooted_text}
use Rattle.root_image.proofs.text.push_names.Given as goal

-- the names so far stand after what was there, each with a slash before it
abbrev pub invariant-loop-name : goal.invariant-loop-name
invariant-loop-name l = l.text.items ≡ l.initial.text.items ++ rooted_text (take l.name-index l.names)
