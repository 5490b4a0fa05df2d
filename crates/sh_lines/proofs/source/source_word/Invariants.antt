use Rattle.std.proofs.Common.{◌≡◌, take}
use Rattle.br_path.specs.Path.{closed}
use Rattle.sh_lines.proofs.source.source_word.Given as goal

-- the names so far, a slash after each
abbrev pub invariant-loop-name : goal.invariant-loop-name
invariant-loop-name l = l.items.items ≡ closed (take l.name-index l.name-items)
