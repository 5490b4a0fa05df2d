use Rattle.std.proofs.Common.{◌≡◌, take}
use Rattle.br_path.specs.Path.{rooted_text}
use Rattle.sh_places.proofs.finding.rooted_walk.Given as goal

-- the names so far, each after a slash
abbrev pub invariant-loop-name : goal.invariant-loop-name
invariant-loop-name l = l.walk.items ≡ rooted_text (take l.name-index l.name-items)
