use Rattle.std.proofs.Common.{◌≡◌, ◌++◌, drop}
use Rattle.dot_config.proofs.Texts.{rest_text}
use Rattle.dot_config.proofs.writer.write.Given as goal

-- what is written so far, and the text of the rest
abbrev pub invariant-loop-place : goal.invariant-loop-place
invariant-loop-place l = l.items.items ++ rest_text l.menu.entries l.values (drop l.place l.values) ≡ rest_text l.menu.entries l.values l.values
