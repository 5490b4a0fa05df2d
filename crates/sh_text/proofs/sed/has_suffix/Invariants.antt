use Rattle.std.proofs.Common.{◌≡◌, false, drop}
use Rattle.sh_text.specs.Sed.{has_suffix}
use Rattle.sh_text.proofs.sed.has_suffix.Given as goal

abbrev pub invariant-loop-word : goal.invariant-loop-word
invariant-loop-word l = has_suffix l.waiting (drop l.word-index l.words) ≡ has_suffix false l.words
