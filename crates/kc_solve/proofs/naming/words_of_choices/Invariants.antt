use Rattle.std.proofs.Common.{ℕ, ◌≡◌, ◌<◌, [], length, get_or}
use Rattle.kc_solve.specs.Named.{choice_words_at}
use Rattle.kc_solve.proofs.naming.words_of_choices.Given as goal

-- those of the first choices are gathered
abbrev pub invariant-loop-place : goal.invariant-loop-place
invariant-loop-place l = record {
  count : length l.chosen.items ≡ l.place;
  each : (k : ℕ) → k < l.place → get_or l.chosen.items k [] ≡ choice_words_at l.index.menu.now k;
}
