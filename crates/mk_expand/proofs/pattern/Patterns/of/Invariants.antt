use Rattle.std.proofs.Common.{◌≡◌, ℕ, List, drop, map}
use Rattle.std.specs.Prelude.{◌||◌}
use Rattle.mk_expand.specs.Lists.{is_matched}
use Rattle.mk_expand.specs.Shown.{is_matched_by}
use Rattle.mk_expand.proofs.pattern.Patterns.of.Given as goal

abbrev pub invariant-loop-pattern : goal.invariant-loop-pattern
invariant-loop-pattern l =
    (word : List ℕ) → is_matched (map (λ pattern. pattern.now) l.patterns) word ≡ (is_matched_by l.made word || is_matched (map (λ pattern. pattern.now) (drop l.pattern-index l.patterns)) word)
