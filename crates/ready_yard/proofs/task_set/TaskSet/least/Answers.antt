use Rattle.std.proofs.Common.{◌≡◌, ℕ, ◌+◌, ◌*◌, ◌<◌, ◌∙◌, sym, subst, arith, true, false}
use Rattle.std.proofs.lemmas.List.{get_or_default}
use Rattle.ready_yard.specs.TaskBits.{has}
use Rattle.ready_yard.proofs.TaskBits.{first_has, first_least}
use Rattle.ready_yard.proofs.task_set.TaskSet.least.Goals as goal

pub returns-then-word-ne0-clause-some : goal.returns-then-word-ne0-clause-some
returns-then-word-ne0-clause-some c =
    let bit = c.lowest_bit.ensures in
    let word = c.index-word.ensures ∙ get_or_default c.self.inside.words.items c.loop-place.place c.index-word.result.now 0 (omega (arith, c.self.invariant, c.loop-place-test.true)) in
    subst (λ ws. has ws (c.loop-place.place * 64 + c.lowest_bit.result) ≡ true) c.self.view_is
    (first_has c.self.inside.words.items c.loop-place.place c.index-word.result.now c.lowest_bit.result bit.inside word bit.here)

pub returns-then-word-ne0-clause-least : goal.returns-then-word-ne0-clause-least
returns-then-word-ne0-clause-least c =
    let bit = c.lowest_bit.ensures in
    let word = c.index-word.ensures ∙ get_or_default c.self.inside.words.items c.loop-place.place c.index-word.result.now 0 (omega (arith, c.self.invariant, c.loop-place-test.true)) in
    subst (λ ws. (other : ℕ) → other < c.loop-place.place * 64 + c.lowest_bit.result → has ws other ≡ false) c.self.view_is
    (first_least c.self.inside.words.items c.loop-place.place c.index-word.result.now c.lowest_bit.result bit.inside word bit.lowest
    (subst (λ ws. (task : ℕ) → task < c.loop-place.place * 64 → has ws task ≡ false) (sym c.self.view_is) c.loop-place.invariant))
