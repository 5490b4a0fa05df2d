use Rattle.std.proofs.Common.{◌≡◌, ◌<◌, ◌≤◌, subst, length, get_or, true, false, ℕ}
use Rattle.ready_yard.proofs.Judging.{whole_is, not_whole}
use Rattle.ready_yard.proofs.past.Past.is_whole.Goals as goal

pub returns-then-not-over-clause-no : goal.returns-then-not-over-clause-no
returns-then-not-over-clause-no c =
    let same = c.deref-over-items.ensures.value in
    let lt = subst (λ xs. c.loop-over.over-index < length xs) same c.loop-over-test.true in
    let off = subst (λ xs. get_or xs c.loop-over.over-index false ≡ false) same c.if-not-over.true in
    λ _ whole. not_whole c.args.graph.now c.args.workers c.args.self.now.begun.items c.args.self.now.over.items c.args.self.now.hands.items c.args.past.now c.loop-over.over-index c.requires lt off whole

pub returns-clause-yes : goal.returns-clause-yes
returns-clause-yes c =
    let same = c.deref-over-items.ensures.value in
    let end = subst (λ xs. length xs ≤ c.loop-over.over-index) same c.loop-over-test.false in
    let all = subst (λ xs. (t : ℕ) → t < c.loop-over.over-index → get_or xs t false ≡ true) same c.loop-over.invariant in
    λ _. whole_is c.args.graph.now c.args.workers c.args.self.now.begun.items c.args.self.now.over.items c.args.self.now.hands.items c.args.past.now c.loop-over.over-index c.requires end all
