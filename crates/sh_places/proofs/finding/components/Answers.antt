use Rattle.std.proofs.Common.{ℕ, List, ◌≡◌, ◌≤◌, All, length, sym, subst, rules}
use Rattle.tree_ops.specs.Walk.{components, IsWalk}
use Rattle.sh_places.proofs.Walking.{components-filled, components-walks}
use Rattle.sh_places.proofs.finding.components.Goals as goal

pub returns-clause-filled : goal.returns-clause-filled
returns-clause-filled c =
    let same : c.reverse.new.self.items ≡ components c.args.text.now = search rules in
    subst (All (λ (name : List ℕ). 1 ≤ length name)) (sym same) (components-filled c.args.text.now)

pub returns-clause-walks : goal.returns-clause-walks
returns-clause-walks c walk =
    let same : c.reverse.new.self.items ≡ components c.args.text.now = search rules in
    subst (All IsWalk) (sym same) (components-walks c.args.text.now walk)
