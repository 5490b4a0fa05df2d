use Rattle.std.proofs.Common.{◌<◌, sym, ◌∙◌, inl, inr, length, arith, below_more}
use Rattle.std.proofs.lemmas.Bool.{cases_lt, false≢true}
use Rattle.cycle_walks.specs.Graph.{names}
use Rattle.cycle_walks.proofs.Cycles.{named_last}
use Rattle.cycle_walks.proofs.least.first_on_cycle.Goals as goal

pub returns-then-branch : goal.returns-then-branch
returns-then-branch c = record {
  holds = c.in_ok-leads_back.ensures.0 c.if-branch.true;
  below = λ other on. elim (cases_lt other c.loop-node.node) [ inl less ↦ absurd (c.loop-node.invariant other less on) | inr more ↦ more ];
}

pub loop-node-preserved : goal.loop-node-preserved
loop-node-preserved c = below_more _ _ c.loop-node.invariant (λ on. false≢true (sym c.if-branch.false ∙ c.in_ok-leads_back.ensures.1 on))

pub returns : goal.returns
returns c node on =
    let g = c.args.graph.now in
    let named = named_last (names g) node on.0 node on.1 in
    let below : node < length g = c.count-node-end.ensures.graph.closed named.0 node named.1 in
    c.loop-node.invariant node (omega (arith, c.count-node-end.ensures.count)) on
