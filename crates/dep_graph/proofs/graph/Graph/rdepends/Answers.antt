use Rattle.std.proofs.Common.{ℕ, ◌↔◌, [], ◌∷◌, ◌++◌, sym, subst, ap, ◌∙◌, arith, Contains}
use Rattle.std.specs.List.Sorted.{IsStrictlyIncreasing}
use Rattle.cycle_walks.specs.Graph.{names}
use Rattle.cycle_walks.proofs.Members.{is_in-from, Contains-from}
use Rattle.cycle_walks.proofs.Ranges.{filter_yes, filter_no, below_rise, below_passes}
use Rattle.dep_graph.specs.Needs.{needs_of}
use Rattle.dep_graph.proofs.Additions.{user_below}
use Rattle.dep_graph.proofs.graph.Graph.rdepends.Goals as goal
use Rattle.dep_graph.proofs.graph.Graph.rdepends.Goals.{then-is_need+in_ok-push, else-is_need}

pub loop-user-preserved : goal.loop-user-preserved
loop-user-preserved c =
    let user = c.loop-user.user in
    let needs-it = λ (u : ℕ). names c.args.self.now u c.args.task in
    elim c.if-is_need.branch [
      | then-is_need+in_ok-push w ↦
          ap (λ v. v.items) w.users-is ∙ w.in_ok-push.ensures.items ∙ ap (λ xs. xs ++ user ∷ []) c.loop-user.invariant ∙ sym (filter_yes needs-it user (sym c.is_need.ensures ∙ w.if-is_need.true))
      | else-is_need w ↦ ap (λ v. v.items) w.users-is ∙ c.loop-user.invariant ∙ sym (filter_no needs-it user (sym c.is_need.ensures ∙ w.if-is_need.false))
    ]

pub returns-clause-rising : goal.returns-clause-rising
returns-clause-rising c = subst IsStrictlyIncreasing (sym c.loop-user.invariant) (below_rise (λ u. names c.args.self.now u c.args.task) c.loop-user.user)

pub returns-clause-users : goal.returns-clause-users
returns-clause-users c user =
    let needs = c.args.self.now in
    let task = c.args.task in
    let passes = below_passes (λ u. names needs u task) c.loop-user.user user in
    subst (λ users. Contains users user ↔ Contains (needs_of needs user) task) (sym c.loop-user.invariant) (
      λ there. Contains-from (needs_of needs user) task (passes.0 there).1,
      λ there.
          let is = is_in-from (needs_of needs user) task there in
          passes.1 (omega (arith, user_below needs user task is, c.count-user-end.ensures.count), is),
    )
