use Rattle.std.proofs.Common.{sym, subst, None}
use Rattle.cycle_walks.specs.Descent.{shown, Steps}
use Rattle.cycle_walks.proofs.Descents.{top_below, next_below, step_finish, step_meet, step_pass, step_cycle}
use Rattle.cycle_walks.proofs.depth_first.Descent.step.Goals as goal

pub next-requires-clause-node : goal.next-requires-clause-node
next-requires-clause-node c = top_below c.args.graph.now c.requires.graph (shown c.args.self.now) c.args.top c.requires.descent c.requires.top

pub mark-requires : goal.mark-requires
mark-requires c = next_below c.args.graph.now c.requires.graph (shown c.args.self.now) c.args.top c.requires.descent c.requires.top c.in-Some.place c.in-Some.next (sym c.in-Some.ensures)

pub meet-requires-clause-node : goal.meet-requires-clause-node
meet-requires-clause-node c = next_below c.args.graph.now c.requires.graph (shown c.args.self.now) c.args.top c.requires.descent c.requires.top c.in-Some.place c.in-Some.next (sym c.in-Some.ensures)

pub returns-in_default : goal.returns-in_default
returns-in_default c =
    subst (Steps c.args.graph.now (shown c.args.self.now) None) (sym c.in_ok-finish.ensures)
    (step_finish c.args.graph.now c.requires.graph (shown c.args.self.now) c.args.top c.requires.descent c.requires.top (sym c.in_default.ensures))

pub returns-in_ok-meet-in-Unmet : goal.returns-in_ok-meet-in-Unmet
returns-in_ok-meet-in-Unmet c =
    subst (Steps c.args.graph.now (shown c.args.self.now) None) (sym c.in_ok-meet-in-Unmet.ensures)
    (step_meet c.args.graph.now c.requires.graph (shown c.args.self.now) c.args.top c.requires.descent c.requires.top c.in-Some.place c.in-Some.next (sym c.in-Some.ensures) (sym c.in-Unmet.ensures))

pub returns-in-Open : goal.returns-in-Open
returns-in-Open c = step_cycle c.args.graph.now c.requires.graph (shown c.args.self.now) c.args.top c.requires.descent c.requires.top c.in-Some.place c.in-Some.next c.in-Open.field-0 (sym c.in-Some.ensures) (sym c.in-Open.ensures)

pub returns-in-Done : goal.returns-in-Done
returns-in-Done c =
    subst (Steps c.args.graph.now (shown c.args.self.now) None) (sym c.pass.ensures)
    (step_pass c.args.graph.now c.requires.graph (shown c.args.self.now) c.args.top c.requires.descent c.requires.top c.in-Some.place c.in-Some.next (sym c.in-Some.ensures) (sym c.in-Done.ensures))
