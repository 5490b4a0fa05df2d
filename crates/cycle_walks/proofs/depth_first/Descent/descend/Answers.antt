use Rattle.cycle_walks.specs.Descent.{shown}
use Rattle.cycle_walks.proofs.Descents.{search_begun}
use Rattle.cycle_walks.proofs.depth_first.Descent.descend.Goals as goal

pub loop-top-init : goal.loop-top-init
loop-top-init c =
    let r = c.requires in
    let begun = search_begun c.args.graph.now (shown c.args.self.now) c.args.node (shown c.meet.new.self) r.descent r.path r.node r.mark c.in_ok-meet.ensures in
    record { descent = begun.0; kept = begun.1; met = begun.2 }
