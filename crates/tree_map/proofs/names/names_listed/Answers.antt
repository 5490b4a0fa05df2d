use Rattle.std.proofs.Common.{◌≡◌, ◌∷◌, sym, ◌∙◌}
use Rattle.br_path.specs.Path.{Names}
use Rattle.tree_ops.specs.declared.entry.Node.{Node}
use Rattle.tree_map.proofs.Children.{past, listed-first, listed-child, listed-deeper, listed-shorter, listed-past_all, listed-all}
use Rattle.tree_map.proofs.names.names_listed.Goals as goal
use Rattle.tree_map.proofs.names.names_listed.Goals.{in-Some-child_name+in_ok-copy+in_ok-push, in_default-child_name, in-Some+then-not-is_below, in_default}

pub loop-path-init : goal.loop-path-init
loop-path-init c = rw (c.new-below.ensures.items, c.in_ok-from.ensures) (listed-first c.args.at.now c.args.names.now.entries)

pub loop-path-preserved : goal.loop-path-preserved
loop-path-preserved c =
    let e : Names × Node = (c.in-Some.path.now, c.in-Some.field-0-1.now) in
    let is : past c.loop-path.from c.args.names.now.entries ≡ e ∷ c.next.new.self = sym (c.range.ensures.between tt) ∙ c.in-Some.ensures.steps in
    elim c.match-child_name.branch [
      | in-Some-child_name+in_ok-copy+in_ok-push w ↦
          rw w.below-is (listed-child c.args.at.now c.args.names.now.entries c.loop-path.below.items c.loop-path.from c.next.new.self e c.range.ensures.ordered is c.loop-path.invariant w.push.new.self.items w.in-Some-child_name.name.now
          w.in_ok-copy.field-0 c.in_ok-from-2.from w.in-Some-child_name.ensures.0 w.in-Some-child_name.ensures.1 w.in_ok-copy.ensures w.in_ok-push.ensures.items c.in_ok-from-2.ensures)
      | in_default-child_name w ↦
          rw w.below-is (listed-deeper c.args.at.now c.args.names.now.entries c.loop-path.below.items c.loop-path.from c.next.new.self e c.range.ensures.ordered is c.loop-path.invariant c.in_ok-from-2.from w.in_default-child_name.ensures c.in_ok-from-2.ensures)
    ]

pub loop-path-smaller : goal.loop-path-smaller
loop-path-smaller c =
    let e : Names × Node = (c.in-Some.path.now, c.in-Some.field-0-1.now) in
    let is : past c.loop-path.from c.args.names.now.entries ≡ e ∷ c.next.new.self = sym (c.range.ensures.between tt) ∙ c.in-Some.ensures.steps in
    listed-shorter c.args.at.now c.args.names.now.entries c.loop-path.below.items c.loop-path.from c.next.new.self e c.range.ensures.ordered is c.in_ok-from-2.from c.in_ok-from-2.ensures

pub returns-clause-names : goal.returns-clause-names
returns-clause-names c =
    elim c.match-next.branch [
      | in-Some+then-not-is_below w ↦
          let e : Names × Node = (w.in-Some.path.now, w.in-Some.field-0-1.now) in
          let is : past c.loop-path.from c.args.names.now.entries ≡ e ∷ c.next.new.self = sym (c.range.ensures.between tt) ∙ w.in-Some.ensures.steps in
          listed-past_all c.args.at.now c.args.names.now.entries c.loop-path.below.items c.loop-path.from c.next.new.self e c.range.ensures.ordered is c.loop-path.invariant (sym w.if-not-is_below.ensures)
      | in_default w ↦ listed-all c.args.at.now c.args.names.now.entries c.loop-path.below.items c.loop-path.from c.loop-path.invariant (sym (c.range.ensures.between tt) ∙ w.in_default.ensures.steps.0)
    ]
