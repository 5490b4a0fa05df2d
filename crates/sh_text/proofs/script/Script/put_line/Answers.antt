use Rattle.std.proofs.Common.{sym, rules}
use Rattle.sh_text.specs.Editing.{edited}
use Rattle.sh_text.proofs.Edits.{line_end, line_last, line_on}
use Rattle.sh_text.proofs.script.Script.put_line.Goals as goal

pub returns-then-not-goes_on : goal.returns-then-not-goes_on
returns-then-not-goes_on c =
    let last = line_last c.args.self.now c.args.out.now.items (edited c.args.self.now c.args.line.now) c.loop-place.out.items c.loop-place.rest.now c.loop-place.beginning c.in-Some.place c.loop-place.invariant c.in-Some.ensures.1 (sym c.if-not-goes_on.ensures) in
    let put = c.in_ok-rest.ensures.put in
    let behind = c.in_ok-rest.ensures.behind in
    let items = c.extend_from_slice.ensures.items in
    grind (rules, last, put, behind, items)

pub loop-place-preserved : goal.loop-place-preserved
loop-place-preserved c =
    let on = line_on c.args.self.now c.args.out.now.items (edited c.args.self.now c.args.line.now) c.loop-place.out.items c.loop-place.rest.now c.loop-place.beginning c.in-Some.place c.loop-place.invariant c.in-Some.ensures.1 (sym c.if-not-goes_on.ensures) in
    cc (on, c.in_ok-rest.ensures.put, c.in_ok-rest.ensures.behind)

pub returns : goal.returns
returns c =
    let last = line_end c.args.self.now c.args.out.now.items (edited c.args.self.now c.args.line.now) c.loop-place.out.items c.loop-place.rest.now c.loop-place.beginning c.loop-place.invariant c.in_default.ensures in
    let items = c.extend_from_slice-2.ensures.items in
    grind (rules, last, items)
