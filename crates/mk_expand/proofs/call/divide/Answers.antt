use Rattle.std.proofs.Common.{◌≡◌, sym, ◌∙◌, refl, cond, length, drop, None, Some}
use Rattle.mk_expand.specs.Bracket.{comma_of}
use Rattle.mk_expand.specs.Table.{may_divide}
use Rattle.mk_expand.proofs.Divided.{divide_on, divide_end}
use Rattle.mk_expand.proofs.call.divide.Goals as goal

pub loop-place-preserved : goal.loop-place-preserved
loop-place-preserved c =
    let behind : c.split_at-in-Some.result.1.now ≡ drop 1 (drop c.in-Some.place c.loop-place.rest.now) = cc in
    let comma : cond (may_divide c.args.most (length c.loop-place.args.items)) (comma_of c.args.kind 0 0 c.loop-place.rest.now) None ≡ Some c.in-Some.place = cc in
    c.loop-place.invariant
    ∙ divide_on (λ arg. arg.now) c.args.kind c.args.most c.loop-place.args.items c.push.new.self.items c.split_at.result.0 c.loop-place.rest.now c.in_ok-push.ensures.items
    c.split_at-in-Some.result.1.now c.in-Some.place c.split_at.ensures.front behind comma

pub returns : goal.returns
returns c =
    let comma : cond (may_divide c.args.most (length c.loop-place.args.items)) (comma_of c.args.kind 0 0 c.loop-place.rest.now) None ≡ None = cc in
    sym (c.loop-place.invariant
    ∙ divide_end (λ arg. arg.now) c.args.kind c.args.most c.loop-place.args.items c.push-2.new.self.items c.loop-place.rest c.loop-place.rest.now c.in_ok-push-2.ensures.items refl comma)
