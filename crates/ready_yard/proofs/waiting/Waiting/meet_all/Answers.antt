use Rattle.std.proofs.Common.{◌≡◌, ◌++◌, ◌∷◌, [], ◌∙◌, refl, sym, ap, subst, arith, length, length-set, get_or, take}
use Rattle.std.proofs.lemmas.List.{take_more}
use Rattle.std.proofs.Math.Seq.{take-length}
use Rattle.ready_yard.specs.Kept.{IsMet}
use Rattle.ready_yard.proofs.Waits.{met_none, met_more}
use Rattle.ready_yard.proofs.waiting.Waiting.meet_all.Goals as goal

pub loop-user-init : goal.loop-user-init
loop-user-init c = record { sized = refl; met = met_none _ _ }

pub loop-user-preserved : goal.loop-user-preserved
loop-user-preserved c =
    let i = c.loop-user.user-index in
    let users = c.args.users.now in
    let user = get_or users i 0 in
    let old = c.loop-user.self in
    let new = c.meet.new.self in
    let was = c.loop-user.invariant in
    let inside = c.requires.users i 0 c.loop-user-test.true in
    let more = met_more c.args.self.now.unmet.items c.args.self.now.ready (take i users) old.unmet.items old.ready user new.ready was.met (omega (arith, inside, was.sized)) c.meet.ensures.ready in
    record {
      sized = ap length c.meet.ensures.unmet ∙ length-set old.unmet.items user _ ∙ was.sized;
      met = subst (λ us. IsMet c.args.self.now.unmet.items c.args.self.now.ready us new.unmet.items new.ready) (sym (take_more users i 0 c.loop-user-test.true))
          (subst (λ cs. IsMet c.args.self.now.unmet.items c.args.self.now.ready (take i users ++ user ∷ []) cs new.ready) (sym c.meet.ensures.unmet) more);
    }

pub returns : goal.returns
returns c =
    let users = c.args.users.now in
    let all : c.loop-user.user-index ≡ length users = omega (arith, c.loop-user-test.false, c.loop-user.auto.user-index-end) in
    subst (λ us. IsMet c.args.self.now.unmet.items c.args.self.now.ready us c.loop-user.self.unmet.items c.loop-user.self.ready)
    (ap (λ m. take m users) all ∙ take-length users) c.loop-user.invariant.met
