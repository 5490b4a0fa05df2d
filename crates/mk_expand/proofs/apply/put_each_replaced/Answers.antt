use Rattle.std.proofs.Common.{◌≡◌, ◌≢◌, Err, refl, ap, ◌∙◌, rules}
use Rattle.mk_expand.specs.declared.fault.ExpandFault.TheVariants.{Memory}
use Rattle.mk_expand.specs.Lists.{replaced}
use Rattle.mk_expand.specs.Draft.{put}
use Rattle.mk_expand.proofs.Puts.{put_on, put_stop}
use Rattle.mk_expand.proofs.Steps.{as_run}
use Rattle.mk_expand.proofs.Replacing.{replaced_none, replaced_cut}
use Rattle.mk_expand.proofs.apply.put_each_replaced.Goals as goal

pub returns-in-None : goal.returns-in-None
returns-in-None c =
    as_run c.put.result c.put.new.self
    (c.loop-out.invariant ∙ ap (λ t. put t c.loop-out.out) (replaced_none c.args.from.now c.args.to.now c.requires c.loop-out.rest.now c.in-None.ensures)) c.put.ensures

pub returns-in_err-put_two-in-Some : goal.returns-in_err-put_two-in-Some
returns-in_err-put_two-in-Some c =
    let cut = replaced_cut c.args.from.now c.args.to.now c.requires c.in-Some.place c.loop-out.rest.now c.split_at.result.0.now c.split_at.result.1.now _ c.in-Some.ensures.0.before c.in-Some.ensures.1
    c.split_at.ensures.front c.split_at.ensures.back refl in
    let stop : c.in_err-put_two-in-Some.field-0.0 ≢ Memory → put (replaced c.args.from.now c.args.to.now 0 c.args.text.now) c.args.out.now ≡ Err c.in_err-put_two-in-Some.field-0.0 =
    λ real. c.loop-out.invariant ∙ (ap (λ t. put t c.loop-out.out) cut ∙ put_stop _ _ c.loop-out.out _ (c.in_err-put_two-in-Some.ensures real)) in
    search rules

pub loop-out-preserved : goal.loop-out-preserved
loop-out-preserved c =
    let cut = replaced_cut c.args.from.now c.args.to.now c.requires c.in-Some.place c.loop-out.rest.now c.split_at.result.0.now c.split_at.result.1.now c.split_at-in-Some.result.1.now
    c.in-Some.ensures.0.before c.in-Some.ensures.1 c.split_at.ensures.front c.split_at.ensures.back c.split_at-in-Some.ensures.back in
    c.loop-out.invariant ∙ (ap (λ t. put t c.loop-out.out) cut ∙ put_on _ _ c.loop-out.out c.put_two.new.out c.in_ok-put_two-in-Some.ensures)
