use Rattle.std.proofs.Common.{rules, ◌≡◌, ◌∷◌, eqb, false, arith}
use Rattle.std.proofs.lemmas.Grind.{common_steps}
use Rattle.mk_syntax.specs.Comment.{is_escape, without_comment}
use Rattle.mk_syntax.proofs.Comments.{cut_more}
use Rattle.mk_syntax.proofs.comment.without_comment.Goals as goal

pub loop-byte-preserved : goal.loop-byte-preserved
loop-byte-preserved c =
    let cut : c.loop-byte.rest.now ≡ c.in-Some.byte.now ∷ c.in-Some.behind.now = search rules in
    let plain : eqb c.in-Some.byte.now 35 ≡ false = grind (arith, common_steps) in
    let unescaped : is_escape c.in-Some.byte.now c.in-Some.behind.now ≡ false = search rules in
    let e = cut_more (without_comment 0 c.args.line.now) c.loop-byte.kept.items c.loop-byte.rest.now c.in-Some.byte.now c.in-Some.behind.now c.loop-byte.invariant cut plain unescaped in
    cc (e, c.kept_behind.ensures.value, c.in_ok-extend_from_slice.ensures.items, c.split_at-else-is_escape.ensures.front, c.split_at-else-is_escape.ensures.back, c.in_ok-rest.ensures.same)
