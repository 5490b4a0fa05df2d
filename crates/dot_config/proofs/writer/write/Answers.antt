use Rattle.std.proofs.Common.{◌≡◌, ◌+◌, ◌≤◌, ◌++◌, length, drop, Some, sym, ap, ◌∙◌, arith}
use Rattle.std.specs.List.{slice_get}
use Rattle.std.specs.Option.{option_map}
use Rattle.kc_values.specs.Values.{named}
use Rattle.kc_menu.specs.Visible.{is_visible}
use Rattle.dot_config.specs.Writing.{line_of, wish_for}
use Rattle.dot_config.proofs.Texts.{rest_text, text_more, text_all}
use Rattle.dot_config.proofs.writer.write.Goals as goal

pub loop-place-preserved : goal.loop-place-preserved
loop-place-preserved c =
    let at : slice_get c.args.values.now c.loop-place.place ≡ Some (c.unwrap.result.0.now, c.unwrap.result.1.now) = sym c.at.ensures ∙ ap (option_map named) c.unwrap.ensures in
    let shown : c.has.result ≡ is_visible c.args.menu.now.entries c.unwrap.result.0.now c.args.values.now = c.has.ensures ∙ c.in_ok-visible.ensures c.unwrap.result.0.now in
    ap (λ t. t ++ rest_text c.args.menu.now.entries c.args.values.now (drop (c.loop-place.place + 1) c.args.values.now)) (c.in_ok-put_line.ensures ∙ ap (λ b. c.loop-place.items.items ++ line_of c.unwrap.result.0.now (wish_for b c.unwrap.result.1.now)) shown)
    ∙ text_more c.args.menu.now.entries c.args.values.now c.loop-place.place c.loop-place.items.items c.unwrap.result.0.now c.unwrap.result.1.now at
    ∙ c.loop-place.invariant

pub returns : goal.returns
returns c =
    let all : length c.args.values.now ≤ c.loop-place.place = omega arith in
    text_all c.args.menu.now.entries c.args.values.now c.loop-place.place c.loop-place.items.items all c.loop-place.invariant
