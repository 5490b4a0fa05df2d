use Rattle.std.proofs.Common.{length, ◌++◌, sym, ap, ◌∙◌}
use Rattle.std.specs.Fmt.{decimal}
use Rattle.root_image.specs.Lines.{image_text}
use Rattle.root_image.proofs.Writing.{image-whole}
use Rattle.root_image.proofs.text.write.Goals as goal

pub returns : goal.returns
returns c =
    let root = c.entries-path-items.result.now in
    image-whole c.loop-path.text.items c.extend_from_slice-2.new.self.items c.push_number.new.text.items c.push.new.self.items root c.loop-path.path-index c.loop-path.invariant c.loop-path-test.false
    c.in_ok-extend_from_slice-2.ensures.items
    (c.in_ok-push_number.ensures ∙ ap (λ n. c.extend_from_slice-2.new.self.items ++ decimal n) (ap length (c.entries.ensures.entries ∙ sym c.entries-path-items.ensures.entries)))
    c.in_ok-push.ensures.items
    ∙ ap image_text c.entries-path-items.ensures.entries
