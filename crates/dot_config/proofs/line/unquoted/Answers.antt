use Rattle.std.proofs.Common.{◌≡◌, None, sym, ap, ◌∙◌}
use Rattle.std.specs.Option.{option_map}
use Rattle.dot_config.specs.SaidBy.{unquoted, next_byte, seen_byte}
use Rattle.dot_config.proofs.Quotes.{put_bytes, put_bytes_more, next_goes, next_shorter, quote_ends, quote_lacks}
use Rattle.dot_config.proofs.line.unquoted.Goals as goal

pub loop-byte-smaller : goal.loop-byte-smaller
loop-byte-smaller c = next_shorter c.loop-byte.rest.now c.in-Some.behind.now c.in-Some.byte (sym c.in-Some.ensures)

pub loop-byte-preserved : goal.loop-byte-preserved
loop-byte-preserved c =
    ap (λ front. put_bytes front (unquoted c.in-Some.behind.now)) c.in_ok-push.ensures.items
    ∙ put_bytes_more c.loop-byte.items.items c.in-Some.byte (unquoted c.in-Some.behind.now)
    ∙ ap (put_bytes c.loop-byte.items.items) (sym (next_goes c.loop-byte.rest.now c.in-Some.behind.now c.in-Some.byte (sym c.in-Some.ensures)))
    ∙ c.loop-byte.invariant

pub returns-then-is_text : goal.returns-then-is_text
returns-then-is_text c =
    let none : next_byte c.loop-byte.rest.now ≡ None = sym c.next_byte.ensures ∙ ap (option_map seen_byte) c.in_default.is in
    quote_ends c.loop-byte.items.items c.loop-byte.rest.now c.args.quoted.now none (sym c.is_text.ensures ∙ c.if-is_text.true) c.loop-byte.invariant

pub returns : goal.returns
returns c =
    let none : next_byte c.loop-byte.rest.now ≡ None = sym c.next_byte.ensures ∙ ap (option_map seen_byte) c.in_default.is in
    quote_lacks c.loop-byte.items.items c.loop-byte.rest.now c.args.quoted.now none (sym c.is_text.ensures ∙ c.if-is_text.false) c.loop-byte.invariant
