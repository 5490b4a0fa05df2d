use Rattle.std.proofs.Common.{◌≡◌, ◌++◌, sym, subst}
use Rattle.std.specs.Option.{option_map}
use Rattle.sh_text.specs.Formats.{Format, format_of}
use Rattle.sh_text.proofs.Formats.{read_stop, read_on, read_end}
use Rattle.sh_text.proofs.format.Format.read.Goals as goal

pub returns-in_default-first_part : goal.returns-in_default-first_part
returns-in_default-first_part c =
    read_stop c.loop-byte.parts.items c.in-Some.byte.now c.in-Some.behind.now (format_of c.args.text.now) (rw c.in-Some.ensures.cases.0 at c.loop-byte.invariant) (sym c.in_default-first_part.ensures)

pub loop-byte-preserved : goal.loop-byte-preserved
loop-byte-preserved c =
    subst (λ (items : Format). format_of c.args.text.now ≡ option_map (λ more. items ++ more) (format_of c.in-Some-first_part.behind.now)) (sym c.in_ok-push.ensures.items)
    (read_on c.loop-byte.parts.items c.in-Some.byte.now c.in-Some.behind.now c.in-Some-first_part.part c.in-Some-first_part.behind.now (format_of c.args.text.now) (rw c.in-Some.ensures.cases.0 at c.loop-byte.invariant) (sym c.in-Some-first_part.ensures))

pub returns : goal.returns
returns c = read_end c.loop-byte.parts.items c.loop-byte.rest.now (format_of c.args.text.now) c.loop-byte.invariant c.in_default.ensures.cases
