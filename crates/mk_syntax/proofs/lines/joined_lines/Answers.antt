use Rattle.std.proofs.Common.{◌≡◌, ◌∷◌, ◌++◌, length, sym, ap, ◌∙◌, arith}
use Rattle.std.specs.Option.{option_copied}
use Rattle.mk_syntax.specs.Lines.{raw_lines, raw_behind, joined_parts, lines_from}
use Rattle.mk_syntax.proofs.RawLines.{length_raw_lines}
use Rattle.mk_syntax.proofs.lines.joined_lines.Goals as goal

pub loop-rest-init : goal.loop-rest-init
loop-rest-init c =
    let parts : raw_lines c.args.text.now ≡ c.in_ok-line.line.items ∷ raw_behind (option_copied c.split_line.result.1) =
    c.split_line.ensures ∙ ap (λ first. first ∷ raw_behind (option_copied c.split_line.result.1)) (sym c.in_ok-line.ensures.items) in
    record {
      lines = ap joined_parts parts ∙ ap (λ front. front ++ lines_from 1 1 c.in_ok-line.line.items (raw_behind (option_copied c.split_line.result.1))) (sym c.new-lines.ensures.items);
      numbers = omega (arith, length_raw_lines c.args.text.now, ap length parts, c.requires);
    }
