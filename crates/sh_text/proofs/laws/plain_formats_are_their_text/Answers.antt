use Rattle.std.proofs.Common.{ap, ◌∙◌, Ok}
use Rattle.std.specs.Prelude.{ok_or}
use Rattle.std.specs.Option.{option_map}
use Rattle.tree_worlds.specs.declared.reason.Reason.TheVariants.{Operand}
use Rattle.sh_text.specs.Formats.{put_out}
use Rattle.sh_text.proofs.FormatLaws.{plain_puts}
use Rattle.sh_text.proofs.laws.plain_formats_are_their_text.Goals as goal

pub returns : goal.returns
returns c = λ text words is.
    let both = plain_puts text words is in
    ap (λ format. ok_or (option_map (λ parts. put_out parts words) format) Operand) both.0 ∙ ap Ok both.1
