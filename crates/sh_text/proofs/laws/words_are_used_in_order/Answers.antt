use Rattle.std.proofs.Common.{ap, ◌∙◌, Ok}
use Rattle.std.specs.Prelude.{ok_or}
use Rattle.std.specs.Option.{option_map}
use Rattle.tree_worlds.specs.declared.reason.Reason.TheVariants.{Operand}
use Rattle.sh_text.specs.Formats.{put_out}
use Rattle.sh_text.proofs.FormatLaws.{words_format, words_put}
use Rattle.sh_text.proofs.laws.words_are_used_in_order.Goals as goal

pub returns : goal.returns
returns c = λ words. ap (λ format. ok_or (option_map (λ parts. put_out parts words) format) Operand) words_format ∙ ap Ok (words_put words)
