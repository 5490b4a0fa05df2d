use Rattle.std.proofs.Common.{[], subst}
use Rattle.kc_text.specs.Lines.{lines, raw_lines}
use Rattle.kc_text.specs.TextLines.{IsLines}
use Rattle.kc_text.proofs.LinesComplete.{lines_run}
use Rattle.kc_text.proofs.LinesSound.{lines_sound}
use Rattle.kc_text.proofs.lines.texts_have_lines.Goals as goal

pub returns : goal.returns
unfolding lines
returns c text found = (λ is. lines_run (raw_lines text) found [] 0 1 is, λ e. subst (IsLines 1 (raw_lines text)) e (lines_sound (raw_lines text) 0 1))
