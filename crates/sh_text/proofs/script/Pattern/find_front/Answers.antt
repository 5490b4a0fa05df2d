use Rattle.std.proofs.Common.{sym}
use Rattle.sh_text.proofs.Finding.{front_nowhere}
use Rattle.sh_text.proofs.script.Pattern.find_front.Goals as goal

pub returns-else-is_front : goal.returns-else-is_front
returns-else-is_front c = front_nowhere c.args.self.now c.requires c.args.line.now (sym c.if-is_front.ensures.stands)
