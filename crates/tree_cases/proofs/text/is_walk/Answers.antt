use Rattle.std.proofs.Common.{sym, ◌∙◌}
use Rattle.tree_cases.specs.Walks.{is_walk_byte}
use Rattle.tree_cases.proofs.Walks.{All-passed}
use Rattle.tree_cases.proofs.text.is_walk.Goals as goal

pub returns : goal.returns
returns c = λ is. All-passed is_walk_byte c.args.text.now (sym c.has_walk_bytes.ensures ∙ is)
