use Rattle.std.proofs.Common.{rules}
use Rattle.std.proofs.lemmas.Fn.{always_returns_same}
use Rattle.opt_table.proofs.Rising.{is_below, rising-adjacent}
use Rattle.opt_table.proofs.table.is_rising.Goals as goal

pub returns : goal.returns
returns c = rising-adjacent c.args.rows.now c.is_sorted_by.result (c.is_sorted_by.ensures.cases is_below (always_returns_same _ _ _ (λ a r f k. search rules)))
