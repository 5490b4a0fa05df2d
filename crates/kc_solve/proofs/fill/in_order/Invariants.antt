use Rattle.std.proofs.Common.{◌≡◌, drop, fold}
use Rattle.kc_values.specs.Values.{find as valued}
use Rattle.kc_solve.specs.Filled.{put_valued, in_order}
use Rattle.kc_solve.proofs.fill.in_order.Given as goal

-- the entries that are left are still to be put
abbrev pub invariant-loop-entry : goal.invariant-loop-entry
invariant-loop-entry l = fold (λ values e. put_valued values e.symbol (valued e.symbol l.filled)) l.values (drop l.entry-index l.entries) ≡ in_order l.filled l.entries
