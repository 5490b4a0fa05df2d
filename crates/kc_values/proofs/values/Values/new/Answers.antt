use Rattle.kc_values.proofs.Tables.{table_new}
use Rattle.kc_values.proofs.values.Values.new.Goals as goal

pub invariant_of-result : goal.invariant_of-result
invariant_of-result c = table_new (λ k. k.items) c.new.result.entries c.new.ensures.empty
