use Rattle.std.proofs.Common.{arith}
use Rattle.kc_solve.proofs.SymbolSets.{sorted_set, any_sorted}
use Rattle.kc_solve.proofs.symbols.Symbols.of.Goals as goal

pub invariant_of-result : goal.invariant_of-result
invariant_of-result c =
    let done = c.in_ok-sort.ensures in
    sorted_set (λ k. k.items) c.sort.new.self.keys (omega (arith, c.len.ensures.len, done.reordered.1)) done.sorted done.unique

pub returns-clause-declared : goal.returns-clause-declared
returns-clause-declared c = any_sorted (λ k. k.items) c.in_ok-set.set.keys c.sort.new.self.keys c.args.entries.now c.in_ok-set.ensures c.in_ok-sort.ensures.reordered.0

pub returns-clause-symbols : goal.returns-clause-symbols
returns-clause-symbols c =
    let done = c.in_ok-sort.ensures in
    sorted_set (λ k. k.items) c.sort.new.self.keys (omega (arith, c.len.ensures.len, done.reordered.1)) done.sorted done.unique
