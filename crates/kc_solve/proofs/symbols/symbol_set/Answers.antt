use Rattle.std.proofs.Common.{[], fold, ◌∙◌}
use Rattle.kc_equations.specs.Solution.{put_symbol}
use Rattle.kc_solve.proofs.SymbolSets.{set_more}
use Rattle.kc_solve.proofs.symbols.symbol_set.Goals as goal

pub loop-entry-preserved : goal.loop-entry-preserved
loop-entry-preserved c =
    let entries = c.args.entries.now in
    set_more (λ k. k.items) c.loop-entry.set.keys c.insert-in-loop-entry.new.self.keys c.insert.inside.items entries c.loop-entry.entry-index c.entry-item.result
    (fold (λ symbols e. put_symbol symbols e.symbol) [] entries)
    c.loop-entry-test.true c.entry-item.is (c.insert.view_is ∙ c.in_ok-copy.ensures) c.in_ok-insert.ensures.keys c.loop-entry.invariant
