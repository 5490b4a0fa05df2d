use Rattle.kc_values.proofs.Tables.{table_added, table_kept}
use Rattle.kc_values.proofs.values.Values.add.Goals as goal

pub invariant_of-self-2 : goal.invariant_of-self-2
invariant_of-self-2 c =
    table_kept (λ k. k.items) c.self.inside.symbols.entries c.insert.new.self.entries c.symbol.inside.items c.args.valued c.args.self.now c.args.symbol c.self.view_is c.symbol.view_is
    c.in_ok-insert.ensures.entries c.requires.absent c.self.invariant c.requires.fit

pub returns-clause-ok : goal.returns-clause-ok
returns-clause-ok c =
    table_added (λ k. k.items) c.self.inside.symbols.entries c.insert.new.self.entries c.symbol.inside.items c.args.valued c.args.self.now c.args.symbol c.self.view_is c.symbol.view_is
    c.in_ok-insert.ensures.entries c.requires.absent
