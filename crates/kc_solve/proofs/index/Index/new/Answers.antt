use Rattle.kc_solve.specs.declared.index.Index.{Index}
use Rattle.kc_solve.proofs.IndexRows.{index_is}
use Rattle.kc_solve.proofs.index.Index.new.Goals as goal

pub returns-clause-index : goal.returns-clause-index
returns-clause-index c =
    let index : Index = record {
      menu = c.args.menu;
      wishes = c.args.wishes;
      symbols = c.in_ok-symbols.symbols;
      own = c.in_ok-own.own;
      selects = c.in_ok-selects.selects;
      asked = c.in_ok-asked.asked;
      members = c.in_ok-members.members;
    } in
    index_is index c.entries-entries.result.now c.choices.result.now c.as_slice.result.now
    c.entries-entries.ensures.entries c.choices.ensures.choices c.as_slice.ensures.wishes
    c.entries-entries.ensures.menu c.in_ok-symbols.ensures.symbols c.in_ok-symbols.ensures.declared
    c.in_ok-own.ensures c.in_ok-selects.ensures c.in_ok-asked.ensures c.in_ok-members.ensures
