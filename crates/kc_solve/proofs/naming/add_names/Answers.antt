use Rattle.std.proofs.Common.{◌<◌, ◌++◌, length, sym, ap, subst, ◌∙◌}
use Rattle.cycle_walks.specs.Graph.{row}
use Rattle.kc_equations.specs.Behind.{behind}
use Rattle.kc_solve.specs.Named.{places_in}
use Rattle.kc_solve.proofs.Named.{words_step, length_named, row_named_other}
use Rattle.kc_solve.proofs.naming.add_names.Goals as goal

pub loop-word-preserved : goal.loop-word-preserved
loop-word-preserved c =
    let symbols = c.args.index.now.symbols in
    let words = c.args.words.now in
    let old = c.loop-word.graph in
    let before = c.loop-word.invariant in
    let short : c.args.place < length old = subst (λ n. c.args.place < n) (sym before.nodes) c.requires.place in
    record {
      nodes = ap length c.in_ok-add_name.ensures ∙ (length_named old c.args.place _ ∙ before.nodes);
      here = words_step symbols old c.add_name.new.graph c.args.place words c.loop-word.word-index _ (row c.args.graph.now c.args.place ++ places_in symbols (behind words)) short c.loop-word-test.true c.in_ok-add_name.ensures before.here;
      others = λ s apart. ap (λ rows. row rows s) c.in_ok-add_name.ensures ∙ (row_named_other old c.args.place _ s apart ∙ before.others s apart);
    }
