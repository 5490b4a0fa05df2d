use Rattle.std.proofs.Common.{◌≡◌, length, rules, arith, ap, ◌∙◌}
use Rattle.cycle_walks.specs.Graph.{row}
use Rattle.selection.specs.Chains.{asked_place, named}
use Rattle.selection.proofs.RowLaws.{named_length, named_other, asked_step}
use Rattle.selection.proofs.chains.add_asked.Goals as goal

pub loop-place-preserved : goal.loop-place-preserved
loop-place-preserved c =
    let found = asked_place c.args.values.now c.loop-place.place c.index-packages-place.result in
    let is : c.add_if_asked.new.graph ≡ named c.loop-place.graph c.args.root found = search rules in
    record {
      nodes = ap length is ∙ (named_length c.loop-place.graph c.args.root found ∙ c.loop-place.invariant.nodes);
      here = asked_step c.args.values.now c.args.packages.now c.loop-place.graph c.add_if_asked.new.graph c.args.root c.loop-place.place c.index-packages-place.result _
          c.loop-place.invariant.here is (omega (arith, c.loop-place.invariant.nodes)) c.loop-place-test.true c.index-packages-place.is;
      others = λ other apart. ap (λ r. row r other) is ∙ (named_other c.loop-place.graph c.args.root found other apart ∙ c.loop-place.invariant.others other apart);
    }
