use Rattle.std.proofs.Common.{◌≡◌, length, rules, arith, ap, ◌∙◌}
use Rattle.cycle_walks.specs.Graph.{row}
use Rattle.selection.specs.Chains.{host_place, named}
use Rattle.selection.proofs.RowLaws.{named_length, named_other, hosts_step}
use Rattle.selection.proofs.chains.add_hosts.Goals as goal

pub loop-name-preserved : goal.loop-name-preserved
loop-name-preserved c =
    let found = host_place c.args.packages.now c.name-item.result in
    let is : c.add_host.new.graph ≡ named c.loop-name.graph c.args.node found = search rules in
    record {
      nodes = ap length is ∙ (named_length c.loop-name.graph c.args.node found ∙ c.loop-name.invariant.nodes);
      here = hosts_step c.args.packages.now c.loop-name.graph c.add_host.new.graph c.args.node c.args.names.now c.loop-name.name-index c.name-item.result _
          c.loop-name.invariant.here is (omega (arith, c.loop-name.invariant.nodes)) (search rules) (search rules);
      others = λ other apart. ap (λ r. row r other) is ∙ (named_other c.loop-name.graph c.args.node found other apart ∙ c.loop-name.invariant.others other apart);
    }
