use Rattle.std.proofs.Common.{◌≡◌, cond, Some, sym, ap, subst, ◌∙◌}
use Rattle.std.specs.BTreeMap as tree
use Rattle.std.specs.BTreeMap.{BTreeMap, is_at}
use Rattle.std.specs.FinMap as fin
use Rattle.br_path.specs.Path.{Names, path_cmp}
use Rattle.br_path.proofs.Maps.{map-insert}
use Rattle.br_path.proofs.PathOrder.{path_total, path_same}
use Rattle.tree_ops.specs.declared.entry.Node.{Node}
use Rattle.tree_map.specs.NameTable.{NameMap, IsTally, names_of, names_with, with_one}
use Rattle.tree_map.proofs.Tally.{few-counted, tally-inserted, tally-replaced, tally-same_names}
use Rattle.tree_map.proofs.names.NameTable.insert.Goals as goal

pub count_up-requires : goal.count_up-requires
count_up-requires c = few-counted c.self.inside.names c.self.inside.counts c.len-names.result c.len-names.ensures.len c.len-names.ensures.small c.len-names.ensures.ordered c.self.invariant

pub invariant_of-self-in-Ok-None : goal.invariant_of-self-in-Ok-None
invariant_of-self-in-Ok-None c =
    tally-inserted c.self.inside.names c.insert.new.self c.args.at c.args.node c.in-Ok-None.ensures.updates.0 c.count_up.new.counts (sym c.in-Ok-None.field-0-is ∙ c.in-Ok-None.ensures.old) (c.in_ok-count_up.ensures.ok _ c.self.invariant)

pub invariant_of-self-in-Ok-Some : goal.invariant_of-self-in-Ok-Some
invariant_of-self-in-Ok-Some c =
    c.count_down.ensures (names_with (names_of c.insert.new.self))
    (tally-replaced c.self.inside.names c.insert.new.self c.args.at c.args.node c.in-Ok-Some.ensures.updates.0 c.count_up.new.counts c.in-Ok-Some.was (sym c.in-Ok-Some.field-0-is ∙ c.in-Ok-Some.ensures.old) (c.in_ok-count_up.ensures.ok _ c.self.invariant))

pub invariant_of-self-in-Err : goal.invariant_of-self-in-Err
invariant_of-self-in-Err c =
    tally-same_names c.self.inside.names c.insert.new.self c.in-Err.ensures.err c.count_down-in-Err.new.counts
    (c.count_down-in-Err.ensures (names_with (names_of c.self.inside.names)) (subst (λ (n : Node). IsTally c.count_up.new.counts (with_one n (names_with (names_of c.self.inside.names)))) (sym (ap (λ (v : Names × Node). v.1) c.in-Err.ensures.value_returned)) (c.in_ok-count_up.ensures.ok _ c.self.invariant)))

put-names : (m n : BTreeMap Names Node) (old : NameMap) (at : Names) (node : Node) → ((q : Names) → tree.get path_cmp n q ≡ cond (is_at (path_cmp at) q) (Some node) (tree.get path_cmp m q)) → names_of m ≡ old → names_of n ≡ fin.insert old at node
put-names m n old at node updates is = map-insert path_total path_same m n at node updates ∙ ap (λ (m : NameMap). fin.insert m at node) is

pub returns-in-Ok-None-clause-ok : goal.returns-in-Ok-None-clause-ok
returns-in-Ok-None-clause-ok c = put-names c.self.inside.names c.insert.new.self c.args.self.now c.args.at c.args.node c.in-Ok-None.ensures.updates.0 c.self.view_is

pub returns-in-Ok-Some-clause-ok : goal.returns-in-Ok-Some-clause-ok
returns-in-Ok-Some-clause-ok c = put-names c.self.inside.names c.insert.new.self c.args.self.now c.args.at c.args.node c.in-Ok-Some.ensures.updates.0 c.self.view_is
