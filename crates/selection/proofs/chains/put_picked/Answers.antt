use Rattle.std.proofs.Common.{◌++◌, option_to_list, append-nil, rules, ap, sym, ◌∙◌}
use Rattle.selection.proofs.PickLaws.{slice_get_none}
use Rattle.selection.proofs.chains.put_picked.Goals as goal

pub returns-in-None : goal.returns-in-None
returns-in-None c =
    let items = c.args.chosen.now.items in
    sym (ap (λ found. items ++ option_to_list found) (slice_get_none c.args.all.now c.args.place (search rules)) ∙ append-nil items)
