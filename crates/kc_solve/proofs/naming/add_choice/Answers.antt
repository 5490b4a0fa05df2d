use Rattle.std.proofs.Common.{◌≡◌, OnOk, subst}
use Rattle.kc_equations.specs.Behind.{behind}
use Rattle.kc_solve.proofs.Named.{choice_gathered}
use Rattle.kc_solve.proofs.naming.add_choice.Goals as goal

pub returns : goal.returns
returns c =
    subst (λ all. OnOk c.add_members.result (c.add_members.new.words ≡ all))
    (choice_gathered c.args.index.now.menu.now c.args.place c.choices.result.now c.index-choices-place.result (behind c.members.result.now)
    c.args.words.now c.add_conditions.new.self c.add_conditions-2.new.self c.add_defaults.new.words
    c.choices.ensures.choices c.requires.place c.index-choices-place.is c.members.ensures
    c.in_ok-add_conditions.ensures c.in_ok-add_conditions-2.ensures c.in_ok-add_defaults.ensures)
    c.add_members.ensures
