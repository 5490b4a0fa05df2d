use Rattle.std.proofs.Common.{◌≡◌, ◌++◌, OnOk, ap, subst}
use Rattle.kc_solve.specs.Words.{words}
use Rattle.kc_solve.proofs.WordLaws.{both_and, both_or}
use Rattle.kc_solve.proofs.words.Words.+add_condition.Goals as goal

pub returns-in_ok-add_condition-in-And : goal.returns-in_ok-add_condition-in-And
returns-in_ok-add_condition-in-And t c =
    let far = c.get-in-And.result.now in
    subst (λ all. OnOk c.add_condition-in-And.result (c.add_condition-in-And.new.self ≡ all))
    (both_and c.args.self.now (c.add_condition.new.self ++ words far) c.args.condition.now c.in-And.left c.in-And.right c.get.result.now far c.in-And.is c.get.ensures c.get-in-And.ensures
    (ap (λ front. front ++ words far) c.in_ok-add_condition-in-And.ensures))
    c.add_condition-in-And.ensures

pub returns-in_ok-add_condition-in-Or : goal.returns-in_ok-add_condition-in-Or
returns-in_ok-add_condition-in-Or t c =
    let far = c.get-in-Or-2.result.now in
    subst (λ all. OnOk c.add_condition-in-Or-2.result (c.add_condition-in-Or-2.new.self ≡ all))
    (both_or c.args.self.now (c.add_condition-in-Or.new.self ++ words far) c.args.condition.now c.in-Or.left c.in-Or.right c.get-in-Or.result.now far c.in-Or.is c.get-in-Or.ensures c.get-in-Or-2.ensures
    (ap (λ front. front ++ words far) c.in_ok-add_condition-in-Or.ensures))
    c.add_condition-in-Or-2.ensures
