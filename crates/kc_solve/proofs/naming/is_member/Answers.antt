use Rattle.std.proofs.Common.{sym}
use Rattle.kc_solve.proofs.Chosen.{member_none, member_some}
use Rattle.kc_solve.proofs.naming.is_member.Goals as goal

pub returns-in_default : goal.returns-in_default
returns-in_default c =
    let index = c.args.index.now in
    member_none index.menu.now c.requires.menu c.args.symbol.now index.symbols c.requires.declared c.args.choice (sym c.in_default.ensures)

pub returns-in-Some-choice_of : goal.returns-in-Some-choice_of
returns-in-Some-choice_of c =
    let index = c.args.index.now in
    member_some index.menu.now c.requires.menu c.args.symbol.now index.symbols c.requires.declared c.args.choice c.in-Some.place (sym c.in-Some.ensures) _ c.in-Some-choice_of.ensures

pub returns-in-None : goal.returns-in-None
returns-in-None c =
    let index = c.args.index.now in
    member_some index.menu.now c.requires.menu c.args.symbol.now index.symbols c.requires.declared c.args.choice c.in-Some.place (sym c.in-Some.ensures) _ c.in-None.ensures
